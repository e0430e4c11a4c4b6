use Rattle.std.proofs.Common.{◌*◌, ap, arith}
use Rattle.pbm.proofs.Headers.{image_made}
use Rattle.pbm.proofs.images.read_image.Goals as goal

pub returns : goal.returns
returns c =
    let header = c.in_ok-header.header in
    image_made c.args.text.now header.rest.now header.width header.height c.args.width c.args.height _ c.if-header-width.false c.if-header-height.false (ap (λ x. x * c.args.height) c.row_bytes.ensures) c.in_ok-header.ensures (omega (arith, c.if-header-raster.false))
