use Rattle.std.proofs.Common.{length, refl}
use Rattle.cadzvigu.proofs.Copying.{with_outputs}
use Rattle.cadzvigu.proofs.Ending.{counted}
use Rattle.cadzvigu.proofs.nearest_points.check_outputs.Goals as goal

pub returns-then-not-has_mark : goal.returns-then-not-has_mark
returns-then-not-has_mark g c =
    let p = c.args.picture.now in
    let s = g.P.Picture.extent p in
    let values = counted (length c.args.values.now) s _ _ c.fits.ensures c.if-not-fits.false c.grid-grid.ensures in
    let points = counted (length c.args.points.now) s _ _ c.fits-else-not-fits.ensures c.if-not-fits-2.false c.grid-grid.ensures in
    with_outputs s (g.P.Picture.lawful.grid p) (g.P.Picture.marks p) _ _ values points _ c.if-not-has_mark.ensures

pub returns : goal.returns
returns g c =
    let p = c.args.picture.now in
    let s = g.P.Picture.extent p in
    let values = counted (length c.args.values.now) s _ _ c.fits.ensures c.if-not-fits.false c.grid-grid.ensures in
    let points = counted (length c.args.points.now) s _ _ c.fits-else-not-fits.ensures c.if-not-fits-2.false c.grid-grid.ensures in
    (with_outputs s (g.P.Picture.lawful.grid p) (g.P.Picture.marks p) _ _ values points _ c.if-not-has_mark.ensures, c.if-not-has_mark.ensures.0 refl)
