use Rattle.std.proofs.Common.{length}
use Rattle.signed.proofs.TwoKinds.{both_kinds_answer}
use Rattle.cadzvigu.proofs.Ending.{counted, with_numbers}
use Rattle.cadzvigu.proofs.skin.check_numbers.Goals as goal

pub returns-then-not-has_both_kinds : goal.returns-then-not-has_both_kinds
returns-then-not-has_both_kinds g c =
    let p = c.args.picture.now in
    let s = g.P.Picture.extent p in
    let one_each = counted (length c.args.numbers.now) s _ _ c.fits.ensures c.if-not-fits.false c.grid.ensures in
    with_numbers s (g.P.Picture.marks p) _ one_each _
    (both_kinds_answer s (g.P.Picture.lawful.grid p) (g.P.Picture.marks p) _ c.if-not-has_both_kinds.ensures)

pub returns : goal.returns
returns g c =
    let p = c.args.picture.now in
    let s = g.P.Picture.extent p in
    let one_each = counted (length c.args.numbers.now) s _ _ c.fits.ensures c.if-not-fits.false c.grid.ensures in (
      with_numbers s (g.P.Picture.marks p) _ one_each _
          (both_kinds_answer s (g.P.Picture.lawful.grid p) (g.P.Picture.marks p) _ c.if-not-has_both_kinds.ensures),
      tt,
    )
