use Rattle.std.proofs.Common.{◌≡◌, length, sym, refl, ap, ◌∙◌}
use Rattle.std.proofs.lemmas.Bool.{eqb-true}
use Rattle.grid.specs.Geometry.{cell_count}
use Rattle.pictures.specs.Faces.{half_sizes}
use Rattle.signed.proofs.TwoKinds.{both_kinds_answer}
use Rattle.signed.proofs.Opening.{with_room}
use Rattle.signed.proofs.room.check_room.Goals as goal

pub returns-then-not-has_both_kinds : goal.returns-then-not-has_both_kinds
returns-then-not-has_both_kinds g c =
    let p = c.args.picture.now in
    let s = g.P.Picture.extent p in
    let cells : length c.args.cells.now ≡ cell_count (half_sizes s) = eqb-true _ _ (sym c.fits.ensures ∙ c.if-not-fits.false) ∙ ap cell_count c.requires in
    let numbers : length c.args.output.now ≡ cell_count s = eqb-true _ _ (sym c.fits-2.ensures ∙ c.if-not-fits-2.false) ∙ ap cell_count c.grid.ensures in
    with_room s (g.P.Picture.marks p) (length c.args.cells.now) (length c.args.output.now) cells numbers _
    (both_kinds_answer s (g.P.Picture.lawful.grid p) (g.P.Picture.marks p) _ c.if-not-has_both_kinds.ensures)

pub returns : goal.returns
returns g c =
    let p = c.args.picture.now in
    let s = g.P.Picture.extent p in
    let kinds = c.if-not-has_both_kinds.ensures in
    let cells : length c.args.cells.now ≡ cell_count (half_sizes s) = eqb-true _ _ (sym c.fits.ensures ∙ c.if-not-fits.false) ∙ ap cell_count c.requires in
    let numbers : length c.args.output.now ≡ cell_count s = eqb-true _ _ (sym c.fits-2.ensures ∙ c.if-not-fits-2.false) ∙ ap cell_count c.grid.ensures in (
      with_room s (g.P.Picture.marks p) (length c.args.cells.now) (length c.args.output.now) cells numbers _
          (both_kinds_answer s (g.P.Picture.lawful.grid p) (g.P.Picture.marks p) _ kinds),
      kinds.0 refl,
    )
