use Rattle.std.proofs.Common.{List, sym, refl, subst}
use Rattle.grid.specs.declared.cell.Cell.{Cell}
use Rattle.pictures.specs.Numbered.{marks_by_number}
use Rattle.rules.specs.Named.{named_near}
use Rattle.replay.specs.Whole.{FieldFound}
use Rattle.cadzvigu.proofs.Copying.{all_reached, copied_field}
use Rattle.cadzvigu.proofs.nearest_points.nearest_in.Goals as goal

pub write_field-requires-clause-reached : goal.write_field-requires-clause-reached
write_field-requires-clause-reached g c =
    let p = c.args.picture.now in
    let s = g.P.Picture.extent p in
    let m = g.P.Picture.marks p in
    let P : List Cell → Type 0 = λ l. FieldFound (named_near c.args.name c.args.spacings) s (marks_by_number s m) l in
    let found = subst P (sym c.deref.ensures.value) c.in_ok-cells.ensures in
    all_reached (named_near c.args.name c.args.spacings) s m c.deref.result.now found.finished c.in_ok-check_outputs.ensures.1

pub returns : goal.returns
returns g c =
    let p = c.args.picture.now in
    let s = g.P.Picture.extent p in
    let m = g.P.Picture.marks p in
    let P : List Cell → Type 0 = λ l. FieldFound (named_near c.args.name c.args.spacings) s (marks_by_number s m) l in
    let found = subst P (sym c.deref.ensures.value) c.in_ok-cells.ensures in
    (rw c.in_ok-check_outputs.ensures.0 refl, copied_field (named_near c.args.name c.args.spacings) s m c.deref.result.now found.finished _ _ c.write_field.ensures)
