use Rattle.std.proofs.Common.{◌≤◌, sym, refl, ap, ◌∙◌, subst, arith}
use Rattle.grid.specs.Geometry.{SizesFit, cell_count}
use Rattle.grid.proofs.Places.{cell_count_small}
use Rattle.pictures.specs.Doors.{fits_doubled}
use Rattle.pictures.proofs.Halving.{half_sizes_fit, half_grid_door_open, answers_half_grid}
use Rattle.pictures.proofs.half_grid.HalfGrid.new.Goals as goal

pub overflow_mul-half-2 : goal.overflow_mul-half-2
overflow_mul-half-2 g c =
    let extent = g.P.Picture.extent c.args.below.now in
    let small = ap fits_doubled (sym c.sizes.ensures) ∙ sym c.if-not-fits_doubled.ensures in
    let fit = half_sizes_fit extent (g.P.Picture.lawful.grid c.args.below.now).0 small in
    omega (arith, cell_count_small c.half_sizes-half.result (subst SizesFit (sym c.half_sizes-half.ensures) fit))

pub returns : goal.returns
returns g c =
    let extent = g.P.Picture.extent c.args.below.now in
    let small = ap fits_doubled (sym c.sizes.ensures) ∙ sym c.if-not-fits_doubled.ensures in
    let few = subst (λ s. cell_count s ≤ 16777216) c.half_sizes-half.ensures c.if-half-gt-MAX_CELLS.false in (
      half_grid_door_open extent small few,
      (refl, answers_half_grid extent small few (g.P.Picture.lawful.grid c.args.below.now).0 (g.P.Picture.marks c.args.below.now)),
    )
