use Rattle.std.proofs.Common.{◌≡◌, ℕ, ◌<◌, true, ◌≢◌, length, ap, ◌∙◌, subst, arith, get_or-set_other, get_or-set_same, w64, SFits, rules, below_more}
use Rattle.std.proofs.lemmas.Int.{to_z-of_z}
use Rattle.grid.specs.declared.sizes.Sizes.{Sizes}
use Rattle.grid.specs.Geometry.{cell_count, inside}
use Rattle.grid.proofs.Places.{placed_inside, next_placed}
use Rattle.signed.proofs.Reading.{number_read}
use Rattle.signed.proofs.numbers.write_numbers.Goals as goal

-- the turns of the loop are the numbers of cells
is_cell : (s extent : Sizes) (k n : ℕ) → k < n → n ≡ cell_count extent → s ≡ extent → k < cell_count s
is_cell s extent k n lt room same = omega (arith, ap cell_count same)

pub number_at-requires : goal.number_at-requires
number_at-requires g c =
    let p = c.args.picture.now in
    let s = c.grid-grid.result.sizes in
    record {
      field = c.requires.field;
      place = subst (λ n. inside n c.loop-number.place ≡ true) c.grid-grid.ensures
          (placed_inside s c.grid-grid.result.is c.loop-number.number-index c.loop-number.place c.loop-number.invariant.1 (is_cell s _ _ _ c.loop-number-test.true c.requires.room c.grid-grid.ensures));
    }

pub next-place-requires : goal.next-place-requires
next-place-requires g c =
    let p = c.args.picture.now in
    let s = c.grid-grid.result.sizes in
    let grid = c.grid-grid.result.is in
    placed_inside s grid c.loop-number.number-index c.loop-number.place c.loop-number.invariant.1 (is_cell s _ _ _ c.loop-number-test.true c.requires.room c.grid-grid.ensures)

pub loop-number-preserved : goal.loop-number-preserved
loop-number-preserved g c =
    let p = c.args.picture.now in
    let s = c.grid-grid.result.sizes in
    let grid = c.grid-grid.result.is in
    let fits : SFits w64 c.number_at.result = search rules in
    let lt : c.loop-number.number-index < length c.loop-number.output = omega (arith, c.requires.room, ap cell_count c.grid-grid.ensures) in (
      below_more _ _
          (λ k h. let ne : k ≢ c.loop-number.number-index = omega arith in rw get_or-set_other (c.loop-number.invariant.0 k h))
          (rw get_or-set_same (to_z-of_z w64 c.number_at.result fits
          ∙ number_read s (g.P.Picture.extent p) c.grid-grid.ensures c.loop-number.place c.loop-number.number-index c.loop-number.invariant.1
          (g.P.Picture.marks p) c.args.cells.now c.args.half.sizes c.requires.field.sizes c.number_at.result c.number_at.ensures)),
      next_placed s grid c.loop-number.number-index c.loop-number.place c.loop-number.invariant.1 _ c.next-place.ensures,
    )
