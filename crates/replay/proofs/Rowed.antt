-- What the marks and levels of cells come to when a row is worked, and the questions of a row.
use Rattle.std.proofs.Common.{◌≡◌, ℕ, zero, suc, ◌-◌, ◌<◌, Bool, true, false, eqb, ltb, List, Some, None, sym, refl, ap, ◌∙◌, subst, ⊎_elim, arith}
use mathlib.Core.Path.{fun_ext}
use Rattle.std.proofs.lemmas.Bool.{cases_Bool, cases_eq, eq-eqb, cond-true, cond-false, eqb-true, ltb-true, or_cases, or_parts, both_ways}
use Rattle.grid.specs.declared.cell.Cell.{Cell}
use Rattle.grid.specs.declared.refusal.Refusal.TheVariants as refusal
use Rattle.grid.specs.declared.sizes.Sizes.{Sizes}
use Rattle.grid.specs.Geometry.{IsGrid, axis_size}
use Rattle.grid.specs.Cells.{AllHold, cell_at}
use Rattle.grid.specs.Distance.{Near}
use Rattle.grid.specs.Doors.{unless}
use Rattle.grid.specs.RowDoors.{all_places, row_below}
use Rattle.grid.specs.RowGeometry.{OnAxis, HasRow, row_count, row_cell}
use Rattle.grid.specs.Rows.{GridRowDone, records}
use Rattle.grid.proofs.Doors.{passed_yes, passed_rest}
use Rattle.grid.proofs.RowDoors.{stands_at, below_from}
use Rattle.rules.specs.Laws.{Bounded}
use Rattle.fields.specs.Steps.{GridRowAt}
use Rattle.fields.proofs.Distances.{row_values_fit}
use Rattle.job.specs.Cells.{marks_in, levels_in}
use Rattle.job.specs.Doors.{some_place, row_door, value_door, lent_row_door}
use Rattle.job.proofs.RowWork.{lent_open}
use Rattle.replay.specs.Book.{in_row, levels_with_row}

module _ (test : ℕ → Bool) where
  pub which_place : (n : ℕ) → some_place n test ≡ true → (i : ℕ) × (i < n) × (test i ≡ true)
  which_place zero h = absurd (both_ways false refl h)
  which_place (suc n) h =
      ⊎_elim (λ t. (n, omega arith, t)) (λ rest. let found = which_place n rest in (found.0, omega (arith, found.1), found.2)) (or_cases (test n) _ h)

  pub never : (n : ℕ) → some_place n test ≡ false → (i : ℕ) → i < n → test i ≡ true → ⊥
  never zero h i l t = omega arith
  never (suc n) h i l t =
      let parts = or_parts (test n) (some_place n test) h in
      ⊎_elim (λ e. both_ways (test n) parts.0 (subst (λ m. test m ≡ true) e t)) (λ ne. never n parts.1 i (omega arith) t) (cases_eq i n)

module _ (near : Near) (s : Sizes) (d m : ℕ) (before after : List Cell) (done : GridRowDone near s d m before after) where
  off : (k : ℕ) → in_row s d m k ≡ false → cell_at after k ≡ cell_at before k
  off k none = done.others k (λ i h e. never (λ i. eqb k (row_cell s d m i)) (axis_size s d) none i h (eq-eqb k (row_cell s d m i) e))

  pub marks_rowed : marks_in after ≡ marks_in before
  marks_rowed = fun_ext (λ k. ⊎_elim
      (λ t. let at = which_place (λ i. eqb k (row_cell s d m i)) (axis_size s d) t in
      subst (λ j. marks_in after j ≡ marks_in before j) (sym (eqb-true k (row_cell s d m at.0) at.2)) (done.marks at.0 at.1))
      (λ f. ap (λ (c : Cell). c.marked) (off k f))
      (cases_Bool (in_row s d m k)))

  pub levels_rowed : levels_in after ≡ levels_with_row s d m (levels_in before)
  levels_rowed = fun_ext (λ k. ⊎_elim
      (λ t. let at = which_place (λ i. eqb k (row_cell s d m i)) (axis_size s d) t in
      subst (λ j. levels_in after j ≡ d) (sym (eqb-true k (row_cell s d m at.0) at.2)) (done.level at.0 at.1)
      ∙ sym (cond-true (in_row s d m k) d (levels_in before k) t))
      (λ f. ap (λ (c : Cell). c.level) (off k f) ∙ sym (cond-false (in_row s d m k) d (levels_in before k) f))
      (cases_Bool (in_row s d m k)))

-- where every record is right no row is refused for its values
module _ (ceiling : ℕ → ℕ) (near : Near) (bounded : Bounded ceiling near) (s : Sizes) (grid : IsGrid s) (d m : ℕ) (on : OnAxis d) (cells : List Cell) (hold : AllHold near s (marks_in cells) cells) where
  pub row_has : row_door s d m (levels_in cells) None ≡ None → HasRow s d m
  row_has open-door = record { grid = grid; axis = on; number = ltb-true m (row_count s d) (passed_yes (ltb m (row_count s d)) _ _ open-door) }

  pub row_stood : row_door s d m (levels_in cells) None ≡ None → GridRowAt s d m (d - 1) cells
  row_stood open-door =
      stands_at (axis_size s d) (records cells (row_cell s d m)) (d - 1) 0
      (passed_yes (all_places (axis_size s d) (λ i. eqb (levels_in cells (row_cell s d m i)) (d - 1))) _ _ (passed_rest (ltb m (row_count s d)) _ _ open-door))

  values_fit : HasRow s d m → all_places (axis_size s d) (λ i. eqb (levels_in cells (row_cell s d m i)) (d - 1)) ≡ true → value_door ceiling s d m cells ≡ None
  values_fit row t =
      let n = axis_size s d in
      let at = records cells (row_cell s d m) in
      let low = row_values_fit ceiling near bounded s (marks_in cells) d m row cells hold (stands_at n at (d - 1) 0 t) in
      cond-true (row_below n at (ceiling (d - 1))) None (Some refusal.RowValue) (below_from n at 0 (ceiling (d - 1)) low)

  pub no_value_refused : lent_row_door ceiling s d m cells ≡ row_door s d m (levels_in cells) None
  no_value_refused =
      lent_open s cells _ hold.one_each
      ∙ ⊎_elim
      (λ t. cond-true (ltb m (row_count s d)) _ (Some refusal.NoSuchRow) t
      ∙ inner (record { grid = grid; axis = on; number = ltb-true m (row_count s d) t })
      ∙ sym (cond-true (ltb m (row_count s d)) _ (Some refusal.NoSuchRow) t))
      (λ f. cond-false (ltb m (row_count s d)) _ (Some refusal.NoSuchRow) f ∙ sym (cond-false (ltb m (row_count s d)) _ (Some refusal.NoSuchRow) f))
      (cases_Bool (ltb m (row_count s d)))
    where
      inner : HasRow s d m → unless (all_places (axis_size s d) (λ i. eqb (levels_in cells (row_cell s d m i)) (d - 1))) refusal.RowLevel (value_door ceiling s d m cells)
          ≡ unless (all_places (axis_size s d) (λ i. eqb (levels_in cells (row_cell s d m i)) (d - 1))) refusal.RowLevel None
      inner row = ⊎_elim
          (λ t. ap (λ rest. unless (all_places (axis_size s d) (λ i. eqb (levels_in cells (row_cell s d m i)) (d - 1))) refusal.RowLevel rest) (values_fit row t))
          (λ f. cond-false _ _ _ f ∙ sym (cond-false _ _ _ f))
          (cases_Bool (all_places (axis_size s d) (λ i. eqb (levels_in cells (row_cell s d m i)) (d - 1))))
