-- What a call that keeps its state answers, and what the cells are after it.
use Rattle.std.specs.Prelude.{◌≡◌, ℕ, Bool, List, Some, None, Ok, Err, Option, Result, slice_set}
use Rattle.grid.specs.declared.cell.Cell.{Cell}
use Rattle.grid.specs.declared.refusal.Refusal.{Refusal}
use Rattle.grid.specs.declared.sizes.Sizes.{Sizes}
use Rattle.grid.specs.Geometry.{Place, cell_count, cell_number}
use Rattle.grid.specs.Cells.{cell_at, painted}
use Rattle.grid.specs.Distance.{Near}
use Rattle.grid.specs.Doors.{Admits}
use Rattle.grid.specs.Rows.{GridRowDone}
use Rattle.pictures.specs.Numbered.{marks_by_number}
use Rattle.job.specs.Cells.{held, painted_cells}
use Rattle.job.specs.Doors.{lent, place_door, load_door, lent_row_door}

-- the call is refused by its door and no cell has changed, or it is accepted and `New` holds
abbrev pub Changes : {X : Type 0} → Result X Refusal → Option Refusal → List Cell → List Cell → Type 0 → Type 0
Changes (Ok x) door before after New = (door ≡ None) × New
Changes (Err e) door before after New = (door ≡ Some e) × (after ≡ before)

-- one cell gets the painted record of a marked cell, or of an unmarked one
abbrev pub Paints : {X : Type 0} → Result X Refusal → Sizes → Place → Bool → List Cell → List Cell → Type 0
Paints r s p b before after =
    Changes r (lent s before (place_door s p)) before after
    (after ≡ slice_set before (cell_number s p) (painted b (cell_number s p)))

-- every cell gets the painted record that a picture of the sizes t gives it
abbrev pub Loads : {X : Type 0} → Result X Refusal → Sizes → Sizes → (Place → Bool) → List Cell → List Cell → Type 0
Loads r s t marks before after =
    Changes r (lent s before (load_door s t)) before after
    (after ≡ painted_cells (marks_by_number s marks) (cell_count s))

-- the row m of the axis d is worked
abbrev pub WorksRow : {X : Type 0} → Result X Refusal → Near → (ℕ → ℕ) → Sizes → ℕ → ℕ → List Cell → List Cell → Type 0
WorksRow r near ceiling s d m before after =
    Changes r (lent_row_door ceiling s d m before) before after (GridRowDone near s d m before after)

-- the answer is what the record at the place holds
abbrev pub Looks : Result (Option (ℕ × ℕ)) Refusal → Sizes → Place → List Cell → Type 0
Looks r s p cells =
    Admits r (lent s cells (place_door s p)) (λ answer. answer ≡ held (cell_at cells (cell_number s p)))
