-- What one worked row does to a field, and how large a value gets.
use Rattle.std.specs.Prelude.{ℕ, ◌-◌, ◌<◌, ◌≤◌, List}
use Rattle.grid.specs.declared.sizes.Sizes.{Sizes}
use Rattle.grid.specs.declared.cell.Cell.{Cell}
use Rattle.grid.specs.Geometry.{IsGrid, cell_count, axis_size}
use Rattle.grid.specs.Distance.{Near}
use Rattle.grid.specs.Cells.{Marks, Holds, AllHold}
use Rattle.grid.specs.RowGeometry.{HasRow, row_cell}
use Rattle.grid.specs.Rows.{GridRowDone, RowAt, RowBelow, records}
use Rattle.rules.specs.Laws.{Order, Bounded}

-- every cell of the row m of the axis d stands at the level l
abbrev pub GridRowAt : Sizes → ℕ → ℕ → ℕ → List Cell → Type 0
GridRowAt s d m l cells = RowAt (axis_size s d) (records cells (row_cell s d m)) l

-- the row m of the axis d has come up to the level d, and every record of the field is right
pub record SteppedUp (near : Near) (s : Sizes) (marks : Marks) (d m : ℕ) (cells : List Cell) : Type 0 where
  pub all_hold : AllHold near s marks cells
  pub row_at : GridRowAt s d m d cells

-- a worked row whose cells stood at the level below its axis brings them to the next, and every record stays right
abbrev pub StepUp : Type 0
StepUp = (ceiling : ℕ → ℕ) (near : Near) → Order ceiling near → Bounded ceiling near
    → (s : Sizes) (marks : Marks) (d m : ℕ) → HasRow s d m → (before after : List Cell)
    → AllHold near s marks before → GridRowAt s d m (d - 1) before → GridRowDone near s d m before after
    → SteppedUp near s marks d m after

-- a right record's value is at most the ceiling of its level
abbrev pub ValueBelowCeiling : Type 0
ValueBelowCeiling = (ceiling : ℕ → ℕ) (near : Near) → Bounded ceiling near → (s : Sizes) → IsGrid s
    → (marks : Marks) (k : ℕ) → k < cell_count s → (c : Cell) → Holds near s marks k c → c.value ≤ ceiling c.level

-- so in a right field no value of a row is above what a point can carry to the row's axis
abbrev pub RowValuesFit : Type 0
RowValuesFit = (ceiling : ℕ → ℕ) (near : Near) → Bounded ceiling near
    → (s : Sizes) (marks : Marks) (d m : ℕ) → HasRow s d m → (cells : List Cell)
    → AllHold near s marks cells → GridRowAt s d m (d - 1) cells
    → RowBelow (axis_size s d) (records cells (row_cell s d m)) (ceiling (d - 1))
