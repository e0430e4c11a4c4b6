-- Rows worked in whatever order.
use Rattle.std.specs.Prelude.{ℕ, ◌-◌, List}
use Rattle.grid.specs.declared.sizes.Sizes.{Sizes}
use Rattle.grid.specs.declared.cell.Cell.{Cell}
use Rattle.grid.specs.Distance.{Near}
use Rattle.grid.specs.Cells.{Marks, AllHold, AllAt, FinishedField}
use Rattle.grid.specs.RowGeometry.{HasRow}
use Rattle.grid.specs.Rows.{GridRowDone}
use Rattle.rules.specs.Laws.{Order, Bounded}
use Rattle.fields.specs.Painting.{Painted}
use Rattle.fields.specs.Steps.{GridRowAt}

-- between the first cells and the last some rows have been worked, each of which stood at the level below its axis
pub data RowsWorked (near : Near) (s : Sizes) (first : List Cell) : List Cell → Type 0 where
  none : RowsWorked near s first first
  row : {before : List Cell} → RowsWorked near s first before → (d m : ℕ) (after : List Cell) → HasRow s d m → GridRowAt s d m (d - 1) before
      → GridRowDone near s d m before after → RowsWorked near s first after

-- they leave every record right
abbrev pub RowsKeepRight : Type 0
RowsKeepRight = (ceiling : ℕ → ℕ) (near : Near) → Order ceiling near → Bounded ceiling near → (s : Sizes) (marks : Marks) (first last : List Cell)
    → AllHold near s marks first → RowsWorked near s first last → AllHold near s marks last

-- so from painted cells, whatever the order of the rows, the field is finished where all cells have come to level 3
abbrev pub RowsFinish : Type 0
RowsFinish = (ceiling : ℕ → ℕ) (near : Near) → Order ceiling near → Bounded ceiling near → (s : Sizes) (marks : Marks) (first last : List Cell)
    → Painted s marks first → RowsWorked near s first last → AllAt s 3 last → FinishedField near s marks last
