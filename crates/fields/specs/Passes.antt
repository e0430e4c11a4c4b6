-- A pass over an axis: its rows are worked one after the other.
use Rattle.std.specs.Prelude.{ℕ, ◌+◌, ◌-◌, ◌<◌, ◌≤◌, List}
use Rattle.grid.specs.declared.sizes.Sizes.{Sizes}
use Rattle.grid.specs.declared.cell.Cell.{Cell}
use Rattle.grid.specs.Geometry.{IsGrid}
use Rattle.grid.specs.Distance.{Near}
use Rattle.grid.specs.Cells.{AllAt}
use Rattle.grid.specs.RowGeometry.{OnAxis, row_count}
use Rattle.grid.specs.Rows.{GridRowDone}
use Rattle.fields.specs.Steps.{GridRowAt}

-- the rows of the axis d below m have been worked, and the others stand at the level below
pub record PassAt (s : Sizes) (d m : ℕ) (cells : List Cell) : Type 0 where
  pub worked : (n : ℕ) → n < m → n < row_count s d → GridRowAt s d n d cells
  pub waiting : (n : ℕ) → m ≤ n → n < row_count s d → GridRowAt s d n (d - 1) cells

-- it holds where no row is worked, it goes on from each row to the next, and it ends with all cells at the level d
pub record Passes (near : Near) (s : Sizes) (d : ℕ) : Type 0 where
  pub starts : (cells : List Cell) → AllAt s (d - 1) cells → PassAt s d 0 cells
  pub goes_on : (m : ℕ) (before after : List Cell) → m < row_count s d → PassAt s d m before → GridRowDone near s d m before after
      → PassAt s d (m + 1) after
  pub ends : (cells : List Cell) → PassAt s d (row_count s d) cells → AllAt s d cells

-- row after row, a pass over an axis brings all cells from the level below to the next
abbrev pub PassGoes : Type 0
PassGoes = (near : Near) (s : Sizes) → IsGrid s → (d : ℕ) → OnAxis d → Passes near s d
