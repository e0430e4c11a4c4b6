-- What the pass over a row answers and leaves.
use Rattle.std.specs.Prelude.{◌≡◌, ℕ, ◌-◌, ◌<◌, cond, List, length, Some, None, Ok, Err, Option, Result, ◌≢◌}
use Rattle.grid.specs.declared.cell.Cell.{Cell}
use Rattle.grid.specs.declared.row.Row.{Row}
use Rattle.grid.specs.declared.sizes.Sizes.{Sizes}
use Rattle.grid.specs.declared.refusal.Refusal.{Refusal}
use Rattle.grid.specs.declared.refusal.Refusal.TheVariants.{RowLevel, RowValue}
use Rattle.grid.specs.Distance.{Near}
use Rattle.grid.specs.Cells.{cell_at}
use Rattle.grid.specs.Geometry.{axis_size}
use Rattle.grid.specs.RowGeometry.{row_cell, row_at}
use Rattle.grid.specs.Rows.{NearOn, Best, RowDone, records}
use Rattle.grid.specs.RowDoors.{row_stands, row_cells_door}

-- does every cell of the row stand at the level below the axis d, and is each value in it at most what a point carries to d?
-- The row has n places, and `at i` is the number of the cell at its place i.
abbrev pub places_door : (ℕ → ℕ) → ℕ → ℕ → (ℕ → ℕ) → List Cell → Option Refusal
places_door ceiling d n at cells = row_cells_door n (records cells at) (d - 1) (ceiling (d - 1))

-- the row is refused by its door and no cell has changed, or it is worked
abbrev pub PlacesWorked : {T : Type 0} → Result T Refusal → Near → (ℕ → ℕ) → ℕ → ℕ → (ℕ → ℕ) → List Cell → List Cell → Type 0
PlacesWorked (Ok x) near ceiling d n at before after = (places_door ceiling d n at before ≡ None) × RowDone near d n at before after
PlacesWorked (Err e) near ceiling d n at before after = (places_door ceiling d n at before ≡ Some e) × (after ≡ before)

-- the same of a row of a slice, by its start, stride and count
abbrev pub pass_door : (ℕ → ℕ) → ℕ → Row → List Cell → Option Refusal
pass_door ceiling d row = places_door ceiling d row.count (row_at row)

abbrev pub Worked : {T : Type 0} → Result T Refusal → Near → (ℕ → ℕ) → ℕ → Row → List Cell → List Cell → Type 0
Worked r near ceiling d row = PlacesWorked r near ceiling d row.count (row_at row)

-- and of the row m of the axis d of a grid
abbrev pub GridRowWorked : {T : Type 0} → Result T Refusal → Near → (ℕ → ℕ) → Sizes → ℕ → ℕ → List Cell → List Cell → Type 0
GridRowWorked r near ceiling s d m = PlacesWorked r near ceiling d (axis_size s d) (row_cell s d m)

-- the refusal of a row that has too large a value: a wrong level comes first
abbrev pub late_refusal : ℕ → (ℕ → Cell) → ℕ → Refusal
late_refusal n row l = cond (row_stands n row l) RowValue RowLevel

-- the record with a new level, point and value
abbrev pub renewed : Cell → ℕ → Option ℕ → ℕ → Cell
renewed cell l p v = record { marked = cell.marked; level = l; point = p; value = v }

-- the places of the row below `upto` hold what P says of them, and no other cell has changed
pub record Passed (P : ℕ → Cell → Type 0) (row : Row) (upto : ℕ) (before after : List Cell) : Type 0 where
  pub same_length : length after ≡ length before
  pub others : (k : ℕ) → ((t : ℕ) → t < upto → k ≢ row_at row t) → cell_at after k ≡ cell_at before k
  pub done : (t : ℕ) → t < upto → P t (records after (row_at row) t)

-- the cell at the place t is worked
pub record Served (near : NearOn) (d n : ℕ) (row : ℕ → Cell) (t : ℕ) (cell : Cell) : Type 0 where
  pub mark : cell.marked ≡ (row t).marked
  pub level : cell.level ≡ d
  pub best : Best near n row t cell.point cell.value

-- the cell at the place t has no point at the level d
pub record Blank (d : ℕ) (row : ℕ → Cell) (t : ℕ) (cell : Cell) : Type 0 where
  pub mark : cell.marked ≡ (row t).marked
  pub level : cell.level ≡ d
  pub point : cell.point ≡ None
  pub value : cell.value ≡ 0

-- each cell of the row has no point, and every other cell is as it was
abbrev pub Cleared : ℕ → Row → List Cell → List Cell → Type 0
Cleared d row before after = Passed (Blank d (records before (row_at row))) row row.count before after
