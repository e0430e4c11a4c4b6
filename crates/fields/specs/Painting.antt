-- Painted fields: no row has been worked yet.
use Rattle.std.specs.Prelude.{◌≡◌, ℕ, ◌<◌, List, length}
use Rattle.grid.specs.declared.sizes.Sizes.{Sizes}
use Rattle.grid.specs.declared.cell.Cell.{Cell}
use Rattle.grid.specs.Geometry.{cell_count}
use Rattle.grid.specs.Distance.{Near}
use Rattle.grid.specs.Cells.{Marks, AllHold, AllAt, cell_at, painted}

-- every cell of the grid has its painted record
pub record Painted (s : Sizes) (marks : Marks) (cells : List Cell) : Type 0 where
  pub one_each : length cells ≡ cell_count s
  pub each : (k : ℕ) → k < cell_count s → cell_at cells k ≡ painted (marks k) k

-- every record is right, and all cells stand at the level d
pub record FieldAt (near : Near) (s : Sizes) (marks : Marks) (d : ℕ) (cells : List Cell) : Type 0 where
  pub all_hold : AllHold near s marks cells
  pub all_at : AllAt s d cells

-- painted records are right, at level 0
abbrev pub PaintedHolds : Type 0
PaintedHolds = (near : Near) (s : Sizes) (marks : Marks) (cells : List Cell) → Painted s marks cells → FieldAt near s marks 0 cells
