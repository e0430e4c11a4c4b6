-- What the arrays of values and points hold.
use Rattle.std.specs.Prelude.{◌≡◌, ℕ, ◌<◌, Bool, List, length, Some, slice_index}
use Rattle.grid.specs.declared.cell.Cell.{Cell}
use Rattle.grid.specs.declared.sizes.Sizes.{Sizes}
use Rattle.grid.specs.Geometry.{Place, cell_count}
use Rattle.grid.specs.Distance.{Near}
use Rattle.grid.specs.Cells.{Marks, Nearest, cell_at}
use Rattle.pictures.specs.Greys.{grey_cells}
use Rattle.pictures.specs.Numbered.{marks_by_number}
use Rattle.rules.specs.declared.name.RuleName.{RuleName}
use Rattle.rules.specs.declared.spacings.Spacings.{Spacings}
use Rattle.rules.specs.Formulas.{HasSpacings}
use Rattle.rules.specs.Named.{named_near}
use Rattle.rules.specs.Names.{rule_number}

-- the marked cells: those whose byte, one for each cell in the order of the cell numbers, is not 0
abbrev pub byte_cells : Sizes → List ℕ → Place → Bool
byte_cells s bytes = grey_cells s 1 bytes

-- the same by the numbers of the cells
abbrev pub byte_marks : Sizes → List ℕ → Marks
byte_marks s bytes = marks_by_number s (byte_cells s bytes)

-- the arrays hold the values and the points of the cells
pub record CopiesCells (cells : List Cell) (values points : List ℕ) : Type 0 where
  pub one_value_each : length values ≡ length cells
  pub one_point_each : length points ≡ length cells
  pub value_of : (k : ℕ) → k < length cells → slice_index values k ≡ (cell_at cells k).value
  pub point_of : (k : ℕ) → k < length cells → (cell_at cells k).point ≡ Some (slice_index points k)

-- for each cell k the point is a nearest marked cell of the whole grid, and the value is its distance
pub record HoldsNearest (near : Near) (s : Sizes) (marks : Marks) (values points : List ℕ) : Type 0 where
  pub one_value_each : length values ≡ cell_count s
  pub one_point_each : length points ≡ cell_count s
  pub each : (k : ℕ) → k < cell_count s → Nearest near s marks 3 k (slice_index points k) (slice_index values k)

abbrev pub NearestOfBytes : Near → Sizes → List ℕ → List ℕ → List ℕ → Type 0
NearestOfBytes near s bytes values points = HoldsNearest near s (byte_marks s bytes) values points

-- the same under the rule with a number, over three spacings
pub record NearestBy (rule : ℕ) (spacings : ℕ × ℕ × ℕ) (s : Sizes) (bytes values points : List ℕ) : Type 0 where
  pub kind : RuleName
  pub numbered : rule ≡ rule_number kind
  pub over : Spacings
  pub as_given : HasSpacings over spacings.0 spacings.1 spacings.2
  pub field : NearestOfBytes (named_near kind over) s bytes values points
