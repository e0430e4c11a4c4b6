-- What is told of a field.
use Rattle.std.specs.Prelude.{◌≡◌, ℕ, ◌<◌, ◌≤◌, Bool, true, List, length, Some, None, Option, nat_lt}
use Rattle.grid.specs.declared.cell.Cell.{Cell}
use Rattle.grid.specs.Cells.{cell_at}
use Rattle.pictures.specs.Kinds.{count_below}
use Rattle.job.specs.Cells.{marks_in}
use Rattle.volumes.specs.declared.summary.Farthest.{Farthest}
use Rattle.volumes.specs.declared.summary.Summary.{Summary}

-- the cell k holds a point
abbrev pub HasPoint : List Cell → ℕ → Type 0
HasPoint cells k = (cell_at cells k).point ≡ None → ⊥

-- of the cells below n, this one has a point, none with a point has a larger value, and all with a point that come
-- before it have a smaller one
pub record IsFarthest (cells : List Cell) (n : ℕ) (f : Farthest) : Type 0 where
  pub is_cell : f.number < n
  pub has_point : HasPoint cells f.number
  pub value_is : (cell_at cells f.number).value ≡ f.value
  pub none_farther : (k : ℕ) → k < n → HasPoint cells k → (cell_at cells k).value ≤ f.value
  pub lowest : (k : ℕ) → k < f.number → HasPoint cells k → (cell_at cells k).value < f.value

-- the farthest of the cells below n, or none where none of them has a point
abbrev pub FarthestBelow : List Cell → ℕ → Option Farthest → Type 0
FarthestBelow cells n None = (k : ℕ) → k < n → (cell_at cells k).point ≡ None
FarthestBelow cells n (Some f) = IsFarthest cells n f

-- whether a value is above that of the farthest cell so far
abbrev pub beaten : Option Farthest → ℕ → Bool
beaten None v = true
beaten (Some f) v = nat_lt f.value v

pub record Summarises (cells : List Cell) (r : Summary) : Type 0 where
  pub marked : r.marked ≡ count_below (marks_in cells) (length cells)
  pub farthest : FarthestBelow cells (length cells) r.farthest
