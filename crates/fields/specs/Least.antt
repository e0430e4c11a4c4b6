-- The least distance of a cell, as a function of the rule, the sizes and the marks alone.
use Rattle.std.specs.Prelude.{◌≡◌, ℕ, zero, suc, ◌<◌, ◌≤◌, min, true, cond, is_some, Some, None, Option, ◌≢◌}
use Rattle.std.specs.Option.{unwrap_or}
use Rattle.grid.specs.declared.sizes.Sizes.{Sizes}
use Rattle.grid.specs.declared.cell.Cell.{Cell}
use Rattle.grid.specs.Geometry.{cell_count}
use Rattle.grid.specs.Distance.{Near, distance}
use Rattle.grid.specs.Cells.{Marks, Holds}

abbrev pub lesser : Option ℕ → ℕ → ℕ
lesser None v = v
lesser (Some u) v = min u v

-- the least that f comes to at the marked numbers below n, or none where none is marked
abbrev pub least_over : Marks → (ℕ → ℕ) → ℕ → Option ℕ
least_over marks f zero = None
least_over marks f (suc n) = cond (marks n) (Some (lesser (least_over marks f n) (f n))) (least_over marks f n)

-- the distance at the cell k from the nearest marked cell of the grid, or none where there is no mark
abbrev pub least_distance : Near → Sizes → Marks → ℕ → Option ℕ
least_distance near s marks k = least_over marks (distance near s 3 k) (cell_count s)

-- f comes to v at a marked number below n, and to no less at any
pub record LeastBelow (marks : Marks) (f : ℕ → ℕ) (n v : ℕ) : Type 0 where
  pub at : ℕ
  pub below : at < n
  pub is_marked : marks at ≡ true
  pub value : f at ≡ v
  pub none_less : (q : ℕ) → q < n → marks q ≡ true → v ≤ f q

abbrev pub IsLeast : Marks → (ℕ → ℕ) → ℕ → Option ℕ → Type 0
IsLeast marks f n None = (q : ℕ) → q < n → marks q ≢ true
IsLeast marks f n (Some v) = LeastBelow marks f n v

-- the least distance is that of a marked cell, and of all marked cells none is nearer
abbrev pub LeastIsLeast : Type 0
LeastIsLeast = (near : Near) (s : Sizes) (marks : Marks) (k : ℕ)
    → IsLeast marks (distance near s 3 k) (cell_count s) (least_distance near s marks k)

-- the record has this value, with a point, or none and 0
pub record Tells (least : Option ℕ) (c : Cell) : Type 0 where
  pub point : is_some c.point ≡ is_some least
  pub value : c.value ≡ unwrap_or least 0

-- at level 3 a right record tells the least distance
abbrev pub ValueIsLeast : Type 0
ValueIsLeast = (near : Near) (s : Sizes) (marks : Marks) (k : ℕ) (c : Cell) → Holds near s marks k c → c.level ≡ 3
    → Tells (least_distance near s marks k) c
