-- What a cell's record says, and when it is right.
use Rattle.std.specs.Prelude.{◌≡◌, ℕ, ◌<◌, ◌≤◌, Bool, true, false, cond, List, length, Some, None, Option, slice_index_or}
use Rattle.grid.specs.declared.sizes.Sizes.{Sizes}
use Rattle.grid.specs.declared.cell.Cell.{Cell}
use Rattle.grid.specs.Geometry.{cell_count, SameAbove}
use Rattle.grid.specs.Distance.{Near, distance}

-- which cells are marked, by their numbers
abbrev pub Marks : Type 0
Marks = ℕ → Bool

-- q is a marked cell of the slab of k at the level d
pub record Marked (s : Sizes) (marks : Marks) (d k q : ℕ) : Type 0 where
  pub in_grid : q < cell_count s
  pub is_marked : marks q ≡ true
  pub in_slab : SameAbove s d k q

-- p is a nearest marked cell of the slab of k at the level d, at the distance v
pub record Nearest (near : Near) (s : Sizes) (marks : Marks) (d k p v : ℕ) : Type 0 where
  pub point : Marked s marks d k p
  pub value : v ≡ distance near s d k p
  pub none_nearer : (q : ℕ) → Marked s marks d k q → v ≤ distance near s d k q

-- the point and the value of the cell k at the level d are right: a nearest marked cell of its slab and its distance,
-- or none and 0 where the slab has no mark; which of several equally near cells is the point is free
abbrev pub Answers : Near → Sizes → Marks → ℕ → ℕ → Option ℕ → ℕ → Type 0
Answers near s marks d k None v = (v ≡ 0) × ((q : ℕ) → Marked s marks d k q → ⊥)
Answers near s marks d k (Some p) v = Nearest near s marks d k p v

-- the record c of the cell k is right
pub record Holds (near : Near) (s : Sizes) (marks : Marks) (k : ℕ) (c : Cell) : Type 0 where
  pub mark : c.marked ≡ marks k
  pub level_at_most_3 : c.level ≤ 3
  pub nearest : Answers near s marks c.level k c.point c.value

-- what a read past the end of the records would give
abbrev pub no_cell : Cell
no_cell = record { marked = false; level = 0; point = None; value = 0 }

-- the record of the cell k
abbrev pub cell_at : List Cell → ℕ → Cell
cell_at cells k = slice_index_or cells k no_cell

-- every cell of the grid has a right record
pub record AllHold (near : Near) (s : Sizes) (marks : Marks) (cells : List Cell) : Type 0 where
  pub one_each : length cells ≡ cell_count s
  pub each : (k : ℕ) → k < cell_count s → Holds near s marks k (cell_at cells k)

-- every cell of the grid stands at the level d
abbrev pub AllAt : Sizes → ℕ → List Cell → Type 0
AllAt s d cells = (k : ℕ) → k < cell_count s → (cell_at cells k).level ≡ d

-- the finished field: every cell holds a nearest marked cell of the whole grid, or none where there is no mark
pub record FinishedField (near : Near) (s : Sizes) (marks : Marks) (cells : List Cell) : Type 0 where
  pub all_hold : AllHold near s marks cells
  pub all_at_3 : AllAt s 3 cells

-- the record of the cell k before any row is worked
abbrev pub painted : Bool → ℕ → Cell
painted b k = record { marked = b; level = 0; point = cond b (Some k) None; value = 0 }
