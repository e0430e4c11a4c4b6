-- What an exhaustive search has found.
use Rattle.std.specs.Prelude.{◌≡◌, ℕ, ◌<◌, ◌≤◌, true, cond, List, length, Some, None, Ok, Err, Option, Result, ◌==◌, ◌≢◌, nat_le}
use Rattle.grid.specs.declared.cell.Cell.{Cell}
use Rattle.grid.specs.declared.refusal.Refusal.{Refusal}
use Rattle.grid.specs.declared.refusal.Refusal.TheVariants.{CellCount}
use Rattle.grid.specs.declared.sizes.Sizes.{Sizes}
use Rattle.grid.specs.Geometry.{cell_count}
use Rattle.grid.specs.Distance.{Near, distance}
use Rattle.grid.specs.Cells.{Marks, Holds, FinishedField}
use Rattle.grid.specs.Doors.{unless}

-- p is a marked cell below n, at the distance v from the cell k, and no marked cell below n is nearer
pub record Best (near : Near) (s : Sizes) (marks : Marks) (k n p v : ℕ) : Type 0 where
  pub below : p < n
  pub is_marked : marks p ≡ true
  pub value : v ≡ distance near s 3 k p
  pub none_nearer : (q : ℕ) → q < n → marks q ≡ true → v ≤ distance near s 3 k q

-- the answer is a nearest of the marked cells below n and its distance, or none where none of them is marked
abbrev pub NearestBelow : Near → Sizes → Marks → ℕ → ℕ → Option (ℕ × ℕ) → Type 0
NearestBelow near s marks k n None = (q : ℕ) → q < n → marks q ≢ true
NearestBelow near s marks k n (Some b) = Best near s marks k n b.0 b.1

-- the better of the best so far and another marked cell; the best so far where both are as near
abbrev pub nearer_of : Option (ℕ × ℕ) → ℕ → ℕ → Option (ℕ × ℕ)
nearer_of None p v = Some (p, v)
nearer_of (Some b) p v = cond (nat_le b.1 v) (Some b) (Some (p, v))

-- are exactly as many cells handed in as the picture has?
abbrev pub search_door : Sizes → List Cell → Option Refusal
search_door s cells = unless (length cells == cell_count s) CellCount None

-- the record of the cell k in a finished field
pub record FinishedCell (near : Near) (s : Sizes) (marks : Marks) (k : ℕ) (c : Cell) : Type 0 where
  pub holds : Holds near s marks k c
  pub at_3 : c.level ≡ 3

-- the search is refused by its door and leaves the cells, or it leaves the finished field
abbrev pub Searched : {T : Type 0} → Result T Refusal → Near → Sizes → Marks → List Cell → List Cell → Type 0
Searched (Ok _) near s marks before after = (search_door s before ≡ None) × FinishedField near s marks after
Searched (Err e) near s marks before after = (search_door s before ≡ Some e) × (after ≡ before)
