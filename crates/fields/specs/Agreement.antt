-- Right records leave only the choice among equally near marks: all else is settled.
use Rattle.std.specs.Prelude.{◌≡◌, ℕ, ◌<◌, true, List, is_some, Some}
use Rattle.grid.specs.declared.sizes.Sizes.{Sizes}
use Rattle.grid.specs.declared.cell.Cell.{Cell}
use Rattle.grid.specs.Geometry.{cell_count}
use Rattle.grid.specs.Distance.{Near}
use Rattle.grid.specs.Cells.{Marks, Nearest, Holds, FinishedField, cell_at}

-- a right record's point is a nearest marked cell of the slab, at the record's value
abbrev pub PointIsNearest : Type 0
PointIsNearest = (near : Near) (s : Sizes) (marks : Marks) (k : ℕ) (c : Cell) → Holds near s marks k c
    → (p : ℕ) → c.point ≡ Some p → Nearest near s marks c.level k p c.value

-- both have the same value, and both have a point or neither has
pub record Agree (one two : Cell) : Type 0 where
  pub value : one.value ≡ two.value
  pub point : is_some one.point ≡ is_some two.point

-- at any level two right records of a cell agree
abbrev pub RecordsAgree : Type 0
RecordsAgree = (near : Near) (s : Sizes) (marks : Marks) (k : ℕ) (one two : Cell) → Holds near s marks k one → Holds near s marks k two
    → one.level ≡ two.level → Agree one two

-- two sets of marks are the same on the grid
abbrev pub SameMarks : Sizes → Marks → Marks → Type 0
SameMarks s marks others = (k : ℕ) → k < cell_count s → marks k ≡ others k

-- the records of each cell agree
abbrev pub FieldsAgree : Sizes → List Cell → List Cell → Type 0
FieldsAgree s one two = (k : ℕ) → k < cell_count s → Agree (cell_at one k) (cell_at two k)

-- however they came about, two finished fields of the same rule, sizes and marks agree
abbrev pub FinishedFieldsAgree : Type 0
FinishedFieldsAgree = (near : Near) (s : Sizes) (marks others : Marks) → SameMarks s marks others → (one two : List Cell)
    → FinishedField near s marks one → FinishedField near s others two → FieldsAgree s one two

-- where one cell of the grid is marked, every cell of a finished field has a point
abbrev pub MarkReachesAll : Type 0
MarkReachesAll = (near : Near) (s : Sizes) (marks : Marks) (cells : List Cell) → FinishedField near s marks cells
    → (q : ℕ) → q < cell_count s → marks q ≡ true → (k : ℕ) → k < cell_count s → is_some (cell_at cells k).point ≡ true
