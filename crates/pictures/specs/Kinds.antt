-- Which kinds of cell a picture has, and how many are marked.
use Rattle.std.specs.Prelude.{◌≡◌, ℕ, zero, suc, ◌+◌, Bool, true, false, cond}
use Rattle.grid.specs.declared.sizes.Sizes.{Sizes}
use Rattle.grid.specs.Geometry.{Place, cell_count, inside}
use Rattle.pictures.specs.Numbered.{marks_by_number}

-- how many numbers below n pass the test
unfoldable pub count_below : (ℕ → Bool) → ℕ → ℕ
count_below test zero = 0
count_below test (suc n) = count_below test n + cond (test n) 1 0

-- how many cells of the grid are marked
abbrev pub count_marks : Sizes → (Place → Bool) → ℕ
count_marks s marks = count_below (marks_by_number s marks) (cell_count s)

-- some cell of the grid is marked, or is not, as `kind` says
pub record SomeCell (s : Sizes) (marks : Place → Bool) (kind : Bool) : Type 0 where
  pub place : Place
  pub in_grid : inside s place ≡ true
  pub of_kind : marks place ≡ kind

abbrev pub SomeMarked : Sizes → (Place → Bool) → Type 0
SomeMarked s marks = SomeCell s marks true

abbrev pub SomeUnmarked : Sizes → (Place → Bool) → Type 0
SomeUnmarked s marks = SomeCell s marks false

abbrev pub BothKinds : Sizes → (Place → Bool) → Type 0
BothKinds s marks = SomeMarked s marks × SomeUnmarked s marks
