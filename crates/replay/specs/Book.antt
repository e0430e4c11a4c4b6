-- The book of a job: its sizes, its stage, and for each cell a mark and a level. It is kept from the calls and their
-- arguments alone, never from a record. A call that the stage does not have, and a call that the book refuses, write
-- nothing. The book asks no question about the cells that are lent, nor about values: it never answers 3 or 9.
use Rattle.std.specs.Prelude.{ℕ, ◌+◌, Bool, true, false, cond, ◌≢◌, List, [], ◌∷◌, Some, None, Option, ◌==◌, nat_eq, nat_lt}
use Rattle.grid.specs.declared.refusal.Refusal.{Refusal}
use Rattle.grid.specs.declared.sizes.Sizes.{Sizes}
use Rattle.grid.specs.Refusals.{refusal_number}
use Rattle.grid.specs.Geometry.{Place, axis_size, cell_number}
use Rattle.grid.specs.RowGeometry.{row_cell}
use Rattle.grid.specs.Cells.{Marks}
use Rattle.pictures.specs.Numbered.{marks_by_number}
use Rattle.job.specs.Cells.{Levels}
use Rattle.job.specs.Doors.{some_place, place_door, load_door, start_door, row_door, raise_door}
use Rattle.replay.specs.declared.calls.Call.{Call}
use Rattle.replay.specs.declared.calls.Call.TheVariants as call

pub data Stage : Type 0 where
  painting : Stage
  working : ℕ → Stage
  finished : Stage

pub record Book : Type 0 where
  pub sizes : Sizes
  pub stage : Stage
  pub marked : Marks
  pub levels : Levels

-- at the beginning no cell is marked, and all are at level 0
abbrev pub opened : Sizes → Book
opened s = record { sizes = s; stage = painting; marked = λ k. false; levels = λ k. 0 }

abbrev pub with_marks : Book → Marks → Book
with_marks b marks = record { sizes = b.sizes; stage = b.stage; marked = marks; levels = b.levels }

-- the marks with that of the cell k set
abbrev pub marks_with : Marks → ℕ → Bool → Marks
marks_with marks k mark j = cond (j == k) mark (marks j)

-- the mark of the cell at a place is set
abbrev pub with_mark : Book → Place → Bool → Book
with_mark b p mark = with_marks b (marks_with b.marked (cell_number b.sizes p) mark)

abbrev pub at_stage : Book → Stage → Book
at_stage b stage = record { sizes = b.sizes; stage = stage; marked = b.marked; levels = b.levels }

-- whether the cell k is in the row m of the axis d
abbrev pub in_row : Sizes → ℕ → ℕ → ℕ → Bool
in_row s d m k = some_place (axis_size s d) (λ i. nat_eq k (row_cell s d m i))

-- the levels with those of the row m of the axis d at d
abbrev pub levels_with_row : Sizes → ℕ → ℕ → Levels → Levels
levels_with_row s d m levels k = cond (in_row s d m k) d (levels k)

abbrev pub with_row : Book → ℕ → ℕ → Book
with_row b d m = record { sizes = b.sizes; stage = b.stage; marked = b.marked; levels = levels_with_row b.sizes d m b.levels }

-- from the axis d to the next, and from axis 3 to the end
abbrev pub above : ℕ → Stage
above d = cond (nat_lt d 3) (working (d + 1)) finished

-- back to painting, all cells at level 0
abbrev pub reopened : Book → Book
reopened b = record { sizes = b.sizes; stage = painting; marked = b.marked; levels = λ k. 0 }

-- what the book says to a call: the stage has no such call, it is refused, or it is accepted and the book turns
pub data Outcome : Type 0 where
  absent : Outcome
  refused : Refusal → Outcome
  accepted : Book → Outcome

-- a door, and the book behind it
abbrev pub behind : Option Refusal → Book → Outcome
behind None b = accepted b
behind (Some e) b = refused e

-- the book after an outcome
abbrev pub turned : Book → Outcome → Book
turned b absent = b
turned b (refused e) = b
turned b (accepted next) = next

module _ {P : Type 0} (extent : P → Sizes) (marks : P → Place → Bool) where
  abbrev pub painting_step : Book → Call P → Outcome
  painting_step b (call.Mark p) = behind (place_door b.sizes p) (with_mark b p true)
  painting_step b (call.Wipe p) = behind (place_door b.sizes p) (with_mark b p false)
  painting_step b (call.Load q) = behind (load_door b.sizes (extent q)) (with_marks b (marks_by_number b.sizes (marks q)))
  painting_step b call.Start = behind (start_door b.sizes b.marked) (at_stage b (working 1))
  painting_step b (call.Row m) = absent
  painting_step b call.Raise = absent
  painting_step b (call.Look p) = absent
  painting_step b call.Reopen = absent

  abbrev pub working_step : ℕ → Book → Call P → Outcome
  working_step d b (call.Mark p) = absent
  working_step d b (call.Wipe p) = absent
  working_step d b (call.Load q) = absent
  working_step d b call.Start = absent
  working_step d b (call.Row m) = behind (row_door b.sizes d m b.levels None) (with_row b d m)
  working_step d b call.Raise = behind (raise_door b.sizes d b.levels) (at_stage b (above d))
  working_step d b (call.Look p) = absent
  working_step d b call.Reopen = accepted (reopened b)

  abbrev pub finished_step : Book → Call P → Outcome
  finished_step b (call.Mark p) = absent
  finished_step b (call.Wipe p) = absent
  finished_step b (call.Load q) = absent
  finished_step b call.Start = absent
  finished_step b (call.Row m) = absent
  finished_step b call.Raise = absent
  finished_step b (call.Look p) = behind (place_door b.sizes p) b
  finished_step b call.Reopen = accepted (reopened b)

  abbrev pub step_at : Stage → Book → Call P → Outcome
  step_at painting b c = painting_step b c
  step_at (working d) b c = working_step d b c
  step_at finished b c = finished_step b c

  -- what the book says to a call
  abbrev pub step : Book → Call P → Outcome
  step b c = step_at b.stage b c

  -- the book after a list of calls
  abbrev pub after : Book → List (Call P) → Book
  after b [] = b
  after b (c ∷ calls) = after (turned b (step b c)) calls

  -- the same from the beginning on
  abbrev pub book_after : Sizes → List (Call P) → Book
  book_after s calls = after (opened s) calls

-- the refusals of the book: none for the number of cells (3) or for a value (9), which only cells from elsewhere meet
pub record OfTheBook (e : Refusal) : Type 0 where
  pub not_for_the_count : refusal_number e ≢ 3
  pub not_for_a_value : refusal_number e ≢ 9
