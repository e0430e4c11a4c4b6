-- The whole field of a picture, from its marks to the end.
use Rattle.std.specs.Prelude.{◌≡◌, ℕ, List, Some, None, Ok, Err, Option, Result}
use Rattle.grid.specs.declared.cell.Cell.{Cell}
use Rattle.grid.specs.declared.refusal.Refusal.{Refusal}
use Rattle.grid.specs.declared.sizes.Sizes.{Sizes}
use Rattle.grid.specs.Cells.{Marks, FinishedField}
use Rattle.grid.specs.Distance.{Near}
use Rattle.fields.specs.Painting.{FieldAt}
use Rattle.job.specs.declared.states.Finished.{Finished}
use Rattle.job.specs.declared.states.Kept.{Kept}
use Rattle.job.specs.Cells.{marks_in}
use Rattle.job.specs.Doors.{lent, start_door}
use Rattle.job.specs.Moves.{IsFinished}
use Rattle.replay.specs.declared.new_cells.FieldError.{FieldError}
use Rattle.replay.specs.declared.new_cells.FieldError.TheVariants.{Refused, NoMemory}

-- are exactly as many cells lent as the picture has, and is one of them marked?
abbrev pub field_door : Sizes → Marks → List Cell → Option Refusal
field_door s marks cells = lent s cells (start_door s marks)

-- the field is found, or its door refuses it, the rule comes back and no cell has changed
abbrev pub FindsField : {R : Type 0} → Result (Finished R) (Kept R) → Near → R → Sizes → Marks → List Cell → List Cell → Type 0
FindsField (Ok f) near rule s marks before after =
    (field_door s marks before ≡ None) × IsFinished rule s f × FinishedField near s marks after
FindsField (Err kept) near rule s marks before after =
    (field_door s marks before ≡ Some kept.refusal) × (kept.state ≡ rule) × (after ≡ before)

-- all rows of an axis are worked: the records are right at the level d, and the marks are what they were
pub record AxisDone (near : Near) (s : Sizes) (d : ℕ) (before after : List Cell) : Type 0 where
  pub same_marks : marks_in after ≡ marks_in before
  pub field : FieldAt near s (marks_in after) d after

-- all axes are worked
pub record AllDone {R : Type 0} (near : Near) (rule : R) (s : Sizes) (f : Finished R) (before after : List Cell) : Type 0 where
  pub same_marks : marks_in after ≡ marks_in before
  pub field : FinishedField near s (marks_in after) after
  pub job : IsFinished rule s f

-- a cell is marked, and the cells are the finished field: each holds a nearest marked cell and its distance
pub record FieldFound (near : Near) (s : Sizes) (marks : Marks) (cells : List Cell) : Type 0 where
  pub some_mark : start_door s marks ≡ None
  pub finished : FinishedField near s marks cells

-- why a field is not found: no cell is marked, or want of memory
abbrev pub FieldFails : Sizes → Marks → FieldError → Type 0
FieldFails s marks (Refused e) = start_door s marks ≡ Some e
FieldFails s marks NoMemory = Unit {0}
