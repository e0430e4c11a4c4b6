-- The questions that the calls ask, in their order.
use Rattle.std.specs.Prelude.{ℕ, Bool, cond, ◌&&◌, List, length, Some, None, Option, ◌==◌}
use Rattle.grid.specs.declared.refusal.Refusal.{Refusal}
use Rattle.grid.specs.declared.refusal.Refusal.TheVariants as refusal
use Rattle.grid.specs.declared.sizes.Sizes.{Sizes}
use Rattle.grid.specs.Geometry.{Place, cell_count}
use Rattle.grid.specs.Cells.{Marks}
use Rattle.grid.specs.Doors.{unless}
use Rattle.job.specs.Doors.{start_door}
use Rattle.pictures.specs.Doors.{grey_door, half_grid_door}
use Rattle.rules.specs.Doors.{spacing_door}
use Rattle.rules.specs.Names.{is_rule_number}
use Rattle.signed.specs.Doors.{and_then, both_kinds}
use Rattle.cadzvigu.specs.declared.fault.Fault.{Fault}
use Rattle.cadzvigu.specs.declared.fault.Fault.TheVariants.{Refused, UnknownRule}
use Rattle.cadzvigu.specs.Nearests.{byte_cells, byte_marks}

abbrev pub sizes_of : ℕ → ℕ → ℕ → Sizes
sizes_of x y z = record { nx = x; ny = y; nz = z }

-- a refusal is a fault
abbrev pub refused_by : Option Refusal → Option Fault
refused_by None = None
refused_by (Some e) = Some (Refused e)

-- the first questions of every call: has a rule that number, and is each spacing from 1 to 10,000?
abbrev pub call_door : ℕ → ℕ × ℕ × ℕ → Option Refusal → Option Fault
call_door rule spacings rest =
    cond (is_rule_number rule) (refused_by (and_then (spacing_door spacings.0 spacings.1 spacings.2) rest)) (Some UnknownRule)

-- is there one value and one point for each cell, and is a cell marked?
abbrev pub field_questions : Sizes → Marks → ℕ → ℕ → Option Refusal
field_questions s marks values points =
    unless (values == cell_count s && points == cell_count s) refusal.OutputCount (start_door s marks)

-- is each size from 1 to 1,023, are there at most 16,777,216 cells, is there one byte for each, and then the two above
abbrev pub nearest_questions : Sizes → List ℕ → ℕ → ℕ → Option Refusal
nearest_questions s bytes values points = and_then (grey_door s (length bytes)) (field_questions s (byte_marks s bytes) values points)

-- all questions of `cadzvigu_nearest`
abbrev pub nearest_door : ℕ → ℕ × ℕ × ℕ → Sizes → List ℕ → ℕ → ℕ → Option Fault
nearest_door rule spacings s bytes values points = call_door rule spacings (nearest_questions s bytes values points)

-- is there one number for each cell, and are there both marked and unmarked cells?
abbrev pub numbers_door : Sizes → (Place → Bool) → ℕ → Option Refusal
numbers_door s marks numbers = unless (numbers == cell_count s) refusal.OutputCount (unless (both_kinds s marks) refusal.OneKind None)

-- is each size at most 512, has the half-grid at most 16,777,216 places, and then the two above
abbrev pub skin_questions : Sizes → (Place → Bool) → ℕ → Option Refusal
skin_questions s marks numbers = and_then (half_grid_door s) (numbers_door s marks numbers)

-- is each size from 1 to 1,023, are there at most 16,777,216 cells, is there one byte for each, and then the four above
abbrev pub signed_questions : Sizes → List ℕ → ℕ → Option Refusal
signed_questions s bytes numbers = and_then (grey_door s (length bytes)) (skin_questions s (byte_cells s bytes) numbers)

-- all questions of `cadzvigu_signed`
abbrev pub signed_call_door : ℕ → ℕ × ℕ × ℕ → Sizes → List ℕ → ℕ → Option Fault
signed_call_door rule spacings s bytes numbers = call_door rule spacings (signed_questions s bytes numbers)
