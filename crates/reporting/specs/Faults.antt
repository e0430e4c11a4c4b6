-- What is told of a faulty input: a part, a cause, an image and a byte.
use Rattle.std.specs.Prelude.{ℕ, List, [], ◌∷◌, ◌++◌, map, codes, decimal}
use Rattle.grid.specs.Refusals.{refusal_number}
use Rattle.pbm.specs.Causes as stack-fault
use Rattle.job_text.specs.declared.job.JobFault.{JobFault}
use Rattle.job_text.specs.declared.job.JobFault.TheVariants.{TooLong, Names, Values}
use Rattle.replay.specs.declared.new_cells.FieldError.{FieldError}
use Rattle.replay.specs.declared.new_cells.FieldError.TheVariants as field_error
use Rattle.reporting.specs.declared.faults.ReportError.{ReportError}
use Rattle.reporting.specs.declared.faults.ReportError.TheVariants.{Fault, NoMemory}
use Rattle.reporting.specs.declared.faults.ReportFault.{ReportFault}
use Rattle.reporting.specs.declared.faults.ReportFault.TheVariants.{Job, Stack, LargeStack, Field}
use Rattle.reporting.specs.declared.faults.Part.{Part}
use Rattle.reporting.specs.declared.faults.Part.TheVariants as part
use Rattle.job_text.specs.Lines.{line_of}

-- what is told where no field is found: that it is refused, or that there is no memory for it
abbrev pub field_fault : FieldError → ReportError
field_fault (field_error.Refused e) = Fault (Field e)
field_fault field_error.NoMemory = NoMemory

abbrev pub part_name : Part → List ℕ
part_name part.Job = codes "job"
part_name part.Stack = codes "stack"
part_name part.Field = codes "field"

abbrev pub fault_part : ReportFault → Part
fault_part (Job f) = part.Job
fault_part (Stack f) = part.Stack
fault_part (LargeStack start) = part.Stack
fault_part (Field e) = part.Field

-- the cause, the image and the byte of a fault of the job's two lines
abbrev pub job_numbers : JobFault → ℕ × ℕ × ℕ
job_numbers TooLong = (26, 0, 8192)
job_numbers Names = (30, 0, 0)
job_numbers (Values start) = (31, 0, start)

-- the cause, the image and the byte
abbrev pub fault_numbers : ReportFault → ℕ × ℕ × ℕ
fault_numbers (Job f) = job_numbers f
fault_numbers (Stack f) = stack-fault.fault_numbers f
fault_numbers (LargeStack start) = (25, 0, start)
fault_numbers (Field e) = (refusal_number e, 0, 0)

-- what is printed of a fault: the names of its four parts, and their values
abbrev pub fault_text_of : ReportFault → List ℕ
fault_text_of f =
    codes "part cause image byte\n"
    ++ line_of (part_name (fault_part f) ∷ map decimal ((fault_numbers f).0 ∷ (fault_numbers f).1 ∷ (fault_numbers f).2 ∷ []))
