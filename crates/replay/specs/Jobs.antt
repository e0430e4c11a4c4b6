-- What a job and its cells show of a book, and when they are sound.
use Rattle.std.specs.Prelude.{List}
use Rattle.grid.specs.declared.cell.Cell.{Cell}
use Rattle.grid.specs.declared.sizes.Sizes.{Sizes}
use Rattle.grid.specs.Cells.{AllHold, FinishedField}
use Rattle.grid.specs.Distance.{Near}
use Rattle.fields.specs.Painting.{Painted}
use Rattle.job.specs.declared.states.Raised.{Raised}
use Rattle.job.specs.declared.states.Raised.TheVariants.{Next, Last}
use Rattle.job.specs.Cells.{marks_in, levels_in}
use Rattle.replay.specs.declared.jobs.Job.{Job}
use Rattle.replay.specs.declared.jobs.Job.TheVariants as job
use Rattle.replay.specs.Book.{Stage, painting, working, finished, Book}

-- the job to which a raise has led
abbrev pub raised_job : {R : Type 0} → Raised R → Job R
raised_job (Next w) = job.Working w
raised_job (Last f) = job.Finished f

abbrev pub rule_of : {R : Type 0} → Job R → R
rule_of (job.Painting j) = j.rule
rule_of (job.Working j) = j.rule
rule_of (job.Finished j) = j.rule

abbrev pub sizes_of : {R : Type 0} → Job R → Sizes
sizes_of (job.Painting j) = j.grid.sizes
sizes_of (job.Working j) = j.grid.sizes
sizes_of (job.Finished j) = j.grid.sizes

abbrev pub stage_of : {R : Type 0} → Job R → Stage
stage_of (job.Painting j) = painting
stage_of (job.Working j) = working j.axis.number
stage_of (job.Finished j) = finished

-- the sizes and the stage of the job, and the marks and levels in the records of its cells
abbrev pub shown : {R : Type 0} → Job R → List Cell → Book
shown j cells = record { sizes = sizes_of j; stage = stage_of j; marked = marks_in cells; levels = levels_in cells }

-- the records of a job at a stage are right: painted ones while it is painted, and at the end a finished field
abbrev pub SoundAt : Near → Stage → Sizes → List Cell → Type 0
SoundAt near painting s cells = Painted s (marks_in cells) cells
SoundAt near (working d) s cells = AllHold near s (marks_in cells) cells
SoundAt near finished s cells = FinishedField near s (marks_in cells) cells

abbrev pub Sound : {R : Type 0} → Near → Job R → List Cell → Type 0
Sound near j cells = SoundAt near (stage_of j) (sizes_of j) cells
