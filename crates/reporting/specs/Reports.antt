-- What a report on an input is, and why there is none.
use Rattle.std.specs.Prelude.{◌≡◌, ℕ, ◌+◌, ◌<◌, ◌≤◌, Bool, true, List, length, ◌≢◌}
use Rattle.grid.specs.declared.cell.Cell.{Cell}
use Rattle.grid.specs.declared.refusal.Refusal.TheVariants.{NoMark}
use Rattle.grid.specs.declared.sizes.Sizes.{Sizes}
use Rattle.grid.specs.Geometry.{Place, IsGrid, cell_count}
use Rattle.grid.specs.Distance.{Near}
use Rattle.grid.specs.Cells.{Marks, FinishedField}
use Rattle.pictures.specs.Numbered.{marks_by_number}
use Rattle.pbm.specs.declared.faults.StackFault.{StackFault}
use Rattle.pbm.specs.Faults.{FaultyBytes}
use Rattle.pbm.specs.Form.{IsStack}
use Rattle.pbm.specs.Marks.{stack_cells}
use Rattle.rules.specs.declared.spacings.Spacings.{Spacings}
use Rattle.rules.specs.Formulas.{HasSpacings}
use Rattle.rules.specs.Named.{named_near}
use Rattle.rules.specs.Ranges.{IsSpacing}
use Rattle.reporting.specs.declared.faults.ReportError.{ReportError}
use Rattle.reporting.specs.declared.faults.ReportError.TheVariants.{Fault, NoMemory}
use Rattle.reporting.specs.declared.faults.ReportFault.{ReportFault}
use Rattle.reporting.specs.declared.faults.ReportFault.TheVariants.{Job, Stack, LargeStack, Field}
use Rattle.rules.specs.declared.name.RuleName.{RuleName}
use Rattle.job_text.specs.declared.settings.Settings.{Settings}
use Rattle.job_text.specs.Jobs.{IsJob, FaultyJob}
use Rattle.reporting.specs.Texts.{PrintsField}

-- the spacings are from 1 to 10,000
pub record SettingsFit (s : Settings) : Type 0 where
  pub on_x : IsSpacing s.sx
  pub on_y : IsSpacing s.sy
  pub on_z : IsSpacing s.sz

-- the text reports a finished field: each cell has a nearest marked cell of the grid and its distance
pub record ReportsField (name : RuleName) (near : Near) (s : Sizes) (marks : Marks) (text : List ℕ) : Type 0 where
  pub cells : List Cell
  pub finished : FinishedField near s marks cells
  pub printed : PrintsField name s cells text

-- the same under the rule and the spacings of the settings
pub record ReportsStack (settings : Settings) (s : Sizes) (marks : Place → Bool) (text : List ℕ) : Type 0 where
  pub spacings : Spacings
  pub as_set : HasSpacings spacings settings.sx settings.sy settings.sz
  pub field : ReportsField settings.rule (named_near settings.rule spacings) s (marks_by_number s marks) text

-- no cell of the grid is marked
abbrev pub Unmarked : Sizes → Marks → Type 0
Unmarked s marks = (k : ℕ) → k < cell_count s → marks k ≢ true

-- why a field is not reported: no cell is marked, or want of memory
abbrev pub NoField : Sizes → Marks → ReportError → Type 0
NoField s marks (Fault f) = (f ≡ Field NoMark) × Unmarked s marks
NoField s marks NoMemory = Unit {0}

-- the input is a job text, and its stack, which is sound, has at most 2,048 cells
pub record Sound (input : List ℕ) (settings : Settings) (stack : List ℕ) (s : Sizes) : Type 0 where
  pub job : IsJob input settings stack
  pub form : IsStack stack s
  pub grid : IsGrid s
  pub few : cell_count s ≤ 2048

-- the text is the report on the input
pub record ReportsInput (input text : List ℕ) : Type 0 where
  pub settings : Settings
  pub stack : List ℕ
  pub sizes : Sizes
  pub sound : Sound input settings stack sizes
  pub report : ReportsStack settings sizes (stack_cells sizes stack) text

-- the two lines are right, and the stack has this fault, its byte counted from the input's start
pub record FaultyStack (input : List ℕ) (fault : StackFault) : Type 0 where
  pub settings : Settings
  pub stack : List ℕ
  pub job : IsJob input settings stack
  pub in_stack : StackFault
  pub faulty : FaultyBytes stack in_stack
  pub cause : fault.cause ≡ in_stack.cause
  pub image : fault.image ≡ in_stack.image
  pub byte : fault.byte + length stack ≡ length input + in_stack.byte

-- the two lines are right and the stack is sound, and it has more than 2,048 cells; it starts at this byte
pub record TooLarge (input : List ℕ) (start : ℕ) : Type 0 where
  pub settings : Settings
  pub stack : List ℕ
  pub job : IsJob input settings stack
  pub sizes : Sizes
  pub form : IsStack stack sizes
  pub grid : IsGrid sizes
  pub many : 2048 < cell_count sizes
  pub byte : start + length stack ≡ length input

-- the input is sound
pub record SoundInput (input : List ℕ) : Type 0 where
  pub settings : Settings
  pub stack : List ℕ
  pub sizes : Sizes
  pub sound : Sound input settings stack sizes

-- the input is sound, and no cell of its stack is marked
pub record NothingMarked (input : List ℕ) : Type 0 where
  pub settings : Settings
  pub stack : List ℕ
  pub sizes : Sizes
  pub sound : Sound input settings stack sizes
  pub unmarked : Unmarked sizes (marks_by_number sizes (stack_cells sizes stack))

-- the first question about the input that is answered no
abbrev pub FaultyInput : List ℕ → ReportFault → Type 0
FaultyInput input (Job f) = FaultyJob input f
FaultyInput input (Stack f) = FaultyStack input f
FaultyInput input (LargeStack start) = TooLarge input start
FaultyInput input (Field e) = (e ≡ NoMark) × NothingMarked input

-- why there is no report: the input's fault, or want of memory, which is told only of a sound input
abbrev pub Refuses : List ℕ → ReportError → Type 0
Refuses input (Fault f) = FaultyInput input f
Refuses input NoMemory = SoundInput input
