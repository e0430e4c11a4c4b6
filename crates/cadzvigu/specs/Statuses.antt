-- How a call ends, and the status number by which it says so.
use Rattle.std.specs.Prelude.{◌≡◌, ℕ, Some, None, Ok, Err, Option, Result}
use Rattle.grid.specs.Refusals.{refusal_number}
use Rattle.replay.specs.declared.new_cells.FieldError.{FieldError}
use Rattle.replay.specs.declared.new_cells.FieldError.TheVariants as field
use Rattle.cadzvigu.specs.declared.fault.Fault.{Fault}
use Rattle.cadzvigu.specs.declared.fault.Fault.TheVariants.{Refused, UnknownRule, NoMemory}

abbrev pub fault_number : Fault → ℕ
fault_number (Refused e) = refusal_number e
fault_number UnknownRule = 100
fault_number NoMemory = 101

-- why a field is not found, told as the fault of a call
abbrev pub field_fault : FieldError → Fault
field_fault (field.Refused e) = Refused e
field_fault field.NoMemory = NoMemory

-- 0 is that all is done
abbrev pub status_number : {T : Type 0} → Result T Fault → ℕ
status_number (Ok _) = 0
status_number (Err f) = fault_number f

-- a call can have this fault: it is the one that its door tells, and want of memory is told only where the door is open
abbrev pub CanHave : Option Fault → Fault → Type 0
CanHave door (Refused e) = door ≡ Some (Refused e)
CanHave door UnknownRule = door ≡ Some UnknownRule
CanHave door NoMemory = door ≡ None

-- the door is open and all that was asked for is there (`New`), or the call has a fault and nothing has changed (`Same`)
abbrev pub Ends : {T : Type 0} → Result T Fault → Option Fault → Type 0 → Type 0 → Type 0
Ends (Ok _) door Same New = (door ≡ None) × New
Ends (Err f) door Same New = CanHave door f × Same

-- the same told by the status number alone
pub record Tells (status : ℕ) (door : Option Fault) (Same New : Type 0) : Type 0 where
  pub outcome : Result (Unit {0}) Fault
  pub number : status ≡ status_number outcome
  pub ends : Ends outcome door Same New
