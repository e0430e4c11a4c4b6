-- The status number tells how a call ended.
use Rattle.std.specs.Prelude.{◌≡◌, Result}
use Rattle.cadzvigu.specs.declared.fault.Fault.{Fault}
use Rattle.cadzvigu.specs.Statuses.{status_number}

-- two ways to end have two numbers
abbrev pub StatusesDiffer : Type 0
StatusesDiffer = (one other : Result (Unit {0}) Fault) → status_number one ≡ status_number other → one ≡ other
