-- The question that is asked of the spacings of a rule.
use Rattle.std.specs.Prelude.{ℕ, Bool, ◌&&◌, None, Option, nat_le}
use Rattle.grid.specs.declared.refusal.Refusal.{Refusal}
use Rattle.grid.specs.declared.refusal.Refusal.TheVariants.{SpacingRange}
use Rattle.grid.specs.Doors.{unless}

-- whether an axis can have this spacing
abbrev pub is_spacing : ℕ → Bool
is_spacing s = nat_le 1 s && nat_le s 10000

-- is each spacing from 1 to 10,000?
abbrev pub spacing_door : ℕ → ℕ → ℕ → Option Refusal
spacing_door a b c = unless (is_spacing a && (is_spacing b && is_spacing c)) SpacingRange None
