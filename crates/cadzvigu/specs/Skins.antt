-- What the array of signed distances holds.
use Rattle.std.specs.Prelude.{◌≡◌, ℕ, ◌<◌, Bool, List, length, ℤ}
use Rattle.grid.specs.declared.sizes.Sizes.{Sizes}
use Rattle.grid.specs.Geometry.{Place, cell_count}
use Rattle.grid.specs.Distance.{Near}
use Rattle.rules.specs.declared.name.RuleName.{RuleName}
use Rattle.rules.specs.declared.spacings.Spacings.{Spacings}
use Rattle.rules.specs.Formulas.{HasSpacings}
use Rattle.rules.specs.Named.{named_near}
use Rattle.rules.specs.Names.{rule_number}
use Rattle.signed.specs.Distances.{signed_distance}
use Rattle.signed.specs.Fields.{TellsFace, number_at}
use Rattle.cadzvigu.specs.Nearests.{byte_cells}

-- for each cell k the number is its signed distance: its distance from a face place, negated where the cell is marked, and
-- every other face place is at least as far
pub record HoldsSigned (near : Near) (s : Sizes) (marks : Place → Bool) (numbers : List ℤ) : Type 0 where
  pub one_each : length numbers ≡ cell_count s
  pub each : (k : ℕ) → k < cell_count s → number_at numbers k ≡ signed_distance near s marks k
  pub faces : (k : ℕ) → k < cell_count s → TellsFace near s marks k (number_at numbers k)

abbrev pub SignedOfBytes : Near → Sizes → List ℕ → List ℤ → Type 0
SignedOfBytes near s bytes numbers = HoldsSigned near s (byte_cells s bytes) numbers

-- the same under the rule with a number, over three spacings, each that of one half step
pub record SignedBy (rule : ℕ) (spacings : ℕ × ℕ × ℕ) (s : Sizes) (bytes : List ℕ) (numbers : List ℤ) : Type 0 where
  pub kind : RuleName
  pub numbered : rule ≡ rule_number kind
  pub over : Spacings
  pub as_given : HasSpacings over spacings.0 spacings.1 spacings.2
  pub field : SignedOfBytes (named_near kind over) s bytes numbers
