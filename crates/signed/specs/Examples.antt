-- The worked examples, over the definitions that the contracts cite.
use Rattle.std.specs.Prelude.{◌≡◌, ℕ, Bool, ◌&&◌, ℤ, pos, negsuc, None, ◌==◌}
use Rattle.grid.specs.declared.sizes.Sizes.{Sizes}
use Rattle.grid.specs.Geometry.{Place}
use Rattle.grid.specs.Distance.{Near}
use Rattle.rules.specs.declared.spacings.Spacings.{Spacings}
use Rattle.rules.specs.Examples.{WorkedExamples}
use Rattle.rules.specs.Formulas.{HasSpacings, square_near}
use Rattle.signed.specs.Distances.{signed_distance}
use Rattle.signed.specs.Doors.{signed_door}

abbrev two_by_two : Sizes
two_by_two = record { nx = 2; ny = 2; nz = 1 }

-- only the first cell is marked
abbrev first_cell : Place → Bool
first_cell p = p.0 == 0 && (p.1 == 0 && p.2 == 0)

abbrev number_of : Near → ℕ → ℤ
number_of near k = signed_distance near two_by_two first_cell k

-- by the square rule with spacings 1 the numbers of the four cells are -1, 1, 1 and 2; the last is that of the corner
-- where the two faces meet
pub record FourCells (near : Near) : Type 0 where
  pub cell_0_0 : number_of near 0 ≡ negsuc 0
  pub cell_1_0 : number_of near 1 ≡ pos 1
  pub cell_0_1 : number_of near 2 ≡ pos 1
  pub cell_1_1 : number_of near 3 ≡ pos 2

pub record SignedExample : Type 0 where
  pub accepted : signed_door two_by_two first_cell 9 4 ≡ None
  pub numbers : (spacings : Spacings) → HasSpacings spacings 1 1 1 → FourCells (square_near spacings)

-- all worked examples: the distances and crossings of the rules, and the signed field
pub record AllExamples : Type 0 where
  pub rules : WorkedExamples
  pub signed_field : SignedExample
