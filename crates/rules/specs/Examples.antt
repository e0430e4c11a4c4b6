-- Worked examples of distances and crossings, over the definitions that the contracts cite.
use Rattle.std.specs.Prelude.{◌≡◌, ℕ, ◌-◌, ◌*◌, ◌<◌, ◌≤◌, min, Some, None}
use Rattle.grid.specs.declared.refusal.Refusal.TheVariants.{SpacingRange}
use Rattle.grid.specs.declared.sizes.Sizes.{Sizes}
use Rattle.grid.specs.Geometry.{Place, cell_number}
use Rattle.grid.specs.Distance.{Near, distance}
use Rattle.rules.specs.declared.spacings.Spacings.{Spacings}
use Rattle.rules.specs.Ranges.{IsCrossing}
use Rattle.rules.specs.Laws.{Crossing}
use Rattle.rules.specs.Doors.{spacing_door}
use Rattle.rules.specs.Formulas.{HasSpacings, spacing, square, square_near, block_near, chess_near}

abbrev grid_of : ℕ → ℕ → ℕ → Sizes
grid_of x y z = record { nx = x; ny = y; nz = z }

-- the distance at the first cell of a grid from the cell at the place p
abbrev from_place : Near → Sizes → Place → ℕ
from_place near s p = distance near s 3 0 (cell_number s p)

-- distances under the spacings 2, 3 and 5, named by the places apart on each axis
pub record Distances (s : Spacings) : Type 0 where
  pub square_1_1_1 : from_place (square_near s) (grid_of 2 2 2) (1, 1, 1) ≡ 38
  pub block_1_2_1 : from_place (block_near s) (grid_of 2 3 2) (1, 2, 1) ≡ 13
  pub chess_4_2_1 : from_place (chess_near s) (grid_of 5 3 2) (4, 2, 1) ≡ 8

-- crossings on axis 2 where its spacing is 1: of a point at i that carries g and one at j that carries h, given as i g j h
pub record Crossings (s : Spacings) : Type 0 where
  pub square_midway : IsCrossing (square_near s) 2 0 0 4 0 2
  pub square_past_midway : IsCrossing (square_near s) 2 0 0 5 0 3
  pub square_later_carries : IsCrossing (square_near s) 2 0 0 1 9 5
  pub square_earlier_carries : IsCrossing (square_near s) 2 0 9 1 0 0
  pub square_nowhere : IsCrossing (square_near s) 2 3 0 4 8000 1023
  pub block_at_the_later : IsCrossing (block_near s) 2 0 0 2 1 2
  pub block_nowhere : IsCrossing (block_near s) 2 0 0 2 3 1023
  pub chess_tied_at_once : IsCrossing (chess_near s) 2 0 1 1 1 0
  pub chess_later_carries : IsCrossing (chess_near s) 2 0 0 1 5 5

pub record WorkedExamples : Type 0 where
  pub spacings_accepted : spacing_door 2 3 5 ≡ None
  pub widest_accepted : spacing_door 10000 10000 10000 ≡ None
  pub zero_refused : spacing_door 1 0 1 ≡ Some SpacingRange
  pub wider_refused : spacing_door 1 1 10001 ≡ Some SpacingRange
  pub distances : (s : Spacings) → HasSpacings s 2 3 5 → Distances s
  pub crossings : (s : Spacings) → spacing s 2 ≡ 1 → Crossings s

-- the square rule with spacing 1 on each axis, and no cost above n
abbrev pub capped_square : ℕ → Near
capped_square n d i t g = min n (square 1 i t g)

-- shortcuts that spoil a field
pub record ShortcutsSpoil : Type 0 where
  -- the crossing of points at 0 and 5 rounded down gives place 2 to the later, at 9 in place of 4
  pub rounding_down : (square 1 0 2 0 ≡ 4) × (square 1 5 2 0 ≡ 9)
  -- with spacings 1 and 10 a cell three places off on axis 1 is nearer than one a single place off on axis 2
  pub counting_cells : (s : Spacings) → HasSpacings s 1 10 1 → (from_place (square_near s) (grid_of 4 2 1) (3, 0, 0) ≡ 9) × (from_place (square_near s) (grid_of 4 2 1) (0, 1, 0) ≡ 100)
  -- capped at any number between the squares of two neighbouring places, the rule breaks the law of crossing
  pub capping : (ceiling : ℕ → ℕ) (a n : ℕ) → 1 ≤ a → a < 1022 → (a - 1) * (a - 1) < n → n ≤ a * a → Crossing ceiling (capped_square n) → ⊥
