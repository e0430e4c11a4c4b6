-- The worked example, computed.
use Rattle.std.proofs.Common.{◌≡◌, ℕ, cond, leb, sym, refl, subst}
use Rattle.grid.specs.Distance.{Near}
use Rattle.rules.specs.declared.spacings.Spacings.{Spacings}
use Rattle.rules.specs.Formulas.{HasSpacings, square, square_near}
use Rattle.grid.specs.Geometry.{as_grid}
use Rattle.pictures.specs.Kinds.{count_below}
use Rattle.signed.specs.Examples.{FourCells, SignedExample}

-- the square rule by its three spacings
abbrev by_spacings : ℕ → ℕ → ℕ → Near
by_spacings a b c d i t g = square (cond (leb d 1) a (cond (leb d 2) b c)) i t g

all_one : (s : Spacings) → HasSpacings s 1 1 1 → square_near s ≡ by_spacings 1 1 1
all_one s has =
    let spaced : by_spacings s.sx s.sy s.sz ≡ by_spacings 1 1 1 = rw (has.on_x, has.on_y, has.on_z) in
    spaced

four_cells : FourCells (by_spacings 1 1 1)
unfolding as_grid
four_cells = record { cell_0_0 = refl; cell_1_0 = refl; cell_0_1 = refl; cell_1_1 = refl }

pub signed_example : SignedExample
unfolding as_grid count_below
signed_example = record { accepted = refl; numbers = λ s has. subst FourCells (sym (all_one s has)) four_cells }
