-- What an open door of the sizes says.
use Rattle.std.proofs.Common.{◌≡◌, ℕ, Bool, true, false, leb, None, Option, refl, arith}
use Rattle.std.proofs.lemmas.Bool.{and_from}
use Rattle.grid.specs.declared.refusal.Refusal.{Refusal}
use Rattle.grid.specs.declared.sizes.Sizes.{Sizes}
use Rattle.grid.specs.Geometry.{IsGrid, sizes_fit, cell_count}
use Rattle.grid.specs.Grids.{grid_from_test}
use Rattle.grid.specs.Doors.{unless, sizes_door}

-- a question that is passed was answered yes, and so were those after it
pub passed_yes : (b : Bool) (e : Refusal) (rest : Option Refusal) → unless b e rest ≡ None → b ≡ true
passed_yes true e rest h = refl
passed_yes false e rest h = let z : ◌≡◌ {A = ℕ} 0 1 = cc in absurd (omega arith)

pub passed_rest : (b : Bool) (e : Refusal) (rest : Option Refusal) → unless b e rest ≡ None → rest ≡ None
passed_rest true e rest h = h
passed_rest false e rest h = let z : ◌≡◌ {A = ℕ} 0 1 = cc in absurd (omega arith)

-- sizes that are accepted are those of a grid
pub grid_from_door : (s : Sizes) → sizes_door s ≡ None → IsGrid s
grid_from_door s h =
    let rest = passed_rest (sizes_fit s) _ _ h in
    grid_from_test s (and_from (sizes_fit s) (leb (cell_count s) 16777216) (passed_yes (sizes_fit s) _ _ h) (passed_yes (leb (cell_count s) 16777216) _ _ rest))
