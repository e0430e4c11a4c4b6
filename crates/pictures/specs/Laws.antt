-- What every picture keeps, and two ways to keep it.
use Rattle.std.specs.Prelude.{◌≡◌, Bool, false, ◌&&◌}
use Rattle.std.proofs.Common.{ap}
use Rattle.grid.specs.declared.sizes.Sizes.{Sizes}
use Rattle.grid.specs.Geometry.{Place, IsGrid, as_grid, inside}
use Rattle.grid.specs.Grids.{as_grid_is_grid}

-- every picture has the sizes of a grid, and marks no place outside its grid
pub record Lawful {S : Type 0} (extent : S → Sizes) (marks : S → Place → Bool) : Type 0 where
  pub grid : (s : S) → IsGrid (extent s)
  pub outside : (s : S) (at : Place) → inside (extent s) at ≡ false → marks s at ≡ false

-- a picture that asks first whether the place lies in its grid
pub lawful_within : {S : Type 0} (extent : S → Sizes) (test : S → Place → Bool) → ((s : S) → IsGrid (extent s)) → Lawful extent (λ s at. inside (extent s) at && test s at)
lawful_within extent test grid = record { grid = grid; outside = λ s at out. ap (λ b. b && test s at) out }

-- a picture that reads sizes which are no grid's as those of a single cell
pub lawful_as_grid : {S : Type 0} (sizes : S → Sizes) (test : S → Place → Bool) → Lawful (λ s. as_grid (sizes s)) (λ s at. inside (as_grid (sizes s)) at && test s at)
lawful_as_grid sizes test = lawful_within (λ s. as_grid (sizes s)) test (λ s. as_grid_is_grid (sizes s))
