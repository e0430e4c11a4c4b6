-- The distance between two cells under a rule, axis by axis.
use Rattle.std.specs.Prelude.{ℕ, zero, suc}
use Rattle.grid.specs.declared.sizes.Sizes.{Sizes}
use Rattle.grid.specs.Geometry.{place_on}

-- what a rule means: near d i t g is the cost at place t on axis d of a point at place i that carries g from the axes below
abbrev pub Near : Type 0
Near = ℕ → ℕ → ℕ → ℕ → ℕ

-- the distance at the cell k from the cell p, stopped after axis d: its distance at the level d
abbrev pub distance : Near → Sizes → ℕ → ℕ → ℕ → ℕ
distance near s zero k p = 0
distance near s (suc d) k p = near (suc d) (place_on s (suc d) p) (place_on s (suc d) k) (distance near s d k p)
