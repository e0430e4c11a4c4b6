-- A grid of nx * ny * nz cells: its sizes, the places and numbers of its cells, and its slabs.
-- Axes are counted from 1: axis 1 is x, axis 2 is y, axis 3 is z. Places are counted from 0.
use Rattle.std.specs.Prelude.{◌≡◌, ℕ, zero, suc, ◌+◌, ◌*◌, ◌/◌, ◌%◌, ◌<◌, ◌≤◌, Bool, cond, ◌&&◌, nat_le, nat_lt}
use Rattle.grid.specs.declared.sizes.Sizes.{Sizes}

-- a place on each of the three axes
abbrev pub Place : Type 0
Place = ℕ × ℕ × ℕ

abbrev pub cell_count : Sizes → ℕ
cell_count s = s.nx * s.ny * s.nz

-- a size that a grid can have on an axis
abbrev pub IsSize : ℕ → Type 0
IsSize n = (1 ≤ n) × (n ≤ 1023)

abbrev pub SizesFit : Sizes → Type 0
SizesFit s = IsSize s.nx × IsSize s.ny × IsSize s.nz

-- the sizes of a grid
abbrev pub IsGrid : Sizes → Type 0
IsGrid s = SizesFit s × (cell_count s ≤ 16777216)

-- the same as tests
abbrev pub is_size : ℕ → Bool
is_size n = nat_le 1 n && nat_le n 1023

abbrev pub sizes_fit : Sizes → Bool
sizes_fit s = is_size s.nx && (is_size s.ny && is_size s.nz)

abbrev pub is_grid : Sizes → Bool
is_grid s = sizes_fit s && nat_le (cell_count s) 16777216

-- the smallest grid
abbrev pub one_cell : Sizes
one_cell = record { nx = 1; ny = 1; nz = 1 }

-- these sizes where they are those of a grid, else those of a single cell
unfoldable pub as_grid : Sizes → Sizes
as_grid s = cond (is_grid s) s one_cell

-- whether the place p lies in the grid
abbrev pub inside : Sizes → Place → Bool
inside s p = nat_lt p.0 s.nx && (nat_lt p.1 s.ny && nat_lt p.2 s.nz)

-- the number of the cell at the place p
abbrev pub cell_number : Sizes → Place → ℕ
cell_number s p = p.0 + s.nx * (p.1 + s.ny * p.2)

-- how many places the axis d has
abbrev pub axis_size : Sizes → ℕ → ℕ
axis_size s zero = 1
axis_size s (suc zero) = s.nx
axis_size s (suc (suc zero)) = s.ny
axis_size s (suc (suc (suc d))) = s.nz

-- the place of the cell k on the axis d
abbrev pub place_on : Sizes → ℕ → ℕ → ℕ
place_on s zero k = 0
place_on s (suc zero) k = k % s.nx
place_on s (suc (suc zero)) k = k / s.nx % s.ny
place_on s (suc (suc (suc d))) k = k / (s.nx * s.ny)

-- the place of the cell k
abbrev pub place_of : Sizes → ℕ → Place
place_of s k = (place_on s 1 k, place_on s 2 k, place_on s 3 k)

-- b is in the slab of a at the level d: both have the same place on every axis above d
abbrev pub SameAbove : Sizes → ℕ → ℕ → ℕ → Type 0
SameAbove s d a b = (e : ℕ) → d < e → e ≤ 3 → place_on s e a ≡ place_on s e b
