-- The tests of a grid's sizes tell what they say. These facts stand here, and not with the proofs, since what a
-- picture means rests on them: the sizes of every picture are those of a grid.
use Rattle.std.specs.Prelude.{◌≡◌, ℕ, true, nat_le}
use Rattle.std.proofs.Common.{arith}
use Rattle.std.proofs.lemmas.Bool.{and_parts, and_from, leb-true, le-leb, cond_both, cond-true}
use Rattle.grid.specs.declared.sizes.Sizes.{Sizes}
use Rattle.grid.specs.Geometry.{IsSize, SizesFit, IsGrid, is_size, sizes_fit, is_grid, as_grid, one_cell, cell_count}

size_from_test : (n : ℕ) → is_size n ≡ true → IsSize n
size_from_test n h = let a = and_parts (nat_le 1 n) (nat_le n 1023) h in (leb-true 1 n a.0, leb-true n 1023 a.1)

pub sizes_from_test : (s : Sizes) → sizes_fit s ≡ true → SizesFit s
sizes_from_test s h =
    let a = and_parts (is_size s.nx) _ h in
    let b = and_parts (is_size s.ny) _ a.1 in
    (size_from_test s.nx a.0, size_from_test s.ny b.0, size_from_test s.nz b.1)

pub grid_from_test : (s : Sizes) → is_grid s ≡ true → IsGrid s
grid_from_test s h = let a = and_parts (sizes_fit s) _ h in (sizes_from_test s a.0, leb-true (cell_count s) 16777216 a.1)

size_to_test : (n : ℕ) → IsSize n → is_size n ≡ true
size_to_test n h = and_from (nat_le 1 n) (nat_le n 1023) (le-leb 1 n h.0) (le-leb n 1023 h.1)

pub sizes_to_test : (s : Sizes) → SizesFit s → sizes_fit s ≡ true
sizes_to_test s h =
    and_from (is_size s.nx) _ (size_to_test s.nx h.0)
    (and_from (is_size s.ny) _ (size_to_test s.ny h.1) (size_to_test s.nz h.2))

pub grid_to_test : (s : Sizes) → IsGrid s → is_grid s ≡ true
grid_to_test s h = and_from (sizes_fit s) _ (sizes_to_test s h.0) (le-leb (cell_count s) 16777216 h.1)

one_cell_is_grid : IsGrid one_cell
one_cell_is_grid = (((omega arith, omega arith), (omega arith, omega arith), (omega arith, omega arith)), omega arith)

pub as_grid_is_grid : (s : Sizes) → IsGrid (as_grid s)
unfolding as_grid
as_grid_is_grid s = cond_both (is_grid s) s one_cell IsGrid (grid_from_test s) (λ _. one_cell_is_grid)

pub as_grid_keeps_grids : (s : Sizes) → IsGrid s → as_grid s ≡ s
unfolding as_grid
as_grid_keeps_grids s h = cond-true (is_grid s) s one_cell (grid_to_test s h)
