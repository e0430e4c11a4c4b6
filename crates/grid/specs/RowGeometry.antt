-- The rows of a grid: where their cells are.
-- A row of an axis has one cell at each place of that axis. Rows are numbered from 0 by their places on the two other
-- axes: y + ny * z on axis 1, x + nx * z on axis 2, x + nx * y on axis 3.
use Rattle.std.specs.Prelude.{◌≡◌, ℕ, zero, suc, ◌+◌, ◌-◌, ◌*◌, ◌/◌, ◌%◌, ◌<◌, ◌≤◌}
use Rattle.grid.specs.declared.sizes.Sizes.{Sizes}
use Rattle.grid.specs.declared.row.Row.{Row}
use Rattle.grid.specs.Geometry.{IsGrid, cell_count, axis_size, cell_number, place_on}

-- an axis that has rows
abbrev pub OnAxis : ℕ → Type 0
OnAxis d = (1 ≤ d) × (d ≤ 3)

-- how many rows the axis d has
abbrev pub row_count : Sizes → ℕ → ℕ
row_count s zero = cell_count s
row_count s (suc zero) = s.ny * s.nz
row_count s (suc (suc zero)) = s.nx * s.nz
row_count s (suc (suc (suc d))) = s.nx * s.ny

-- these are the sizes of a grid, whose axis d has a row of the number m
pub record HasRow (s : Sizes) (d m : ℕ) : Type 0 where
  pub grid : IsGrid s
  pub axis : OnAxis d
  pub number : m < row_count s d

-- the cell at the place i of the row m of the axis d
abbrev pub row_cell : Sizes → ℕ → ℕ → ℕ → ℕ
row_cell s zero m i = m
row_cell s (suc zero) m i = cell_number s (i, m % s.ny, m / s.ny)
row_cell s (suc (suc zero)) m i = cell_number s (m % s.nx, i, m / s.nx)
row_cell s (suc (suc (suc d))) m i = cell_number s (m % s.nx, m / s.nx, i)

-- how far apart the cells of a row of the axis d are, and where the row m starts
abbrev pub row_stride : Sizes → ℕ → ℕ
row_stride s zero = 0
row_stride s (suc zero) = 1
row_stride s (suc (suc zero)) = s.nx
row_stride s (suc (suc (suc d))) = s.nx * s.ny

abbrev pub row_start : Sizes → ℕ → ℕ → ℕ
row_start s zero m = m
row_start s (suc zero) m = s.nx * m
row_start s (suc (suc zero)) m = m % s.nx + s.nx * s.ny * (m / s.nx)
row_start s (suc (suc (suc d))) m = m

-- the row m of the axis d
abbrev pub row_of : Sizes → ℕ → ℕ → Row
row_of s d m = record { start = row_start s d m; stride = row_stride s d; count = axis_size s d }

-- the number of the cell at the place i of a row
abbrev pub row_at : Row → ℕ → ℕ
row_at row i = row.start + row.stride * i

-- a row with places for a rule, all of whose cells are among the first n
pub record LiesIn (row : Row) (n : ℕ) : Type 0 where
  pub stepped : 1 ≤ row.stride
  pub not_empty : 1 ≤ row.count
  pub few_places : row.count ≤ 1023
  pub last_below : row_at row (row.count - 1) < n

-- the rows of the axis d part the grid: each cell is in one row, at its place on the axis
pub record Parted (s : Sizes) (d : ℕ) : Type 0 where
  pub in_grid : (m i : ℕ) → m < row_count s d → i < axis_size s d → row_cell s d m i < cell_count s
  pub at_its_place : (m i : ℕ) → m < row_count s d → i < axis_size s d → place_on s d (row_cell s d m i) ≡ i
  pub one_stride_apart : (m i : ℕ) → row_cell s d m i ≡ row_at (row_of s d m) i
  pub each_in_a_row : (k : ℕ) → k < cell_count s → (m : ℕ) × (m < row_count s d) × (row_cell s d m (place_on s d k) ≡ k)
  pub in_no_other : (m n i j : ℕ) → m < row_count s d → n < row_count s d → i < axis_size s d → j < axis_size s d
      → row_cell s d m i ≡ row_cell s d n j → (m ≡ n) × (i ≡ j)
  pub lies_in_grid : (m : ℕ) → m < row_count s d → LiesIn (row_of s d m) (cell_count s)

abbrev pub RowsPart : Type 0
RowsPart = (s : Sizes) → IsGrid s → (d : ℕ) → OnAxis d → Parted s d
