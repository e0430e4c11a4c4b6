-- The questions that the calls of a job ask. They are asked of the sizes, of marks and of levels, wherever these are
-- kept: in the records of lent cells, or in a book.
use Rattle.std.specs.Prelude.{ℕ, zero, suc, ◌-◌, Bool, false, ◌&&◌, ◌||◌, List, length, None, Option, ◌==◌, nat_eq, nat_le, nat_lt}
use Rattle.grid.specs.declared.cell.Cell.{Cell}
use Rattle.grid.specs.declared.refusal.Refusal.{Refusal}
use Rattle.grid.specs.declared.refusal.Refusal.TheVariants as refusal
use Rattle.grid.specs.declared.sizes.Sizes.{Sizes}
use Rattle.grid.specs.Geometry.{Place, axis_size, cell_count, inside, sizes_fit}
use Rattle.grid.specs.RowGeometry.{row_cell, row_count}
use Rattle.grid.specs.Cells.{Marks}
use Rattle.grid.specs.Doors.{unless}
use Rattle.grid.specs.RowDoors.{all_places, row_below}
use Rattle.grid.specs.Rows.{records}
use Rattle.job.specs.Cells.{Levels, levels_in}

-- whether one of the first n places passes a test
abbrev pub some_place : ℕ → (ℕ → Bool) → Bool
some_place zero test = false
some_place (suc n) test = test n || some_place n test

abbrev pub same_sizes : Sizes → Sizes → Bool
same_sizes s t = s.nx == t.nx && (s.ny == t.ny && s.nz == t.nz)

-- mark, wipe and look: is the place in the grid?
abbrev pub place_door : Sizes → Place → Option Refusal
place_door s p = unless (inside s p) refusal.OutsideGrid None

-- load: are the picture's sizes, t, the job's?
abbrev pub load_door : Sizes → Sizes → Option Refusal
load_door s t = unless (same_sizes t s) refusal.OtherSizes None

-- start: is a cell marked?
abbrev pub start_door : Sizes → Marks → Option Refusal
start_door s marks = unless (some_place (cell_count s) marks) refusal.NoMark None

-- row: is its number below the count of rows, and do all its cells stand at the level below the axis d?
abbrev pub row_door : Sizes → ℕ → ℕ → Levels → Option Refusal → Option Refusal
row_door s d m levels rest =
    unless (nat_lt m (row_count s d)) refusal.NoSuchRow
    (unless (all_places (axis_size s d) (λ i. nat_eq (levels (row_cell s d m i)) (d - 1))) refusal.RowLevel rest)

-- raise: do all cells stand at the level d?
abbrev pub raise_door : Sizes → ℕ → Levels → Option Refusal
raise_door s d levels = unless (all_places (cell_count s) (λ k. nat_eq (levels k) d)) refusal.RowsLeft None

-- What is asked of lent cells comes before and after these.

-- the first question of every call: are exactly as many cells lent as the grid has?
abbrev pub lent : Sizes → List Cell → Option Refusal → Option Refusal
lent s cells rest = unless (length cells == cell_count s) refusal.CellCount rest

-- begin: is each size from 1 to 1,023, are there at most 16,777,216 cells, and are as many lent?
abbrev pub begin_door : Sizes → List Cell → Option Refusal
begin_door s cells =
    unless (sizes_fit s) refusal.SizeRange (unless (nat_le (cell_count s) 16777216) refusal.TooManyCells (lent s cells None))

-- the last question of row: is each value in it at most the ceiling of the axis below?
abbrev pub value_door : (ℕ → ℕ) → Sizes → ℕ → ℕ → List Cell → Option Refusal
value_door ceiling s d m cells =
    unless (row_below (axis_size s d) (records cells (row_cell s d m)) (ceiling (d - 1))) refusal.RowValue None

-- all questions of row, asked of lent cells
abbrev pub lent_row_door : (ℕ → ℕ) → Sizes → ℕ → ℕ → List Cell → Option Refusal
lent_row_door ceiling s d m cells = lent s cells (row_door s d m (levels_in cells) (value_door ceiling s d m cells))
