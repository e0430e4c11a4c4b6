-- What a caller reads off a row that is worked.
use Rattle.std.proofs.Common.{◌≡◌, ℕ, List, sym, subst}
use mathlib.Core.Path.{fun_ext}
use Rattle.grid.specs.declared.sizes.Sizes.{Sizes}
use Rattle.grid.specs.declared.cell.Cell.{Cell}
use Rattle.grid.specs.Geometry.{axis_size}
use Rattle.grid.specs.RowGeometry.{OnAxis, row_cell, row_at, row_of}
use Rattle.grid.specs.Distance.{Near}
use Rattle.grid.specs.Rows.{RowDone, SliceRowDone, GridRowDone}
use Rattle.grid.proofs.RowCells.{row_steps}

-- the cells of a row of the grid are those of its start, stride and count
pub row_cells_are : (s : Sizes) (d m : ℕ) → OnAxis d → row_cell s d m ≡ row_at (row_of s d m)
row_cells_are s d m on = fun_ext (λ i. row_steps s d m i on)

-- so it is worked in the grid where it is worked in the slice
pub grid_row_done : (near : Near) (s : Sizes) (d m : ℕ) (before after : List Cell) → OnAxis d
    → SliceRowDone near d (row_of s d m) before after → GridRowDone near s d m before after
grid_row_done near s d m before after on done =
    subst (λ (at : ℕ → ℕ). RowDone near d (axis_size s d) at before after) (sym (row_cells_are s d m on)) done
