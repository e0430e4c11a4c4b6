-- What a caller reads off the answer of a pass.
use Rattle.std.proofs.Common.{ℕ, List, Result, sym, subst}
use Rattle.grid.specs.declared.cell.Cell.{Cell}
use Rattle.grid.specs.declared.refusal.Refusal.{Refusal}
use Rattle.grid.specs.declared.sizes.Sizes.{Sizes}
use Rattle.grid.specs.Distance.{Near}
use Rattle.grid.specs.Geometry.{axis_size}
use Rattle.grid.specs.RowGeometry.{OnAxis, row_of}
use Rattle.grid.proofs.Rows.{row_cells_are}
use Rattle.rows.specs.Passes.{PlacesWorked, Worked, GridRowWorked}

-- a row of a slice that is a row of a grid: the same answer, in the words of the grid
pub worked_in_grid : {T : Type 0} (r : Result T Refusal) (near : Near) (ceiling : ℕ → ℕ) (s : Sizes) (d m : ℕ) (before after : List Cell) → OnAxis d
    → Worked r near ceiling d (row_of s d m) before after → GridRowWorked r near ceiling s d m before after
worked_in_grid r near ceiling s d m before after on =
    subst (λ (at : ℕ → ℕ). PlacesWorked r near ceiling d (axis_size s d) at before after) (sym (row_cells_are s d m on))
