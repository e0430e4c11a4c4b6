-- A row of the job's axis is worked where it is worked in the slice of cells.
use Rattle.std.proofs.Common.{◌≡◌, ℕ, ◌-◌, ◌<◌, eqb, ltb, List, length, Some, Ok, Err, Option, Result, sym, ap, ◌∙◌, subst}
use Rattle.std.proofs.lemmas.Bool.{cond-true, eq-eqb, lt-ltb}
use Rattle.grid.specs.declared.cell.Cell.{Cell}
use Rattle.grid.specs.declared.row.Row.{Row}
use Rattle.grid.specs.declared.refusal.Refusal.{Refusal}
use Rattle.grid.specs.declared.refusal.Refusal.TheVariants as refusal
use Rattle.grid.specs.declared.sizes.Sizes.{Sizes}
use Rattle.grid.specs.Distance.{Near}
use Rattle.grid.specs.Geometry.{IsGrid, axis_size, cell_count}
use Rattle.grid.specs.RowDoors.{row_cells_door}
use Rattle.grid.specs.RowGeometry.{OnAxis, LiesIn, row_count, row_of}
use Rattle.grid.specs.Rows.{records}
use Rattle.grid.proofs.RowCells.{row_lies}
use Rattle.grid.proofs.Rows.{row_cells_are, grid_row_done}
use Rattle.rows.specs.Passes.{Worked, pass_door}
use Rattle.job.specs.Changes.{WorksRow}
use Rattle.job.specs.Doors.{lent, lent_row_door}

-- the first question, where the cells are as many as they should be
pub lent_open : (s : Sizes) (cells : List Cell) (rest : Option Refusal) → length cells ≡ cell_count s → lent s cells rest ≡ rest
lent_open s cells rest fits = cond-true (eqb (length cells) (cell_count s)) rest (Some refusal.CellCount) (eq-eqb _ _ fits)

module _ (s : Sizes) (d m : ℕ) (on : OnAxis d) (cells : List Cell) (fits : length cells ≡ cell_count s) (below : m < row_count s d) (row : Row) (is_row : row ≡ row_of s d m) where
  pub lies : IsGrid s → LiesIn row (length cells)
  lies grid = subst (λ r. LiesIn r (length cells)) (sym is_row) (subst (LiesIn (row_of s d m)) (sym fits) (row_lies s grid d m on below))

  module _ (near : Near) (ceiling : ℕ → ℕ) where
    door_is : lent_row_door ceiling s d m cells ≡ pass_door ceiling d row cells
    door_is =
        lent_open s cells _ fits
        ∙ cond-true (ltb m (row_count s d)) _ (Some refusal.NoSuchRow) (lt-ltb m (row_count s d) below)
        ∙ ap (λ (at : ℕ → ℕ). row_cells_door (axis_size s d) (records cells at) (d - 1) (ceiling (d - 1))) (row_cells_are s d m on)
        ∙ ap (λ r. pass_door ceiling d r cells) (sym is_row)

    pub works_row : {X : Type 0} (r : Result X Refusal) (after : List Cell) → Worked r near ceiling d row cells after → WorksRow r near ceiling s d m cells after
    works_row (Ok x) after h =
        (door_is ∙ h.0, grid_row_done near s d m cells after on (subst (λ r. Worked (Ok x) near ceiling d r cells after) is_row h).1)
    works_row (Err e) after h = (door_is ∙ h.0, h.1)
