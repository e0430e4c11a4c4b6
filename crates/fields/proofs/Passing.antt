-- A pass over an axis, row after row.
use Rattle.std.proofs.Common.{◌≡◌, ℕ, ◌+◌, ◌-◌, ◌<◌, ◌≢◌, List, sym, ap, ◌∙◌, subst, arith}
use native.Mathlib.Decide.{ℕ_discrete}
use Rattle.grid.specs.declared.sizes.Sizes.{Sizes}
use Rattle.grid.specs.declared.cell.Cell.{Cell}
use Rattle.grid.specs.Geometry.{IsGrid, place_on}
use Rattle.grid.specs.Distance.{Near}
use Rattle.grid.specs.Cells.{cell_at, AllAt}
use Rattle.grid.specs.RowGeometry.{OnAxis, Parted, row_count, row_cell}
use Rattle.grid.specs.Rows.{GridRowDone}
use Rattle.grid.proofs.Places.{place_below}
use Rattle.grid.proofs.RowCells.{rows_part}
use Rattle.fields.specs.Steps.{GridRowAt}
use Rattle.fields.specs.Passes.{PassAt, PassGoes}

module _ (near : Near) (s : Sizes) (grid : IsGrid s) (d : ℕ) (on : OnAxis d) where
  parted : Parted s d
  parted = rows_part s grid d on

  -- a worked row leaves the levels of every other row
  kept : (m n l : ℕ) (before after : List Cell) → m < row_count s d → n < row_count s d → n ≢ m → GridRowDone near s d m before after
      → GridRowAt s d n l before → GridRowAt s d n l after
  kept m n l before after hm hn ne done stands i hi =
      ap (λ (c : Cell). c.level) (done.others (row_cell s d n i) (λ j hj e. ne (parted.in_no_other n m i j hn hm hi hj e).0))
      ∙ stands i hi

  starts : (cells : List Cell) → AllAt s (d - 1) cells → PassAt s d 0 cells
  starts cells at =
      record {
        worked = λ n lt hn. absurd (let z : n < 0 = lt in omega arith);
        waiting = λ n le hn i hi. at (row_cell s d n i) (parted.in_grid n i hn hi);
      }

  goes_on : (m : ℕ) (before after : List Cell) → m < row_count s d → PassAt s d m before → GridRowDone near s d m before after
      → PassAt s d (m + 1) after
  goes_on m before after hm pass done =
      record {
        worked = λ n lt hn. below n lt hn (ℕ_discrete n m);
        waiting = λ n le hn. kept m n (d - 1) before after hm hn (omega arith) done (pass.waiting n (omega arith) hn);
      }
    where
      below : (n : ℕ) → n < m + 1 → n < row_count s d → Dec (n ≡ m) → GridRowAt s d n d after
      below n lt hn (yes e) = subst (λ (x : ℕ). GridRowAt s d x d after) (sym e) done.level
      below n lt hn (no ne) = kept m n d before after hm hn ne done (pass.worked n (omega arith) hn)

  ends : (cells : List Cell) → PassAt s d (row_count s d) cells → AllAt s d cells
  ends cells pass k hk =
      let home = parted.each_in_a_row k hk in
      subst (λ (x : ℕ). (cell_at cells x).level ≡ d) home.2
      (pass.worked home.0 home.1 home.1 (place_on s d k) (place_below s grid d k on.0 on.1 hk))

pub pass_goes : PassGoes
pass_goes near s grid d on =
    record { starts = starts near s grid d on; goes_on = goes_on near s grid d on; ends = ends near s grid d on }
