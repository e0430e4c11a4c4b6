-- What one more write to a place of a row gives.
use Rattle.std.proofs.Common.{◌≡◌, ℕ, ◌+◌, ◌-◌, ◌*◌, ◌<◌, ◌≤◌, ◌≢◌, List, length, get_or, set, sym, refl, ◌∙◌, subst, ⊎_elim, mul-le-mul_left, mul-one, mul-add, arith, length-set, get_or-set_other, get_or-set_same}
use Rattle.std.proofs.lemmas.Bool.{cases_eq}
use Rattle.grid.specs.declared.cell.Cell.{Cell}
use Rattle.grid.specs.declared.row.Row.{Row}
use Rattle.grid.specs.Cells.{no_cell}
use Rattle.grid.specs.Distance.{Near}
use Rattle.grid.specs.RowGeometry.{row_at, LiesIn}
use Rattle.grid.specs.Rows.{records, SliceRowDone}
use Rattle.rows.specs.Passes.{Passed, Served}

-- each place of the row lies in the slice
pub lies : (row : Row) (len t : ℕ) → LiesIn row len → t < row.count → row_at row t < len
lies row len t r h =
    let m : row.stride * t ≤ row.stride * (row.count - 1) = mul-le-mul_left row.stride (omega arith) in omega (arith, r.last_below)

-- later places have higher numbers
rises : (row : Row) (t u : ℕ) → 1 ≤ row.stride → t < u → row_at row t < row_at row u
rises row t u s h =
    let m : row.stride * (t + 1) ≤ row.stride * u = mul-le-mul_left row.stride (omega arith) in
    omega (arith, mul-add row.stride t 1, mul-one row.stride)

pub apart : (row : Row) (t u : ℕ) → 1 ≤ row.stride → t < u → row_at row t ≢ row_at row u
apart row t u s h = omega (arith, rises row t u s h)

module _ (P : ℕ → Cell → Type 0) (row : Row) (stepped : 1 ≤ row.stride) (old : List Cell) where
  pub passed_none : Passed P row 0 old old
  passed_none = record { same_length = refl; others = λ k h. refl; done = λ t h. absurd (omega arith) }

  -- a place that is not yet written holds what it held
  pub passed_ahead : (t : ℕ) (new : List Cell) → Passed P row t old new → records new (row_at row) t ≡ records old (row_at row) t
  passed_ahead t new p = p.others (row_at row t) (λ u h e. apart row u t stepped h (sym e))

  pub passed_more : (t : ℕ) (new : List Cell) (cell : Cell) → Passed P row t old new → row_at row t < length new → P t cell → Passed P row (t + 1) old (set new (row_at row t) cell)
  passed_more t new cell p lt here =
      record {
        same_length = length-set new (row_at row t) cell ∙ p.same_length;
        others = λ k h.
            get_or-set_other new (row_at row t) k cell no_cell (λ e. h t (omega arith) e) ∙ p.others k (λ u b. h u (omega arith));
        done = λ u h.
            ⊎_elim (λ e. subst (λ m. P m (get_or (set new (row_at row t) cell) (row_at row m) no_cell)) (sym e)
            (rw (get_or-set_same new (row_at row t) cell no_cell lt) here))
            (λ ne. let b : u < t = omega arith in
            rw (get_or-set_other new (row_at row t) (row_at row u) cell no_cell (apart row u t stepped b)) (p.done u b))
            (cases_eq u t);
      }

-- the row is worked where each of its places is
pub served_done : (near : Near) (d : ℕ) (row : Row) (old new : List Cell)
    → Passed (Served (near d) d row.count (records old (row_at row))) row row.count old new → SliceRowDone near d row old new
served_done near d row old new p =
    record {
      same_length = p.same_length;
      others = p.others;
      marks = λ t h. (p.done t h).mark;
      level = λ t h. (p.done t h).level;
      best = λ t h. (p.done t h).best;
    }
