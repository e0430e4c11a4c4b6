use Rattle.std.proofs.Common.{◌≡◌, ◌≢◌, ◌+◌, ◌-◌, ◌<◌, eqb, sym, refl, subst, ⊎_elim, arith, rules, tests}
use Rattle.std.proofs.lemmas.Bool.{cases_lt, cond-true, cond-false, eqb-true}
use Rattle.std.proofs.lemmas.Iterator.{cases_from_any, YieldsList-from_range}
use Rattle.std.proofs.lemmas.List.FromFn.{length-range_with_len, get_or-range_with_len}
use Rattle.grid.specs.declared.refusal.Refusal.TheVariants.{RowLevel, RowValue}
use Rattle.grid.specs.RowDoors.{row_stands}
use Rattle.grid.specs.RowGeometry.{row_at}
use Rattle.grid.specs.Rows.{records}
use Rattle.grid.proofs.RowDoors.{not_all_places, stands_from}
use Rattle.rows.proofs.gather.refusal_past.Goals as goal

pub returns-then-any : goal.returns-then-any
returns-then-any c =
    let row = records c.args.cells.now (row_at c.args.row) in
    let l = c.args.level in
    let first = c.args.first in
    let left = c.args.row.count - first in
    let found = cases_from_any _ _ _ (λ i. (row i).level ≢ l) (λ i. (row i).level ≡ l) c.if-any.ensures.ran (YieldsList-from_range first c.args.row.count left refl refl) (λ i q k. search (rules, tests)) (λ i q k. search (rules, tests)) in
    let short : found.0 < left = omega (arith, found.1, length-range_with_len first left) in
    let other : (row (first + found.0)).level ≢ l = subst (λ i. (row i).level ≢ l) (get_or-range_with_len first left found.0 0 short) (found.2 0) in
    sym (cond-false (row_stands c.args.row.count row l) RowValue RowLevel
    (not_all_places (λ i. eqb (row i).level l) c.args.row.count (first + found.0) (omega arith) (λ e. other (eqb-true (row (first + found.0)).level l e))))

pub returns-else-any : goal.returns-else-any
returns-else-any c =
    let row = records c.args.cells.now (row_at c.args.row) in
    let l = c.args.level in
    let first = c.args.first in
    let left = c.args.row.count - first in
    let found = cases_from_any _ _ _ (λ i. (row i).level ≢ l) (λ i. (row i).level ≡ l) c.if-any.ensures.ran (YieldsList-from_range first c.args.row.count left refl refl) (λ i q k. search (rules, tests)) (λ i q k. search (rules, tests)) in
    sym (cond-true (row_stands c.args.row.count row l) RowValue RowLevel
    (stands_from c.args.row.count row l 0 (λ i h.
    ⊎_elim (λ before. c.requires.before i before)
    (λ past. let e : first + (i - first) ≡ i = omega arith in
    subst (λ j. (row j).level ≡ l) e
    (subst (λ j. (row j).level ≡ l) (get_or-range_with_len first left (i - first) 0 (omega arith))
    (found (i - first) 0 (omega arith) (omega (arith, length-range_with_len first left)))))
    (cases_lt i first))))
