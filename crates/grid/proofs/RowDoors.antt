-- What the questions of a row tell.
use Rattle.std.proofs.Common.{◌≡◌, ℕ, zero, suc, ◌<◌, Bool, true, false, eqb, leb, Some, None, sym, refl, subst, ⊎_elim, arith}
use Rattle.std.proofs.lemmas.Bool.{cases_eq, cases_Bool, and_parts, and_from, eqb-true, eq-eqb, leb-true, le-leb}
use Rattle.grid.specs.declared.cell.Cell.{Cell}
use Rattle.grid.specs.declared.refusal.Refusal.TheVariants.{RowLevel, RowValue}
use Rattle.grid.specs.Rows.{RowAt, RowBelow}
use Rattle.grid.specs.RowDoors.{all_places, row_stands, row_below, row_cells_door}
use Rattle.grid.proofs.Doors.{passed_yes, passed_rest}

module _ (test : ℕ → Bool) where
  pub all_places_at : (n i : ℕ) → all_places n test ≡ true → i < n → test i ≡ true
  all_places_at zero i all h = absurd (omega arith)
  all_places_at (suc n) i all h =
      let parts = and_parts (test n) (all_places n test) all in
      ⊎_elim (λ e. subst (λ m. test m ≡ true) (sym e) parts.0) (λ ne. all_places_at n i parts.1 (omega arith)) (cases_eq i n)

  pub all_places_from : (n : ℕ) → ((i : ℕ) → i < n → test i ≡ true) → all_places n test ≡ true
  all_places_from zero each = refl
  all_places_from (suc n) each = and_from (test n) (all_places n test) (each n (omega arith)) (all_places_from n (λ i h. each i (omega arith)))

  pub not_all_places : (n i : ℕ) → i < n → (test i ≡ true → ⊥) → all_places n test ≡ false
  not_all_places n i h never =
      ⊎_elim (λ all. absurd (never (all_places_at n i all h))) (λ no_more. no_more) (cases_Bool (all_places n test))

module _ (n : ℕ) (row : ℕ → Cell) (l most : ℕ) where
  pub stands_from : RowAt n row l → row_stands n row l ≡ true
  stands_from at = all_places_from (λ i. eqb (row i).level l) n (λ i h. eq-eqb (row i).level l (at i h))

  pub stands_at : row_stands n row l ≡ true → RowAt n row l
  stands_at all i h = eqb-true (row i).level l (all_places_at (λ i. eqb (row i).level l) n i all h)

  pub below_from : RowBelow n row most → row_below n row most ≡ true
  below_from low = all_places_from (λ i. leb (row i).value most) n (λ i h. le-leb (row i).value most (low i h))

  pub below_at : row_below n row most ≡ true → RowBelow n row most
  below_at all i h = leb-true (row i).value most (all_places_at (λ i. leb (row i).value most) n i all h)

  -- an open door: every place stands at the level, and no value is too large
  pub door_levels : row_cells_door n row l most ≡ None → RowAt n row l
  door_levels passed = stands_at (passed_yes (row_stands n row l) _ _ passed)

  pub door_values : row_cells_door n row l most ≡ None → RowBelow n row most
  door_values passed = below_at (passed_yes (row_below n row most) _ _ (passed_rest (row_stands n row l) _ _ passed))

  pub door_open : RowAt n row l → RowBelow n row most → row_cells_door n row l most ≡ None
  door_open at low = rw (stands_from at, below_from low)

  -- a place at another level
  pub door_level : (i : ℕ) → i < n → ((row i).level ≡ l → ⊥) → row_cells_door n row l most ≡ Some RowLevel
  door_level i h ne =
      rw (not_all_places (λ i. eqb (row i).level l) n i h (λ e. ne (eqb-true (row i).level l e)))

  -- every place at the level, and a value that is too large
  pub door_value : (i : ℕ) → i < n → RowAt n row l → most < (row i).value → row_cells_door n row l most ≡ Some RowValue
  door_value i h at large =
      rw (stands_from at, not_all_places (λ i. leb (row i).value most) n i h (λ e. let le = leb-true (row i).value most e in omega arith))
