-- One step of a pass over all cells, and what it comes to.
use Rattle.std.proofs.Common.{◌≡◌, ℕ, zero, suc, ◌+◌, ◌<◌, ◌≤◌, Bool, true, false, List, map, length, set, sym, refl, ◌∙◌, subst, ⊎_elim, arith}
use Rattle.std.proofs.lemmas.List.{get_or-set_other}
use Rattle.std.proofs.lemmas.List.FromFn.{fill_by_all}
use Rattle.std.proofs.lemmas.List.Edits.{fill_by_more}
use Rattle.std.proofs.lemmas.Bool.{cases_eq, or_from, or_left, or_right}
use Rattle.std.specs.List.{range_with_len}
use Rattle.grid.specs.declared.cell.Cell.{Cell}
use Rattle.grid.specs.Cells.{cell_at, no_cell}
use Rattle.job.specs.Doors.{some_place}

module _ (test : ℕ → Bool) where
  pub some_place_at : (n i : ℕ) → i < n → test i ≡ true → some_place n test ≡ true
  some_place_at zero i h t = absurd (omega arith)
  some_place_at (suc n) i h t =
      ⊎_elim (λ e. or_left (test n) _ (subst (λ m. test m ≡ true) e t)) (λ ne. or_right (test n) _ (some_place_at n i (omega arith) t)) (cases_eq i n)

  pub no_place : (n : ℕ) → ((i : ℕ) → i < n → test i ≡ false) → some_place n test ≡ false
  no_place zero none = refl
  no_place (suc n) none = or_from (test n) _ (none n (omega arith)) (no_place n (λ i h. none i (omega arith)))

-- a pass that writes f k into each cell k
module _ (f : ℕ → Cell) (cells : List Cell) (i : ℕ) (done : (k : ℕ) → k < i → cell_at cells k ≡ f k) where
  pub written_more : (new : Cell) → i < length cells → new ≡ f i → (k : ℕ) → k < i + 1 → cell_at (set cells i new) k ≡ f k
  written_more new h e =
      subst (λ w. (k : ℕ) → k < i + 1 → cell_at (set cells i w) k ≡ f k) (sym e) (fill_by_more f cells i no_cell h done)

  pub written_all : (n : ℕ) → length cells ≡ n → n ≤ i → cells ≡ map f (range_with_len 0 n)
  written_all n l h = fill_by_all f cells n no_cell l (λ k b. done k (omega arith))

-- what such a pass has not come to yet is as it was
pub untouched_more : (cells before : List Cell) (i : ℕ) (new : Cell) → ((k : ℕ) → i ≤ k → cell_at cells k ≡ cell_at before k)
    → (k : ℕ) → i + 1 ≤ k → cell_at (set cells i new) k ≡ cell_at before k
untouched_more cells before i new same k h = get_or-set_other cells i k new no_cell (λ e. omega arith) ∙ same k (omega arith)
