-- Looking for a marked cell, one cell number after the other.
use Rattle.std.proofs.Common.{◌≡◌, ℕ, ◌<◌, Bool, true, false, Decides, length, slice_index_or, zero-add, sym, refl, ap, ◌∙◌, subst, arith}
use Rattle.std.specs.Bool.{MatchBool}
use Rattle.std.specs.List.{range_with_len, HoldsAt, AllWithin}
use Rattle.std.proofs.lemmas.List.FromFn.{get_or-range_with_len, length-range_with_len}
use Rattle.std.proofs.lemmas.Bool.{false≢true, both_ways}
use Rattle.std.proofs.lemmas.Bool.Decides.{Decides-like}
use Rattle.grid.specs.declared.sizes.Sizes.{Sizes}
use Rattle.grid.specs.Geometry.{Place, IsGrid, cell_count, inside, place_of, cell_number}
use Rattle.grid.proofs.Places.{place_inside, number_inside, place_back}
use Rattle.pictures.specs.Numbered.{marks_by_number}
use Rattle.pictures.specs.Negatives.{negative_marks}
use Rattle.pictures.specs.Kinds.{SomeMarked, BothKinds}
use Rattle.pictures.proofs.Turning.{turned_cell, turned_back}

module _ (extent : Sizes) (grid : IsGrid extent) (marks : Place → Bool) (s : Sizes) (same : s ≡ extent) where
  found : (k : ℕ) → k < cell_count s → marks_by_number s marks k ≡ true → SomeMarked extent marks
  found k lt h =
      let lies : inside s (place_of s k) ≡ true = place_inside s (subst IsGrid (sym same) grid) k lt in
      record { place = place_of s k; in_grid = subst (λ n. inside n (place_of s k) ≡ true) same lies; of_kind = h }

  none_found : ((k : ℕ) → k < cell_count s → marks_by_number s marks k ≡ false) → SomeMarked extent marks → ⊥
  none_found none some =
      let lies : inside s some.place ≡ true = subst (λ m. inside m some.place ≡ true) (sym same) some.in_grid in
      let k = cell_number s some.place in
      both_ways (marks some.place) (ap marks (sym (place_back s some.place lies)) ∙ none k (number_inside s some.place lies)) some.of_kind

  here : (n k : ℕ) → k < n → slice_index_or (range_with_len 0 n) k 0 ≡ k
  here n k lt = get_or-range_with_len 0 n k 0 lt ∙ zero-add k

  below : (n k : ℕ) → k < length (range_with_len 0 n) → k < n
  below n k lt = subst (λ m. k < m) (length-range_with_len 0 n) lt

  -- what a look at every number tells
  pub looked_for : (n : ℕ) → n ≡ cell_count s → (r : Bool) → MatchBool r ((k : ℕ) × (k < length (range_with_len 0 n)) × HoldsAt (λ k. marks_by_number s marks k ≡ true) (range_with_len 0 n) k) (AllWithin (λ k. marks_by_number s marks k ≡ false) (range_with_len 0 n) 0 (length (range_with_len 0 n))) → Decides r (SomeMarked extent marks)
  looked_for n all true h =
      (λ _. found h.0 (omega (arith, below n h.0 h.1)) (subst (λ k. marks_by_number s marks k ≡ true) (here n h.0 (below n h.0 h.1)) (h.2 0)), λ _. refl)
  looked_for n all false h = (
    λ e. absurd (false≢true e),
    λ some. absurd (none_found
        (λ k lt. let in_n : k < n = omega arith in subst (λ j. marks_by_number s marks j ≡ false) (here n k in_n) (h k 0 (omega arith) (omega (arith, length-range_with_len 0 n))))
        some),
  )

-- a marked cell of the negative is an unmarked one of the picture
pub both_kinds : (s : Sizes) (marks : Place → Bool) (r : Bool) → SomeMarked s marks → Decides r (SomeMarked s (negative_marks s marks)) → Decides r (BothKinds s marks)
both_kinds s marks r marked = Decides-like r (λ some. (marked, turned_back s marks false some)) (λ kinds. turned_cell s marks false kinds.1)
