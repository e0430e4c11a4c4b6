-- The count of the marks tells whether there are both kinds of cell.
use Rattle.std.proofs.Common.{◌≡◌, ℕ, zero, suc, ◌+◌, ◌<◌, ◌≤◌, Bool, true, false, cond, ltb, leb, Decides, sym, refl, ap, ◌∙◌, arith}
use native.Mathlib.Decide.{ℕ_discrete}
use Rattle.std.proofs.lemmas.Bool.{leb-true, le-leb, ltb-true, lt-ltb, cond-true, cond-false}
use Rattle.std.proofs.lemmas.Bool.Decides.{Decides-and, Decides-like, same_from_decides}
use Rattle.grid.specs.declared.sizes.Sizes.{Sizes}
use Rattle.grid.specs.Geometry.{Place, IsGrid, cell_count, cell_number, place_of}
use Rattle.grid.proofs.Places.{place_inside, number_inside, place_back}
use Rattle.pictures.specs.Numbered.{marks_by_number}
use Rattle.pictures.specs.Negatives.{negative_marks}
use Rattle.pictures.specs.Kinds.{count_below, count_marks, SomeCell, BothKinds}
use Rattle.pictures.proofs.Counting.{count_at_most}
use Rattle.pictures.proofs.Turning.{negative_has_same_kinds}
use Rattle.signed.specs.Doors.{both_kinds}

-- some number below n is of a kind
record Found (test : ℕ → Bool) (kind : Bool) (n : ℕ) : Type 0 where
  at : ℕ
  below : at < n
  of_kind : test at ≡ kind

module _ (test : ℕ → Bool) where
  found_before : (kind : Bool) (n : ℕ) → Found test kind n → Found test kind (suc n)
  found_before kind n f = record { at = f.at; below = omega (arith, f.below); of_kind = f.of_kind }

  found_last : (kind : Bool) (n : ℕ) → test n ≡ kind → Found test kind (suc n)
  found_last kind n e = record { at = n; below = omega arith; of_kind = e }

  some_marked : (n : ℕ) → 1 ≤ count_below test n → Found test true n
  unfolding count_below
  some_marked zero h = absurd (let no : ⊥ = omega arith in no)
  some_marked (suc n) h = go (some_marked n) (test n) refl h
    where
      go : (1 ≤ count_below test n → Found test true n) → (b : Bool) → test n ≡ b → 1 ≤ count_below test n + cond b 1 0 → Found test true (suc n)
      go before true e m = found_last true n e
      go before false e m = found_before true n (before (omega arith))

  some_left : (n : ℕ) → count_below test n < n → Found test false n
  unfolding count_below
  some_left zero h = absurd (let no : ⊥ = omega arith in no)
  some_left (suc n) h = go (some_left n) (test n) refl h
    where
      go : (count_below test n < n → Found test false n) → (b : Bool) → test n ≡ b → count_below test n + cond b 1 0 < suc n → Found test false (suc n)
      go before true e m = found_before false n (before (omega arith))
      go before false e m = found_last false n e

  at_least_one : (n k : ℕ) → k < n → test k ≡ true → 1 ≤ count_below test n
  unfolding count_below
  at_least_one zero k h m = omega arith
  at_least_one (suc n) k h m = elim (ℕ_discrete k n) [
    | yes same ↦ omega (arith, cond-true {A = ℕ} (test n) 1 0 (ap test (sym same) ∙ m))
    | no ne ↦ omega (arith, at_least_one n k (omega arith) m)
  ]

  not_all : (n k : ℕ) → k < n → test k ≡ false → count_below test n < n
  unfolding count_below
  not_all zero k h m = omega arith
  not_all (suc n) k h m = elim (ℕ_discrete k n) [
    | yes same ↦ omega (arith, count_at_most test n, cond-false {A = ℕ} (test n) 1 0 (ap test (sym same) ∙ m))
    | no ne ↦ omega (arith, not_all n k (omega arith) m, at_most_one (test n))
  ]
    where
      at_most_one : (b : Bool) → cond b 1 0 ≤ 1
      at_most_one true = omega arith
      at_most_one false = omega arith

module _ (s : Sizes) (grid : IsGrid s) (marks : Place → Bool) where
  some_cell : (kind : Bool) → Found (marks_by_number s marks) kind (cell_count s) → SomeCell s marks kind
  some_cell kind f = record { place = place_of s f.at; in_grid = place_inside s grid f.at f.below; of_kind = f.of_kind }

  cell_below : (kind : Bool) (c : SomeCell s marks kind) → cell_number s c.place < cell_count s
  cell_below kind c = number_inside s c.place c.in_grid

  cell_kind : (kind : Bool) (c : SomeCell s marks kind) → marks_by_number s marks (cell_number s c.place) ≡ kind
  cell_kind kind c = ap marks (place_back s c.place c.in_grid) ∙ c.of_kind

  marked_decide : Decides (leb 1 (count_marks s marks)) (SomeCell s marks true)
  marked_decide = (
    λ e. some_cell true (some_marked (marks_by_number s marks) (cell_count s) (leb-true 1 (count_marks s marks) e)),
    λ c. le-leb 1 (count_marks s marks) (at_least_one (marks_by_number s marks) (cell_count s) _ (cell_below true c) (cell_kind true c)),
  )

  left_decide : Decides (ltb (count_marks s marks) (cell_count s)) (SomeCell s marks false)
  left_decide = (
    λ e. some_cell false (some_left (marks_by_number s marks) (cell_count s) (ltb-true (count_marks s marks) (cell_count s) e)),
    λ c. lt-ltb (count_marks s marks) (cell_count s) (not_all (marks_by_number s marks) (cell_count s) _ (cell_below false c) (cell_kind false c)),
  )

  pub both_kinds_decide : Decides (both_kinds s marks) (BothKinds s marks)
  both_kinds_decide = Decides-and _ _ marked_decide left_decide

  -- what a search for both kinds answers is the door's test
  pub both_kinds_answer : (r : Bool) → Decides r (BothKinds s marks) → r ≡ both_kinds s marks
  both_kinds_answer r d = same_from_decides r (both_kinds s marks) d both_kinds_decide

-- the negative has both kinds where the picture has
pub negative_both_kinds : (s : Sizes) → IsGrid s → (marks : Place → Bool) → both_kinds s (negative_marks s marks) ≡ both_kinds s marks
negative_both_kinds s grid marks =
    let same = negative_has_same_kinds s marks in
    both_kinds_answer s grid marks (both_kinds s (negative_marks s marks))
    (Decides-like (both_kinds s (negative_marks s marks)) same.0 same.1 (both_kinds_decide s grid (negative_marks s marks)))
