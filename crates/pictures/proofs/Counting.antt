-- Counting the cells that pass a test.
use Rattle.std.proofs.Common.{◌≡◌, ℕ, zero, suc, ◌+◌, ◌≤◌, Bool, true, false, cond, [], ◌∷◌, length, filter, map, sym, refl, ap, ap₂, ◌∙◌, add-one, zero-add, arith}
use Rattle.std.specs.List.{range_with_len}
use Rattle.std.proofs.lemmas.List.{map-id, length-append}
use Rattle.std.proofs.lemmas.List.FromFn.{filter_of_map_range_with_len_more}
use Rattle.grid.specs.declared.sizes.Sizes.{Sizes}
use Rattle.grid.specs.Geometry.{Place, cell_count}
use Rattle.pictures.specs.Numbered.{marks_by_number}
use Rattle.pictures.specs.Kinds.{count_below, count_marks}

pub count_none : (test : ℕ → Bool) → count_below test 0 ≡ 0
unfolding count_below
count_none test = refl

pub count_at_most : (test : ℕ → Bool) (n : ℕ) → count_below test n ≤ n
unfolding count_below
count_at_most test zero = omega arith
count_at_most test (suc n) = omega (arith, count_at_most test n, at_most_one (test n))
  where
    at_most_one : (b : Bool) → cond b 1 0 ≤ 1
    at_most_one true = omega arith
    at_most_one false = omega arith

-- as many as pass it among the numbers in order
counted : (test : ℕ → Bool) (n : ℕ) → length (filter test (map (λ k. k) (range_with_len 0 n))) ≡ count_below test n
unfolding count_below
counted test zero = refl
counted test (suc n) =
    ap (λ k. length (filter test (map (λ k. k) (range_with_len 0 k)))) (sym (add-one n))
    ∙ ap length (filter_of_map_range_with_len_more test (λ k. k) 0 n n (zero-add n))
    ∙ length-append (filter test (map (λ k. k) (range_with_len 0 n))) (cond (test n) (n ∷ []) [])
    ∙ ap₂ (λ a b. a + b) (counted test n) (one_or_none (test n))
  where
    one_or_none : (b : Bool) → length (cond b (n ∷ []) []) ≡ cond b 1 0
    one_or_none true = refl
    one_or_none false = refl

pub counted_all : (marks : Place → Bool) (s extent : Sizes) → s ≡ extent → length (filter (marks_by_number s marks) (range_with_len 0 (cell_count s))) ≡ count_marks extent marks
counted_all marks s extent same =
    ap (λ xs. length (filter (marks_by_number s marks) xs)) (sym (map-id (range_with_len 0 (cell_count s))))
    ∙ counted (marks_by_number s marks) (cell_count s) ∙ ap (λ n. count_marks n marks) same
