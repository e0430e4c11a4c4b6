-- The digits of a number: one more at the end, their value, their count, and how a text goes on after them.
use Rattle.std.proofs.Common.{◌≡◌, ℕ, ◌+◌, ◌-◌, ◌*◌, ◌/◌, ◌%◌, ◌^◌, ◌<◌, ◌≤◌, List, [], ◌∷◌, ◌++◌, map, length, get_or, sym, refl, ap, ◌∙◌, arith}
use lib.ListN.{length-map}
use Rattle.std.specs.Int.Digits.{digits_of, number_from_digits, number_from_digits_after}
use Rattle.std.specs.List.{AllByRecursion}
use Rattle.std.proofs.lemmas.Int.Digits.{digits_of_step, all_below_base_digits_of, first_digits_of, number_after_append, number_after_ge, number_digits_of, length-digits_of-le}
use Rattle.std.proofs.ByRecursion.{All-map, All-weaker}
use Rattle.std.proofs.lemmas.List.{map-append}
use Rattle.numerals.specs.Numerals.{numeral}

abbrev pub IsDigit : ℕ → Type 0
IsDigit c = (48 ≤ c) × (c < 58)

pub numeral_none : numeral 0 ≡ []
unfolding numeral
numeral_none = refl

-- one more digit at the end
pub numeral_more : (v d : ℕ) → d < 10 → 0 < v * 10 + d → numeral (v * 10 + d) ≡ numeral v ++ (48 + d) ∷ []
unfolding numeral
numeral_more v d small some =
    let n = v * 10 + d in
    let front : n / 10 ≡ v = omega arith in
    let last : n % 10 ≡ d = omega arith in
    ap (map (λ x. 48 + x)) (digits_of_step 10 n (omega arith) some)
    ∙ map-append (λ x. 48 + x) (digits_of 10 (n / 10)) (n % 10 ∷ [])
    ∙ ap (λ x. map (λ y. 48 + y) (digits_of 10 x) ++ (48 + n % 10) ∷ []) front
    ∙ ap (λ x. map (λ y. 48 + y) (digits_of 10 v) ++ (48 + x) ∷ []) last

pub numeral_digits : (n : ℕ) → AllByRecursion IsDigit (numeral n)
unfolding numeral
numeral_digits n =
    All-map IsDigit (λ d. 48 + d) (digits_of 10 n)
    (All-weaker (λ d. d < 10) (λ d. IsDigit (48 + d)) (λ d h. omega arith) (digits_of 10 n) (all_below_base_digits_of 10 n (omega arith)))

-- a number below 10 ^ k has at most k digits
pub numeral_short : (k n : ℕ) → n < 10 ^ k → length (numeral n) ≤ k
unfolding numeral
numeral_short k n h = omega (arith, length-map (digits_of 10 n) (λ d. 48 + d), length-digits_of-le 10 k n (omega arith) h)

-- the number that digits stand for
abbrev value_of : List ℕ → ℕ
value_of ds = number_from_digits 10 (map (λ c. c - 48) ds)

digits_back : (ds : List ℕ) → map (λ c. c - 48) (map (λ d. 48 + d) ds) ≡ ds
digits_back [] = refl
digits_back (d ∷ ds) =
    let e : 48 + d - 48 ≡ d = omega arith in
    ap (λ x. x ∷ map (λ c. c - 48) (map (λ y. 48 + y) ds)) e ∙ ap (λ xs. d ∷ xs) (digits_back ds)

value_back : (n : ℕ) → value_of (numeral n) ≡ n
unfolding numeral
value_back n = ap (number_from_digits 10) (digits_back (digits_of 10 n)) ∙ number_digits_of 10 n (omega arith)

pub same_numeral : (v w : ℕ) → numeral v ≡ numeral w → v ≡ w
same_numeral v w e = sym (value_back v) ∙ ap value_of e ∙ value_back w

-- more digits make no smaller number
pub longer_no_smaller : (v w : ℕ) (fs : List ℕ) → numeral w ≡ numeral v ++ fs → v ≤ w
longer_no_smaller v w fs e =
    let minus : List ℕ → List ℕ = map (λ c. c - 48) in
    let whole : w ≡ number_from_digits_after 10 v (minus fs) =
    sym (value_back w)
    ∙ ap value_of e
    ∙ ap (number_from_digits 10) (map-append (λ c. c - 48) (numeral v) fs)
    ∙ number_after_append 10 0 (minus (numeral v)) (minus fs)
    ∙ ap (λ x. number_from_digits_after 10 x (minus fs)) (value_back v) in
    omega (arith, whole, number_after_ge 10 v (minus fs) (omega arith))

pub no_zero_in_front : (w : ℕ) (fs : List ℕ) → 0 < w → numeral w ≡ 48 ∷ fs → ⊥
unfolding numeral
no_zero_in_front w fs some e = go (digits_of 10 w) (first_digits_of 10 w (omega arith) some) e
  where
    go : (ds : List ℕ) → 0 < get_or ds 0 0 → map (λ d. 48 + d) ds ≡ 48 ∷ fs → ⊥
    go [] h p = omega arith
    go (d ∷ ds) h p = let q : 48 + d ≡ 48 = cc in omega arith
