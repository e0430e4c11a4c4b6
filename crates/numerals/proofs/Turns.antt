-- One turn of the loop that reads digits, and that no ending is a digit.
use Rattle.std.proofs.Common.{◌≡◌, ℕ, ◌-◌, ◌<◌, ◌≤◌, List, [], ◌∷◌, length, drop, sym, ap, arith}
use Rattle.std.specs.Prelude.{slice_index_or, take}
use Rattle.std.proofs.lemmas.List.{take_all}
use Rattle.numerals.specs.Numerals.{ending_byte}
use Rattle.numerals.specs.declared.numbers.Ending.{Ending}
use Rattle.numerals.specs.declared.numbers.Ending.TheVariants.{Space, LineFeed}

pub ending_below_digits : (e : Ending) → ending_byte e < 48
ending_below_digits Space = omega arith
ending_below_digits LineFeed = omega arith

-- a slice is its first element and what a pattern names after it
pub first_and_rest : (xs : List ℕ) → 1 ≤ length xs → xs ≡ slice_index_or xs 0 0 ∷ take (length xs - 1) (drop 1 xs)
first_and_rest [] h = absurd (omega (arith, h))
first_and_rest (x ∷ xs) h = ap (λ ys. x ∷ ys) (sym (take_all (length (x ∷ xs) - 1) xs (omega arith)))
