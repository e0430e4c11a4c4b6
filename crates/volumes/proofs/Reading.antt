-- A word that is a spacing, or is none.
use Rattle.std.proofs.Common.{ℕ, ◌≤◌, List, [], length, sym, ap, ◌∙◌, arith}
use Rattle.std.proofs.lemmas.List.{append-nil}
use Rattle.numerals.specs.Numerals.{numeral, BeginsWith, NoNumber}
use Rattle.numerals.proofs.Reading.{digits_same}
use Rattle.volumes.specs.Words.{WritesSpacing, NoSpacing}

begins : (word : List ℕ) (n : ℕ) → WritesSpacing word n → BeginsWith word 10000 n []
begins word n writes = record { range = writes.0; whole = writes.1 ∙ sym (append-nil (numeral n)); stops = tt }

pub no_digits : (word : List ℕ) → NoNumber word 10000 → NoSpacing word
no_digits word none n writes = none n [] (begins word n writes)

-- the digits end before the word does
pub more_left : (word : List ℕ) (m : ℕ) (rest : List ℕ) → BeginsWith word 10000 m rest → 1 ≤ length rest → NoSpacing word
more_left word m rest b some n writes =
    let w = begins word n writes in
    let same = digits_same m n rest [] b.stops w.stops (sym b.whole ∙ w.whole) in
    omega (arith, ap length same.1, some)
