use Rattle.std.proofs.Common.{◌≡◌, ◌≤◌, ◌++◌, length}
use Rattle.numerals.specs.Numerals.{numeral}
use Rattle.numerals.proofs.numbers.read_digits.Given as goal

-- the digits so far are the number
abbrev pub invariant-loop-rest : goal.invariant-loop-rest
invariant-loop-rest l = (l.text ≡ numeral l.number ++ l.rest) × (l.number ≤ l.most)

abbrev pub decreases-loop-rest : goal.decreases-loop-rest
decreases-loop-rest l = length l.rest
