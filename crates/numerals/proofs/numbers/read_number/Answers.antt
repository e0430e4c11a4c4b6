use Rattle.std.proofs.Common.{get_or, sym, ap, ◌∙◌, rules}
use Rattle.numerals.proofs.Reading.{unread_unended}
use Rattle.numerals.proofs.Turns.{ending_below_digits}
use Rattle.numerals.proofs.numbers.read_number.Goals.{in_default-via-then-branch-lt1, in_default-via-in_default-len1-up+else-byte}
use Rattle.numerals.proofs.numbers.read_number.Goals as goal

pub returns-in_default : goal.returns-in_default
returns-in_default c =
    unread_unended _ _ _ _ _ (ending_below_digits c.args.ending) c.in_ok-read_digits.ensures
    (λ t e. elim c.in_default.branch [ in_default-via-then-branch-lt1 w ↦ search (rules, e) | in_default-via-in_default-len1-up+else-byte w ↦ w.if-byte.false (ap (λ xs. get_or xs 0 0) e ∙ sym w.byte.ensures) ])
