use Rattle.std.proofs.Common.{◌++◌, sym, ap, arith, rules}
use Rattle.numerals.proofs.Digits.{numeral_none}
use Rattle.numerals.proofs.Reading.{no_number_at_end, digit_here, no_number_out}
use Rattle.numerals.proofs.Turns.{first_and_rest}
use Rattle.numerals.proofs.numbers.read_digits.Goals as goal

pub loop-rest-init : goal.loop-rest-init
loop-rest-init c = (ap (λ xs. xs ++ c.args.text.now) (sym numeral_none), omega arith)

pub returns-then-not-contains : goal.returns-then-not-contains
returns-then-not-contains c =
    no_number_out _ _ _ _ c.loop-rest.invariant.0 _ _ (first_and_rest c.loop-rest.rest.now c.in-48-to-57.len_at_least) (search rules) (search (rules, c.if-not-contains.ensures.cases))

pub loop-rest-preserved : goal.loop-rest-preserved
loop-rest-preserved c =
    (digit_here _ _ _ c.args.most c.loop-rest.invariant.0 _ _ (first_and_rest c.loop-rest.rest.now c.in-48-to-57.len_at_least) (search rules) (search (rules, c.if-not-contains.ensures.cases)), search (rules, c.if-not-contains.ensures.cases))

pub returns-then-number-eq0 : goal.returns-then-number-eq0
returns-then-number-eq0 c = no_number_at_end _ _ _ _ c.loop-rest.invariant.0 c.if-number-eq0.true (search rules)
