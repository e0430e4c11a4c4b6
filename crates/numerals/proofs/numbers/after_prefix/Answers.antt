use Rattle.std.specs.Cmp.{unsigned_Decides}
use Rattle.std.proofs.Common.{rules}
use Rattle.std.proofs.lemmas.Slice.Eq.{strip_prefix_is}
use Rattle.numerals.proofs.numbers.after_prefix.Goals as goal

pub returns : goal.returns
returns c = search (rules, strip_prefix_is unsigned_Decides c.args.text.now c.args.prefix.now)
