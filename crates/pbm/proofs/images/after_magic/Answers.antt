use Rattle.std.proofs.Common.{rules}
use Rattle.pbm.proofs.Headers.{split_three}
use Rattle.pbm.proofs.images.after_magic.Goals as goal

pub returns-in-80 : goal.returns-in-80
returns-in-80 c = search (rules, split_three)
