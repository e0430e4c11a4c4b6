use Rattle.std.proofs.Common.{rules}
use Rattle.volumes.proofs.Counting.{counted}
use Rattle.volumes.proofs.summary.count_marked.Goals as goal

pub returns : goal.returns
returns c = counted c.args.cells.now c.count.result (search rules)
