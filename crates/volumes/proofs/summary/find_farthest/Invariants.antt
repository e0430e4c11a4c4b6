use Rattle.volumes.specs.Summaries.{FarthestBelow}
use Rattle.volumes.proofs.summary.find_farthest.Given as goal

abbrev pub invariant-loop-number : goal.invariant-loop-number
invariant-loop-number l = FarthestBelow l.cells l.number l.best
