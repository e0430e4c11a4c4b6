use Rattle.std.proofs.Common.{◌-◌}
use Rattle.replay.proofs.Sweep.{Climbing}
use Rattle.replay.proofs.whole.finish.Given as goal

abbrev pub invariant-loop-next : goal.invariant-loop-next
invariant-loop-next g l = Climbing g.R.Rule.near l.initial.working l.initial.cells l.working l.cells

abbrev pub decreases-loop-next : goal.decreases-loop-next
decreases-loop-next g l = 3 - l.working.axis.number
