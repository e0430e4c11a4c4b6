use Rattle.replay.proofs.Sweep.{Sweeping}
use Rattle.replay.proofs.whole.work_axis.Given as goal

abbrev pub invariant-loop-number : goal.invariant-loop-number
invariant-loop-number g l =
    Sweeping (g.R.Rule.near l.job.rule) l.job.grid.sizes l.job.axis.number l.initial.cells l.number l.cells
