use Rattle.replay.specs.Jobs.{rule_of, sizes_of}
use Rattle.replay.proofs.Going.{Going}
use Rattle.replay.proofs.replaying.replay.Given as goal

abbrev pub invariant-loop-i : goal.invariant-loop-i
invariant-loop-i g l =
    Going g.P.Picture.extent g.P.Picture.marks g.R.Rule.near (rule_of l.initial.job) (sizes_of l.initial.job) l.calls l.answers l.i l.job l.cells
