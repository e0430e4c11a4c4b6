use Rattle.grid.specs.Cells.{painted}
use Rattle.job.specs.Cells.{marks_in}
use Rattle.job.proofs.Writing.{written_all}
use Rattle.job.proofs.passes.repaint.Goals as goal

pub returns : goal.returns
returns c =
    written_all (λ k. painted (marks_in c.args.cells.now k) k) c.loop-k.cells c.loop-k.k c.loop-k.invariant.0 _ c.loop-k.auto.cells c.loop-k-test.false
