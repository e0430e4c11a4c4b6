use Rattle.std.proofs.Common.{false}
use Rattle.grid.specs.Cells.{painted}
use Rattle.job.proofs.Writing.{written_all}
use Rattle.job.proofs.passes.clear.Goals as goal

pub returns : goal.returns
returns c = written_all (λ k. painted false k) c.loop-k.cells c.loop-k.k c.loop-k.invariant _ c.loop-k.auto.cells c.loop-k-test.false
