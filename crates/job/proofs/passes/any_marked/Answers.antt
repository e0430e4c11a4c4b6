use Rattle.std.proofs.Common.{sym, arith}
use Rattle.job.specs.Cells.{marks_in}
use Rattle.job.proofs.Writing.{some_place_at, no_place}
use Rattle.job.proofs.passes.any_marked.Goals as goal

pub returns-then-cell : goal.returns-then-cell
returns-then-cell c = sym (some_place_at (marks_in c.args.cells.now) _ c.loop-cell.cell-index c.loop-cell-test.true c.if-cell.true)

pub returns : goal.returns
returns c = sym (no_place (marks_in c.args.cells.now) _ (λ k h. c.loop-cell.invariant k (omega arith)))
