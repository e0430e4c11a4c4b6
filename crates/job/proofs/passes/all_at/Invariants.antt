use Rattle.std.proofs.Common.{◌≡◌, ℕ, ◌<◌}
use Rattle.job.specs.Cells.{levels_in}
use Rattle.job.proofs.passes.all_at.Given as goal

abbrev pub invariant-loop-cell : goal.invariant-loop-cell
invariant-loop-cell l = (k : ℕ) → k < l.cell-index → levels_in l.cells k ≡ l.level
