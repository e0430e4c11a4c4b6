use Rattle.std.proofs.Common.{◌≡◌, ℕ, ◌<◌, false}
use Rattle.grid.specs.Cells.{cell_at, painted}
use Rattle.job.proofs.passes.clear.Given as goal

abbrev pub invariant-loop-k : goal.invariant-loop-k
invariant-loop-k l = (k : ℕ) → k < l.k → cell_at l.cells k ≡ painted false k
