use Rattle.std.proofs.Common.{◌≡◌, ℕ, ◌<◌, ◌≤◌}
use Rattle.grid.specs.Cells.{cell_at, painted}
use Rattle.job.specs.Cells.{marks_in}
use Rattle.job.proofs.passes.repaint.Given as goal

abbrev pub invariant-loop-k : goal.invariant-loop-k
invariant-loop-k l =
    ((k : ℕ) → k < l.k → cell_at l.cells k ≡ painted (marks_in l.initial.cells k) k)
    × ((k : ℕ) → l.k ≤ k → cell_at l.cells k ≡ cell_at l.initial.cells k)
