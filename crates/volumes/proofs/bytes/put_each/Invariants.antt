use Rattle.std.proofs.Common.{ℕ, ◌*◌, ◌<◌, get_or}
use Rattle.std.specs.Fn.{FnReturnsAt}
use Rattle.grid.specs.Cells.{cell_at}
use Rattle.volumes.specs.Files.{IsByteOf}
use Rattle.volumes.proofs.bytes.put_each.Given as goal

-- the bytes of the cells so far
abbrev pub invariant-loop-k : goal.invariant-loop-k
invariant-loop-k g l = (i : ℕ) → i < g.row.N * l.k → IsByteOf (λ k. FnReturnsAt g.F.Fn l.number (cell_at l.cells k)) g.row.N l.from i (get_or l.bytes i 0)
