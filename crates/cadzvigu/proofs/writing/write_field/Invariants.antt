use Rattle.std.proofs.Common.{◌≡◌, ℕ, ◌<◌, get_or, Some}
use Rattle.grid.specs.Cells.{cell_at}
use Rattle.cadzvigu.proofs.writing.write_field.Given as goal

abbrev pub invariant-loop-k : goal.invariant-loop-k
invariant-loop-k l =
    ((j : ℕ) → j < l.k → get_or l.values j 0 ≡ (cell_at l.cells j).value)
    × ((j : ℕ) → j < l.k → (cell_at l.cells j).point ≡ Some (get_or l.points j 0))
