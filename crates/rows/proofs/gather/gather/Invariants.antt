use Rattle.std.proofs.Common.{◌-◌}
use Rattle.grid.specs.RowGeometry.{row_at}
use Rattle.grid.specs.Rows.{RowAt, RowBelow, records}
use Rattle.rows.specs.Stacks.{Gathered}
use Rattle.rows.proofs.gather.gather.Given as goal

abbrev pub invariant-loop-j : goal.invariant-loop-j
invariant-loop-j g l =
    RowAt l.j (records l.cells (row_at l.row)) (l.axis.number - 1)
    × RowBelow l.j (records l.cells (row_at l.row)) (g.R.Rule.ceiling l.rule (l.axis.number - 1))
    × Gathered (g.R.Rule.near l.rule l.axis.number) l.row.count (records l.cells (row_at l.row)) l.j l.stack
