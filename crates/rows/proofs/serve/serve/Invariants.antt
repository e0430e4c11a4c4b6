use Rattle.grid.specs.RowGeometry.{row_at}
use Rattle.grid.specs.Rows.{records}
use Rattle.rows.specs.Passes.{Passed, Served}
use Rattle.rows.proofs.Envelope.{Serving}
use Rattle.rows.proofs.serve.serve.Given as goal

abbrev pub invariant-loop-t : goal.invariant-loop-t
invariant-loop-t g l =
    let near = g.R.Rule.near l.rule l.axis.number in
    Passed (Served near l.axis.number l.row.count (records l.initial.cells (row_at l.row))) l.row l.t l.initial.cells l.cells
    × Serving l.stack l.candidate l.later l.t l.t
