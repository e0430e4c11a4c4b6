use Rattle.grid.specs.RowGeometry.{row_at}
use Rattle.grid.specs.Rows.{records}
use Rattle.rows.specs.Passes.{Passed, Blank}
use Rattle.rows.proofs.serve.clear.Given as goal

abbrev pub invariant-loop-t : goal.invariant-loop-t
invariant-loop-t l = Passed (Blank l.axis.number (records l.initial.cells (row_at l.row))) l.row l.t l.initial.cells l.cells
