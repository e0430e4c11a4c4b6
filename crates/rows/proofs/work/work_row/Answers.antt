use Rattle.std.proofs.Common.{◌-◌}
use Rattle.grid.specs.RowGeometry.{row_at}
use Rattle.grid.specs.Rows.{records}
use Rattle.grid.proofs.RowDoors.{door_values}
use Rattle.rows.proofs.work.work_row.Goals as goal

pub serve-requires-clause-values : goal.serve-requires-clause-values
serve-requires-clause-values g c =
    let most = g.R.Rule.ceiling c.args.rule.now (c.args.axis.number - 1) in
    let row = records c.args.cells.now (row_at c.args.row) in
    door_values c.args.row.count row (c.args.axis.number - 1) most c.in_ok-gather.ensures.0
