use Rattle.std.proofs.Common.{◌≡◌, ◌<◌, length, rules}
use Rattle.grid.specs.Geometry.{cell_count}
use Rattle.grid.specs.RowGeometry.{row_count}
use Rattle.job.proofs.RowWork.{lies, works_row}
use Rattle.job.proofs.states.Working.row_in.Goals as goal

pub work_row-requires : goal.work_row-requires
work_row-requires g c =
    let job = c.args.self.now in
    let fits : length c.args.cells.now ≡ cell_count job.grid.sizes = search rules in
    let below : c.args.number < row_count job.grid.sizes job.axis.number = search rules in
    record { row = lies job.grid.sizes job.axis.number c.args.number job.axis.on c.args.cells.now fits below c.row-row.result c.row-row.ensures job.grid.is }

pub returns : goal.returns
returns g c =
    let job = c.args.self.now in
    let fits : length c.args.cells.now ≡ cell_count job.grid.sizes = search rules in
    let below : c.args.number < row_count job.grid.sizes job.axis.number = search rules in
    works_row job.grid.sizes job.axis.number c.args.number job.axis.on c.args.cells.now fits below c.row-row.result c.row-row.ensures
    (g.R.Rule.near job.rule) (g.R.Rule.ceiling job.rule) c.work_row.result c.work_row.new.cells c.work_row.ensures
