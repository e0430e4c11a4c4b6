use Rattle.std.proofs.Common.{◌≡◌, ◌<◌, arith}
use Rattle.grid.specs.RowGeometry.{row_count}
use Rattle.replay.proofs.Sweep.{goes_through, changed, sweep_none, sweep_open, sweep_more, sweep_all}
use Rattle.replay.proofs.whole.work_axis.Goals as goal

pub loop-number-init : goal.loop-number-init
loop-number-init g c =
    let job = c.args.job.now in
    sweep_none (g.R.Rule.ceiling job.rule) (g.R.Rule.near job.rule) (g.met.R.Rule.order job.rule) (g.met.R.Rule.bounded job.rule) job.grid.sizes job.grid.is job.axis.number job.axis.on
    c.args.cells.now c.requires

pub unwrap-requires : goal.unwrap-requires
unwrap-requires g c =
    let job = c.args.job.now in
    let below : c.loop-number.number < row_count c.args.job.now.grid.sizes c.args.job.now.axis.number = omega (arith, c.row_count-count.ensures) in
    goes_through _ _ _ _ _ c.row_in.ensures
    (sweep_open (g.R.Rule.ceiling job.rule) (g.R.Rule.near job.rule) (g.met.R.Rule.order job.rule) (g.met.R.Rule.bounded job.rule) job.grid.sizes job.grid.is job.axis.number job.axis.on
    c.args.cells.now c.loop-number.number c.loop-number.cells below c.loop-number.invariant)

pub loop-number-preserved : goal.loop-number-preserved
loop-number-preserved g c =
    let job = c.args.job.now in
    let below : c.loop-number.number < row_count c.args.job.now.grid.sizes c.args.job.now.axis.number = omega (arith, c.row_count-count.ensures) in
    sweep_more (g.R.Rule.ceiling job.rule) (g.R.Rule.near job.rule) (g.met.R.Rule.order job.rule) (g.met.R.Rule.bounded job.rule) job.grid.sizes job.grid.is job.axis.number job.axis.on
    c.args.cells.now c.loop-number.number c.loop-number.cells below c.loop-number.invariant c.row_in.new.cells (changed _ _ _ _ _ c.row_in.ensures c.unwrap.result c.unwrap.ensures)

pub returns : goal.returns
returns g c =
    let job = c.args.job.now in
    let all : c.loop-number.number ≡ row_count c.args.job.now.grid.sizes c.args.job.now.axis.number = omega (arith, c.row_count-count.ensures) in
    sweep_all (g.R.Rule.ceiling job.rule) (g.R.Rule.near job.rule) (g.met.R.Rule.order job.rule) (g.met.R.Rule.bounded job.rule) job.grid.sizes job.grid.is job.axis.number job.axis.on
    c.args.cells.now c.loop-number.number c.loop-number.cells all c.loop-number.invariant
