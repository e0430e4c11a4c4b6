use Rattle.std.proofs.Common.{arith}
use Rattle.replay.proofs.Sweep.{was_ok, moved_to, moved_open, left_as}
use Rattle.replay.proofs.Going.{going_none, going_more, played}
use Rattle.replay.proofs.replaying.replay.Goals as goal

pub loop-i-init : goal.loop-i-init
loop-i-init g c =
    let here = was_ok _ c.begin.result c.map_err.result c.in_ok-painting.painting c.map_err.ensures.cases c.in_ok-painting.was in
    going_none g.P.Picture.extent g.P.Picture.marks g.R.Rule.near c.args.rule c.args.sizes c.args.calls.now c.args.answers.now
    c.in_ok-painting.painting c.begin.new.cells (moved_to _ _ _ _ c.begin.ensures.moves c.in_ok-painting.painting here) (left_as _ _ _ _ c.begin.ensures.leaves c.in_ok-painting.painting here)

pub loop-i-preserved : goal.loop-i-preserved
loop-i-preserved g c =
    going_more g.P.Picture.extent g.P.Picture.marks g.R.Rule.near c.in_ok-painting.painting.rule c.in_ok-painting.painting.grid.sizes c.args.calls.now
    c.loop-i.answers c.loop-i.i c.loop-i.job c.call-next.result.0 c.index-calls-i.result c.call-next.result.1 c.loop-i.cells c.call-next.new.cells
    (omega arith) (omega arith) c.index-calls-i.is c.loop-i.invariant c.call-next.ensures

pub returns : goal.returns
returns g c =
    let here = was_ok _ c.begin.result c.map_err.result c.in_ok-painting.painting c.map_err.ensures.cases c.in_ok-painting.was in
    let moved = moved_open _ _ _ _ c.begin.ensures.moves c.in_ok-painting.painting here in (
      omega arith,
      played g.P.Picture.extent g.P.Picture.marks g.R.Rule.near c.args.rule c.args.sizes c.args.calls.now
          c.in_ok-painting.painting moved.1 c.args.cells.now c.loop-i.answers c.loop-i.i c.loop-i.job c.loop-i.cells moved.0 (omega arith) c.loop-i-test.false c.loop-i.invariant,
    )
