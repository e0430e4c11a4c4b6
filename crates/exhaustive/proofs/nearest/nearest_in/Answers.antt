use Rattle.std.proofs.Common.{true, false}
use Rattle.pictures.specs.Numbered.{marks_by_number}
use Rattle.exhaustive.proofs.Searching.{told_mark, on_from_marked, on_from_unmarked}
use Rattle.exhaustive.proofs.nearest.nearest_in.Goals as goal
use Rattle.exhaustive.proofs.nearest.nearest_in.Goals.{then-marked, else-marked}

pub loop-from-preserved : goal.loop-from-preserved
loop-from-preserved g c =
    let near = g.R.Rule.near c.args.rule.now in
    let s = c.args.grid.sizes in
    let marked = g.P.Picture.marks c.args.picture.now in
    let marks = marks_by_number s marked in
    let from = c.loop-from.from in
    elim c.if-marked.branch [
      | then-marked w ↦ on_from_marked near s marks c.args.at from w.distance_in-value.result c.loop-from.best w.nearer-best.result c.if-marked.best c.loop-from.invariant
          (told_mark marked s from c.place.result true c.place.ensures w.if-marked.ensures) w.distance_in-value.ensures w.nearer-best.ensures w.best-is
      | else-marked w ↦ on_from_unmarked near s marks c.args.at from c.loop-from.best c.if-marked.best c.loop-from.invariant
          (told_mark marked s from c.place.result false c.place.ensures w.if-marked.ensures) w.best-is
    ]
