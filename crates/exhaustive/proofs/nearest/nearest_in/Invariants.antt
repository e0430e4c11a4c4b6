use Rattle.pictures.specs.Numbered.{marks_by_number}
use Rattle.exhaustive.specs.Search.{NearestBelow}
use Rattle.exhaustive.proofs.nearest.nearest_in.Given as goal

abbrev pub invariant-loop-from : goal.invariant-loop-from
invariant-loop-from g l = NearestBelow (g.R.Rule.near l.rule) l.grid.sizes (marks_by_number l.grid.sizes (g.P.Picture.marks l.picture)) l.at l.from l.best
