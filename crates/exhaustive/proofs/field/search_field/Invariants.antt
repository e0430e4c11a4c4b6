use Rattle.std.proofs.Common.{ℕ, ◌<◌}
use Rattle.grid.specs.Cells.{cell_at}
use Rattle.pictures.specs.Numbered.{marks_by_number}
use Rattle.exhaustive.specs.Search.{FinishedCell}
use Rattle.exhaustive.proofs.field.search_field.Given as goal

abbrev pub invariant-loop-at : goal.invariant-loop-at
invariant-loop-at g l = (k : ℕ) → k < l.at → FinishedCell (g.R.Rule.near l.rule) l.grid.sizes (marks_by_number l.grid.sizes (g.P.Picture.marks l.picture)) k (cell_at l.cells k)
