use Rattle.std.proofs.Common.{sym, ◌∙◌}
use Rattle.std.proofs.lemmas.Bool.{cond-true, cond-false}
use Rattle.grid.specs.Geometry.{is_grid, as_grid, one_cell}
use Rattle.grid.proofs.sizes.Sizes.as_grid.Goals as goal

pub returns-then-is_grid : goal.returns-then-is_grid
unfolding as_grid
returns-then-is_grid c = sym (cond-true (is_grid c.args.self) c.args.self one_cell (sym c.is_grid.ensures ∙ c.if-is_grid.true))

pub returns-else-is_grid : goal.returns-else-is_grid
unfolding as_grid
returns-else-is_grid c = sym (cond-false (is_grid c.args.self) c.args.self one_cell (sym c.is_grid.ensures ∙ c.if-is_grid.false))
