use Rattle.std.proofs.Common.{sym, ◌∙◌, arith}
use Rattle.grid.specs.Grids.{sizes_from_test}
use Rattle.grid.proofs.Places.{cell_count_small}
use Rattle.grid.proofs.sizes.Sizes.is_grid.Goals as goal

pub overflow_mul-result-then-fit : goal.overflow_mul-result-then-fit
overflow_mul-result-then-fit c = omega (arith, cell_count_small c.args.self (sizes_from_test c.args.self (sym c.fit.ensures ∙ c.if-fit.true)))
