use Rattle.std.proofs.Common.{sym, ◌∙◌, arith}
use Rattle.grid.specs.Grids.{sizes_from_test}
use Rattle.grid.proofs.Places.{cell_count_small}
use Rattle.grid.proofs.sizes.Sizes.count_cells.Goals as goal

pub overflow_mul-n-2 : goal.overflow_mul-n-2
overflow_mul-n-2 c = omega (arith, cell_count_small c.args.self (sizes_from_test c.args.self (sym c.fit.ensures ∙ c.if-not-fit.false)))
