use Rattle.std.proofs.Common.{refl, arith}
use Rattle.grid.proofs.Places.{number_inside}
use Rattle.grid.proofs.grids.Grid.number.Goals as goal

pub returns : goal.returns
returns c = record { value = refl; bound = number_inside c.args.self.sizes c.args.place c.requires }
