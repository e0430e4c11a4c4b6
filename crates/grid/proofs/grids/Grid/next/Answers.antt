use Rattle.std.proofs.Common.{sym, arith}
use Rattle.grid.proofs.Places.{below_from_inside, next_in_row, next_row, next_layer}
use Rattle.grid.proofs.grids.Grid.next.Goals as goal

pub returns-then-x-self : goal.returns-then-x-self
returns-then-x-self c =
    let b = below_from_inside c.args.self.sizes c.args.place c.requires in
    sym (next_in_row c.args.self.sizes c.args.place.0 c.args.place.1 c.args.place.2 b.x b.y c.if-x-self.true)

pub returns-then-y-self : goal.returns-then-y-self
returns-then-y-self c =
    let b = below_from_inside c.args.self.sizes c.args.place c.requires in
    sym (next_row c.args.self.sizes c.args.place.0 c.args.place.1 c.args.place.2 b.x b.y (omega (arith, b.x)) c.if-y-self.true)

pub returns-else-y-self : goal.returns-else-y-self
returns-else-y-self c =
    let b = below_from_inside c.args.self.sizes c.args.place c.requires in
    sym (next_layer c.args.self.sizes c.args.place.0 c.args.place.1 c.args.place.2 b.x b.y (omega (arith, b.x)) (omega (arith, b.y)))
