use Rattle.exhaustive.proofs.Pairs.{in_range, carried_to_3}
use Rattle.exhaustive.proofs.nearest.distance_in.Goals as goal

pub near_in-requires : goal.near_in-requires
near_in-requires g c =
    let rule = c.args.rule.now in
    carried_to_3 (g.R.Rule.ceiling rule) (g.R.Rule.near rule) (g.met.R.Rule.bounded rule) (g.met.R.Rule.ceilings rule)
    c.place-x.result c.place-i.result
    (in_range c.args.grid.sizes c.args.grid.is c.args.at c.requires.0 c.place-x.result c.place-x.ensures)
    (in_range c.args.grid.sizes c.args.grid.is c.args.from c.requires.1 c.place-i.result c.place-i.ensures)
    c.near_in-along_x.result c.near_in-along_y.result c.near_in-along_x.ensures c.near_in-along_y.ensures
