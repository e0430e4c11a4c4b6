use Rattle.replay.proofs.Sweep.{moves_on, raise_open}
use Rattle.replay.proofs.whole.raised.Goals as goal

pub unwrap-requires : goal.unwrap-requires
unwrap-requires g c =
    let job = c.args.job in
    moves_on _ _ _ _ c.raise.ensures (raise_open job.grid.sizes job.axis.number c.args.cells.now c.requires.all_hold.one_each c.requires.all_at)
