use Rattle.replay.proofs.Turns.{field_reopened}
use Rattle.replay.proofs.steps.call_finished.Goals as goal

pub returns-in-Ok-reopen : goal.returns-in-Ok-reopen
returns-in-Ok-reopen g c =
    let h = c.in-Ok-reopen.ensures in
    field_reopened g.P.Picture.extent g.P.Picture.marks (g.R.Rule.near c.args.job.rule) c.args.job c.args.cells.now c.requires
    c.args.call.now c.in-Ok-reopen.next c.reopen.new.cells c.in-Reopen.is h.moves.1 h.leaves
