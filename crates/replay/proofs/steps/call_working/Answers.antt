use Rattle.replay.proofs.Turns.{row_called, raise_called, work_reopened}
use Rattle.replay.proofs.steps.call_working.Goals as goal

pub returns-in-Row : goal.returns-in-Row
returns-in-Row g c =
    let rule = c.args.job.rule in
    row_called g.P.Picture.extent g.P.Picture.marks (g.R.Rule.near rule) (g.R.Rule.ceiling rule) (g.met.R.Rule.order rule) (g.met.R.Rule.bounded rule)
    c.args.job c.args.cells.now c.requires c.args.call.now c.in-Row.number c.in-Row.is c.row_in.result c.from-answer.result c.row_in.new.cells
    c.from-answer.ensures c.row_in.ensures

pub returns-in-Ok : goal.returns-in-Ok
returns-in-Ok g c =
    let h = c.in-Ok.ensures in
    raise_called g.P.Picture.extent g.P.Picture.marks (g.R.Rule.near c.args.job.rule) c.args.job c.args.cells.now c.requires
    c.args.call.now c.in-Ok.raised c.from.result c.in-Raise.is c.from.ensures h.0 h.1

pub returns-in-Ok-reopen : goal.returns-in-Ok-reopen
returns-in-Ok-reopen g c =
    let h = c.in-Ok-reopen.ensures in
    work_reopened g.P.Picture.extent g.P.Picture.marks (g.R.Rule.near c.args.job.rule) c.args.job c.args.cells.now c.requires
    c.args.call.now c.in-Ok-reopen.next c.reopen.new.cells c.in-Reopen.is h.moves.1 h.leaves
