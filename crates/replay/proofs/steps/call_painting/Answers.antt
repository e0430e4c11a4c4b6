use Rattle.replay.proofs.Turns.{mark_called, wipe_called, load_called, start_called}
use Rattle.replay.proofs.steps.call_painting.Goals as goal

pub returns-in-Mark : goal.returns-in-Mark
returns-in-Mark g c =
    mark_called g.P.Picture.extent g.P.Picture.marks (g.R.Rule.near c.args.job.rule) c.args.job c.args.cells.now c.requires
    c.args.call.now c.in-Mark.place c.in-Mark.is c.mark.result c.from-answer.result c.mark.new.cells c.from-answer.ensures c.mark.ensures

pub returns-in-Wipe : goal.returns-in-Wipe
returns-in-Wipe g c =
    wipe_called g.P.Picture.extent g.P.Picture.marks (g.R.Rule.near c.args.job.rule) c.args.job c.args.cells.now c.requires
    c.args.call.now c.in-Wipe.place c.in-Wipe.is c.wipe.result c.from-answer-in-Wipe.result c.wipe.new.cells c.from-answer-in-Wipe.ensures c.wipe.ensures

pub returns-in-Load : goal.returns-in-Load
returns-in-Load g c =
    load_called g.P.Picture.extent g.P.Picture.marks (g.R.Rule.near c.args.job.rule) c.args.job c.args.cells.now c.requires g.P.Picture.lawful.outside
    c.args.call.now c.in-Load.picture c.in-Load.is c.load.result c.from-answer-in-Load.result c.load.new.cells c.from-answer-in-Load.ensures c.load.ensures

pub returns-in-Ok : goal.returns-in-Ok
returns-in-Ok g c =
    let h = c.in-Ok.ensures in
    start_called g.P.Picture.extent g.P.Picture.marks (g.R.Rule.near c.args.job.rule) c.args.job c.args.cells.now c.requires
    c.args.call.now c.in-Ok.next c.in-Start.is h.0 h.1
