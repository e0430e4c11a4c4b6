use Rattle.replay.proofs.Going.{one_outcome}
use Rattle.replay.proofs.replaying.replay_both.Goals as goal

pub returns : goal.returns
returns g c =
    record {
      first = c.replay-first.ensures;
      second = c.replay-second.ensures;
      outcome = one_outcome g.P.Picture.extent g.P.Picture.marks g.Q.Picture.extent g.Q.Picture.marks (g.R.Rule.near c.args.rule) c.args.rule c.args.sizes c.args.calls.now c.args.other_calls.now
          c.replay-first.result c.replay-second.result c.args.answers.now c.replay-first.new.answers c.args.other_answers.now c.replay-second.new.answers
          c.args.cells.now c.replay-first.new.cells c.args.other_cells.now c.replay-second.new.cells c.replay-first.ensures c.replay-second.ensures;
    }
