use Rattle.std.proofs.Common.{rules}
use Rattle.volumes.proofs.Reading.{no_digits, more_left}
use Rattle.volumes.proofs.words.read_spacing.Goals as goal

pub returns-in_err-spacing : goal.returns-in_err-spacing
returns-in_err-spacing c = search (rules, no_digits c.args.word.now c.in_err-spacing.ensures)

pub returns-in_default : goal.returns-in_default
returns-in_default c = more_left c.args.word.now _ _ c.in_ok-spacing.ensures c.in_default.len_at_least
