use Rattle.std.proofs.Common.{rules}
use Rattle.volumes.proofs.field.set_field.Goals as goal

pub returns : goal.returns
returns g c = record { spacings = c.in_ok-spacings.spacings; as_set = search rules; found = search rules }
