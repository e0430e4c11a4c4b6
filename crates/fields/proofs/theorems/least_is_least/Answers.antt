use Rattle.fields.proofs.Least as proved
use Rattle.fields.proofs.theorems.least_is_least.Goals as goal

pub returns : goal.returns
returns c = proved.least_is_least
