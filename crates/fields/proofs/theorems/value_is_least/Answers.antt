use Rattle.fields.proofs.Least as proved
use Rattle.fields.proofs.theorems.value_is_least.Goals as goal

pub returns : goal.returns
returns c = proved.value_is_least
