use Rattle.fields.proofs.Distances as proved
use Rattle.fields.proofs.theorems.value_below_ceiling.Goals as goal

pub returns : goal.returns
returns c = proved.value_below_ceiling
