use Rattle.fields.proofs.Distances as proved
use Rattle.fields.proofs.theorems.row_values_fit.Goals as goal

pub returns : goal.returns
returns c = proved.row_values_fit
