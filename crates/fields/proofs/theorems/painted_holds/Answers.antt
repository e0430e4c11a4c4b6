use Rattle.fields.proofs.Painting as proved
use Rattle.fields.proofs.theorems.painted_holds.Goals as goal

pub returns : goal.returns
returns c = proved.painted_holds
