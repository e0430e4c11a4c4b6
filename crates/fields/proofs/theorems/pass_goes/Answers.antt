use Rattle.fields.proofs.Passing as proved
use Rattle.fields.proofs.theorems.pass_goes.Goals as goal

pub returns : goal.returns
returns c = proved.pass_goes
