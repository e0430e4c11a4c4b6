use Rattle.fields.proofs.StepUp as proved
use Rattle.fields.proofs.theorems.step_up.Goals as goal

pub returns : goal.returns
returns c = proved.step_up
