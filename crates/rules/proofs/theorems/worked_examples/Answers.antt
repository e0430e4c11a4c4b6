use Rattle.rules.proofs.Examples as proved
use Rattle.rules.proofs.theorems.worked_examples.Goals as goal

pub returns : goal.returns
returns c = proved.worked_examples
