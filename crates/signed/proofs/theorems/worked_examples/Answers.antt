use Rattle.rules.proofs.Examples.{worked_examples}
use Rattle.signed.proofs.Examples.{signed_example}
use Rattle.signed.proofs.theorems.worked_examples.Goals as goal

pub returns : goal.returns
returns c = record { rules = worked_examples; signed_field = signed_example }
