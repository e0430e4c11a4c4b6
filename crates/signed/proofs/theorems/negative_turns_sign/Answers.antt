use Rattle.signed.proofs.Turning as proved
use Rattle.signed.proofs.theorems.negative_turns_sign.Goals as goal

pub returns : goal.returns
returns c = proved.negative_turns_sign
