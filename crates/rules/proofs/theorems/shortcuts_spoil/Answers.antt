use Rattle.rules.proofs.Examples as proved
use Rattle.rules.proofs.theorems.shortcuts_spoil.Goals as goal

pub returns : goal.returns
returns c = proved.shortcuts_spoil
