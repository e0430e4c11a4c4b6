use Rattle.pictures.proofs.Crossings as proved
use Rattle.pictures.proofs.theorems.both_kinds_have_a_face.Goals as goal

pub returns : goal.returns
returns c = proved.both_kinds_have_a_face
