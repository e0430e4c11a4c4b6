use Rattle.pictures.proofs.SameFaces as proved
use Rattle.pictures.proofs.theorems.negative_has_same_faces.Goals as goal

pub returns : goal.returns
returns c = proved.negative_has_same_faces
