use Rattle.grid.proofs.Places as proved
use Rattle.grid.proofs.theorems.places_invert.Goals as goal

pub returns : goal.returns
returns c = proved.places_invert
