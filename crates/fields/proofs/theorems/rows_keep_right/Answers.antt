use Rattle.fields.proofs.Orders as proved
use Rattle.fields.proofs.theorems.rows_keep_right.Goals as goal

pub returns : goal.returns
returns c = proved.rows_keep_right
