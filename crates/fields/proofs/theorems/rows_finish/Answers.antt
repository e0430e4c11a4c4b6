use Rattle.fields.proofs.Orders as proved
use Rattle.fields.proofs.theorems.rows_finish.Goals as goal

pub returns : goal.returns
returns c = proved.rows_finish
