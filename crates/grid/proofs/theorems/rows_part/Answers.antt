use Rattle.grid.proofs.RowCells as proved
use Rattle.grid.proofs.theorems.rows_part.Goals as goal

pub returns : goal.returns
returns c = proved.rows_part
