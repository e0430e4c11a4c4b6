-- Rows worked in whatever order leave every record right.
use Rattle.fields.specs.Orders.{none, row, RowsKeepRight, RowsFinish}
use Rattle.fields.proofs.Painting.{painted_holds}
use Rattle.fields.proofs.StepUp.{step_up}

pub rows_keep_right : RowsKeepRight
rows_keep_right ceiling near order bounded s marks first last holds none = holds
rows_keep_right ceiling near order bounded s marks first last holds (row {before = before} so_far d m after here stands done) =
    (step_up ceiling near order bounded s marks d m here before after
    (rows_keep_right ceiling near order bounded s marks first before holds so_far) stands done).all_hold

pub rows_finish : RowsFinish
rows_finish ceiling near order bounded s marks first last painted worked top =
    record {
      all_hold = rows_keep_right ceiling near order bounded s marks first last (painted_holds near s marks first painted).all_hold worked;
      all_at_3 = top;
    }
