use Rattle.std.proofs.Common.{sym, subst₂, arith, rules}
use Rattle.grid.specs.RowGeometry.{LiesIn}
use Rattle.grid.proofs.RowCells.{row_lies}
use Rattle.speed.proofs.board.Board.work_axis.Goals as goal

pub work_row-requires : goal.work_row-requires
work_row-requires g c =
    record {
      row = subst₂ (λ row n. LiesIn row n) (sym c.row-row.ensures) (search rules)
          (row_lies c.args.self.now.grid.sizes c.args.self.now.grid.is c.args.axis.number c.loop-number.number c.args.axis.on (omega (arith, c.loop-number-test.true, c.row_count-number-end.ensures)));
    }
