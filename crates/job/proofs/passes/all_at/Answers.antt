use Rattle.std.proofs.Common.{eqb, sym, arith}
use Rattle.std.proofs.lemmas.Bool.{eq-eqb, eqb-true}
use Rattle.grid.proofs.RowDoors.{all_places_from, not_all_places}
use Rattle.job.specs.Cells.{levels_in}
use Rattle.job.proofs.passes.all_at.Goals as goal

pub returns-then-cell-level : goal.returns-then-cell-level
returns-then-cell-level c =
    sym (not_all_places (λ k. eqb (levels_in c.args.cells.now k) c.args.level) _ c.loop-cell.cell-index c.loop-cell-test.true
    (λ e. c.if-cell-level.true (eqb-true _ _ e)))

pub returns : goal.returns
returns c =
    sym (all_places_from (λ k. eqb (levels_in c.args.cells.now k) c.args.level) _ (λ k h. eq-eqb _ _ (c.loop-cell.invariant k (omega arith))))
