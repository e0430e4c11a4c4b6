use Rattle.std.proofs.Common.{◌+◌, ◌<◌, sym, refl, ap, subst}
use Rattle.grid.specs.RowGeometry.{row_at}
use Rattle.grid.specs.Rows.{records}
use Rattle.rows.specs.Passes.{Passed, Blank}
use Rattle.rows.proofs.Rewrites.{lies, passed_ahead, passed_more}
use Rattle.rows.proofs.serve.clear.Goals as goal

pub loop-t-preserved : goal.loop-t-preserved
loop-t-preserved c =
    let row = c.args.row in
    let old = c.args.cells.now in
    let t = c.loop-t.t in
    let P = Blank c.args.axis.number (records old (row_at row)) in
    let same = passed_ahead P row c.requires.row.stepped old t c.loop-t.cells c.loop-t.invariant in
    let inside = subst (λ n. row_at row t < n) (sym c.loop-t.invariant.same_length) (lies row _ t c.requires.row c.loop-t-test.true) in
    subst (λ new. Passed P row (t + 1) old new) (sym c.store.ensures)
    (passed_more P row c.requires.row.stepped old t c.loop-t.cells _ c.loop-t.invariant inside
    (record { mark = ap (λ cell. cell.marked) same; level = refl; point = refl; value = refl }))
