use Rattle.std.proofs.Common.{◌≡◌, ◌+◌, ◌-◌, ◌<◌, ◌≤◌, Some, sym, refl, ap, ◌∙◌, reverse, subst, arith}
use Rattle.grid.specs.RowGeometry.{row_at}
use Rattle.grid.specs.Rows.{RowAt, RowBelow, records}
use Rattle.grid.proofs.RowDoors.{door_level, door_open}
use Rattle.rows.specs.Stacks.{Gathered}
use Rattle.rows.proofs.Steps.{gathered_skip, gathered_add, all_within, one_more, large_refused}
use Rattle.rows.proofs.gather.gather.Goals as goal
use Rattle.rows.proofs.gather.gather.Goals.{in-Some, in_default}

pub returns-then-cell-axis : goal.returns-then-cell-axis
returns-then-cell-axis g c =
    let most = g.R.Rule.ceiling c.args.rule.now (c.args.axis.number - 1) in
    let row = records c.args.cells.now (row_at c.args.row) in
    let found = ap (λ cell. cell.level) c.load-cell.ensures in
    door_level c.args.row.count row (c.args.axis.number - 1) most c.loop-j.j c.loop-j-test.true
    (λ e. omega (arith, found, c.if-cell-axis.true))

pub returns-then-cell-most : goal.returns-then-cell-most
returns-then-cell-most g c =
    let most = g.R.Rule.ceiling c.args.rule.now (c.args.axis.number - 1) in
    let row = records c.args.cells.now (row_at c.args.row) in
    let found = ap (λ cell. cell.value) c.load-cell.ensures in
    let large : most < (row c.loop-j.j).value = omega (arith, found, c.most_on-most.ensures, c.if-cell-most.true) in
    large_refused c.args.row.count row (c.args.axis.number - 1) most c.loop-j.j c.loop-j-test.true large
    ∙ ap Some (sym c.refusal_past.ensures)

pub add-requires-clause-below : goal.add-requires-clause-below
add-requires-clause-below g c =
    let most = g.R.Rule.ceiling c.args.rule.now (c.args.axis.number - 1) in
    let row = records c.args.cells.now (row_at c.args.row) in
    all_within c.args.row.count row most c.loop-j.j c.loop-j.invariant.1 (reverse c.loop-j.stack) c.loop-j.invariant.2.points

pub loop-j-preserved : goal.loop-j-preserved
loop-j-preserved g c =
    let near = g.R.Rule.near c.args.rule.now c.args.axis.number in
    let most = g.R.Rule.ceiling c.args.rule.now (c.args.axis.number - 1) in
    let n = c.args.row.count in
    let row = records c.args.cells.now (row_at c.args.row) in
    let j = c.loop-j.j in
    let found = c.load-cell.ensures in
    let here : (row j).level ≡ c.args.axis.number - 1 = sym (ap (λ cell. cell.level) found) ∙ c.if-cell-axis.false in
    let low : (row j).value ≤ most = omega (arith, ap (λ cell. cell.value) found, c.most_on-most.ensures, c.if-cell-most.false) in (
      one_more (λ i. (row i).level ≡ c.args.axis.number - 1) j c.loop-j.invariant.0 here,
      one_more (λ i. (row i).value ≤ most) j c.loop-j.invariant.1 low,
      elim c.match-cell.branch [
        | in-Some w ↦
            subst (λ s. Gathered near n row (j + 1) s) (sym w.stack-is)
            (gathered_add near n row j c.loop-j.stack
            (record { place = j; start = 0; point = w.in-Some.point; value = c.load-cell.result.value })
            w.add.new.stack c.loop-j-test.true c.loop-j.invariant.2 refl
            (ap (λ cell. cell.value) found) (sym (ap (λ cell. cell.point) found) ∙ w.in-Some.is) w.add.ensures)
        | in_default w ↦
            subst (λ s. Gathered near n row (j + 1) s) (sym w.stack-is)
            (gathered_skip near n row j c.loop-j.stack c.loop-j.invariant.2 (sym (ap (λ cell. cell.point) found) ∙ w.in_default.is))
      ],
    )

pub returns : goal.returns
returns g c =
    let near = g.R.Rule.near c.args.rule.now c.args.axis.number in
    let most = g.R.Rule.ceiling c.args.rule.now (c.args.axis.number - 1) in
    let n = c.args.row.count in
    let row = records c.args.cells.now (row_at c.args.row) in
    let all : c.loop-j.j ≡ n = omega arith in (
      door_open n row (c.args.axis.number - 1) most (subst (λ m. RowAt m row (c.args.axis.number - 1)) all c.loop-j.invariant.0) (subst (λ m. RowBelow m row most) all c.loop-j.invariant.1),
      subst (λ m. Gathered near n row m c.loop-j.stack) all c.loop-j.invariant.2,
    )
