use Rattle.std.proofs.Common.{◌≡◌, ◌+◌, ◌-◌, ◌<◌, Some, sym, subst, subst₂, ap, arith, rules}
use Rattle.std.proofs.lemmas.List.{nil_from_length}
use Rattle.grid.specs.RowGeometry.{row_at}
use Rattle.grid.specs.Rows.{records}
use Rattle.rows.specs.Passes.{Passed, Served, renewed}
use Rattle.rows.specs.Stacks.{Gathered, Within, cost_of}
use Rattle.rows.proofs.Envelope.{Serving}
use Rattle.rows.proofs.Rewrites.{lies, passed_none, passed_ahead, passed_more, served_done}
use Rattle.rows.proofs.Steps.{cleared_done, serves_first, serves_alone, serves_still, serves_next, serves_on, within_at, served_by}
use Rattle.rows.proofs.serve.serve.Goals as goal
use Rattle.rows.proofs.serve.serve.Goals.{in-Some-split_first+then-next-t, in_default, in_default-via-in-None-1, in_default-via-in-Some-split_first+else-next-t}

pub returns-in_default : goal.returns-in_default
returns-in_default g c =
    let near = g.R.Rule.near c.args.rule.now in
    let row = c.args.row in
    let old = c.args.cells.now in
    cleared_done near c.args.axis.number row old c.requires.row.not_empty
    (subst (λ s. Gathered (near c.args.axis.number) row.count (records old (row_at row)) row.count s) (nil_from_length c.args.stack.now c.in_default.ensures.cases) c.requires.gathered)
    c.clear.new.cells c.clear.ensures

pub loop-t-init : goal.loop-t-init
loop-t-init g c =
    let near = g.R.Rule.near c.args.rule.now c.args.axis.number in
    let row = c.args.row in
    let old = c.args.cells.now in (
      passed_none (Served near c.args.axis.number row.count (records old (row_at row))) row c.requires.row.stepped old,
      serves_first near c.args.stack.now c.in-Some.lowest.now c.in-Some.later.now c.in-Some.ensures.cases.0 c.requires.gathered.lined,
    )

pub cost-value-requires-clause-candidate : goal.cost-value-requires-clause-candidate
cost-value-requires-clause-candidate g c =
    let near = g.R.Rule.near c.args.rule.now in
    let ceiling = g.R.Rule.ceiling c.args.rule.now in
    let law = g.met.R.Rule.crosses c.args.rule.now in
    let s = c.args.stack.now in
    let t = c.loop-t.t in
    let last = c.loop-t.invariant.1 in
    let within = within_at ceiling near law c.args.axis.number c.args.axis.on c.args.row.count (records c.args.cells.now (row_at c.args.row)) c.requires.values c.requires.row.few_places s c.requires.gathered in
    elim c.match-split_first-2.branch [
      | in-Some-split_first+then-next-t w ↦
          subst (λ b. Within (ceiling (c.args.axis.number - 1)) 1023 b) (sym w.candidate-is)
          (within _ _ t (t + 1) (serves_next s c.loop-t.candidate c.loop-t.later.now t last (near c.args.axis.number) c.requires.gathered.lined _ _ w.in-Some-split_first.ensures.cases.0 (omega arith)))
      | in_default w ↦
          subst (λ b. Within (ceiling (c.args.axis.number - 1)) 1023 b) (sym w.candidate-is) (within _ _ t t last)
    ]

pub loop-t-preserved : goal.loop-t-preserved
loop-t-preserved g c =
    let near = g.R.Rule.near c.args.rule.now in
    let s = c.args.stack.now in
    let t = c.loop-t.t in
    let last = c.loop-t.invariant.1 in
    let serving : Serving s c.match-split_first-2.candidate c.match-split_first-2.later.now t (t + 1) =
    elim c.match-split_first-2.branch [
      | in-Some-split_first+then-next-t w ↦
          subst₂ (λ b l. Serving s b l t (t + 1)) (sym w.candidate-is) (sym (ap (λ l. l.now) w.later-is))
          (serves_next s c.loop-t.candidate c.loop-t.later.now t last (near c.args.axis.number) c.requires.gathered.lined _ _ w.in-Some-split_first.ensures.cases.0 (omega arith))
      | in_default w ↦
          subst₂ (λ b l. Serving s b l t (t + 1)) (sym w.candidate-is) (sym (ap (λ l. l.now) w.later-is))
          (elim w.in_default.branch [
            | in_default-via-in-None-1 w' ↦ serves_alone s c.loop-t.candidate c.loop-t.later.now t last (search rules)
            | in_default-via-in-Some-split_first+else-next-t w' ↦
                serves_still s c.loop-t.candidate c.loop-t.later.now t last _ _ w'.in-Some-split_first.ensures.cases.0 (omega arith)
          ])
    ] in
    let ceiling = g.R.Rule.ceiling c.args.rule.now in
    let law = g.met.R.Rule.crosses c.args.rule.now in
    let d = c.args.axis.number in
    let row = c.args.row in
    let old = c.args.cells.now in
    let was = records old (row_at row) in
    let passed = c.loop-t.invariant.0 in
    let b = c.match-split_first-2.candidate in
    let P = Served (near d) d row.count was in
    let same = passed_ahead P row c.requires.row.stepped old t c.loop-t.cells passed in
    let inside = subst (λ n. row_at row t < n) (sym passed.same_length) (lies row _ t c.requires.row c.loop-t-test.true) in
    let best : P t (renewed (was t) d (Some b.point) (cost_of (near d) b t)) =
    served_by ceiling near law d c.args.axis.on row.count was c.requires.values c.requires.row.few_places s c.requires.gathered b _ t serving c.loop-t-test.true in
    let written : P t (renewed (records c.loop-t.cells (row_at row) t) d (Some b.point) c.cost-value.result) =
    subst (λ v. P t (renewed (records c.loop-t.cells (row_at row) t) d (Some b.point) v)) (sym c.cost-value.ensures)
    (subst (λ cell. P t (renewed cell d (Some b.point) (cost_of (near d) b t))) (sym same) best) in (
      subst (λ new. Passed P row (t + 1) old new) (sym c.store.ensures)
          (passed_more P row c.requires.row.stepped old t c.loop-t.cells _ passed inside written),
      serves_on s b _ t serving,
    )

pub returns : goal.returns
returns g c =
    let near = g.R.Rule.near c.args.rule.now in
    let row = c.args.row in
    let old = c.args.cells.now in
    let all : c.loop-t.t ≡ row.count = omega arith in
    served_done near c.args.axis.number row old c.loop-t.cells
    (subst (λ n. Passed (Served (near c.args.axis.number) c.args.axis.number row.count (records old (row_at row))) row n old c.loop-t.cells) all c.loop-t.invariant.0)
