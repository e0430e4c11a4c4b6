use Rattle.std.proofs.lemmas.Result.{MatchResult-weaker}
use Rattle.std.proofs.Common.{string_bytes, ◌≤◌, rules}
use Rattle.grid.specs.Geometry.{cell_count}
use Rattle.pbm.proofs.Loop.{kept}
use Rattle.reporting.proofs.Reporting.{settings_fit, reports_input, no_report}
use Rattle.reporting.proofs.field.report.Goals as goal

pub report_stack-requires : goal.report_stack-requires
report_stack-requires c = settings_fit _ _ _ c.in_ok-job.ensures

pub returns : goal.returns
returns c =
    let job = c.in_ok-job.ensures in
    let read = c.in_ok-stack.stack in
    let shows = kept _ _ _ c.new.result c.map_err.result read c.new.ensures.cases c.map_err.ensures.cases c.in_ok-stack.was in
    let few : cell_count read.grid.sizes ≤ 2048 = search rules in
    MatchResult-weaker c.report_stack.result c.report_stack.ensures
    (λ t. reports_input _ _ _ job read shows few (string_bytes t))
    (no_report _ _ _ job read shows few)
