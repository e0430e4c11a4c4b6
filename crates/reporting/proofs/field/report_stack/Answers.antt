use Rattle.std.proofs.lemmas.Result.{MatchResult-weaker}
use Rattle.std.proofs.Common.{string_bytes, rules}
use Rattle.pictures.specs.Numbered.{marks_by_number}
use Rattle.pbm.specs.Marks.{stack_extent, stack_marks}
use Rattle.reporting.specs.Faults.{field_fault}
use Rattle.reporting.specs.Reports.{NoField}
use Rattle.reporting.proofs.Reporting.{no_field_from_error, no_field_from_no_point, reports_stack}
use Rattle.reporting.proofs.field.report_stack.Goals as goal

pub returns : goal.returns
returns c =
    let found = c.in_ok-cells.ensures in
    let cells = c.in_ok-cells.cells.items in
    MatchResult-weaker c.field_text.result c.field_text.ensures
    (λ t. reports_stack c.args.settings _ c.new.result c.unwrap-named.result _ c.new.ensures (search rules) c.unwrap-named.ensures _ _ cells found.finished _ c.grid.ensures _ c.deref.ensures.value (string_bytes t))
    (λ e lacks. no_field_from_no_point _ _ _ cells found.finished c.deref.result.now c.deref.ensures.value e lacks)

pub returns-in_err-cells : goal.returns-in_err-cells
returns-in_err-cells c =
    let s = stack_extent c.args.stack.now in
    let none : NoField s (marks_by_number s (stack_marks c.args.stack.now)) (field_fault c.in_err-cells.field-0.0) = no_field_from_error _ _ _ c.in_err-cells.ensures in
    search (rules, none)
