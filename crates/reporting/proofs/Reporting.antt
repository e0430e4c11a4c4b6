-- From a finished field, a sound stack and a job text to the report on an input.
use Rattle.std.proofs.Common.{Result, Ok, ◌≡◌, ℕ, ◌<◌, ◌≤◌, Bool, true, false, List, Some, None, Option, sym, refl, ap, ◌∙◌, subst, arith}
use Rattle.grid.specs.declared.refusal.Refusal.{Refusal}
use Rattle.grid.specs.declared.refusal.Refusal.TheVariants.{NoMark}
use Rattle.grid.specs.Doors.{unless, Admits}
use Rattle.job.specs.Doors.{some_place}
use Rattle.job.proofs.Writing.{some_place_at}
use Rattle.replay.specs.Whole.{FieldFails}
use Rattle.replay.specs.declared.new_cells.FieldError.{FieldError}
use Rattle.replay.specs.declared.new_cells.FieldError.TheVariants as field_error
use Rattle.reporting.specs.Faults.{field_fault}
use Rattle.reporting.specs.declared.faults.ReportFault.TheVariants.{Field}
use Rattle.grid.specs.declared.cell.Cell.{Cell}
use Rattle.grid.specs.declared.sizes.Sizes.{Sizes}
use Rattle.grid.specs.Geometry.{Place, cell_count}
use Rattle.grid.specs.Distance.{Near}
use Rattle.grid.specs.Cells.{Marks, Answers, FinishedField, cell_at}
use Rattle.pictures.specs.Numbered.{marks_by_number}
use Rattle.pbm.specs.declared.stack.Stack.{Stack}
use Rattle.pbm.specs.Marks.{stack_extent, stack_marks}
use Rattle.pbm.specs.Promises.{Shows}
use Rattle.rules.specs.Formulas.{HasSpacings}
use Rattle.job_text.specs.declared.columns.Column.TheVariants.{Sx, Sy, Sz}
use Rattle.reporting.specs.declared.faults.ReportError.{ReportError}
use Rattle.reporting.specs.declared.faults.ReportError.TheVariants.{Fault, NoMemory}
use Rattle.rules.specs.declared.named.NamedRule.{NamedRule}
use Rattle.rules.specs.Named.{named_near}
use Rattle.rules.specs.declared.name.RuleName.{RuleName}
use Rattle.job_text.specs.declared.settings.Settings.{Settings}
use Rattle.job_text.specs.Jobs.{IsJob}
use Rattle.reporting.specs.Texts.{NoPoint, LacksPoint, PrintsField}
use Rattle.reporting.specs.Reports.{SettingsFit, ReportsStack, Unmarked, NoField, Sound, ReportsInput, FaultyInput, Refuses}

-- a finished field in which a cell has no point has no mark
pub unmarked_from_no_point : (near : Near) (s : Sizes) (marks : Marks) (cells : List Cell) → FinishedField near s marks cells → NoPoint cells → Unmarked s marks
unmarked_from_no_point near s marks cells field none q below marked =
    let k = none.number in
    let here : k < cell_count s = omega (arith, none.is_cell, field.all_hold.one_each) in
    let holds = field.all_hold.each k here in
    let P : ℕ → Type 0 = λ d. Answers near s marks d k (cell_at cells k).point (cell_at cells k).value in
    let Q : Option ℕ → Type 0 = λ o. Answers near s marks 3 k o (cell_at cells k).value in
    (subst Q none.no_point (subst P (field.all_at_3 k here) holds.nearest)).1 q
    record { in_grid = below; is_marked = marked; in_slab = λ e lo hi. omega arith }

-- a field is refused only where it has no mark
pub no_field_from_error : (s : Sizes) (marks : Marks) (e : FieldError) → FieldFails s marks e → NoField s marks (field_fault e)
no_field_from_error s marks (field_error.Refused e) refused =
    let none = go (some_place (cell_count s) marks) refl refused in
    (ap Field none.0, none.1)
  where
    go : (b : Bool) → some_place (cell_count s) marks ≡ b → unless b NoMark None ≡ Some e → (e ≡ NoMark) × Unmarked s marks
    go true h d = let y : ◌≡◌ {A = ℕ} 0 1 = cc in absurd (omega arith)
    go false h d = (cc, λ k below marked. let z : true ≡ false = sym (some_place_at marks (cell_count s) k below marked) ∙ h in let y : ◌≡◌ {A = ℕ} 0 1 = cc in omega arith)
no_field_from_error s marks field_error.NoMemory refused = tt

pub no_field_from_no_point : (near : Near) (s : Sizes) (marks : Marks) (cells : List Cell) → FinishedField near s marks cells
    → (printed : List Cell) → printed ≡ cells → (e : ReportError) → LacksPoint printed e → NoField s marks e
no_field_from_no_point near s marks cells field printed same (Fault f) h = (h.0, unmarked_from_no_point near s marks cells field (subst NoPoint same h.1))
no_field_from_no_point near s marks cells field printed same NoMemory h = tt

pub settings_fit : (input : List ℕ) (s : Settings) (stack : List ℕ) → IsJob input s stack → SettingsFit s
settings_fit input s stack job = let fits = job.values.each_fits in record { on_x = fits Sx; on_y = fits Sy; on_z = fits Sz }

-- the report by the rule that was made for the settings, of the cells that were printed
pub reports_stack : (settings : Settings) (name : RuleName) (made : Result NamedRule Refusal) (rule : NamedRule) (door : Option Refusal)
    → Admits made door (λ r. (r.name ≡ name) × HasSpacings r.spacings settings.sx settings.sy settings.sz) → name ≡ settings.rule → made ≡ Ok rule
    → (s : Sizes) (marks : Place → Bool) (cells : List Cell) → FinishedField (named_near rule.name rule.spacings) s (marks_by_number s marks) cells
    → (t : Sizes) → t ≡ s → (printed : List Cell) → printed ≡ cells → (text : List ℕ) → PrintsField settings.rule t printed text → ReportsStack settings s marks text
reports_stack settings name made rule door admits named is s marks cells field t same printed all text prints =
    let right = (subst (λ m. Admits m door (λ r. (r.name ≡ name) × HasSpacings r.spacings settings.sx settings.sy settings.sz)) is admits).1 in
    record {
      spacings = rule.spacings;
      as_set = right.1;
      field = record {
        cells = cells;
        finished = subst (λ n. FinishedField (named_near n rule.spacings) s (marks_by_number s marks) cells) (right.0 ∙ named) field;
        printed = subst (λ l. PrintsField settings.rule s l text) all (subst (λ n. PrintsField settings.rule n printed text) same prints);
      };
    }

module _ (input : List ℕ) (s : Settings) (stack : List ℕ) (job : IsJob input s stack) (read : Stack) (shows : Shows read stack) (few : cell_count (stack_extent read) ≤ 2048) where
  sound : Sound input s stack (stack_extent read)
  sound = record { job = job; form = shows.lies_over.form; grid = shows.lies_over.grid; few = few }

  pub reports_input : (text : List ℕ) → ReportsStack s (stack_extent read) (stack_marks read) text → ReportsInput input text
  reports_input text report =
      let P : (Place → Bool) → Type 0 = λ m. ReportsStack s (stack_extent read) m text in
      record { settings = s; stack = stack; sizes = stack_extent read; sound = sound; report = subst P shows.bits report }

  pub no_report : (e : ReportError) → NoField (stack_extent read) (marks_by_number (stack_extent read) (stack_marks read)) e → Refuses input e
  no_report (Fault f) h =
      let P : (Place → Bool) → Type 0 = λ m. Unmarked (stack_extent read) (marks_by_number (stack_extent read) m) in
      subst (FaultyInput input) (sym h.0) (refl, record { settings = s; stack = stack; sizes = stack_extent read; sound = sound; unmarked = subst P shows.bits h.1 })
  no_report NoMemory h = record { settings = s; stack = stack; sizes = stack_extent read; sound = sound }
