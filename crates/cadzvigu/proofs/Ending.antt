-- How a call ends behind one door and then behind another.
use Rattle.std.proofs.Common.{◌≡◌, ℕ, Bool, true, eqb, None, Ok, Err, Option, Result, sym, refl, ap, ◌∙◌, subst}
use Rattle.std.proofs.lemmas.Bool.{cond-true, eq-eqb, eqb-true}
use Rattle.grid.specs.declared.refusal.Refusal.{Refusal}
use Rattle.grid.specs.declared.refusal.Refusal.TheVariants as refusal
use Rattle.grid.specs.declared.sizes.Sizes.{Sizes}
use Rattle.grid.specs.Geometry.{Place, cell_count}
use Rattle.grid.specs.Doors.{unless}
use Rattle.rules.specs.declared.name.RuleName.{RuleName}
use Rattle.rules.specs.declared.name.RuleName.TheVariants.{Square, Block, Chess}
use Rattle.rules.specs.Doors.{spacing_door}
use Rattle.rules.specs.Names.{rule_number, is_rule_number}
use Rattle.signed.specs.Doors.{and_then, both_kinds}
use Rattle.cadzvigu.specs.declared.fault.Fault.{Fault}
use Rattle.cadzvigu.specs.Doors.{refused_by, call_door, numbers_door}
use Rattle.cadzvigu.specs.Statuses.{Ends}

-- behind an open door the questions after it are asked
pub behind_open : (first rest : Option Refusal) → first ≡ None → refused_by (and_then first rest) ≡ refused_by rest
behind_open first rest passed = ap (λ d. refused_by (and_then d rest)) passed

-- more may be known of what is there where the call is done
pub ends_weaker : {T : Type 0} (r : Result T Fault) (door : Option Fault) (Same New Other : Type 0) → (New → Other) → Ends r door Same New → Ends r door Same Other
ends_weaker (Ok x) door Same New Other f h = (h.0, f h.1)
ends_weaker (Err e) door Same New Other f h = h

-- the same call behind an equal door
pub ends_behind : {T : Type 0} (r : Result T Fault) (door other : Option Fault) (Same New : Type 0) → door ≡ other → Ends r door Same New → Ends r other Same New
ends_behind r door other Same New e = subst (λ d. Ends r d Same New) e

-- items that fit a picture's grid are as many as its cells
pub counted : (n : ℕ) (s read : Sizes) (fits : Bool) → fits ≡ eqb n (cell_count read) → fits ≡ true → read ≡ s → n ≡ cell_count s
counted n s read fits is enough same = eqb-true n (cell_count read) (sym is ∙ enough) ∙ ap cell_count same

-- with one number for each cell, only the kinds of cell are asked about
pub with_numbers : (s : Sizes) (marks : Place → Bool) (numbers : ℕ) → numbers ≡ cell_count s → (b : Bool) → b ≡ both_kinds s marks
    → numbers_door s marks numbers ≡ unless b refusal.OneKind None
with_numbers s marks numbers n b e =
    cond-true (eqb numbers (cell_count s)) _ _ (eq-eqb numbers (cell_count s) n) ∙ ap (λ t. unless t refusal.OneKind None) (sym e)

-- the number of a rule is one
number_of_rule : (kind : RuleName) → is_rule_number (rule_number kind) ≡ true
number_of_rule Square = refl
number_of_rule Block = refl
number_of_rule Chess = refl

-- with a rule and its spacings the questions after them are asked
pub behind_rule : (rule : ℕ) (kind : RuleName) → rule ≡ rule_number kind → (spacings : ℕ × ℕ × ℕ) → spacing_door spacings.0 spacings.1 spacings.2 ≡ None
    → (rest : Option Refusal) → refused_by rest ≡ call_door rule spacings rest
behind_rule rule kind named spacings passed rest =
    sym (cond-true (is_rule_number rule) _ _ (ap is_rule_number named ∙ number_of_rule kind) ∙ behind_open (spacing_door spacings.0 spacings.1 spacings.2) rest passed)

-- the same call with its rule given by a number
pub under_rule : {T : Type 0} (r : Result T Fault) (rule : ℕ) (kind : RuleName) → rule ≡ rule_number kind → (spacings : ℕ × ℕ × ℕ) → spacing_door spacings.0 spacings.1 spacings.2 ≡ None
    → (rest : Option Refusal) (Same New Other : Type 0) → (New → Other) → Ends r (refused_by rest) Same New → Ends r (call_door rule spacings rest) Same Other
under_rule r rule kind named spacings passed rest Same New Other f h =
    ends_weaker r (call_door rule spacings rest) Same New Other f (ends_behind r (refused_by rest) (call_door rule spacings rest) Same New (behind_rule rule kind named spacings passed rest) h)
