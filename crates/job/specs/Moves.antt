-- What a call that moves the state answers.
use Rattle.std.specs.Prelude.{◌≡◌, ℕ, ◌+◌, ◌<◌, List, Some, None, Ok, Err, Option, Result}
use Rattle.grid.specs.declared.cell.Cell.{Cell}
use Rattle.grid.specs.declared.refusal.Refusal.{Refusal}
use Rattle.grid.specs.declared.sizes.Sizes.{Sizes}
use Rattle.job.specs.declared.states.Kept.{Kept}
use Rattle.job.specs.declared.states.Painting.{Painting}
use Rattle.job.specs.declared.states.Working.{Working}
use Rattle.job.specs.declared.states.Finished.{Finished}
use Rattle.job.specs.declared.states.Raised.{Raised}
use Rattle.job.specs.declared.states.Raised.TheVariants.{Next, Last}

-- the call is refused by its door and hands the old state back, or it leads to a state of which P holds
abbrev pub Moves : {X S : Type 0} → Result X (Kept S) → Option Refusal → S → (X → Type 0) → Type 0
Moves (Ok x) door old P = (door ≡ None) × P x
Moves (Err kept) door old P = (door ≡ Some kept.refusal) × (kept.state ≡ old)

-- the old state, where the answer is accepted, or it is handed back with the refusal of the answer
abbrev pub Keeps : {S : Type 0} → Result S (Kept S) → S → Result (Unit {0}) Refusal → Type 0
Keeps (Ok x) old answer = (x ≡ old) × (answer ≡ Ok tt)
Keeps (Err kept) old answer = (kept.state ≡ old) × (answer ≡ Err kept.refusal)

-- the cells after such a call: `new` where it is accepted, else what they were
abbrev pub Leaves : {X Y : Type 0} → Result X Y → List Cell → List Cell → List Cell → Type 0
Leaves (Ok x) before after new = after ≡ new
Leaves (Err kept) before after new = after ≡ before

-- the states, with this rule and these sizes
pub record IsPainting {R : Type 0} (rule : R) (s : Sizes) (p : Painting R) : Type 0 where
  pub same_rule : p.rule ≡ rule
  pub same_sizes : p.grid.sizes ≡ s

pub record IsWorking {R : Type 0} (rule : R) (s : Sizes) (d : ℕ) (w : Working R) : Type 0 where
  pub same_rule : w.rule ≡ rule
  pub same_sizes : w.grid.sizes ≡ s
  pub on_axis : w.axis.number ≡ d

pub record IsFinished {R : Type 0} (rule : R) (s : Sizes) (f : Finished R) : Type 0 where
  pub same_rule : f.rule ≡ rule
  pub same_sizes : f.grid.sizes ≡ s

-- a raise from the axis d leads to the next axis, and from axis 3 to the end
abbrev pub Rises : {R : Type 0} → R → Sizes → ℕ → Raised R → Type 0
Rises rule s d (Next w) = (d < 3) × IsWorking rule s (d + 1) w
Rises rule s d (Last f) = (d ≡ 3) × IsFinished rule s f
