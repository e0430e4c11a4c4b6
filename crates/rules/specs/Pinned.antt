-- The promises of a rule's calls leave them no choice: two answers that keep the same promise are the same answer.
use Rattle.std.specs.Prelude.{◌≡◌, ℕ, Option}
use Rattle.std.specs.Option.{SomeIff}
use Rattle.grid.specs.Distance.{Near}
use Rattle.grid.specs.RowGeometry.{OnAxis}
use Rattle.rules.specs.Ranges.{Seen, Paired, IsCrossing, Answered}

pub record Pinned (ceiling : ℕ → ℕ) (near : Near) : Type 0 where
  pub one_ceiling : (d : ℕ) (p q : Option ℕ) → SomeIff p (OnAxis d) (ceiling d) → SomeIff q (OnAxis d) (ceiling d) → p ≡ q
  pub one_cost : (d i t g : ℕ) (p q : Option ℕ) → SomeIff p (Seen ceiling d i g t) (near d i t g) → SomeIff q (Seen ceiling d i g t) (near d i t g) → p ≡ q
  pub one_crossing : (d i g j h : ℕ) (p q : Option ℕ) → Answered p (Paired ceiling d i g j h) (IsCrossing near d i g j h) → Answered q (Paired ceiling d i g j h) (IsCrossing near d i g j h) → p ≡ q

abbrev pub AnswersPinned : Type 0
AnswersPinned = (ceiling : ℕ → ℕ) (near : Near) → Pinned ceiling near
