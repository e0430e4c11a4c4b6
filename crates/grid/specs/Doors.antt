-- Doors: the questions that a call asks, in their order. A door is the first refusal met, or none.
use Rattle.std.specs.Prelude.{◌≡◌, Bool, cond, Some, None, Ok, Err, Option, Result, nat_le}
use Rattle.grid.specs.declared.refusal.Refusal.{Refusal}
use Rattle.grid.specs.declared.refusal.Refusal.TheVariants as refusal
use Rattle.grid.specs.declared.sizes.Sizes.{Sizes}
use Rattle.grid.specs.Geometry.{sizes_fit, cell_count}

-- a question: a refusal unless its answer is yes, and then the questions after it
abbrev pub unless : Bool → Refusal → Option Refusal → Option Refusal
unless answer e rest = cond answer rest (Some e)

-- the call is refused by its door, or accepted with a value of which P holds
abbrev pub Admits : {T : Type 0} → Result T Refusal → Option Refusal → (T → Type 0) → Type 0
Admits (Ok x) door P = (door ≡ None) × P x
Admits (Err e) door P = door ≡ Some e

-- is each size from 1 to 1,023, and are there at most 16,777,216 cells?
abbrev pub sizes_door : Sizes → Option Refusal
sizes_door s = unless (sizes_fit s) refusal.SizeRange (unless (nat_le (cell_count s) 16777216) refusal.TooManyCells None)
