-- Two cells of a grid are in the range of a rule, on each axis.
use Rattle.std.proofs.Common.{◌≡◌, ℕ, ◌<◌, ◌≤◌, sym, subst, arith}
use Rattle.grid.specs.declared.sizes.Sizes.{Sizes}
use Rattle.grid.specs.Geometry.{Place, IsGrid, cell_count, place_of}
use Rattle.grid.specs.Distance.{Near}
use Rattle.grid.proofs.Places.{place_below}
use Rattle.rules.specs.Ranges.{Seen}
use Rattle.rules.specs.Laws.{Bounded, Ceilings}

-- the place of a cell on each axis is in the range of every rule
pub record InRange (p : Place) : Type 0 where
  pub x : p.0 < 1023
  pub y : p.1 < 1023
  pub z : p.2 < 1023

pub in_range : (s : Sizes) → IsGrid s → (k : ℕ) → k < cell_count s → (p : Place) → p ≡ place_of s k → InRange p
in_range s grid k h p e =
    let x = place_below s grid 1 k (omega arith) (omega arith) h in
    let y = place_below s grid 2 k (omega arith) (omega arith) h in
    let z = place_below s grid 3 k (omega arith) (omega arith) h in
    subst InRange (sym e) record { x = omega (arith, grid.0.0.1); y = omega (arith, grid.0.1.1); z = omega (arith, grid.0.2.1) }

-- what the third axis is asked: it carries the costs of the first two
pub carried_to_3 : (ceil : ℕ → ℕ) (cost : Near) → Bounded ceil cost → Ceilings ceil → (p q : Place) → InRange p → InRange q
    → (u v : ℕ) → u ≡ cost 1 q.0 p.0 0 → v ≡ cost 2 q.1 p.1 u → Seen ceil 3 q.2 v p.2
carried_to_3 ceil cost bounded ceilings p q pr qr u v eu ev =
    let one : cost 1 q.0 p.0 0 ≤ ceil 1 =
    bounded 1 q.0 p.0 0 record { point = record { axis_low = omega arith; axis_high = omega arith; place = qr.x; carried = omega arith }; asked_at = pr.x } in
    let first : u ≤ ceil 1 = omega arith in
    let two : cost 2 q.1 p.1 u ≤ ceil 2 =
    bounded 2 q.1 p.1 u record { point = record { axis_low = omega arith; axis_high = omega arith; place = qr.y; carried = first }; asked_at = pr.y } in
    let second : v ≤ ceil 2 = omega arith in
    record { point = record { axis_low = omega arith; axis_high = omega arith; place = qr.z; carried = second }; asked_at = pr.z }
