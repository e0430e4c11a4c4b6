-- At level 3 the values are the least distances.
use Rattle.std.proofs.Common.{◌≡◌, ℕ, zero, suc, ◌<◌, ◌≤◌, min, Bool, true, false, cond, is_some, Some, None, Option, unwrap_or, refl, subst, arith}
use native.Mathlib.Decide.{ℕ_discrete, dec_le}
use Rattle.grid.specs.declared.sizes.Sizes.{Sizes}
use Rattle.grid.specs.Geometry.{cell_count}
use Rattle.grid.specs.Distance.{distance}
use Rattle.grid.specs.Cells.{Marks, Marked, Answers}
use Rattle.fields.specs.Least.{lesser, least_over, least_distance, IsLeast, LeastIsLeast, ValueIsLeast}
use Rattle.fields.proofs.Painting.{not_both}

below_or_last : (q n : ℕ) → q < suc n → (P : Type 0) → (q < n → P) → (q ≡ n → P) → P
below_or_last q n h P below here = elim (ℕ_discrete q n) [ yes e ↦ here e | no ne ↦ below (omega arith) ]

least_right : (marks : Marks) (f : ℕ → ℕ) (n : ℕ) → IsLeast marks f n (least_over marks f n)
least_right marks f zero = λ q h e. omega arith
least_right marks f (suc n) = go (marks n) refl (least_over marks f n) (least_right marks f n)
  where
    none_less_than : (v : ℕ) → v ≤ f n → ((q : ℕ) → q < n → marks q ≡ true → v ≤ f q) → (q : ℕ) → q < suc n → marks q ≡ true → v ≤ f q
    none_less_than v last before q hq mq = below_or_last q n hq _ (λ b. before q b mq) (λ is. rw is last)

    go : (b : Bool) → marks n ≡ b → (o : Option ℕ) → IsLeast marks f n o → IsLeast marks f (suc n) (cond b (Some (lesser o (f n))) o)
    go true e None h =
        record {
          at = n;
          below = omega arith;
          is_marked = e;
          value = refl;
          none_less = none_less_than (f n) (omega arith) (λ q b mq. absurd (h q b mq));
        }
    go true e (Some v) h =
        let least = none_less_than (min v (f n)) (omega arith) (λ q b mq. omega (arith, h.none_less q b mq)) in
        elim (dec_le v (f n)) [
          | yes le ↦ record { at = h.at; below = omega (arith, h.below); is_marked = h.is_marked; value = omega (arith, h.value); none_less = least }
          | no gt ↦ record { at = n; below = omega arith; is_marked = e; value = omega arith; none_less = least }
        ]
    go false e None h = λ q hq mq. below_or_last q n hq _ (λ b. h q b mq) (λ is. not_both (rw is at mq) e)
    go false e (Some v) h =
        record {
          at = h.at;
          below = omega (arith, h.below);
          is_marked = h.is_marked;
          value = h.value;
          none_less = λ q hq mq. below_or_last q n hq _ (λ b. h.none_less q b mq) (λ is. absurd (not_both (rw is at mq) e));
        }

pub least_is_least : LeastIsLeast
least_is_least near s marks k = least_right marks (distance near s 3 k) (cell_count s)

-- at level 3 the slab of any cell is the whole grid
pub whole_grid : (s : Sizes) (marks : Marks) (k q : ℕ) → q < cell_count s → marks q ≡ true → Marked s marks 3 k q
whole_grid s marks k q hq mq = record { in_grid = hq; is_marked = mq; in_slab = λ e lo hi. omega arith }

pub value_is_least : ValueIsLeast
value_is_least near s marks k c holds top =
    let both = go c.point c.value (subst (λ (l : ℕ). Answers near s marks l k c.point c.value) top holds.nearest)
    (least_distance near s marks k) (least_is_least near s marks k) in
    record { point = both.0; value = both.1 }
  where
    go : (o : Option ℕ) (v : ℕ) → Answers near s marks 3 k o v → (w : Option ℕ) → IsLeast marks (distance near s 3 k) (cell_count s) w
        → (is_some o ≡ is_some w) × (v ≡ unwrap_or w 0)
    go None v a None h = (refl, a.0)
    go None v a (Some w) h = absurd (a.1 h.at (whole_grid s marks k h.at h.below h.is_marked))
    go (Some p) v a None h = absurd (h p a.point.in_grid a.point.is_marked)
    go (Some p) v a (Some w) h =
        let less : v ≤ w = rw (← h.value) (a.none_nearer h.at (whole_grid s marks k h.at h.below h.is_marked)) in
        let more : w ≤ v = rw a.value (h.none_less p a.point.in_grid a.point.is_marked) in
        (refl, omega arith)
