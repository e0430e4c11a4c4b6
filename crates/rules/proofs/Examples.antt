-- The worked examples, each by the lemma that its rule's crossing rests on.
use Rattle.std.proofs.Common.{◌≡◌, ℕ, ◌+◌, ◌-◌, ◌*◌, ◌<◌, ◌≤◌, min, sym, refl, ap, subst, arith}
use Rattle.rules.specs.declared.spacings.Spacings.{Spacings}
use Rattle.rules.specs.Ranges.{Crosses, Carries, Paired}
use Rattle.rules.specs.Laws.{Crossing}
use Rattle.rules.specs.Formulas.{HasSpacings, spacing, apart, gap, square, block, chess}
use Rattle.rules.specs.Examples.{Distances, Crossings, WorkedExamples, ShortcutsSpoil, capped_square}
use Rattle.rules.specs.Squares.{square_low, square_at}
use Rattle.rules.specs.Blocks.{block_at, block_never}
use Rattle.rules.specs.Chesses.{chess_low, chess_at}

distances : (s : Spacings) → HasSpacings s 2 3 5 → Distances s
distances s has =
    let x = has.on_x in
    let y = has.on_y in
    let z = has.on_z in
    record {
      square_1_1_1 = simp (x, y, z);
      block_1_2_1 = simp (x, y, z);
      chess_4_2_1 = simp (x, y, z);
    }

crossings : (s : Spacings) → spacing s 2 ≡ 1 → Crossings s
crossings s one =
    record {
      square_midway = by_square 0 0 4 0 2 (square_at 1 0 0 4 0 (omega arith) (omega arith) (omega arith));
      square_past_midway = by_square 0 0 5 0 3 (square_at 1 0 0 5 0 (omega arith) (omega arith) (omega arith));
      square_later_carries = by_square 0 0 1 9 5 (square_at 1 0 0 1 9 (omega arith) (omega arith) (omega arith));
      square_earlier_carries = by_square 0 9 1 0 0 (square_low 1 0 9 1 0 (omega arith) (omega arith));
      square_nowhere = by_square 3 0 4 8000 1023 (square_at 1 3 0 4 8000 (omega arith) (omega arith) (omega arith));
      block_at_the_later = by_block 0 0 2 1 2 (block_at 1 0 0 2 1 (omega arith) (omega arith) (omega arith) (omega arith) (omega arith));
      block_nowhere = by_block 0 0 2 3 1023 (block_never 1 0 0 2 3 (omega arith) (omega arith));
      chess_tied_at_once = by_chess 0 1 1 1 0 (chess_low 1 0 1 1 1 (omega arith) (omega arith) (omega arith) (omega arith));
      chess_later_carries = by_chess 0 0 1 5 5 (chess_at 1 0 0 1 5 (omega arith) (omega arith) (omega arith));
    }
  where
    by_square : (i g j h c : ℕ) → Crosses (λ t. square 1 i t g) (λ t. square 1 j t h) c → Crosses (λ t. square (spacing s 2) i t g) (λ t. square (spacing s 2) j t h) c
    by_square i g j h c = subst (λ k. Crosses (λ t. square k i t g) (λ t. square k j t h) c) (sym one)

    by_block : (i g j h c : ℕ) → Crosses (λ t. block 1 i t g) (λ t. block 1 j t h) c → Crosses (λ t. block (spacing s 2) i t g) (λ t. block (spacing s 2) j t h) c
    by_block i g j h c = subst (λ k. Crosses (λ t. block k i t g) (λ t. block k j t h) c) (sym one)

    by_chess : (i g j h c : ℕ) → Crosses (λ t. chess 1 i t g) (λ t. chess 1 j t h) c → Crosses (λ t. chess (spacing s 2) i t g) (λ t. chess (spacing s 2) j t h) c
    by_chess i g j h c = subst (λ k. Crosses (λ t. chess k i t g) (λ t. chess k j t h) c) (sym one)

pub worked_examples : WorkedExamples
worked_examples =
    record {
      spacings_accepted = refl;
      widest_accepted = refl;
      zero_refused = refl;
      wider_refused = refl;
      distances = distances;
      crossings = crossings;
    }

capped_at : (n i t w : ℕ) → apart i t ≡ w → capped_square n 1 i t 0 ≡ min n (0 + w * w)
capped_at n i t w h = let e : gap 1 i t ≡ w = omega arith in ap (λ (x : ℕ). min n (0 + x * x)) e

-- the points at a and a + 1 tie at place 0, where both are capped, and at place 1 only the later still is
capping : (ceiling : ℕ → ℕ) (a n : ℕ) → 1 ≤ a → a < 1022 → (a - 1) * (a - 1) < n → n ≤ a * a → Crossing ceiling (capped_square n) → ⊥
capping ceiling a n low high below above law =
    let point : (i : ℕ) → i < 1023 → Carries ceiling 1 i 0 = λ i h. record { axis_low = omega arith; axis_high = omega arith; place = h; carried = omega arith } in
    let pair : Paired ceiling 1 a 0 (a + 1) 0 = record { earlier = point a (omega arith); later = point (a + 1) (omega arith); ahead = omega arith } in
    let earlier-0 = capped_at n a 0 a (omega arith) in
    let later-0 = capped_at n (a + 1) 0 (a + 1) (omega arith) in
    let earlier-1 = capped_at n a 1 (a - 1) (omega arith) in
    let later-1 = capped_at n (a + 1) 1 a (omega arith) in
    let tie : capped_square n 1 (a + 1) 0 0 ≤ capped_square n 1 a 0 0 = omega arith in
    let wrong = law 1 a 0 (a + 1) 0 0 pair (omega arith) tie in
    omega arith

pub shortcuts_spoil : ShortcutsSpoil
shortcuts_spoil =
    record {
      rounding_down = (refl, refl);
      counting_cells = λ s has. let x = has.on_x in let y = has.on_y in let z = has.on_z in (simp (x, y, z), simp (x, y, z));
      capping = capping;
    }
