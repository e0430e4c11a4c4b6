-- Quotients that are rounded up, and what makes a place the crossing of two points.
use Rattle.std.specs.Prelude.{◌≡◌, ℕ, ◌+◌, ◌-◌, ◌*◌, ◌/◌, ◌%◌, ◌<◌, ◌≤◌, min}
use Rattle.std.proofs.Common.{ap, ⊎_elim, mul-add, mul-one, mul-le-mul_left, arith}
use Rattle.std.proofs.Math.Nat.{mul-sub, div-add-mod}
use Rattle.std.proofs.lemmas.Nat.{mod_below}
use Rattle.std.proofs.lemmas.Bool.{cases_lt}
use Rattle.rules.specs.Ranges.{Crosses}
use Rattle.rules.specs.Formulas.{gap, rounded_up}

-- the quotient rounded up is the lowest number that w times reaches n
pub up_enough : (n w t : ℕ) → 0 < w → rounded_up n w ≤ t → n ≤ w * t
up_enough n w t pos h =
    let whole : w * (n / w) + n % w ≡ n = div-add-mod n w in
    let rest : n % w < w = mod_below n w pos in
    let most : w * rounded_up n w ≤ w * t = mul-le-mul_left w h in
    let parts : w * rounded_up n w ≡ w * (n / w) + w * min 1 (n % w) = mul-add w (n / w) (min 1 (n % w)) in
    ⊎_elim
    (λ (z : n % w < 1). omega arith)
    (λ (z : 1 ≤ n % w). let one : min 1 (n % w) ≡ 1 = omega arith in
    let more : w * min 1 (n % w) ≡ w * 1 = ap (λ x. w * x) one in
    omega arith)
    (cases_lt (n % w) 1)

pub up_least : (n w t : ℕ) → 0 < w → t < rounded_up n w → w * t < n
up_least n w t pos h =
    let whole : w * (n / w) + n % w ≡ n = div-add-mod n w in
    ⊎_elim
    (λ (z : n % w < 1). let most : w * (t + 1) ≤ w * (n / w) = mul-le-mul_left w (omega arith) in
    let parts : w * (t + 1) ≡ w * t + w * 1 = mul-add w t 1 in
    omega arith)
    (λ (z : 1 ≤ n % w). let most : w * t ≤ w * (n / w) = mul-le-mul_left w (omega arith) in omega arith)
    (cases_lt (n % w) 1)

-- the lowest place is c, or past the grid
pub crosses_by : (earlier later : ℕ → ℕ) (c : ℕ) → ((t : ℕ) → t < 1023 → t < c → earlier t < later t) → ((t : ℕ) → t < 1023 → c ≤ t → later t ≤ earlier t) → Crosses earlier later (min c 1023)
crosses_by earlier later c below from = record {
  within = omega arith;
  before = λ t h. below t (omega arith) (omega arith);
  there = λ h. from (min c 1023) (omega arith) (omega arith);
}

pub up_le : (n w t : ℕ) → 0 < w → n ≤ w * t → rounded_up n w ≤ t
up_le n w t pos h =
    ⊎_elim
    (λ (b : t < rounded_up n w). let l : w * t < n = up_least n w t pos b in absurd (omega arith))
    (λ (b : rounded_up n w ≤ t). b)
    (cases_lt t (rounded_up n w))

-- a gap by the two places, each times the spacing
pub gap_is : (s i t : ℕ) → gap s i t ≡ (s * i - s * t) + (s * t - s * i)
gap_is s i t = simp (mul-add, mul-sub)

pub gap_next : (s t : ℕ) → s * (t + 1) ≡ s * t + s
gap_next s t = simp (mul-add, mul-one)
