-- The square rule: where it crosses.
use Rattle.std.specs.Prelude.{◌≡◌, ℕ, ◌+◌, ◌-◌, ◌*◌, ◌<◌, ◌≤◌, min}
use Rattle.std.proofs.Common.{sym, ◌∙◌, ap, ⊎_elim, mul-add, add-mul, mul-pos, mul-le-mul, arith}
use Rattle.std.proofs.Math.Nat.{mul-mul-mul_comm}
use Rattle.std.proofs.lemmas.Bool.{cases_lt}
use Rattle.rules.specs.Ranges.{Crosses}
use Rattle.rules.specs.Formulas.{apart, gap, square, rounded_up}
use Rattle.rules.specs.Gaps.{up_enough, up_least, crosses_by}

below : (t a w : ℕ) → (a + w) * (a + w) + 2 * (w * t) + (t + a) * (t + a) ≡ a * a + (t + a + w) * (t + a + w)
below t a w = simp (mul-add, add-mul) (omega arith)

between : (i a b : ℕ) → b * b + 2 * ((a + b) * (i + a)) + i * i ≡ a * a + (i + a + b) * (i + a + b)
between i a b = simp (mul-add, add-mul) (omega arith)

above : (i w b : ℕ) → b * b + 2 * (w * (i + w + b)) + i * i ≡ (w + b) * (w + b) + (i + w) * (i + w)
above i w b = simp (mul-add, add-mul) (omega arith)

-- the two squares differ by what grows in step with t
squares : (i j t : ℕ) → i < j → apart j t * apart j t + 2 * ((j - i) * t) + i * i ≡ apart i t * apart i t + j * j
squares i j t lt =
    ⊎_elim
    (λ (h : t < i).
    let e = below t (i - t) (j - i) in
    let e1 : (i - t) + (j - i) ≡ apart j t = omega arith in
    let e2 : t + (i - t) ≡ i = omega arith in
    let e3 : i - t ≡ apart i t = omega arith in
    let e4 : t + (i - t) + (j - i) ≡ j = omega arith in
    cc)
    (λ (h : i ≤ t). ⊎_elim
    (λ (k : t < j).
    let e = between i (t - i) (j - t) in
    let e1 : (t - i) + (j - t) ≡ j - i = omega arith in
    let e2 : i + (t - i) ≡ t = omega arith in
    let e3 : t - i ≡ apart i t = omega arith in
    let e4 : j - t ≡ apart j t = omega arith in
    let e5 : i + (t - i) + (j - t) ≡ j = omega arith in
    cc)
    (λ (k : j ≤ t).
    let e = above i (j - i) (t - j) in
    let e1 : i + (j - i) ≡ j = omega arith in
    let e2 : i + (j - i) + (t - j) ≡ t = omega arith in
    let e3 : t - j ≡ apart j t = omega arith in
    let e4 : (j - i) + (t - j) ≡ apart i t = omega arith in
    cc)
    (cases_lt t j))
    (cases_lt t i)

-- the same, times the square of a spacing
scaled : (s i j t : ℕ) → i < j → gap s j t * gap s j t + 2 * (s * s) * (j - i) * t + s * s * (i * i) ≡ gap s i t * gap s i t + s * s * (j * j)
scaled s i j t lt =
    let e : s * s * (apart j t * apart j t + 2 * ((j - i) * t) + i * i) ≡ s * s * (apart i t * apart i t + j * j) = ap (λ x. s * s * x) (squares i j t lt) in
    let l = mul-mul-mul_comm s (apart j t) s (apart j t) in
    let r = mul-mul-mul_comm s (apart i t) s (apart i t) in
    let m : 2 * (s * s) * (j - i) * t ≡ s * s * (2 * ((j - i) * t)) = grind arith in
    let e' = simp mul-add at e in
    omega arith

-- one place on, the later point has gained
pub square_crosses : (s i g j h t : ℕ) → i < j → square s j t h ≤ square s i t g → square s j (t + 1) h ≤ square s i (t + 1) g
square_crosses s i g j h t lt le =
    let here = scaled s i j t lt in
    let next = scaled s i j (t + 1) lt in
    let step = mul-add (2 * (s * s) * (j - i)) t 1 in
    omega arith

-- what the later point lacks at place 0, where it lacks something
abbrev pub lack : ℕ → ℕ → ℕ → ℕ → ℕ → ℕ
lack s i g j h = s * s * (j * j - i * i) + h - g

abbrev pub gain : ℕ → ℕ → ℕ → ℕ
gain s i j = 2 * (s * s) * (j - i)

needed_is : (s i j : ℕ) → i < j → s * s * (j * j - i * i) + s * s * (i * i) ≡ s * s * (j * j)
needed_is s i j lt =
    let le : i * i ≤ j * j = mul-le-mul (omega arith) (omega arith) in
    sym (mul-add (s * s) (j * j - i * i) (i * i)) ∙ ap (λ x. s * s * x) (omega arith)

pub gain_pos : (s i j : ℕ) → 1 ≤ s → i < j → 0 < gain s i j
gain_pos s i j low lt = mul-pos (let p : 0 < s * s = mul-pos low low in omega arith) (omega arith)

pub square_low : (s i g j h : ℕ) → i < j → s * s * (j * j - i * i) + h ≤ g → Crosses (λ t. square s i t g) (λ t. square s j t h) 0
square_low s i g j h lt le =
    record {
      within = omega arith;
      before = λ t b. omega arith;
      there = λ _. let e = scaled s i j 0 lt in let n = needed_is s i j lt in omega arith;
    }

pub square_at : (s i g j h : ℕ) → 1 ≤ s → i < j → g < s * s * (j * j - i * i) + h → Crosses (λ t. square s i t g) (λ t. square s j t h) (min (rounded_up (lack s i g j h) (gain s i j)) 1023)
square_at s i g j h low lt gt =
    crosses_by _ _ _
    (λ t _ b. let e = scaled s i j t lt in let n = needed_is s i j lt in
    let u : gain s i j * t < lack s i g j h = up_least (lack s i g j h) (gain s i j) t (gain_pos s i j low lt) b in omega arith)
    (λ t _ b. let e = scaled s i j t lt in let n = needed_is s i j lt in
    let u : lack s i g j h ≤ gain s i j * t = up_enough (lack s i g j h) (gain s i j) t (gain_pos s i j low lt) b in omega arith)
