-- The chess rule: where it crosses.
use Rattle.std.proofs.Common.{⊎_elim, mul-le-mul_left, div-mul-le_self, arith}
use Rattle.std.specs.Prelude.{ℕ, ◌+◌, ◌-◌, ◌*◌, ◌/◌, ◌<◌, ◌≤◌, min, max}
use Rattle.std.proofs.Math.Nat.{mul-lt-mul_of_pos_left}
use Rattle.std.proofs.lemmas.Nat.{le-div}
use Rattle.std.proofs.lemmas.Bool.{cases_lt}
use Rattle.rules.specs.Ranges.{Crosses}
use Rattle.rules.specs.Formulas.{apart, gap, chess, rounded_up}
use Rattle.rules.specs.Gaps.{up_enough, up_least, crosses_by, gap_is, gap_next}

pub chess_crosses : (s i g j h t : ℕ) → i < j → chess s j t h ≤ chess s i t g → chess s j (t + 1) h ≤ chess s i (t + 1) g
chess_crosses s i g j h t lt le =
    let a = gap_is s i t in
    let b = gap_is s j t in
    let a' = gap_is s i (t + 1) in
    let b' = gap_is s j (t + 1) in
    let n = gap_next s t in
    let k = gap_next s i in
    let m : s * (i + 1) ≤ s * j = mul-le-mul_left s (omega arith) in
    omega arith

-- from where the later point's gap is no wider than the earlier's, or than g
abbrev pub reach : ℕ → ℕ → ℕ → ℕ → ℕ
reach s i g j = min (rounded_up (i + j) 2) (j - g / s)

module _ (s i g j h : ℕ) (low : 1 ≤ s) (lt : i < j) where
  -- a gap that g covers
  covered : (b : ℕ) → b ≤ g / s → s * b ≤ g
  covered b le = let m : s * b ≤ s * (g / s) = mul-le-mul_left s le in let d = div-mul-le_self g s in omega arith

  uncovered : (b : ℕ) → g / s < b → g < s * b
  uncovered b gt =
      ⊎_elim (λ (p : g < s * b). p)
      (λ (p : s * b ≤ g). let q : b ≤ g / s = le-div b g s low (omega arith) in absurd (omega arith))
      (cases_lt g (s * b))

  before_reach : (t : ℕ) → t < reach s i g j → chess s i t g < chess s j t h
  before_reach t b =
      let less : apart i t < apart j t = omega arith in
      let m : s * apart i t < s * apart j t = mul-lt-mul_of_pos_left less low in
      let u : g < s * apart j t = uncovered (apart j t) (omega arith) in
      omega arith

  after_reach : (t : ℕ) → reach s i g j ≤ t → gap s j t ≤ chess s i t g
  after_reach t b =
      ⊎_elim
      (λ (p : apart i t < apart j t). let u : s * apart j t ≤ g = covered (apart j t) (omega arith) in omega arith)
      (λ (p : apart j t ≤ apart i t). let m : s * apart j t ≤ s * apart i t = mul-le-mul_left s p in omega arith)
      (cases_lt (apart i t) (apart j t))

  pub chess_low : j < 1023 → h ≤ g → Crosses (λ t. chess s i t g) (λ t. chess s j t h) (reach s i g j)
  chess_low last le =
      record {
        within = omega arith;
        before = before_reach;
        there = λ _. let r = after_reach (reach s i g j) (omega arith) in omega arith;
      }

  pub chess_at : g < h → Crosses (λ t. chess s i t g) (λ t. chess s j t h) (min (max (reach s i g j) (i + rounded_up h s)) 1023)
  chess_at gt =
      crosses_by _ _ _
      (λ t _ b. ⊎_elim
      (λ (p : t < reach s i g j). before_reach t p)
      (λ (p : reach s i g j ≤ t). ⊎_elim
      (λ (q : t < i).
      let u : s * apart j t ≤ g = covered (apart j t) (omega arith) in
      let m : s * apart i t ≤ s * apart j t = mul-le-mul_left s (omega arith) in
      omega arith)
      (λ (q : i ≤ t). let u : s * apart i t < h = up_least h s (apart i t) low (omega arith) in omega arith)
      (cases_lt t i))
      (cases_lt t (reach s i g j)))
      (λ t _ b.
      let r = after_reach t (omega arith) in
      let u : h ≤ s * apart i t = up_enough h s (apart i t) low (omega arith) in
      omega arith)
