-- The block rule: where it crosses.
use Rattle.std.specs.Prelude.{ℕ, ◌+◌, ◌-◌, ◌*◌, ◌<◌, ◌≤◌}
use Rattle.std.proofs.Common.{mul-add, mul_assoc, mul-le-mul_left, arith}
use Rattle.std.proofs.Math.Nat.{mul-sub}
use Rattle.rules.specs.Ranges.{Crosses}
use Rattle.rules.specs.Formulas.{block, rounded_up}
use Rattle.rules.specs.Gaps.{up_enough, up_least, up_le, gap_is, gap_next}

pub block_crosses : (s i g j h t : ℕ) → i < j → block s j t h ≤ block s i t g → block s j (t + 1) h ≤ block s i (t + 1) g
block_crosses s i g j h t lt le =
    let a = gap_is s i t in
    let b = gap_is s j t in
    let a' = gap_is s i (t + 1) in
    let b' = gap_is s j (t + 1) in
    let n = gap_next s t in
    let m : s * i ≤ s * j = mul-le-mul_left s (omega arith) in
    omega arith

pub block_first : (s i g j h : ℕ) → i < j → h + s * (j - i) ≤ g → Crosses (λ t. block s i t g) (λ t. block s j t h) 0
block_first s i g j h lt le =
    record {
      within = omega arith;
      before = λ t b. absurd (omega arith);
      there = λ _. let a = gap_is s i 0 in let b = gap_is s j 0 in let w = mul-sub s j i in
          let m : s * i ≤ s * j = mul-le-mul_left s (omega arith) in omega arith;
    }

pub block_never : (s i g j h : ℕ) → i < j → g + s * (j - i) < h → Crosses (λ t. block s i t g) (λ t. block s j t h) 1023
block_never s i g j h lt gt =
    record {
      within = omega arith;
      before = λ t _. let a = gap_is s i t in let b = gap_is s j t in let w = mul-sub s j i in
          let m : s * i ≤ s * j = mul-le-mul_left s (omega arith) in omega arith;
      there = λ b. absurd (omega arith);
    }

-- what the later point lacks at place 0, where it gains 2 * s a place
abbrev pub short : ℕ → ℕ → ℕ → ℕ → ℕ → ℕ
short s i g j h = h + s * (i + j) - g

module _ (s i g j h : ℕ) (low : 1 ≤ s) (lt : i < j) (some : g < h + s * (j - i)) (few : h ≤ g + s * (j - i)) where
  m : s * i ≤ s * j
  m = mul-le-mul_left s (omega arith)

  pub block_within : rounded_up (short s i g j h) (2 * s) ≤ j
  block_within =
      let w = mul-sub s j i in
      let k = m in
      let a = mul-add s i j in
      let d = mul_assoc 2 s j in
      up_le (short s i g j h) (2 * s) j (omega arith) (omega arith)

  pub block_at : j < 1023 → Crosses (λ t. block s i t g) (λ t. block s j t h) (rounded_up (short s i g j h) (2 * s))
  block_at last =
      let w = mul-sub s j i in
      let k = m in
      let sum = mul-add s i j in
      let top = block_within in
      record {
        within = omega arith;
        before = λ t b. let a = gap_is s i t in let b' = gap_is s j t in let d = mul_assoc 2 s t in
            let u : 2 * s * t < short s i g j h = up_least (short s i g j h) (2 * s) t (omega arith) b in omega arith;
        there = λ _. let t : ℕ = rounded_up (short s i g j h) (2 * s) in let a = gap_is s i t in let b' = gap_is s j t in let d = mul_assoc 2 s t in
            let u : short s i g j h ≤ 2 * s * t = up_enough (short s i g j h) (2 * s) t (omega arith) (omega arith) in omega arith;
      }
