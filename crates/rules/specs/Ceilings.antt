-- The spacings are small, so that each ceiling holds what its axis costs, and fits.
use Rattle.std.specs.Prelude.{◌≡◌, ℕ, zero, suc, ◌-◌, ◌*◌, ◌<◌, ◌≤◌, cond, nat_le, refl}
use Rattle.std.proofs.Common.{subst, mul-le-mul_left, mul-le-mul, arith}
use Rattle.std.proofs.lemmas.Bool.{cond_both}
use Rattle.rules.specs.Ranges.{IsSpacing, Carries}
use Rattle.rules.specs.Laws.{Bounded, Ceilings}
use Rattle.rules.specs.Formulas.{spacing, apart, gap, widest, square_near, block_near, chess_near, square_ceiling, block_ceiling, chess_ceiling}
use Rattle.rules.specs.declared.spacings.Spacings.{Spacings}

pub spacing_in_range : (s : Spacings) (d : ℕ) → IsSpacing (spacing s d)
spacing_in_range s d =
    cond_both (nat_le d 1) s.sx (cond (nat_le d 2) s.sy s.sz) IsSpacing (λ _. s.sx_ok)
    (λ _. cond_both (nat_le d 2) s.sy s.sz IsSpacing (λ _. s.sy_ok) (λ _. s.sz_ok))

pub gap_within : (s i t : ℕ) → i < 1023 → t < 1023 → gap s i t ≤ 1022 * s
gap_within s i t hi ht =
    let m : s * apart i t ≤ s * 1022 = mul-le-mul_left s (omega arith) in
    omega arith

pub widest_small : (s : Spacings) (d : ℕ) → widest s d ≤ 10220000
widest_small s d = let a = spacing_in_range s d in omega arith

-- what is carried to axis suc d
carried : (ceiling : ℕ → ℕ) (d i g : ℕ) → Carries ceiling (suc d) i g → g ≤ ceiling d
carried ceiling d i g c = let e : suc d - 1 ≡ d = omega arith in subst (λ x. g ≤ ceiling x) e c.carried

pub square_bounded : (s : Spacings) → Bounded (square_ceiling s) (square_near s)
square_bounded s zero i t g seen = absurd (omega (arith, seen.point.axis_low))
square_bounded s (suc d) i t g seen =
    let w = gap_within (spacing s (suc d)) i t seen.point.place seen.asked_at in
    let m : gap (spacing s (suc d)) i t * gap (spacing s (suc d)) i t ≤ widest s (suc d) * widest s (suc d) = mul-le-mul w w in
    let k = carried (square_ceiling s) d i g seen.point in
    omega arith

pub block_bounded : (s : Spacings) → Bounded (block_ceiling s) (block_near s)
block_bounded s zero i t g seen = absurd (omega (arith, seen.point.axis_low))
block_bounded s (suc d) i t g seen =
    let w = gap_within (spacing s (suc d)) i t seen.point.place seen.asked_at in
    let k = carried (block_ceiling s) d i g seen.point in
    omega arith

pub chess_bounded : (s : Spacings) → Bounded (chess_ceiling s) (chess_near s)
chess_bounded s zero i t g seen = absurd (omega (arith, seen.point.axis_low))
chess_bounded s (suc d) i t g seen =
    let w = gap_within (spacing s (suc d)) i t seen.point.place seen.asked_at in
    let k = carried (chess_ceiling s) d i g seen.point in
    omega arith

pub square_most : (s : Spacings) (d : ℕ) → square_ceiling s d ≤ 104448400000000 * d
square_most s zero = omega arith
square_most s (suc d) =
    let w = widest_small s (suc d) in
    let m : widest s (suc d) * widest s (suc d) ≤ 10220000 * 10220000 = mul-le-mul w w in
    let k = square_most s d in
    omega arith

pub block_most : (s : Spacings) (d : ℕ) → block_ceiling s d ≤ 10220000 * d
block_most s zero = omega arith
block_most s (suc d) =
    let w = widest_small s (suc d) in
    let k = block_most s d in
    omega arith

pub chess_most : (s : Spacings) (d : ℕ) → chess_ceiling s d ≤ 10220000
chess_most s zero = omega arith
chess_most s (suc d) =
    let w = widest_small s (suc d) in
    let k = chess_most s d in
    omega arith

pub square_ceilings : (s : Spacings) → Ceilings (square_ceiling s)
square_ceilings s = (refl, λ d h. let m = square_most s d in omega arith)

pub block_ceilings : (s : Spacings) → Ceilings (block_ceiling s)
block_ceilings s = (refl, λ d h. let m = block_most s d in omega arith)

pub chess_ceilings : (s : Spacings) → Ceilings (chess_ceiling s)
chess_ceilings s = (refl, λ d h. let m = chess_most s d in omega arith)
