-- Numbers with a sign, and their 64 bits.
use Rattle.std.proofs.Common.{◌≡◌, ℕ, zero, suc, ◌^◌, ◌≤◌, Bool, true, false, not, pos, ◌-ℤ◌, neg_ℤ, refl, ap, arith, w64, to_z, of_z}
use Rattle.std.proofs.lemmas.Int.{ints}
use Rattle.signed.specs.Distances.{with_sign}

-- a value of at most 4,611,686,018,427,387,904 can be negated
pub negation_fits : (v : ℕ) → v ≤ 2 ^ 62 → to_z w64 (of_z w64 (pos 0 -ℤ to_z w64 v)) ≡ neg_ℤ (pos v)
negation_fits v h = omega (arith, ints)

pub sign_of_marked : (b : Bool) (v : ℕ) → true ≡ b → neg_ℤ (pos v) ≡ with_sign b v
sign_of_marked b v = ap (λ c. with_sign c v)

pub sign_turns : (b : Bool) (v : ℕ) → with_sign (not b) v ≡ neg_ℤ (with_sign b v)
sign_turns true zero = refl
sign_turns true (suc v) = refl
sign_turns false v = refl
