-- The whole root of a number is the only one between whose square and the next the number lies.
use Rattle.std.proofs.Common.{◌≡◌, ℕ, zero, suc, ◌+◌, ◌*◌, ◌<◌, ◌≤◌, Bool, true, false, cond, leb, refl, ap, inl, inr, arith}
use Rattle.std.proofs.Math.Nat.{eq-or-lt_of_le}
use Rattle.std.proofs.lemmas.Bool.{leb-true, leb-false}
use Rattle.std.proofs.lemmas.Nat.{mul-le}
use Rattle.reporting.specs.Texts.{root_up_to, whole_root}

-- one number more to choose from
root_more : (n r v : ℕ) (b : Bool) → leb (suc n * suc n) v ≡ b → r ≤ suc n → r * r ≤ v → v < (r + 1) * (r + 1) → (r ≤ n → r ≡ root_up_to n v) → r ≡ cond b (suc n) (root_up_to n v)
root_more n r v true h le low high below =
    let fits : suc n * suc n ≤ v = leb-true (suc n * suc n) v h in
    elim (eq-or-lt_of_le le) [
      | inr less ↦ absurd (let up : (r + 1) * (r + 1) ≤ suc n * suc n = mul-le (r + 1) (r + 1) (suc n) (suc n) (omega arith) (omega arith) in omega arith)
      | inl same ↦ same
    ]
root_more n r v false h le low high below =
    let past : v < suc n * suc n = leb-false (suc n * suc n) v h in
    elim (eq-or-lt_of_le le) [
      | inr less ↦ below (omega arith)
      | inl same ↦ absurd (let e : r * r ≡ suc n * suc n = ap (λ (x : ℕ). x * x) same in omega arith)
    ]

root_is : (n r v : ℕ) → r ≤ n → r * r ≤ v → v < (r + 1) * (r + 1) → r ≡ root_up_to n v
root_is zero r v le low high = omega arith
root_is (suc n) r v le low high = root_more n r v (leb (suc n * suc n) v) refl le low high (λ h. root_is n r v h low high)

pub root_between : (r v : ℕ) → r * r ≤ v → v < (r + 1) * (r + 1) → r ≡ whole_root v
unfolding whole_root
root_between r v low high = root_is v r v (below_square r v low) low high
  where
    below_square : (a b : ℕ) → a * a ≤ b → a ≤ b
    below_square zero b h = omega arith
    below_square (suc a) b h = let m : suc a * 1 ≤ suc a * suc a = mul-le (suc a) 1 (suc a) (suc a) (omega arith) (omega arith) in omega arith
