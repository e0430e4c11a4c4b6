-- Two truths that differ.
use Rattle.std.proofs.Common.{◌≡◌, Bool, true, false, not, ◌&&◌, ◌⊎◌, sym, refl, inl, inr}
use Rattle.pictures.specs.Faces.{differ}

pub one_from_differ : (a b : Bool) → differ a b ≡ true → a ≡ not b
one_from_differ true true e = sym e
one_from_differ true false e = refl
one_from_differ false true e = refl
one_from_differ false false e = e

pub differ_from_one : (a b : Bool) → a ≡ not b → differ a b ≡ true
differ_from_one true true e = sym e
differ_from_one true false e = refl
differ_from_one false true e = refl
differ_from_one false false e = e

pub differ_self : (a : Bool) → differ a a ≡ false
differ_self true = refl
differ_self false = refl

pub differ_sym : (a b : Bool) → differ a b ≡ differ b a
differ_sym true true = refl
differ_sym true false = refl
differ_sym false true = refl
differ_sym false false = refl

-- on the way from one to the other they differ somewhere
pub differ_via : (a b c : Bool) → differ a c ≡ true → (differ a b ≡ true) ⊎ (differ b c ≡ true)
differ_via true true c e = inr e
differ_via true false c e = inl refl
differ_via false true c e = inl refl
differ_via false false c e = inr e

pub not_injective : (a b : Bool) → not a ≡ not b → a ≡ b
not_injective true true e = refl
not_injective true false e = sym e
not_injective false true e = sym e
not_injective false false e = refl

-- what follows a test need only agree where it is true
pub and_same : (a b c : Bool) → (a ≡ true → b ≡ c) → (a && b) ≡ (a && c)
and_same true b c h = h refl
and_same false b c h = refl
