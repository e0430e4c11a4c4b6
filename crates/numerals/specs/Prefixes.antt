-- What comes after a prefix.
use Rattle.std.specs.Prelude.{◌≡◌, ℕ, List, ◌++◌}

-- the text is the prefix and then the rest
abbrev pub Follows : List ℕ → List ℕ → List ℕ → Type 0
Follows prefix rest text = text ≡ prefix ++ rest

-- the text does not begin with the prefix
abbrev pub NotPrefix : List ℕ → List ℕ → Type 0
NotPrefix prefix text = (rest : List ℕ) → Follows prefix rest text → ⊥
