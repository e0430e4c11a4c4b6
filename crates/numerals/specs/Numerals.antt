-- Numbers in decimal digits, and what it means to read one.
use Rattle.std.specs.Prelude.{◌≡◌, ℕ, ◌+◌, ◌<◌, ◌≤◌, ◌⊎◌, ⊤, List, [], ◌∷◌, ◌++◌, map}
use Rattle.std.specs.Int.Digits.{digits_of}
use Rattle.numerals.specs.declared.numbers.Ending.{Ending}
use Rattle.numerals.specs.declared.numbers.Ending.TheVariants.{Space, LineFeed}

abbrev pub space : ℕ
space = 32

abbrev pub line_feed : ℕ
line_feed = 10

abbrev pub ending_byte : Ending → ℕ
ending_byte Space = space
ending_byte LineFeed = line_feed

-- the decimal digits of a number above 0, the highest first and so never a 0 in front
unfoldable pub numeral : ℕ → List ℕ
numeral n = map (λ d. 48 + d) (digits_of 10 n)

-- what comes after digits, where they end: it does not go on with one
abbrev pub NoDigitNext : List ℕ → Type 0
NoDigitNext [] = ⊤
NoDigitNext (b ∷ rest) = (b < 48) ⊎ (57 < b)

-- the text is a number n from 1 to most in its digits, and a rest that does not go on with a digit
pub record BeginsWith (text : List ℕ) (most n : ℕ) (rest : List ℕ) : Type 0 where
  pub range : (1 ≤ n) × (n ≤ most)
  pub whole : text ≡ numeral n ++ rest
  pub stops : NoDigitNext rest

-- the text does not begin with such a number
abbrev pub NoNumber : List ℕ → ℕ → Type 0
NoNumber text most = (n : ℕ) (rest : List ℕ) → BeginsWith text most n rest → ⊥

-- the text is a number n from 1 to most in its digits, the byte that ends it, and the rest
pub record Reads (text : List ℕ) (end most n : ℕ) (rest : List ℕ) : Type 0 where
  pub range : (1 ≤ n) × (n ≤ most)
  pub whole : text ≡ numeral n ++ end ∷ rest

-- the text does not begin with such a number
abbrev pub Unread : List ℕ → ℕ → ℕ → Type 0
Unread text end most = (n : ℕ) (rest : List ℕ) → Reads text end most n rest → ⊥
