-- Settings in four words: how each value is written, and what it means that a word is none.
use Rattle.std.specs.Prelude.{◌≡◌, ℕ, List}
use Rattle.numerals.specs.Numerals.{numeral}
use Rattle.rules.specs.Ranges.{IsSpacing}
use Rattle.rules.specs.Names.{rule_word, NoRuleWord}
use Rattle.job_text.specs.declared.columns.Column.{Column}
use Rattle.job_text.specs.declared.columns.Column.TheVariants.{Rule, Sx, Sy, Sz}
use Rattle.rules.specs.declared.name.RuleName.{RuleName}
use Rattle.job_text.specs.declared.settings.Settings.{Settings}

-- the word is the name of the rule
abbrev pub WritesRule : List ℕ → RuleName → Type 0
WritesRule word n = word ≡ rule_word n

-- the word is a spacing from 1 to 10,000 in its decimal digits, with no zero in front
abbrev pub WritesSpacing : List ℕ → ℕ → Type 0
WritesSpacing word n = IsSpacing n × (word ≡ numeral n)

abbrev pub NoSpacing : List ℕ → Type 0
NoSpacing word = (n : ℕ) → WritesSpacing word n → ⊥

-- the four words are the values of the settings
pub record WritesSettings (rule sx sy sz : List ℕ) (s : Settings) : Type 0 where
  pub by_rule : WritesRule rule s.rule
  pub on_x : WritesSpacing sx s.sx
  pub on_y : WritesSpacing sy s.sy
  pub on_z : WritesSpacing sz s.sz

-- some rule, some spacing
abbrev pub SomeRule : List ℕ → Type 0
SomeRule word = (n : RuleName) × WritesRule word n

abbrev pub SomeSpacing : List ℕ → Type 0
SomeSpacing word = (n : ℕ) × WritesSpacing word n

-- the first column whose word is no value of it
abbrev pub FaultyWord : List ℕ → List ℕ → List ℕ → List ℕ → Column → Type 0
FaultyWord rule sx sy sz Rule = NoRuleWord rule
FaultyWord rule sx sy sz Sx = SomeRule rule × NoSpacing sx
FaultyWord rule sx sy sz Sy = SomeRule rule × SomeSpacing sx × NoSpacing sy
FaultyWord rule sx sy sz Sz = SomeRule rule × SomeSpacing sx × SomeSpacing sy × NoSpacing sz
