-- The three rules by their words and by their numbers.
use Rattle.std.specs.Prelude.{◌≡◌, ℕ, Bool, false, ◌&&◌, nat_le, List, codes, Result, MatchResult}
use Rattle.rules.specs.declared.name.RuleName.{RuleName}
use Rattle.rules.specs.declared.name.RuleName.TheVariants.{Square, Block, Chess}
use Rattle.rules.specs.declared.name.UnknownRule.{UnknownRule}

abbrev pub rule_word : RuleName → List ℕ
rule_word Square = codes "square"
rule_word Block = codes "block"
rule_word Chess = codes "chess"

-- the word is that of no rule
abbrev pub NoRuleWord : List ℕ → Type 0
NoRuleWord word = (name : RuleName) → word ≡ rule_word name → ⊥

-- what is read of a word: the rule whose word it is, and an error where it is that of none
abbrev pub ReadsRule : List ℕ → Result RuleName UnknownRule → Type 0
ReadsRule word r = MatchResult r (λ name. word ≡ rule_word name) (λ _. NoRuleWord word)

abbrev pub rule_number : RuleName → ℕ
rule_number Square = 1
rule_number Block = 2
rule_number Chess = 3

-- whether a rule has this number
abbrev pub is_rule_number : ℕ → Bool
is_rule_number n = nat_le 1 n && nat_le n 3

-- what is found by a number: the rule that has it, and an error where none has
abbrev pub NumbersRule : ℕ → Result RuleName UnknownRule → Type 0
NumbersRule number r = MatchResult r (λ name. number ≡ rule_number name) (λ _. is_rule_number number ≡ false)

-- what is said of a word that is that of no rule
abbrev pub unknown_rule_text : List ℕ
unknown_rule_text = codes "the rule is square, block or chess"
