-- A word with the byte that ends it, at the front of a text.
use Rattle.std.proofs.Common.{◌≡◌, ℕ, List, [], ◌∷◌, ◌++◌, Some, None, Option, sym, ap, ◌∙◌, MatchOption}
use Rattle.std.proofs.lemmas.List.{append_cancel_left}
use Rattle.job_text.specs.Jobs.{ReadsWord, NoWord}

-- the word is there, and what follows decides
pub word_then : (text word after : List ℕ) (end : ℕ) (rest : List ℕ) → text ≡ word ++ after → ReadsWord after [] end rest → ReadsWord text word end rest
word_then text word after end rest e f = e ∙ ap (λ (t : List ℕ). word ++ t) f

pub no_word_then : (text word after : List ℕ) (end : ℕ) → text ≡ word ++ after → NoWord after [] end → NoWord text word end
no_word_then text word after end e none rest f = none rest (append_cancel_left word after (end ∷ rest) (sym e ∙ f))

-- what an optional answer says, made weaker
pub option_weaker : {X : Type 0} (o : Option X) {P P' : Type 0} {Q Q' : X → Type 0} → MatchOption o P Q → (P → P') → ((x : X) → Q x → Q' x) → MatchOption o P' Q'
option_weaker None h f g = f h
option_weaker (Some x) h f g = g x h
