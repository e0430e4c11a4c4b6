use Rattle.job_text.proofs.Words.{option_weaker, word_then, no_word_then}
use Rattle.job_text.proofs.names.read_word.Goals as goal

pub returns : goal.returns
returns c =
    let e = c.in_ok-rest.ensures in
    option_weaker c.after_ending.result c.after_ending.ensures
    (no_word_then _ _ _ _ e)
    (λ rest h. word_then _ _ _ _ rest.now e h)
