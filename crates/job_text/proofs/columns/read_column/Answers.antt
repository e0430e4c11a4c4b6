use Rattle.std.proofs.Common.{[], ◌∷◌, Contains, refl, arith}
use Rattle.job_text.specs.declared.columns.Column.{Column}
use Rattle.job_text.specs.declared.columns.Column.TheVariants.{Rule, Sx, Sy, Sz}
use Rattle.job_text.proofs.Words.{option_weaker}
use Rattle.job_text.proofs.columns.read_column.Goals as goal

each_is_listed : (c : Column) → Contains (Rule ∷ Sx ∷ Sy ∷ Sz ∷ []) c
each_is_listed Rule = (0, omega arith, refl)
each_is_listed Sx = (1, omega arith, refl)
each_is_listed Sy = (2, omega arith, refl)
each_is_listed Sz = (3, omega arith, refl)

pub returns : goal.returns
returns c = option_weaker c.read_name.result c.read_name.ensures (λ none n. none n (each_is_listed n)) (λ p h. h)
