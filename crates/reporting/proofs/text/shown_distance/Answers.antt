use Rattle.std.proofs.Common.{sym, ap, ◌∙◌}
use Rattle.rules.specs.declared.name.RuleName.{RuleName}
use Rattle.reporting.specs.Texts.{shown_distance}
use Rattle.reporting.proofs.Roots.{root_between}
use Rattle.reporting.proofs.text.shown_distance.Goals as goal

pub returns-in-Square : goal.returns-in-Square
returns-in-Square c =
    root_between c.isqrt.result c.args.value c.isqrt.ensures.square_le c.isqrt.ensures.next_square_gt
    ∙ ap (λ (r : RuleName). shown_distance r c.args.value) (sym c.in-Square.is)
