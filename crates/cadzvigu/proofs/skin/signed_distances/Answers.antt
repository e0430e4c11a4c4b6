use Rattle.std.proofs.Common.{◌≡◌, length, None, ap, ◌∙◌, rules}
use Rattle.rules.specs.Doors.{spacing_door}
use Rattle.rules.specs.Formulas.{HasSpacings}
use Rattle.rules.specs.declared.name.RuleName.TheVariants.{Square, Block, Chess}
use Rattle.rules.specs.Names.{rule_number}
use Rattle.cadzvigu.specs.Doors.{signed_questions}
use Rattle.cadzvigu.proofs.Ending.{under_rule}
use Rattle.cadzvigu.proofs.skin.signed_distances.Goals as goal

pub returns-in-Square : goal.returns-in-Square
returns-in-Square c =
    let s = c.args.spacings in
    let passed : spacing_door s.0 s.1 s.2 ≡ None = search rules in
    let given : HasSpacings c.in_ok-spacings.spacings s.0 s.1 s.2 = search rules in
    let name : c.args.rule ≡ rule_number c.in_ok-name.name = search rules in
    let named = name ∙ ap rule_number c.in-Square.is in
    under_rule c.signed_of_bytes.result c.args.rule Square named s passed (signed_questions c.args.sizes c.args.bytes.now (length c.args.numbers.now)) _ _ _
    (λ field. record { kind = Square; numbered = named; over = c.from.result.spacings; as_given = rw c.from.ensures given; field = field }) c.signed_of_bytes.ensures

pub returns-in-Block : goal.returns-in-Block
returns-in-Block c =
    let s = c.args.spacings in
    let passed : spacing_door s.0 s.1 s.2 ≡ None = search rules in
    let given : HasSpacings c.in_ok-spacings.spacings s.0 s.1 s.2 = search rules in
    let name : c.args.rule ≡ rule_number c.in_ok-name.name = search rules in
    let named = name ∙ ap rule_number c.in-Block.is in
    under_rule c.signed_of_bytes-in-Block.result c.args.rule Block named s passed (signed_questions c.args.sizes c.args.bytes.now (length c.args.numbers.now)) _ _ _
    (λ field. record { kind = Block; numbered = named; over = c.from-in-Block.result.spacings; as_given = rw c.from-in-Block.ensures given; field = field }) c.signed_of_bytes-in-Block.ensures

pub returns-in-Chess : goal.returns-in-Chess
returns-in-Chess c =
    let s = c.args.spacings in
    let passed : spacing_door s.0 s.1 s.2 ≡ None = search rules in
    let given : HasSpacings c.in_ok-spacings.spacings s.0 s.1 s.2 = search rules in
    let name : c.args.rule ≡ rule_number c.in_ok-name.name = search rules in
    let named = name ∙ ap rule_number c.in-Chess.is in
    under_rule c.signed_of_bytes-in-Chess.result c.args.rule Chess named s passed (signed_questions c.args.sizes c.args.bytes.now (length c.args.numbers.now)) _ _ _
    (λ field. record { kind = Chess; numbered = named; over = c.from-in-Chess.result.spacings; as_given = rw c.from-in-Chess.ensures given; field = field }) c.signed_of_bytes-in-Chess.ensures
