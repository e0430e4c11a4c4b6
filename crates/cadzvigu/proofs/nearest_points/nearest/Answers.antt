use Rattle.std.proofs.Common.{◌≡◌, length, None, rules}
use Rattle.rules.specs.Doors.{spacing_door}
use Rattle.rules.specs.Formulas.{HasSpacings}
use Rattle.rules.specs.Names.{rule_number}
use Rattle.cadzvigu.specs.Doors.{nearest_questions}
use Rattle.cadzvigu.proofs.Ending.{under_rule}
use Rattle.cadzvigu.proofs.nearest_points.nearest.Goals as goal

pub returns : goal.returns
returns c =
    let s = c.args.spacings in
    let passed : spacing_door s.0 s.1 s.2 ≡ None = search rules in
    let as_given : HasSpacings c.in_ok-over.over s.0 s.1 s.2 = search rules in
    let named : c.args.rule ≡ rule_number c.in_ok-name.name = search rules in
    under_rule c.nearest_of_bytes.result c.args.rule c.in_ok-name.name named s passed (nearest_questions c.args.sizes c.args.bytes.now (length c.args.values.now) (length c.args.points.now)) _ _ _
    (λ field. record { kind = c.in_ok-name.name; numbered = named; over = c.in_ok-over.over; as_given = as_given; field = field }) c.nearest_of_bytes.ensures
