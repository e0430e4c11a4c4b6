use Rattle.std.proofs.Common.{ℕ, ◌-◌, ◌<◌, ◌≤◌}
use Rattle.rules.proofs.rule.Rule.halved.Given as goal

abbrev pub invariant-loop-low : goal.invariant-loop-low
invariant-loop-low g l =
    (l.low ≤ l.high) × (l.high ≤ 1023)
    × ((t : ℕ) → t < l.low → g.Self.Rule.near l.self l.axis l.earlier.place t l.earlier.carried < g.Self.Rule.near l.self l.axis l.later.place t l.later.carried)
    × (l.high < 1023 → g.Self.Rule.near l.self l.axis l.later.place l.high l.later.carried ≤ g.Self.Rule.near l.self l.axis l.earlier.place l.high l.earlier.carried)

abbrev pub decreases-loop-low : goal.decreases-loop-low
decreases-loop-low g l = l.high - l.low
