use Rattle.std.proofs.Common.{ℕ, ◌-◌, ◌<◌, ◌∷◌, length, reverse}
use Rattle.std.specs.List.{AllByRecursion}
use Rattle.rows.specs.Stacks.{IsBottom, LinedUp, Covers, Within}
use Rattle.rows.proofs.stack.settle.Given as goal

-- what was covered still is, by the candidates that are left and the new one
abbrev pub invariant-loop-top : goal.invariant-loop-top
invariant-loop-top g l =
    let near = g.R.Rule.near l.rule l.axis.number in
    let most = g.R.Rule.ceiling l.rule (l.axis.number - 1) in
    IsBottom l.stack l.initial.stack
    × LinedUp near (reverse l.stack)
    × AllByRecursion (Within most l.new.place) (reverse l.stack)
    × ((t v : ℕ) → t < 1023 → Covers near (l.new ∷ reverse l.initial.stack) t v → Covers near (l.new ∷ reverse l.stack) t v)

abbrev pub decreases-loop-top : goal.decreases-loop-top
decreases-loop-top g l = length l.stack
