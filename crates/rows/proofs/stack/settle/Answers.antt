use Rattle.std.proofs.Common.{◌≡◌, ◌-◌, ◌∷◌, [], ◌++◌, length, take, reverse, slice_get, Some, sym, ap, ◌∙◌, subst, append_assoc, arith, rules}
use Rattle.std.specs.List.{AllByRecursion}
use Rattle.rows.specs.Stacks.{LinedUp, Covers, Within, moved_to}
use Rattle.rows.proofs.Envelope.{top_split, top_down, lined_below}
use Rattle.rows.proofs.Steps.{settle_stop, settle_pop}
use Rattle.rows.proofs.stack.settle.Goals as goal

pub returns-then-start-top : goal.returns-then-start-top
returns-then-start-top g c =
    let near = g.R.Rule.near c.args.rule.now c.args.axis.number in
    let most = g.R.Rule.ceiling c.args.rule.now (c.args.axis.number - 1) in
    let s = c.loop-top.stack in
    let top = c.in-Some.field-0.now in
    let found : slice_get s (length s - 1) ≡ Some top = search rules in
    let split = top_split s top found in
    let within = (subst (λ st. AllByRecursion (Within most c.args.new.place) st) (ap reverse split ∙ top_down (take (length s - 1) s) top) c.loop-top.invariant.2).0 in
    record {
      bottom = c.loop-top.invariant.0;
      lined = subst (λ st. LinedUp near (moved_to c.args.new c.overtaking-start.result ∷ reverse st)) (sym split)
          (settle_stop near (take (length s - 1) s) top c.args.new c.overtaking-start.result (subst (λ st. LinedUp near (reverse st)) split c.loop-top.invariant.1) within.before (omega arith) c.overtaking-start.ensures);
      covers = c.loop-top.invariant.3;
    }

pub loop-top-preserved : goal.loop-top-preserved
loop-top-preserved g c =
    let near = g.R.Rule.near c.args.rule.now in
    let ceiling = g.R.Rule.ceiling c.args.rule.now in
    let law = g.met.R.Rule.crosses c.args.rule.now in
    let d = c.args.axis.number in
    let s = c.loop-top.stack in
    let s' = c.pop.new.self in
    let top = c.in-Some.field-0.now in
    let found : slice_get s (length s - 1) ≡ Some top = search rules in
    let split : s ≡ s' ++ top ∷ [] = top_split s top found ∙ ap (λ st. st ++ top ∷ []) (sym c.pop.ensures) in
    let down : reverse s ≡ top ∷ reverse s' = ap reverse split ∙ top_down s' top in
    let within = subst (λ st. AllByRecursion (Within (ceiling (d - 1)) c.args.new.place) st) down c.loop-top.invariant.2 in (
      (top ∷ c.loop-top.invariant.0.0, c.loop-top.invariant.0.1 ∙ ap (λ st. st ++ c.loop-top.invariant.0.0) split ∙ append_assoc s' (top ∷ []) c.loop-top.invariant.0.0),
      lined_below (near d) top (reverse s') (subst (λ st. LinedUp (near d) st) down c.loop-top.invariant.1),
      within.1,
      λ t v h cov.
          settle_pop ceiling near law d c.args.axis.on s' top c.args.new c.overtaking-start.result t v
          (subst (λ st. LinedUp (near d) (reverse st)) split c.loop-top.invariant.1) within.0 c.requires.new c.overtaking-start.ensures (omega arith) h
          (subst (λ st. Covers (near d) (c.args.new ∷ reverse st) t v) split (c.loop-top.invariant.3 t v h cov)),
    )
