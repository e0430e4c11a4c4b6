-- What the crossing law gives of a stack of candidates.
use Rattle.std.proofs.Common.{◌≡◌, ℕ, ◌+◌, ◌-◌, ◌<◌, ◌≤◌, List, [], ◌∷◌, ◌++◌, length, take, reverse, slice_get, Some, sym, ap, ◌∙◌, subst, inl, inr, ⊎_elim, le_trans, arith, take_all, append_assoc}
use Rattle.std.specs.List.{AllByRecursion}
use Rattle.std.proofs.lemmas.Bool.{cases_lt}
use Rattle.std.proofs.lemmas.List.{reverse-append, take_more}
use Rattle.std.proofs.lemmas.Option.{slice_get_within, get_or_from_slice_get}
use Rattle.grid.specs.Distance.{Near}
use Rattle.grid.specs.RowGeometry.{OnAxis}
use Rattle.grid.specs.Rows.{NearOn}
use Rattle.rules.specs.Ranges.{Paired}
use Rattle.rules.specs.Laws.{Crossing}
use Rattle.rules.proofs.Orders.{stays}
use Rattle.rows.specs.declared.candidate.Candidate.{Candidate}
use Rattle.rows.specs.Stacks.{cost_of, Overtakes, LinedUp, Covers, Within, IsBottom}

-- serving

-- the first of these candidates, if there is one, begins no earlier than at the place t
abbrev pub Waits : List Candidate → ℕ → Type 0
Waits [] t = Unit {0}
Waits (c ∷ st) t = t ≤ c.start

-- the candidate c of s, with those above it: it has begun by the place t, and the next one begins no earlier than at u
pub record Serving (s : List Candidate) (c : Candidate) (later : List Candidate) (t u : ℕ) : Type 0 where
  pub above : (earlier : List Candidate) × (s ≡ earlier ++ c ∷ later)
  pub begun : c.start ≤ t
  pub next : Waits later u

-- the stack from the top down

pub top_down : (below : List Candidate) (c : Candidate) → reverse (below ++ c ∷ []) ≡ c ∷ reverse below
top_down below c = reverse-append below (c ∷ [])

pub around : (earlier : List Candidate) (c : Candidate) (later : List Candidate) → reverse (earlier ++ c ∷ later) ≡ reverse later ++ c ∷ reverse earlier
around earlier c later = reverse-append earlier (c ∷ later) ∙ ap (λ st. st ++ reverse earlier) (reverse-append (c ∷ []) later) ∙ append_assoc (reverse later) (c ∷ []) (reverse earlier)

around_two : (earlier : List Candidate) (c n : Candidate) (later : List Candidate) → reverse (earlier ++ c ∷ n ∷ later) ≡ reverse later ++ n ∷ c ∷ reverse earlier
around_two earlier c n later = around earlier c (n ∷ later) ∙ ap (λ st. st ++ c ∷ reverse earlier) (reverse-append (n ∷ []) later) ∙ append_assoc (reverse later) (n ∷ []) (c ∷ reverse earlier)

-- the top candidate, and those below it
pub top_split : (s : List Candidate) (c : Candidate) → slice_get s (length s - 1) ≡ Some c → s ≡ take (length s - 1) s ++ c ∷ []
top_split s c e =
    let n = length s - 1 in
    let h : n < length s = slice_get_within s n c e in
    sym (take_all (n + 1) s (omega (arith, h))) ∙ take_more s n c h ∙ ap (λ x. take n s ++ x ∷ []) (get_or_from_slice_get s n c c e)

pub all_back : (P : Candidate → Type 0) (up down : List Candidate) → AllByRecursion P (up ++ down) → AllByRecursion P down
all_back P [] down a = a
all_back P (c ∷ up) down a = all_back P up down a.1

pub all_bottom : (P : Candidate → Type 0) (kept s : List Candidate) → IsBottom kept s → AllByRecursion P (reverse s) → AllByRecursion P (reverse kept)
all_bottom P kept s b a =
    all_back P (reverse b.0) (reverse kept) (subst (λ st. AllByRecursion P st) (ap reverse b.1 ∙ reverse-append kept b.0) a)

module _ (near : NearOn) where
  pub lined_below : (c : Candidate) (st : List Candidate) → LinedUp near (c ∷ st) → LinedUp near st
  lined_below c [] l = tt
  lined_below c (b ∷ st) l = l.1

  lined_back : (up down : List Candidate) → LinedUp near (up ++ down) → LinedUp near down
  lined_back [] down l = l
  lined_back (c ∷ up) down l = lined_back up down (lined_below c (up ++ down) l)

  pub lowest_start : (s : List Candidate) (c : Candidate) (later : List Candidate) → s ≡ c ∷ later → LinedUp near (reverse s) → c.start ≡ 0
  lowest_start s c later e l =
      lined_back (reverse later) (c ∷ []) (subst (λ st. LinedUp near st) (ap reverse e ∙ around [] c later) l)

  -- one candidate of the stack starts before the next
  pub next_later : (earlier : List Candidate) (c n : Candidate) (later : List Candidate) → LinedUp near (reverse (earlier ++ c ∷ n ∷ later)) → c.start < n.start
  next_later earlier c n later l =
      (lined_back (reverse later) (n ∷ c ∷ reverse earlier) (subst (λ st. LinedUp near st) (around_two earlier c n later) l)).0.starts_later

  -- those above a candidate that has not begun have not begun either
  above_wait : (t : ℕ) (up : List Candidate) (n : Candidate) (down : List Candidate) → LinedUp near (up ++ n ∷ down) → t < n.start → AllByRecursion (λ c. t < c.start) (up ++ n ∷ [])
  above_wait t [] n down l h = (h, tt)
  above_wait t (c ∷ []) n down l h = (omega (arith, l.0.starts_later), (h, tt))
  above_wait t (c ∷ b ∷ up) n down l h =
      let rest = above_wait t (b ∷ up) n down l.1 h in (omega (arith, l.0.starts_later, rest.0), rest)

  pub later_wait : (t : ℕ) (earlier : List Candidate) (c : Candidate) (later : List Candidate) → LinedUp near (reverse (earlier ++ c ∷ later)) → Waits later (t + 1) → AllByRecursion (λ b. t < b.start) (reverse later)
  later_wait t earlier c [] l w = tt
  later_wait t earlier c (n ∷ later) l w =
      subst (λ st. AllByRecursion (λ b. t < b.start) st) (sym (reverse-append (n ∷ []) later))
      (above_wait t (reverse later) n (c ∷ reverse earlier) (subst (λ st. LinedUp near st) (around_two earlier c n later) l) (omega (arith, w)))

  -- before its start a candidate is not needed
  pub drop_top : (c : Candidate) (st : List Candidate) (t v : ℕ) → LinedUp near (c ∷ st) → t < c.start → Covers near (c ∷ st) t v → Covers near st t v
  drop_top c [] t v l h (inl k) = omega arith
  drop_top c [] t v l h (inr k) = absurd k
  drop_top c (b ∷ st) t v l h (inl k) = inl (let nearer = l.0.crossed.before t h in omega arith)
  drop_top c (b ∷ st) t v l h (inr k) = k

-- under a rule: `near d` on the axis d, where a point carries at most `ceiling (d - 1)`
module _ (ceiling : ℕ → ℕ) (near : Near) (law : Crossing ceiling near) (d : ℕ) (on : OnAxis d) where
  pub paired : (b c : Candidate) → Within (ceiling (d - 1)) c.place b → Within (ceiling (d - 1)) 1023 c → Paired ceiling d b.place b.value c.place c.value
  paired b c wb wc =
      record {
        earlier = record { axis_low = on.0; axis_high = on.1; place = omega (arith, wb.before, wc.before); carried = wb.carried };
        later = record { axis_low = on.0; axis_high = on.1; place = wc.before; carried = wc.carried };
        ahead = wb.before;
      }

  -- from the crossing on, the later point is no farther
  pub after : (b c : Candidate) (s t : ℕ) → Within (ceiling (d - 1)) c.place b → Within (ceiling (d - 1)) 1023 c → Overtakes (near d) b c s → s ≤ t → t < 1023 → cost_of (near d) c t ≤ cost_of (near d) b t
  after b c s t wb wc f h k =
      stays (cost_of (near d) b) (cost_of (near d) c)
      (λ u lt le. law d b.place b.value c.place c.value u (paired b c wb wc) lt le)
      s t h k (f.there (omega arith))

  -- the top candidate is nearest from its start on
  pub top_best : (c : Candidate) (st : List Candidate) (t v : ℕ) → LinedUp (near d) (c ∷ st) → AllByRecursion (Within (ceiling (d - 1)) 1023) (c ∷ st) → c.start ≤ t → t < 1023 → Covers (near d) (c ∷ st) t v → cost_of (near d) c t ≤ v
  top_best c [] t v l w h k (inl n) = n
  top_best c [] t v l w h k (inr n) = absurd n
  top_best c (b ∷ st) t v l w h k (inl n) = n
  top_best c (b ∷ st) t v l w h k (inr n) =
      let wb : Within (ceiling (d - 1)) c.place b = record { before = l.0.later; carried = w.1.0.carried } in
      let climb = l.0.starts_later in
      le_trans (after b c c.start t wb w.0 l.0.crossed h k) (top_best b st t v l.1 w.1 (omega arith) k n)

  -- a candidate that a later one has overtaken by its start is not needed
  pub pop_covers : (x c : Candidate) (st : List Candidate) (e t v : ℕ) → LinedUp (near d) (c ∷ st) → Within (ceiling (d - 1)) x.place c → Within (ceiling (d - 1)) 1023 x → Overtakes (near d) c x e → e ≤ c.start → t < 1023 → Covers (near d) (x ∷ c ∷ st) t v → Covers (near d) (x ∷ st) t v
  pop_covers x c st e t v l wc wx f h k (inl n) = inl n
  pop_covers x c st e t v l wc wx f h k (inr (inl n)) =
      ⊎_elim (λ lt. inr (drop_top (near d) c st t v l lt (inl n)))
      (λ ge. inl (le_trans (after c x e t wc wx f (omega arith) k) n)) (cases_lt t c.start)
  pop_covers x c st e t v l wc wx f h k (inr (inr n)) = inr n

  -- a candidate that has begun is nearest of all where none of those above it has
  begun_best : (up : List Candidate) (c : Candidate) (down : List Candidate) (t v : ℕ) → LinedUp (near d) (up ++ c ∷ down) → AllByRecursion (Within (ceiling (d - 1)) 1023) (up ++ c ∷ down) → c.start ≤ t → AllByRecursion (λ b. t < b.start) up → t < 1023 → Covers (near d) (up ++ c ∷ down) t v → cost_of (near d) c t ≤ v
  begun_best [] c down t v l w b a r k = top_best c down t v l w b r k
  begun_best (x ∷ up) c down t v l w b a r k =
      begun_best up c down t v (lined_below (near d) x (up ++ c ∷ down) l) w.1 b a.1 r (drop_top (near d) x (up ++ c ∷ down) t v l a.0 k)

  -- the last candidate that has begun, since the next one begins past t, is nearest of all
  pub last_best : (s : List Candidate) (c : Candidate) (later : List Candidate) (t v : ℕ) → Serving s c later t (t + 1) → LinedUp (near d) (reverse s) → AllByRecursion (Within (ceiling (d - 1)) 1023) (reverse s) → t < 1023 → Covers (near d) (reverse s) t v → cost_of (near d) c t ≤ v
  last_best s c later t v serving l w r k =
      let e : reverse s ≡ reverse later ++ c ∷ reverse serving.above.0 = ap reverse serving.above.1 ∙ around serving.above.0 c later in
      let wait : AllByRecursion (λ b. t < b.start) (reverse later) =
      later_wait (near d) t serving.above.0 c later (subst (λ st. LinedUp (near d) (reverse st)) serving.above.1 l) serving.next in
      begun_best (reverse later) c (reverse serving.above.0) t v
      (subst (λ st. LinedUp (near d) st) e l)
      (subst (λ st. AllByRecursion (Within (ceiling (d - 1)) 1023) st) e w)
      serving.begun wait r
      (subst (λ st. Covers (near d) st t v) e k)
