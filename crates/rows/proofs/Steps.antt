-- One step of each loop: a candidate that is left out, put on or served.
use Rattle.std.proofs.Common.{◌≡◌, ℕ, ◌+◌, ◌-◌, ◌<◌, ◌≤◌, Bool, true, false, cond, leb, List, [], ◌∷◌, ◌++◌, length, reverse, Some, None, sym, refl, ap, ◌∙◌, subst, inl, inr, ⊎_elim, le_refl, length-append, append_assoc, arith}
use Rattle.std.specs.List.{AllByRecursion}
use Rattle.std.proofs.lemmas.Bool.{cases_eq, leb-true}
use Rattle.std.proofs.lemmas.List.{nil_from_length}
use Rattle.std.proofs.ByRecursion.{All-weaker}
use Rattle.grid.specs.declared.cell.Cell.{Cell}
use Rattle.grid.specs.declared.row.Row.{Row}
use Rattle.grid.specs.declared.refusal.Refusal.TheVariants.{RowLevel, RowValue}
use Rattle.grid.specs.Distance.{Near}
use Rattle.grid.specs.Doors.{unless}
use Rattle.grid.specs.RowGeometry.{OnAxis, row_at}
use Rattle.grid.specs.Rows.{NearOn, Offers, offer_cost, Best, RowBelow, records, SliceRowDone}
use Rattle.grid.specs.RowDoors.{row_stands, row_below, row_cells_door}
use Rattle.grid.proofs.RowDoors.{not_all_places}
use Rattle.rules.specs.Laws.{Crossing}
use Rattle.rows.specs.declared.candidate.Candidate.{Candidate}
use Rattle.rows.specs.Passes.{renewed, late_refusal, Served, Blank, Cleared}
use Rattle.rows.specs.Stacks.{cost_of, Overtakes, LinedUp, Covers, Within, StandsFor, moved_to, Settled, Added, Gathered}
use Rattle.rows.proofs.Envelope.{Waits, Serving, top_down, around, all_back, all_bottom, lined_below, lowest_start, next_later, drop_top, pop_covers, last_best}
use Rattle.rows.proofs.Rewrites.{served_done}

-- leaving candidates out

module _ (near : NearOn) (below : List Candidate) (top new : Candidate) where
  -- the new candidate may lie on those that are left
  pub settle_stop : (start : ℕ) → LinedUp near (reverse (below ++ top ∷ [])) → top.place < new.place → top.start < start → Overtakes near top new start → LinedUp near (moved_to new start ∷ reverse (below ++ top ∷ []))
  settle_stop start l later starts crossed =
      subst (λ st. LinedUp near (moved_to new start ∷ st)) (sym (top_down below top))
      (record { later = later; starts_later = starts; crossed = crossed }, subst (λ st. LinedUp near st) (top_down below top) l)

module _ (ceiling : ℕ → ℕ) (near : Near) (law : Crossing ceiling near) (d : ℕ) (on : OnAxis d) (below : List Candidate) (top new : Candidate) where
  -- the top one is not needed beside the new one
  pub settle_pop : (e t v : ℕ) → LinedUp (near d) (reverse (below ++ top ∷ [])) → Within (ceiling (d - 1)) new.place top → Within (ceiling (d - 1)) 1023 new → Overtakes (near d) top new e → e ≤ top.start → t < 1023 → Covers (near d) (new ∷ reverse (below ++ top ∷ [])) t v → Covers (near d) (new ∷ reverse below) t v
  settle_pop e t v l wc wx f h k cov =
      pop_covers ceiling near law d on new top (reverse below) e t v
      (subst (λ st. LinedUp (near d) st) (top_down below top) l) wc wx f h k
      (subst (λ st. Covers (near d) (new ∷ st) t v) (top_down below top) cov)

-- putting one on

module _ (near : NearOn) (n : ℕ) (few : n ≤ 1023) (s : List Candidate) (new : Candidate) (kept : List Candidate) (start : ℕ) (settled : Settled near s new kept start) where
  fewer : length kept ≤ length s
  fewer = omega (arith, ap length settled.bottom.1, length-append kept settled.bottom.0)

  pub added_none : n ≤ start → Added near n s new kept
  added_none h =
      record {
        few = omega (arith, fewer);
        lined = lined_below near (moved_to new start) (reverse kept) settled.lined;
        only = (kept, start, settled.bottom, inl refl);
        covers = λ t v b cov.
            drop_top near (moved_to new start) (reverse kept) t v settled.lined (omega arith) (settled.covers t v (omega arith) cov);
      }

  pub added_one : (s' : List Candidate) → s' ≡ kept ++ moved_to new start ∷ [] → Added near n s new s'
  added_one s' e =
      let down : reverse s' ≡ moved_to new start ∷ reverse kept = ap reverse e ∙ top_down kept (moved_to new start) in
      record {
        few = omega (arith, fewer, ap length e, length-append kept (moved_to new start ∷ []));
        lined = subst (λ st. LinedUp near st) (sym down) settled.lined;
        only = (kept, start, settled.bottom, inr e);
        covers = λ t v b cov. subst (λ st. Covers near st t v) (sym down) (settled.covers t v (omega arith) cov);
      }

-- gathering

module _ (n : ℕ) (row : ℕ → Cell) where
  stands_later : (j : ℕ) (c : Candidate) → StandsFor n row j c → StandsFor n row (j + 1) c
  stands_later j c h = record { before = omega (arith, h.before); offer = h.offer; value = h.value }

  module _ (most j : ℕ) (values : RowBelow j row most) where
    pub stands_within : (c : Candidate) → StandsFor n row j c → Within most j c
    stands_within c h = record { before = h.before; carried = rw h.value (values c.place h.before) }

    pub all_within : (st : List Candidate) → AllByRecursion (StandsFor n row j) st → AllByRecursion (Within most j) st
    all_within st a = All-weaker (StandsFor n row j) (Within most j) stands_within st a

module _ (near : NearOn) (n : ℕ) (row : ℕ → Cell) where
  pub gathered_none : Gathered near n row 0 []
  gathered_none = record { few = omega arith; lined = tt; points = tt; covers = λ i p t h. absurd (omega arith) }

  -- the place j offers nothing
  pub gathered_skip : (j : ℕ) (s : List Candidate) → Gathered near n row j s → (row j).point ≡ None → Gathered near n row (j + 1) s
  gathered_skip j s h e =
      record {
        few = omega (arith, h.few);
        lined = h.lined;
        points = All-weaker (StandsFor n row j) (StandsFor n row (j + 1)) (stands_later n row j) (reverse s) h.points;
        covers = λ i p t b offer r.
            ⊎_elim
            (λ same. let q : (row j).point ≡ Some p = subst (λ m. (row m).point ≡ Some p) same offer.point in
            let z : ◌≡◌ {A = ℕ} 0 1 = cc (q, e) in absurd (omega arith))
            (λ ne. h.covers i p t (omega arith) offer r) (cases_eq i j);
      }

  -- the place j offers a point, which was put on the stack or not
  pub gathered_add : (j : ℕ) (s : List Candidate) (new : Candidate) (s' : List Candidate) → j < n → Gathered near n row j s → new.place ≡ j → new.value ≡ (row j).value → (row j).point ≡ Some new.point → Added near n s new s' → Gathered near n row (j + 1) s'
  gathered_add j s new s' lt h place value point a =
      let later : AllByRecursion (StandsFor n row (j + 1)) (reverse s) =
      All-weaker (StandsFor n row j) (StandsFor n row (j + 1)) (stands_later n row j) (reverse s) h.points in
      let left : AllByRecursion (StandsFor n row (j + 1)) (reverse a.only.0) = all_bottom (StandsFor n row (j + 1)) a.only.0 s a.only.2 later in
      let here : StandsFor n row (j + 1) (moved_to new a.only.1) =
      record {
        before = omega arith;
        offer = record { in_row = omega arith; point = subst (λ m. (row m).point ≡ Some new.point) (sym place) point };
        value = subst (λ m. new.value ≡ (row m).value) (sym place) value;
      } in
      record {
        few = omega (arith, h.few, a.few);
        lined = a.lined;
        points = ⊎_elim (λ e. subst (λ st. AllByRecursion (StandsFor n row (j + 1)) (reverse st)) (sym e) left)
            (λ e. subst (λ st. AllByRecursion (StandsFor n row (j + 1)) st) (sym (ap reverse e ∙ top_down a.only.0 (moved_to new a.only.1))) (here, left)) a.only.3;
        covers = λ i p t b offer r.
            a.covers t (offer_cost near row i t) r
            (⊎_elim
            (λ same. inl (subst (λ m. near new.place t new.value ≤ offer_cost near row m t) (sym same)
            (rw (place, value) (le_refl _))))
            (λ ne. inr (h.covers i p t (omega arith) offer r)) (cases_eq i j));
      }

-- serving

module _ (ceiling : ℕ → ℕ) (near : Near) (law : Crossing ceiling near) (d : ℕ) (on : OnAxis d) (n : ℕ) (row : ℕ → Cell) (values : RowBelow n row (ceiling (d - 1))) (few : n ≤ 1023) (s : List Candidate) (gathered : Gathered (near d) n row n s) (c : Candidate) (later : List Candidate) where
  widen : (b : Candidate) → StandsFor n row n b → Within (ceiling (d - 1)) 1023 b
  widen b h = let w : Within (ceiling (d - 1)) n b = stands_within n row (ceiling (d - 1)) n values b h in record { before = omega arith; carried = w.carried }

  stands : (t u : ℕ) → Serving s c later t u → StandsFor n row n c
  stands t u serving =
      let e : reverse s ≡ reverse later ++ c ∷ reverse serving.above.0 = ap reverse serving.above.1 ∙ around serving.above.0 c later in
      (all_back (StandsFor n row n) (reverse later) (c ∷ reverse serving.above.0) (subst (λ st. AllByRecursion (StandsFor n row n) st) e gathered.points)).0

  pub within_at : (t u : ℕ) → Serving s c later t u → Within (ceiling (d - 1)) 1023 c
  within_at t u serving = widen c (stands t u serving)

  pub served_by : (t : ℕ) → Serving s c later t (t + 1) → t < n → Served (near d) d n row t (renewed (row t) d (Some c.point) (cost_of (near d) c t))
  served_by t serving lt =
      let within : AllByRecursion (Within (ceiling (d - 1)) 1023) (reverse s) =
      All-weaker (StandsFor n row n) (Within (ceiling (d - 1)) 1023) widen (reverse s) gathered.points in
      record {
        mark = refl;
        level = refl;
        best = record {
          from = c.place;
          offered = (stands t (t + 1) serving).offer;
          cost = ap (λ v. near d c.place t v) (stands t (t + 1) serving).value;
          as_good = λ j p offer.
              last_best ceiling near law d on s c later t (offer_cost (near d) row j t) serving gathered.lined within (omega arith)
              (gathered.covers j p t offer.in_row offer lt);
        };
      }

pub serves_first : (near : NearOn) (s : List Candidate) (c : Candidate) (later : List Candidate) → s ≡ c ∷ later → LinedUp near (reverse s) → Serving s c later 0 0
serves_first near s c later e l = record { above = ([], e); begun = omega (arith, lowest_start near s c later e l); next = waits later }
  where
    waits : (later : List Candidate) → Waits later 0
    waits [] = tt
    waits (n ∷ later) = omega arith

module _ (s : List Candidate) (c : Candidate) (later : List Candidate) (t : ℕ) (serving : Serving s c later t t) where
  -- no candidate takes over: there is none, or the next one waits
  pub serves_alone : length later ≡ 0 → Serving s c later t (t + 1)
  serves_alone e = let none : later ≡ [] = nil_from_length later e in record { above = serving.above; begun = serving.begun; next = rw none tt }

  pub serves_still : (next : Candidate) (rest : List Candidate) → later ≡ next ∷ rest → t < next.start → Serving s c later t (t + 1)
  serves_still next rest e h = record { above = serving.above; begun = serving.begun; next = rw e (omega arith) }

  -- the next one takes over
  pub serves_next : (near : NearOn) → LinedUp near (reverse s) → (next : Candidate) (rest : List Candidate) → later ≡ next ∷ rest → next.start ≤ t → Serving s next rest t (t + 1)
  serves_next near lined next rest e begun =
      let above : s ≡ (serving.above.0 ++ c ∷ []) ++ next ∷ rest =
      subst (λ st. s ≡ serving.above.0 ++ c ∷ st) e serving.above.1 ∙ sym (append_assoc serving.above.0 (c ∷ []) (next ∷ rest)) in
      let now : t ≤ next.start = subst (λ st. Waits st t) e serving.next in
      record { above = (serving.above.0 ++ c ∷ [], above); begun = begun; next = waits rest above now }
    where
      waits : (rest : List Candidate) → s ≡ (serving.above.0 ++ c ∷ []) ++ next ∷ rest → t ≤ next.start → Waits rest (t + 1)
      waits [] e now = tt
      waits (n ∷ rest) e now =
          let up = next_later near (serving.above.0 ++ c ∷ []) next n rest (subst (λ st. LinedUp near (reverse st)) e lined) in omega (arith, up)

-- at the next place
pub serves_on : (s : List Candidate) (c : Candidate) (later : List Candidate) (t : ℕ) → Serving s c later t (t + 1) → Serving s c later (t + 1) (t + 1)
serves_on s c later t h = record { above = h.above; begun = omega (arith, h.begun); next = h.next }

-- with no candidate the row offers nothing
module _ (near : Near) (d : ℕ) (row : Row) (old : List Cell) (some : 1 ≤ row.count) (gathered : Gathered (near d) row.count (records old (row_at row)) row.count []) where
  nothing_offered : (j p : ℕ) → Offers row.count (records old (row_at row)) j p → ⊥
  nothing_offered j p offer = gathered.covers j p 0 offer.in_row offer some

  blank_served : (t : ℕ) (cell : Cell) → Blank d (records old (row_at row)) t cell → Served (near d) d row.count (records old (row_at row)) t cell
  blank_served t cell b =
      record {
        mark = b.mark;
        level = b.level;
        best = subst (λ o. Best (near d) row.count (records old (row_at row)) t o cell.value) (sym b.point) (b.value, nothing_offered);
      }

  pub cleared_done : (new : List Cell) → Cleared d row old new → SliceRowDone near d row old new
  cleared_done new c =
      served_done near d row old new
      record { same_length = c.same_length; others = c.others; done = λ t h. blank_served t (records new (row_at row) t) (c.done t h) }

-- refusing

pub one_more : (P : ℕ → Type 0) (n : ℕ) → ((i : ℕ) → i < n → P i) → P n → (i : ℕ) → i < n + 1 → P i
one_more P n below here i h = ⊎_elim (λ e. subst P (sym e) here) (λ ne. below i (omega arith)) (cases_eq i n)

-- a row with too large a value is refused for a level or for the value
pub large_refused : (n : ℕ) (row : ℕ → Cell) (l most i : ℕ) → i < n → most < (row i).value → row_cells_door n row l most ≡ Some (late_refusal n row l)
large_refused n row l most i h large =
    go (row_stands n row l) (row_below n row most)
    (not_all_places (λ i. leb (row i).value most) n i h (λ e. let le = leb-true (row i).value most e in omega arith))
  where
    go : (b c : Bool) → c ≡ false → unless b RowLevel (unless c RowValue None) ≡ Some (cond b RowValue RowLevel)
    go true c e = rw e refl
    go false c e = refl
