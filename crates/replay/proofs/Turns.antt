-- Each call goes as the book says, and leaves right records.
use Rattle.std.proofs.Common.{◌≡◌, ℕ, ◌+◌, ◌<◌, Bool, true, false, eqb, ltb, List, length, set, Some, None, Ok, Err, Option, Result, sym, refl, ap, ◌∙◌, subst, arith, MatchResult}
use Rattle.std.proofs.lemmas.Bool.{and_parts, cond-true, eqb-true, lt-ltb}
use Rattle.grid.specs.declared.cell.Cell.{Cell}
use Rattle.grid.specs.declared.refusal.Refusal.{Refusal}
use Rattle.grid.specs.declared.sizes.Sizes.{Sizes}
use Rattle.grid.specs.Geometry.{Place, cell_count, inside, cell_number}
use Rattle.grid.specs.Cells.{Marks, AllHold, FinishedField, painted}
use Rattle.grid.specs.Distance.{Near}
use Rattle.grid.specs.RowDoors.{all_places}
use Rattle.grid.specs.Rows.{GridRowDone}
use Rattle.grid.proofs.Doors.{passed_yes}
use Rattle.grid.proofs.Places.{number_inside}
use Rattle.grid.proofs.RowDoors.{all_places_at}
use Rattle.rules.specs.Laws.{Order, Bounded}
use Rattle.pictures.specs.Numbered.{marks_by_number}
use Rattle.fields.specs.Painting.{Painted}
use Rattle.fields.proofs.Painting.{painted_holds}
use Rattle.fields.proofs.StepUp.{step_up}
use Rattle.job.specs.declared.states.Painting.{Painting}
use Rattle.job.specs.declared.states.Working.{Working}
use Rattle.job.specs.declared.states.Finished.{Finished}
use Rattle.job.specs.declared.states.Raised.{Raised}
use Rattle.job.specs.declared.states.Raised.TheVariants.{Next, Last}
use Rattle.job.specs.Cells.{Levels, marks_in, levels_in, painted_cells}
use Rattle.job.specs.Changes.{Changes, Paints, Loads, WorksRow}
use Rattle.job.specs.Doors.{lent, place_door, load_door, start_door, row_door, raise_door, same_sizes}
use Rattle.job.specs.Moves.{IsPainting, IsWorking, IsFinished, Rises}
use Rattle.job.proofs.RowWork.{lent_open}
use Rattle.replay.specs.declared.calls.Answer.{Answer}
use Rattle.replay.specs.declared.calls.Answer.TheVariants as answer
use Rattle.replay.specs.declared.calls.Call.{Call}
use Rattle.replay.specs.declared.calls.Call.TheVariants as call
use Rattle.replay.specs.declared.jobs.Job.{Job}
use Rattle.replay.specs.declared.jobs.Job.TheVariants as job
use Rattle.replay.specs.Book.{Stage, working, finished, Book, accepted, behind, step, above, with_mark, with_marks, with_row, at_stage, reopened}
use Rattle.replay.specs.Jobs.{raised_job, rule_of, sizes_of, shown, Sound}
use Rattle.replay.specs.Runs.{Called, Accepted, CellPainted}
use Rattle.replay.proofs.Painted.{marks_past, marks_set, levels_set, painted_set, level_0, levels_0, marks_painted, painted_all, picture_past}
use Rattle.replay.proofs.Rowed.{marks_rowed, levels_rowed, row_has, row_stood, no_value_refused}

-- books with the same parts
pub same_book : {s s' : Sizes} {st st' : Stage} {m m' : Marks} {l l' : Levels} → s ≡ s' → st ≡ st' → m ≡ m' → l ≡ l'
    → ◌≡◌ {A = Book} (record { sizes = s; stage = st; marked = m; levels = l }) (record { sizes = s'; stage = st'; marked = m'; levels = l' })
same_book {s} {s'} {st} {st'} {m} {m'} {l} {l'} es et em el =
    let A : Sizes → Book = λ x. record { sizes = x; stage = st; marked = m; levels = l } in
    let B : Stage → Book = λ x. record { sizes = s'; stage = x; marked = m; levels = l } in
    let C : Marks → Book = λ x. record { sizes = s'; stage = st'; marked = x; levels = l } in
    let D : Levels → Book = λ x. record { sizes = s'; stage = st'; marked = m'; levels = x } in
    ap A es ∙ ap B et ∙ ap C em ∙ ap D el

-- the sizes are the same where the test says so
same_from_test : (s t : Sizes) → same_sizes s t ≡ true → s ≡ t
same_from_test s t h =
    let one = and_parts (eqb s.nx t.nx) _ h in
    let two = and_parts (eqb s.ny t.ny) _ one.1 in
    let x = eqb-true s.nx t.nx one.0 in
    let y = eqb-true s.ny t.ny two.0 in
    let z = eqb-true s.nz t.nz two.1 in
    let A : ℕ → Sizes = λ n. record { nx = n; ny = s.ny; nz = s.nz } in
    let B : ℕ → Sizes = λ n. record { nx = t.nx; ny = n; nz = s.nz } in
    let C : ℕ → Sizes = λ n. record { nx = t.nx; ny = t.ny; nz = n } in
    ap A x ∙ ap B y ∙ ap C z

module _ {R P : Type 0} (extent : P → Sizes) (marks : P → Place → Bool) (near : Near) where
  -- a call that is known to be c₀
  at_call : (j j' : Job R) (a : Answer) (before after : List Cell) (c₀ c : Call P) → c ≡ c₀
      → Called extent marks near (step extent marks (shown j before) c₀) j c₀ j' a before after
      → Called extent marks near (step extent marks (shown j before) c) j c j' a before after
  at_call j j' a before after c₀ c e h =
      subst (λ x. Called extent marks near (step extent marks (shown j before) x) j x j' a before after) (sym e) h

  module _ (j : Job R) (c : Call P) (before : List Cell) (fits : length before ≡ cell_count (sizes_of j)) (sound : Sound near j before) where
    -- a refused call
    pub by_refusal : (door : Option Refusal) (next : Book) (e : Refusal) (j' : Job R) (after : List Cell)
        → lent (sizes_of j) before door ≡ Some e → j' ≡ j → after ≡ before
        → Called extent marks near (behind door next) j c j' (answer.Refused e) before after
    by_refusal door next e j' after h same kept =
        subst (λ o. Called extent marks near (behind o next) j c j' (answer.Refused e) before after) (sym (sym (lent_open (sizes_of j) before door fits) ∙ h))
        (record {
          told = (refl, kept);
          book = ap (λ (i : Job R). shown i after) same ∙ ap (shown j) kept;
          same_rule = ap rule_of same;
          same_sizes = ap sizes_of same;
          sound = subst (λ (i : Job R). Sound near i after) (sym same) (subst (Sound near j) (sym kept) sound);
        })

    -- a call that keeps its state
    pub by_change : {X : Type 0} (door : Option Refusal) (next : Book) (r : Result X Refusal) (a : Answer) (after : List Cell) (New : Type 0)
        → Changes r (lent (sizes_of j) before door) before after New → MatchResult r (λ _. a ≡ answer.Done) (λ e. a ≡ answer.Refused e)
        → (door ≡ None → a ≡ answer.Done → New → Called extent marks near (accepted next) j c j a before after)
        → Called extent marks near (behind door next) j c j a before after
    by_change door next (Ok x) a after New ch an go =
        let opened : door ≡ None = sym (lent_open (sizes_of j) before door fits) ∙ ch.0 in
        subst (λ o. Called extent marks near (behind o next) j c j a before after) (sym opened) (go opened an ch.1)
    by_change door next (Err e) a after New ch an go =
        subst (λ x. Called extent marks near (behind door next) j c j x before after) (sym an) (by_refusal door next e j after ch.0 refl ch.1)

  -- marking and wiping
  module _ (p : Painting R) (before : List Cell) (was : Painted p.grid.sizes (marks_in before) before) where
    by_painting : {X : Type 0} (c : Call P) (at : Place) (mark : Bool) (r : Result X Refusal) (a : Answer) (after : List Cell)
        → Paints r p.grid.sizes at mark before after → MatchResult r (λ _. a ≡ answer.Done) (λ e. a ≡ answer.Refused e)
        → (a ≡ answer.Done → CellPainted p.grid.sizes at mark before after → Accepted marks near (shown (job.Painting p) before) c a before after)
        → Called extent marks near (behind (place_door p.grid.sizes at) (with_mark (shown (job.Painting p) before) at mark)) (job.Painting p) c (job.Painting p) a before after
    by_painting c at mark r a after h an told =
        let s = p.grid.sizes in
        let k = cell_number p.grid.sizes at in
        by_change (job.Painting p) c before was.one_each was (place_door s at) (with_mark (shown (job.Painting p) before) at mark) r a after
        (after ≡ set before k (painted mark k)) h an
        (λ opened done new.
        let in_grid : k < cell_count s = number_inside s at (passed_yes (inside s at) _ _ opened) in
        let in_cells : k < length before = omega (arith, was.one_each) in
        record {
          told = told done new;
          book = ap (shown (job.Painting p)) new
              ∙ same_book refl refl (marks_set before k mark in_cells) (levels_set before k mark in_cells (level_0 s before was k in_grid));
          same_rule = refl;
          same_sizes = refl;
          sound = subst (λ x. Painted s (marks_in x) x) (sym new) (painted_set before k mark in_cells s was);
        })

    pub mark_called : {X : Type 0} (c : Call P) (at : Place) → c ≡ call.Mark at → (r : Result X Refusal) (a : Answer) (after : List Cell)
        → MatchResult r (λ _. a ≡ answer.Done) (λ e. a ≡ answer.Refused e) → Paints r p.grid.sizes at true before after
        → Called extent marks near (step extent marks (shown (job.Painting p) before) c) (job.Painting p) c (job.Painting p) a before after
    mark_called c at e r a after an h =
        at_call (job.Painting p) (job.Painting p) a before after (call.Mark at) c e (by_painting (call.Mark at) at true r a after h an (λ x y. (x, y)))

    pub wipe_called : {X : Type 0} (c : Call P) (at : Place) → c ≡ call.Wipe at → (r : Result X Refusal) (a : Answer) (after : List Cell)
        → MatchResult r (λ _. a ≡ answer.Done) (λ e. a ≡ answer.Refused e) → Paints r p.grid.sizes at false before after
        → Called extent marks near (step extent marks (shown (job.Painting p) before) c) (job.Painting p) c (job.Painting p) a before after
    wipe_called c at e r a after an h =
        at_call (job.Painting p) (job.Painting p) a before after (call.Wipe at) c e (by_painting (call.Wipe at) at false r a after h an (λ x y. (x, y)))

    pub load_called : ((q : P) (at : Place) → inside (extent q) at ≡ false → marks q at ≡ false)
        → {X : Type 0} (c : Call P) (q : P) → c ≡ call.Load q → (r : Result X Refusal) (a : Answer) (after : List Cell)
        → MatchResult r (λ _. a ≡ answer.Done) (λ e. a ≡ answer.Refused e) → Loads r p.grid.sizes (extent q) (marks q) before after
        → Called extent marks near (step extent marks (shown (job.Painting p) before) c) (job.Painting p) c (job.Painting p) a before after
    load_called outside c q e r a after an h =
        let s = p.grid.sizes in
        let n = cell_count p.grid.sizes in
        let new-marks = marks_by_number p.grid.sizes (marks q) in
        at_call (job.Painting p) (job.Painting p) a before after (call.Load q) c e
        (by_change (job.Painting p) (call.Load q) before was.one_each was (load_door s (extent q)) (with_marks (shown (job.Painting p) before) new-marks) r a after
        (after ≡ painted_cells new-marks n) h an
        (λ opened done new.
        let same : extent q ≡ s = same_from_test (extent q) s (passed_yes (same_sizes (extent q) s) _ _ opened) in
        let all = painted_all new-marks n s refl in
        record {
          told = (done, new);
          book = ap (shown (job.Painting p)) new
              ∙ same_book refl refl
              (marks_painted new-marks n (picture_past s (marks q) (λ at out. outside q at (subst (λ x. inside x at ≡ false) (sym same) out))))
              (levels_0 s (painted_cells new-marks n) all ∙ sym (levels_0 s before was));
          same_rule = refl;
          same_sizes = refl;
          sound = subst (λ x. Painted s (marks_in x) x) (sym new) all;
        }))

    -- from painting to axis 1
    pub start_called : (c : Call P) (w : Working R) → c ≡ call.Start → lent p.grid.sizes before (start_door p.grid.sizes (marks_in before)) ≡ None
        → IsWorking p.rule p.grid.sizes 1 w
        → Called extent marks near (step extent marks (shown (job.Painting p) before) c) (job.Painting p) c (job.Working w) answer.Done before before
    start_called c w e h is =
        let s = p.grid.sizes in
        at_call (job.Painting p) (job.Working w) answer.Done before before call.Start c e
        (subst (λ o. Called extent marks near (behind o (at_stage (shown (job.Painting p) before) (working 1))) (job.Painting p) call.Start (job.Working w) answer.Done before before)
        (sym (sym (lent_open s before _ was.one_each) ∙ h))
        (record {
          told = (refl, refl);
          book = same_book is.same_sizes (ap working is.on_axis) refl refl;
          same_rule = is.same_rule;
          same_sizes = is.same_sizes;
          sound = subst (λ x. AllHold near x (marks_in before) before) (sym is.same_sizes) (painted_holds near s (marks_in before) before was).all_hold;
        }))

    pub start_refused : (c : Call P) (kept : Painting R) (refusal : Refusal) → c ≡ call.Start
        → lent p.grid.sizes before (start_door p.grid.sizes (marks_in before)) ≡ Some refusal → kept ≡ p
        → Called extent marks near (step extent marks (shown (job.Painting p) before) c) (job.Painting p) c (job.Painting kept) (answer.Refused refusal) before before
    start_refused c kept refusal e h same =
        at_call (job.Painting p) (job.Painting kept) (answer.Refused refusal) before before call.Start c e
        (by_refusal (job.Painting p) call.Start before was.one_each was _ _ refusal (job.Painting kept) before h (ap job.Painting same) refl)

  -- a row
  pub row_called : (ceiling : ℕ → ℕ) → Order ceiling near → Bounded ceiling near
      → (w : Working R) (before : List Cell) → AllHold near w.grid.sizes (marks_in before) before
      → {X : Type 0} (c : Call P) (m : ℕ) → c ≡ call.Row m → (r : Result X Refusal) (a : Answer) (after : List Cell)
      → MatchResult r (λ _. a ≡ answer.Done) (λ e. a ≡ answer.Refused e) → WorksRow r near ceiling w.grid.sizes w.axis.number m before after
      → Called extent marks near (step extent marks (shown (job.Working w) before) c) (job.Working w) c (job.Working w) a before after
  row_called ceiling order bounded w before hold c m e r a after an h =
      let s = w.grid.sizes in
      let d = w.axis.number in
      let next = with_row (shown (job.Working w) before) w.axis.number m in
      let door = row_door w.grid.sizes w.axis.number m (levels_in before) None in
      let shut = no_value_refused ceiling near bounded s w.grid.is d m w.axis.on before hold in
      at_call (job.Working w) (job.Working w) a before after (call.Row m) c e
      (by_change (job.Working w) (call.Row m) before hold.one_each hold door next r a after
      (GridRowDone near s d m before after)
      (subst (λ o. Changes r o before after (GridRowDone near s d m before after)) (shut ∙ sym (lent_open s before door hold.one_each)) h) an
      (λ opened done new.
      let has = row_has ceiling near bounded s w.grid.is d m w.axis.on before hold opened in
      let stood = row_stood ceiling near bounded s w.grid.is d m w.axis.on before hold opened in
      let up = step_up ceiling near order bounded s (marks_in before) d m has before after hold stood new in
      let same = marks_rowed near s d m before after new in
      record {
        told = (done, new);
        book = same_book refl refl same (levels_rowed near s d m before after new);
        same_rule = refl;
        same_sizes = refl;
        sound = subst (λ x. AllHold near s x after) (sym same) up.all_hold;
      }))

  module _ (w : Working R) (before : List Cell) (hold : AllHold near w.grid.sizes (marks_in before) before) where
    climb_called : (c : Call P) (v : Working R) → c ≡ call.Raise
        → lent w.grid.sizes before (raise_door w.grid.sizes w.axis.number (levels_in before)) ≡ None
        → w.axis.number < 3 → IsWorking w.rule w.grid.sizes (w.axis.number + 1) v
        → Called extent marks near (step extent marks (shown (job.Working w) before) c) (job.Working w) c (job.Working v) answer.Done before before
    climb_called c v e h below is =
        let s = w.grid.sizes in
        at_call (job.Working w) (job.Working v) answer.Done before before call.Raise c e
        (subst (λ o. Called extent marks near (behind o (at_stage (shown (job.Working w) before) (above w.axis.number))) (job.Working w) call.Raise (job.Working v) answer.Done before before)
        (sym (sym (lent_open s before _ hold.one_each) ∙ h))
        (record {
          told = (refl, refl);
          book = same_book is.same_sizes
              (ap working is.on_axis ∙ sym (cond-true (ltb w.axis.number 3) (working (w.axis.number + 1)) finished (lt-ltb w.axis.number 3 below))) refl refl;
          same_rule = is.same_rule;
          same_sizes = is.same_sizes;
          sound = subst (λ x. AllHold near x (marks_in before) before) (sym is.same_sizes) hold;
        }))

    -- after axis 3
    finish_called : (c : Call P) (f : Finished R) → c ≡ call.Raise
        → lent w.grid.sizes before (raise_door w.grid.sizes w.axis.number (levels_in before)) ≡ None
        → w.axis.number ≡ 3 → IsFinished w.rule w.grid.sizes f
        → Called extent marks near (step extent marks (shown (job.Working w) before) c) (job.Working w) c (job.Finished f) answer.Done before before
    finish_called c f e h at_3 is =
        let s = w.grid.sizes in
        let d = w.axis.number in
        let opened : raise_door w.grid.sizes w.axis.number (levels_in before) ≡ None = sym (lent_open s before _ hold.one_each) ∙ h in
        let all = passed_yes (all_places (cell_count s) (λ k. eqb (levels_in before k) d)) _ _ opened in
        let raised : above w.axis.number ≡ finished = ap above at_3 in
        at_call (job.Working w) (job.Finished f) answer.Done before before call.Raise c e
        (subst (λ o. Called extent marks near (behind o (at_stage (shown (job.Working w) before) (above w.axis.number))) (job.Working w) call.Raise (job.Finished f) answer.Done before before)
        (sym opened)
        (record {
          told = (refl, refl);
          book = same_book is.same_sizes (sym raised) refl refl;
          same_rule = is.same_rule;
          same_sizes = is.same_sizes;
          sound = subst (λ x. FinishedField near x (marks_in before) before) (sym is.same_sizes)
              (record { all_hold = hold; all_at_3 = λ k b. eqb-true (levels_in before k) d (all_places_at (λ k. eqb (levels_in before k) d) (cell_count s) k all b) ∙ at_3 });
        }))

    -- to the next axis, or to the end
    pub raise_called : (c : Call P) (raised : Raised R) (j : Job R) → c ≡ call.Raise → j ≡ raised_job raised
        → lent w.grid.sizes before (raise_door w.grid.sizes w.axis.number (levels_in before)) ≡ None
        → Rises w.rule w.grid.sizes w.axis.number raised
        → Called extent marks near (step extent marks (shown (job.Working w) before) c) (job.Working w) c j answer.Done before before
    raise_called c (Next v) j e led h up =
        subst (λ i. Called extent marks near (step extent marks (shown (job.Working w) before) c) (job.Working w) c i answer.Done before before) (sym led) (climb_called c v e h up.0 up.1)
    raise_called c (Last f) j e led h up =
        subst (λ i. Called extent marks near (step extent marks (shown (job.Working w) before) c) (job.Working w) c i answer.Done before before) (sym led) (finish_called c f e h up.0 up.1)

    pub raise_refused : (c : Call P) (kept : Working R) (refusal : Refusal) → c ≡ call.Raise
        → lent w.grid.sizes before (raise_door w.grid.sizes w.axis.number (levels_in before)) ≡ Some refusal → kept ≡ w
        → Called extent marks near (step extent marks (shown (job.Working w) before) c) (job.Working w) c (job.Working kept) (answer.Refused refusal) before before
    raise_refused c kept refusal e h same =
        at_call (job.Working w) (job.Working kept) (answer.Refused refusal) before before call.Raise c e
        (by_refusal (job.Working w) call.Raise before hold.one_each hold _ _ refusal (job.Working kept) before h (ap job.Working same) refl)

  -- back to painting
  reopens : (j : Job R) (before : List Cell) → length before ≡ cell_count (sizes_of j) → (p : Painting R) (after : List Cell)
      → IsPainting (rule_of j) (sizes_of j) p → after ≡ painted_cells (marks_in before) (length before)
      → Called extent marks near (accepted (reopened (shown j before))) j call.Reopen (job.Painting p) answer.Done before after
  reopens j before fits p after is new =
      let n = length before in
      let all : Painted p.grid.sizes (marks_in after) after =
      subst (λ x. Painted p.grid.sizes (marks_in x) x) (sym new) (painted_all (marks_in before) n p.grid.sizes (fits ∙ ap cell_count (sym is.same_sizes))) in
      record {
        told = (refl, new);
        book = same_book is.same_sizes refl (ap marks_in new ∙ marks_painted (marks_in before) n (marks_past before)) (levels_0 p.grid.sizes after all);
        same_rule = is.same_rule;
        same_sizes = is.same_sizes;
        sound = all;
      }

  pub work_reopened : (w : Working R) (before : List Cell) → AllHold near w.grid.sizes (marks_in before) before
      → (c : Call P) (p : Painting R) (after : List Cell) → c ≡ call.Reopen → IsPainting w.rule w.grid.sizes p
      → after ≡ painted_cells (marks_in before) (length before)
      → Called extent marks near (step extent marks (shown (job.Working w) before) c) (job.Working w) c (job.Painting p) answer.Done before after
  work_reopened w before hold c p after e is new =
      at_call (job.Working w) (job.Painting p) answer.Done before after call.Reopen c e (reopens (job.Working w) before hold.one_each p after is new)

  module _ (f : Finished R) (before : List Cell) (field : FinishedField near f.grid.sizes (marks_in before) before) where
    pub field_reopened : (c : Call P) (p : Painting R) (after : List Cell) → c ≡ call.Reopen → IsPainting f.rule f.grid.sizes p
        → after ≡ painted_cells (marks_in before) (length before)
        → Called extent marks near (step extent marks (shown (job.Finished f) before) c) (job.Finished f) c (job.Painting p) answer.Done before after
    field_reopened c p after e is new =
        at_call (job.Finished f) (job.Painting p) answer.Done before after call.Reopen c e (reopens (job.Finished f) before field.all_hold.one_each p after is new)

    -- a look outside the grid
    pub look_refused : (c : Call P) (at : Place) (refusal : Refusal) → c ≡ call.Look at → lent f.grid.sizes before (place_door f.grid.sizes at) ≡ Some refusal
        → Called extent marks near (step extent marks (shown (job.Finished f) before) c) (job.Finished f) c (job.Finished f) (answer.Refused refusal) before before
    look_refused c at refusal e h =
        at_call (job.Finished f) (job.Finished f) (answer.Refused refusal) before before (call.Look at) c e
        (by_refusal (job.Finished f) (call.Look at) before field.all_hold.one_each field _ _ refusal (job.Finished f) before h refl refl)
