-- A run of calls, one call at a time.
use Rattle.std.proofs.Common.{◌≡◌, ℕ, ◌+◌, ◌<◌, ◌≤◌, Bool, false, List, [], ◌∷◌, ◌++◌, length, get_or, take, set, None, Ok, Err, Result, sym, refl, ap, ◌∙◌, subst, arith}
use Rattle.std.proofs.lemmas.List.{take_more, take_more_set, take_all}
use Rattle.grid.specs.declared.cell.Cell.{Cell}
use Rattle.grid.specs.declared.sizes.Sizes.{Sizes}
use Rattle.grid.specs.Geometry.{Place, cell_count}
use Rattle.grid.specs.Cells.{AllHold, FinishedField, cell_at}
use Rattle.grid.specs.Distance.{Near}
use Rattle.fields.proofs.Least.{value_is_least}
use Rattle.fields.proofs.Painting.{painted_holds}
use Rattle.fields.proofs.Agreement.{fields_agree}
use Rattle.job.specs.declared.states.Painting.{Painting}
use Rattle.job.specs.Cells.{marks_in, painted_cells}
use Rattle.job.specs.Doors.{begin_door}
use Rattle.job.specs.Moves.{IsPainting}
use Rattle.replay.specs.declared.calls.Answer.{Answer}
use Rattle.replay.specs.declared.calls.Call.{Call}
use Rattle.replay.specs.declared.jobs.Unplayed.{Unplayed}
use Rattle.replay.specs.declared.jobs.Job.{Job}
use Rattle.replay.specs.declared.jobs.Job.TheVariants as job
use Rattle.replay.specs.Book.{finished, Book, step, turned, after, opened, book_after}
use Rattle.replay.specs.Jobs.{rule_of, sizes_of, stage_of, shown, Sound}
use Rattle.replay.specs.Runs.{Ran, begun, called, Told, Called, Played, Replays, OneOutcome}
use Rattle.replay.proofs.Own.{own_answers}
use Rattle.replay.proofs.Painted.{marks_painted, painted_all, levels_0}
use Rattle.replay.proofs.Turns.{same_book}

-- in a sound job every record is right
pub sound_holds : {R : Type 0} (near : Near) (j : Job R) (cells : List Cell) → Sound near j cells → AllHold near (sizes_of j) (marks_in cells) cells
sound_holds near (job.Painting p) cells h = (painted_holds near p.grid.sizes (marks_in cells) cells h).all_hold
sound_holds near (job.Working w) cells h = h
sound_holds near (job.Finished f) cells h = h.all_hold

-- and at the end they are a finished field
pub sound_finished : {R : Type 0} (near : Near) (j : Job R) (cells : List Cell) → stage_of j ≡ finished → Sound near j cells → FinishedField near (sizes_of j) (marks_in cells) cells
sound_finished near (job.Painting p) cells e h = let z : ◌≡◌ {A = ℕ} 0 1 = cc in absurd (omega arith)
sound_finished near (job.Working w) cells e h = let z : ◌≡◌ {A = ℕ} 0 1 = cc in absurd (omega arith)
sound_finished near (job.Finished f) cells e h = h

module _ {P : Type 0} (extent : P → Sizes) (marks : P → Place → Bool) where
  -- the book after one more call
  after_more : (b : Book) (l : List (Call P)) (c : Call P)
      → after extent marks b (l ++ c ∷ []) ≡ turned (after extent marks b l) (step extent marks (after extent marks b l) c)
  after_more b [] c = refl
  after_more b (x ∷ l) c = after_more (turned b (step extent marks b x)) l c

-- a run that has come to the call i
pub record Going {R P : Type 0} (extent : P → Sizes) (marks : P → Place → Bool) (near : R → Near) (rule : R) (s : Sizes) (calls : List (Call P)) (answers : List Answer) (i : ℕ) (j : Job R) (cells : List Cell) : Type 0 where
  pub ran : Ran extent marks (near rule) s (take i calls) (take i answers) cells
  pub as_booked : shown j cells ≡ book_after extent marks s (take i calls)
  pub same_rule : rule_of j ≡ rule
  pub same_sizes : sizes_of j ≡ s
  pub sound : Sound (near rule) j cells

module _ {R P : Type 0} (extent : P → Sizes) (marks : P → Place → Bool) (near : R → Near) (rule : R) (s : Sizes) (calls : List (Call P)) where
  begins : (answers : List Answer) (p : Painting R) (cells : List Cell) → IsPainting rule s p → cells ≡ painted_cells (λ k. false) (cell_count s)
      → Going extent marks near rule s calls answers 0 (job.Painting p) cells
  begins answers p cells is new =
      let n = cell_count s in
      let blank : List Cell = painted_cells (λ k. false) (cell_count s) in
      let all = painted_all (λ k. false) n p.grid.sizes (ap cell_count (sym is.same_sizes)) in
      record {
        ran = subst (λ x. Ran extent marks (near rule) s [] [] x) (sym new) begun;
        as_booked = ap (shown (job.Painting p)) new ∙ same_book is.same_sizes refl (marks_painted (λ k. false) n (λ k h. refl)) (levels_0 p.grid.sizes blank all);
        same_rule = is.same_rule;
        same_sizes = is.same_sizes;
        sound = subst (Sound (near rule) (job.Painting p)) (sym new) all;
      }

  -- the same over the rule and the sizes that the job holds
  pub going_none : (answers : List Answer) (p : Painting R) (cells : List Cell) → IsPainting rule s p → cells ≡ painted_cells (λ k. false) (cell_count s)
      → Going extent marks near p.rule p.grid.sizes calls answers 0 (job.Painting p) cells
  going_none answers p cells is new =
      subst (λ r. Going extent marks near r p.grid.sizes calls answers 0 (job.Painting p) cells) (sym is.same_rule)
      (subst (λ x. Going extent marks near rule x calls answers 0 (job.Painting p) cells) (sym is.same_sizes) (begins answers p cells is new))

  pub going_more : (answers : List Answer) (i : ℕ) (j j' : Job R) (c : Call P) (a : Answer) (cells cells' : List Cell)
      → i < length calls → i < length answers → c ≡ get_or calls i c → Going extent marks near rule s calls answers i j cells
      → Called extent marks (near (rule_of j)) (step extent marks (shown j cells) c) j c j' a cells cells'
      → Going extent marks near rule s calls (set answers i a) (i + 1) j' cells'
  going_more answers i j j' c a cells cells' l m e h d =
      let so_far = take i calls in
      let more : take (i + 1) calls ≡ take i calls ++ c ∷ [] = take_more calls i c l ∙ ap (λ x. take i calls ++ x ∷ []) (sym e) in
      let more-answers : take (i + 1) (set answers i a) ≡ take i answers ++ a ∷ [] = take_more_set answers i a m in
      let told : Told marks (near rule) (step extent marks (shown j cells) c) (shown j cells) c a cells cells' =
      subst (λ r. Told marks (near r) (step extent marks (shown j cells) c) (shown j cells) c a cells cells') h.same_rule d.told in
      let by-book : Told marks (near rule) (step extent marks (book_after extent marks s (take i calls)) c) (book_after extent marks s (take i calls)) c a cells cells' =
      subst (λ b. Told marks (near rule) (step extent marks b c) b c a cells cells') h.as_booked told in
      let ran : Ran extent marks (near rule) s (take i calls ++ c ∷ []) (take i answers ++ a ∷ []) cells' = called h.ran c a cells' by-book in
      record {
        ran = subst (λ x. Ran extent marks (near rule) s x (take (i + 1) (set answers i a)) cells') (sym more)
            (subst (λ x. Ran extent marks (near rule) s (take i calls ++ c ∷ []) x cells') (sym more-answers) ran);
        as_booked = d.book ∙ ap (λ b. turned b (step extent marks b c)) h.as_booked ∙ sym (after_more extent marks (opened s) (take i calls) c)
            ∙ ap (book_after extent marks s) (sym more);
        same_rule = d.same_rule ∙ h.same_rule;
        same_sizes = d.same_sizes ∙ h.same_sizes;
        sound = subst (λ r. Sound (near r) j' cells') h.same_rule d.sound;
      }

  -- a run that has made all its calls
  ends : (before : List Cell) (answers : List Answer) (i : ℕ) (j : Job R) (cells : List Cell) → begin_door s before ≡ None
      → length answers ≡ length calls → length calls ≤ i → Going extent marks near rule s calls answers i j cells
      → Played extent marks (near rule) rule s calls j answers before cells
  ends before answers i j cells door long done h =
      let all = take_all i calls done in
      let all-answers = take_all i answers (omega arith) in
      let booked : shown j cells ≡ book_after extent marks s calls = h.as_booked ∙ ap (book_after extent marks s) all in
      let hold = sound_holds (near rule) j cells h.sound in
      let whole_run : Ran extent marks (near rule) s calls answers cells =
      subst (λ x. Ran extent marks (near rule) s calls x cells) all-answers (subst (λ x. Ran extent marks (near rule) s x (take i answers) cells) all h.ran) in
      record {
        begin_accepted = door;
        ran = whole_run;
        never_3_or_9 = own_answers extent marks (near rule) s calls answers cells whole_run;
        as_booked = booked;
        same_rule = h.same_rule;
        all_hold = subst (λ (b : Book). AllHold (near rule) s b.marked cells) booked (subst (λ x. AllHold (near rule) x (marks_in cells) cells) h.same_sizes hold);
        finished_field = λ at-end.
            let field = sound_finished (near rule) j cells (ap (λ (b : Book). b.stage) booked ∙ at-end) h.sound in
            let whole = subst (λ (b : Book). FinishedField (near rule) s b.marked cells) booked (subst (λ x. FinishedField (near rule) x (marks_in cells) cells) h.same_sizes field) in
            record { field = whole; least = λ k b. value_is_least (near rule) s (book_after extent marks s calls).marked k (cell_at cells k) (whole.all_hold.each k b) (whole.all_at_3 k b) };
      }

  -- the same over the rule and the sizes that the job held at its beginning
  pub played : (p : Painting R) → IsPainting rule s p → (before : List Cell) (answers : List Answer) (i : ℕ) (j : Job R) (cells : List Cell) → begin_door s before ≡ None
      → length answers ≡ length calls → length calls ≤ i → Going extent marks near p.rule p.grid.sizes calls answers i j cells
      → Played extent marks (near rule) rule s calls j answers before cells
  played p is before answers i j cells door long done h =
      ends before answers i j cells door long done
      (subst (λ x. Going extent marks near rule x calls answers i j cells) is.same_sizes
      (subst (λ r. Going extent marks near r p.grid.sizes calls answers i j cells) is.same_rule h))

-- two runs that have finished with the same marks agree
pub one_outcome : {R P Q : Type 0} (extent : P → Sizes) (marks : P → Place → Bool) (extent' : Q → Sizes) (marks' : Q → Place → Bool) (near : Near) (rule : R) (s : Sizes) (calls : List (Call P)) (calls' : List (Call Q))
    → (r r' : Result (Job R) (Unplayed R)) (slots answers slots' answers' : List Answer) (before cells before' cells' : List Cell)
    → Replays extent marks near rule s calls r slots answers before cells → Replays extent' marks' near rule s calls' r' slots' answers' before' cells'
    → OneOutcome r r' s (book_after extent marks s calls) (book_after extent' marks' s calls') cells cells'
one_outcome extent marks extent' marks' near rule s calls calls' (Ok j) (Ok i) slots answers slots' answers' before cells before' cells' one two = λ end end' same.
    fields_agree near s (book_after extent marks s calls).marked (book_after extent' marks' s calls').marked same cells cells' (one.1.finished_field end).field (two.1.finished_field end').field
one_outcome extent marks extent' marks' near rule s calls calls' (Ok j) (Err e) slots answers slots' answers' before cells before' cells' one two = tt
one_outcome extent marks extent' marks' near rule s calls calls' (Err e) (Ok i) slots answers slots' answers' before cells before' cells' one two = tt
one_outcome extent marks extent' marks' near rule s calls calls' (Err e) (Err f) slots answers slots' answers' before cells before' cells' one two = tt
