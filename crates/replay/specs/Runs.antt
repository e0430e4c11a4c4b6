-- A run: any list of calls on one job, with their answers and with what they do to the cells.
use Rattle.std.specs.Prelude.{◌≡◌, ℕ, ◌<◌, Bool, true, false, List, [], ◌∷◌, ◌++◌, length, Some, None, Ok, Err, Result, ◌≢◌, slice_set}
use Rattle.std.specs.List.{AllByRecursion}
use Rattle.grid.specs.declared.cell.Cell.{Cell}
use Rattle.grid.specs.declared.sizes.Sizes.{Sizes}
use Rattle.grid.specs.Geometry.{Place, cell_count, cell_number}
use Rattle.grid.specs.Cells.{Marks, AllHold, FinishedField, cell_at, painted}
use Rattle.grid.specs.Distance.{Near}
use Rattle.grid.specs.Rows.{GridRowDone}
use Rattle.pictures.specs.Numbered.{marks_by_number}
use Rattle.fields.specs.Agreement.{SameMarks, FieldsAgree}
use Rattle.fields.specs.Least.{Tells, least_distance}
use Rattle.job.specs.Cells.{held, marks_in, painted_cells}
use Rattle.job.specs.Doors.{begin_door}
use Rattle.replay.specs.declared.calls.Answer.{Answer}
use Rattle.replay.specs.declared.calls.Answer.TheVariants as answer
use Rattle.replay.specs.declared.calls.Call.{Call}
use Rattle.replay.specs.declared.calls.Call.TheVariants as call
use Rattle.replay.specs.declared.jobs.Job.{Job}
use Rattle.replay.specs.declared.jobs.Unplayed.{Unplayed}
use Rattle.replay.specs.declared.jobs.Unplayed.TheVariants as unplayed
use Rattle.replay.specs.Book.{Stage, painting, working, finished, Book, Outcome, absent, refused, accepted, step, turned, book_after, OfTheBook}
use Rattle.replay.specs.Jobs.{rule_of, sizes_of, shown, Sound}

-- the axis that is worked at a stage
abbrev pub axis_of : Stage → ℕ
axis_of painting = 0
axis_of (working d) = d
axis_of finished = 0

-- the record of the cell at a place is painted
abbrev pub CellPainted : Sizes → Place → Bool → List Cell → List Cell → Type 0
CellPainted s p mark before after = after ≡ slice_set before (cell_number s p) (painted mark (cell_number s p))

-- an answer that refuses does so with a refusal of the book
abbrev pub AnswerOfTheBook : Answer → Type 0
AnswerOfTheBook answer.Done = Unit {0}
AnswerOfTheBook (answer.Held h) = Unit {0}
AnswerOfTheBook (answer.Refused e) = OfTheBook e
AnswerOfTheBook answer.Absent = Unit {0}

module _ {P : Type 0} (marks : P → Place → Bool) (near : Near) where
  -- what an accepted call answers, and what the cells are after it
  abbrev pub Accepted : Book → Call P → Answer → List Cell → List Cell → Type 0
  Accepted b (call.Mark p) a before after = (a ≡ answer.Done) × CellPainted b.sizes p true before after
  Accepted b (call.Wipe p) a before after = (a ≡ answer.Done) × CellPainted b.sizes p false before after
  Accepted b (call.Load q) a before after = (a ≡ answer.Done) × (after ≡ painted_cells (marks_by_number b.sizes (marks q)) (cell_count b.sizes))
  Accepted b call.Start a before after = (a ≡ answer.Done) × (after ≡ before)
  Accepted b (call.Row m) a before after = (a ≡ answer.Done) × GridRowDone near b.sizes (axis_of b.stage) m before after
  Accepted b call.Raise a before after = (a ≡ answer.Done) × (after ≡ before)
  Accepted b (call.Look p) a before after = (a ≡ answer.Held (held (cell_at before (cell_number b.sizes p)))) × (after ≡ before)
  Accepted b call.Reopen a before after = (a ≡ answer.Done) × (after ≡ painted_cells (marks_in before) (length before))

  -- the answer is what the book says, and a call that is refused or absent leaves the cells
  abbrev pub Told : Outcome → Book → Call P → Answer → List Cell → List Cell → Type 0
  Told absent b c a before after = (a ≡ answer.Absent) × (after ≡ before)
  Told (refused e) b c a before after = (a ≡ answer.Refused e) × (after ≡ before)
  Told (accepted next) b c a before after = Accepted b c a before after

module _ {P : Type 0} (extent : P → Sizes) (marks : P → Place → Bool) (near : Near) where
  -- the calls were made one after the other on a job of the sizes s, with these answers, and left these cells
  pub data Ran (s : Sizes) : List (Call P) → List Answer → List Cell → Type 0 where
    begun : Ran s [] [] (painted_cells (λ k. false) (cell_count s))
    called : {calls : List (Call P)} {answers : List Answer} {before : List Cell} → Ran s calls answers before
        → (c : Call P) (a : Answer) (after : List Cell)
        → Told marks near (step extent marks (book_after extent marks s calls) c) (book_after extent marks s calls) c a before after
        → Ran s (calls ++ c ∷ []) (answers ++ a ∷ []) after

  -- one call, on a job and cells that show a book
  pub record Called {R : Type 0} (o : Outcome) (j : Job R) (c : Call P) (j' : Job R) (a : Answer) (before after : List Cell) : Type 0 where
    pub told : Told marks near o (shown j before) c a before after
    pub book : shown j' after ≡ turned (shown j before) o
    pub same_rule : rule_of j' ≡ rule_of j
    pub same_sizes : sizes_of j' ≡ sizes_of j
    pub sound : Sound near j' after

  -- at the end every value is the least distance to a marked cell of the whole grid
  pub record LeastField (s : Sizes) (at : Marks) (cells : List Cell) : Type 0 where
    pub field : FinishedField near s at cells
    pub least : (k : ℕ) → k < cell_count s → Tells (least_distance near s at k) (cell_at cells k)

  -- a whole list, from the beginning on: the answers, the job and the cells go as the book says, and every cell holds a
  -- nearest mark of its slab
  pub record Played {R : Type 0} (rule : R) (s : Sizes) (calls : List (Call P)) (j : Job R) (answers : List Answer) (before after : List Cell) : Type 0 where
    pub begin_accepted : begin_door s before ≡ None
    pub ran : Ran s calls answers after
    pub never_3_or_9 : AllByRecursion AnswerOfTheBook answers
    pub as_booked : shown j after ≡ book_after extent marks s calls
    pub same_rule : rule_of j ≡ rule
    pub all_hold : AllHold near s (book_after extent marks s calls).marked after
    pub finished_field : (book_after extent marks s calls).stage ≡ finished → LeastField s (book_after extent marks s calls).marked after

  -- what a replay hands back: the job after the list; or why there was none, and then nothing has changed
  abbrev pub Replays : {R : Type 0} → R → Sizes → List (Call P) → Result (Job R) (Unplayed R) → List Answer → List Answer → List Cell → List Cell → Type 0
  Replays rule s calls (Ok j) slots answers before after = (length slots ≡ length calls) × Played rule s calls j answers before after
  Replays rule s calls (Err (unplayed.AnswerCount r)) slots answers before after =
      (length slots ≢ length calls) × (r ≡ rule) × (answers ≡ slots) × (after ≡ before)
  Replays rule s calls (Err (unplayed.Begin kept)) slots answers before after =
      (length slots ≡ length calls) × (begin_door s before ≡ Some kept.refusal) × (kept.state ≡ rule) × (answers ≡ slots) × (after ≡ before)

-- two jobs of the sizes s and one rule, whatever lists led to them: where both have finished with the same marks, every
-- cell has the same value in both, and a point in both or in neither
abbrev pub OneOutcome : {R : Type 0} → Result (Job R) (Unplayed R) → Result (Job R) (Unplayed R) → Sizes → Book → Book → List Cell → List Cell → Type 0
OneOutcome (Ok j) (Ok i) s one two cells others =
    one.stage ≡ finished → two.stage ≡ finished → SameMarks s one.marked two.marked → FieldsAgree s cells others
OneOutcome (Ok j) (Err e) s one two cells others = Unit {0}
OneOutcome (Err e) (Ok i) s one two cells others = Unit {0}
OneOutcome (Err e) (Err f) s one two cells others = Unit {0}
