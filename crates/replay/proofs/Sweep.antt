-- All rows of all axes: no call is refused, and the field is finished.
use Rattle.std.proofs.Common.{◌≡◌, ℕ, ◌+◌, ◌-◌, ◌<◌, Bool, true, false, eqb, ltb, leb, List, length, Some, None, Ok, Err, Option, Result, IsOk, IsErrAnd, MatchResult, sym, refl, ap, ◌∙◌, subst, ⊎_elim, arith}
use Rattle.std.proofs.lemmas.Bool.{cases_Bool, cond-true, cond-false, eq-eqb, le-leb, lt-ltb}
use Rattle.grid.specs.declared.cell.Cell.{Cell}
use Rattle.grid.specs.declared.refusal.Refusal.{Refusal}
use Rattle.grid.specs.declared.refusal.Refusal.TheVariants as refusal
use Rattle.grid.specs.declared.sizes.Sizes.{Sizes}
use Rattle.grid.specs.Geometry.{Place, IsGrid, axis_size, cell_count, inside, place_of, cell_number, sizes_fit}
use Rattle.grid.specs.Grids.{sizes_to_test}
use Rattle.grid.specs.Cells.{AllHold, AllAt, FinishedField}
use Rattle.grid.specs.Distance.{Near}
use Rattle.grid.specs.RowDoors.{all_places}
use Rattle.grid.specs.RowGeometry.{OnAxis, row_count, row_cell}
use Rattle.grid.specs.Rows.{GridRowDone, records}
use Rattle.grid.proofs.Places.{number_inside, place_back, place_inside}
use Rattle.grid.proofs.RowDoors.{all_places_from, stands_from}
use Rattle.rules.specs.Laws.{Order, Bounded}
use Rattle.pictures.specs.Kinds.{SomeMarked}
use Rattle.pictures.specs.Numbered.{marks_by_number}
use Rattle.fields.specs.Painting.{Painted, FieldAt}
use Rattle.fields.specs.Passes.{PassAt}
use Rattle.fields.proofs.Painting.{painted_holds}
use Rattle.fields.proofs.Passing.{pass_goes}
use Rattle.fields.proofs.StepUp.{step_up}
use Rattle.job.specs.declared.states.Finished.{Finished}
use Rattle.job.specs.declared.states.Kept.{Kept}
use Rattle.job.specs.declared.states.Painting.{Painting}
use Rattle.job.specs.declared.states.Working.{Working}
use Rattle.job.specs.Cells.{marks_in, levels_in, painted_cells}
use Rattle.job.specs.Doors.{begin_door, lent, start_door, raise_door, lent_row_door, some_place}
use Rattle.job.specs.Changes.{Changes}
use Rattle.job.specs.Moves.{Moves, Leaves, IsPainting, IsWorking, IsFinished}
use Rattle.job.proofs.RowWork.{lent_open}
use Rattle.job.proofs.Writing.{some_place_at}
use Rattle.replay.specs.Whole.{AxisDone, AllDone, field_door, FindsField}
use Rattle.replay.proofs.Painted.{marks_painted, painted_all, picture_past}
use Rattle.replay.proofs.Rowed.{marks_rowed, no_value_refused, which_place}

-- an open door refuses nothing
pub never_refused : (door : Option Refusal) (e : Refusal) → door ≡ None → door ≡ Some e → ⊥
never_refused door e none some = let z : ◌≡◌ {A = ℕ} 0 1 = cc in omega arith

-- what came through a change of the refusal alone came through
pub was_ok : {A E D : Type 0} (S : E → D → Type 0) (r : Result A E) (s : Result A D) (x : A) → MatchResult r (λ y. s ≡ Ok y) (λ e. IsErrAnd s (S e)) → s ≡ Ok x → r ≡ Ok x
was_ok {D = D} S (Ok y) s x told is =
    let both : ◌≡◌ {A = Result _ D} (Ok y) (Ok x) = sym told ∙ is in let same : y ≡ x = cc both in ap Ok same
was_ok S (Err e) s x told is = absurd (subst (λ q. IsErrAnd q (S e)) is told)

-- so a call through it is done
module _ {X S : Type 0} (r : Result X (Kept S)) (door : Option Refusal) (old : S) (P : X → Type 0) (moves : Moves r door old P) where
  pub moves_on : door ≡ None → IsOk r
  moves_on none = go r moves
    where
      go : (q : Result X (Kept S)) → Moves q door old P → IsOk q
      go (Ok x) h = refl
      go (Err kept) h = absurd (never_refused door kept.refusal none h.0)

  pub moved_open : (x : X) → r ≡ Ok x → (door ≡ None) × P x
  moved_open x is = subst (λ q. Moves q door old P) is moves

  pub moved_to : (x : X) → r ≡ Ok x → P x
  moved_to x is = (moved_open x is).1

pub left_as : {X Y : Type 0} (r : Result X Y) (before after new : List Cell) → Leaves r before after new → (x : X) → r ≡ Ok x → after ≡ new
left_as r before after new leaves x is = subst (λ q. Leaves q before after new) is leaves

module _ {X : Type 0} (r : Result X Refusal) (door : Option Refusal) (before after : List Cell) (New : Type 0) (changes : Changes r door before after New) where
  pub goes_through : door ≡ None → IsOk r
  goes_through none = go r changes
    where
      go : (q : Result X Refusal) → Changes q door before after New → IsOk q
      go (Ok x) h = refl
      go (Err e) h = absurd (never_refused door e none h.0)

  pub changed : (x : X) → r ≡ Ok x → New
  changed x is = (subst (λ q. Changes q door before after New) is changes).1

module _ {R : Type 0} (r : Result (Finished R) (Kept R)) (near : Near) (rule : R) (s : Sizes) (marks : ℕ → Bool) (before after : List Cell) (finds : FindsField r near rule s marks before after) where
  pub found_through : field_door s marks before ≡ None → IsOk r
  found_through none = go r finds
    where
      go : (q : Result (Finished R) (Kept R)) → FindsField q near rule s marks before after → IsOk q
      go (Ok f) h = refl
      go (Err kept) h = absurd (never_refused (field_door s marks before) kept.refusal none h.0)

  pub found_field : (f : Finished R) → r ≡ Ok f → FinishedField near s marks after
  found_field f is = (subst (λ q. FindsField q near rule s marks before after) is finds).2

pub begin_open : (s : Sizes) (cells : List Cell) → IsGrid s → length cells ≡ cell_count s → begin_door s cells ≡ None
begin_open s cells grid fits =
    cond-true (sizes_fit s) _ (Some refusal.SizeRange) (sizes_to_test s grid.0)
    ∙ cond-true (leb (cell_count s) 16777216) _ (Some refusal.TooManyCells) (le-leb (cell_count s) 16777216 grid.1)
    ∙ lent_open s cells None fits

pub raise_open : (s : Sizes) (d : ℕ) (cells : List Cell) → length cells ≡ cell_count s → AllAt s d cells → lent s cells (raise_door s d (levels_in cells)) ≡ None
raise_open s d cells fits at =
    lent_open s cells (raise_door s d (levels_in cells)) fits
    ∙ cond-true (all_places (cell_count s) (λ k. eqb (levels_in cells k) d)) None (Some refusal.RowsLeft)
    (all_places_from (λ k. eqb (levels_in cells k) d) (cell_count s) (λ k h. eq-eqb (levels_in cells k) d (at k h)))

-- the rows below m of the axis d have been worked
pub record Sweeping (near : Near) (s : Sizes) (d : ℕ) (before : List Cell) (m : ℕ) (cells : List Cell) : Type 0 where
  pub same_marks : marks_in cells ≡ marks_in before
  pub all_hold : AllHold near s (marks_in cells) cells
  pub pass : PassAt s d m cells

module _ (ceiling : ℕ → ℕ) (near : Near) (order : Order ceiling near) (bounded : Bounded ceiling near) (s : Sizes) (grid : IsGrid s) (d : ℕ) (on : OnAxis d) (before : List Cell) where
  pub sweep_none : FieldAt near s (marks_in before) (d - 1) before → Sweeping near s d before 0 before
  sweep_none field =
      record { same_marks = refl; all_hold = field.all_hold; pass = (pass_goes near s grid d on).starts before field.all_at }

  module _ (m : ℕ) (cells : List Cell) (below : m < row_count s d) (so_far : Sweeping near s d before m cells) where
    pub sweep_open : lent_row_door ceiling s d m cells ≡ None
    sweep_open =
        no_value_refused ceiling near bounded s grid d m on cells so_far.all_hold
        ∙ cond-true (ltb m (row_count s d)) _ (Some refusal.NoSuchRow) (lt-ltb m (row_count s d) below)
        ∙ cond-true (all_places (axis_size s d) (λ i. eqb (levels_in cells (row_cell s d m i)) (d - 1))) None (Some refusal.RowLevel)
        (stands_from (axis_size s d) (records cells (row_cell s d m)) (d - 1) 0 (so_far.pass.waiting m (omega arith) below))

    pub sweep_more : (after : List Cell) → GridRowDone near s d m cells after → Sweeping near s d before (m + 1) after
    sweep_more after done =
        let same = marks_rowed near s d m cells after done in
        let up = step_up ceiling near order bounded s (marks_in cells) d m (record { grid = grid; axis = on; number = below }) cells after so_far.all_hold
        (so_far.pass.waiting m (omega arith) below) done in
        record {
          same_marks = same ∙ so_far.same_marks;
          all_hold = subst (λ x. AllHold near s x after) (sym same) up.all_hold;
          pass = (pass_goes near s grid d on).goes_on m cells after below so_far.pass done;
        }

  pub sweep_all : (m : ℕ) (cells : List Cell) → m ≡ row_count s d → Sweeping near s d before m cells → AxisDone near s d before cells
  sweep_all m cells all swept =
      record {
        same_marks = swept.same_marks;
        field = record { all_hold = swept.all_hold; all_at = (pass_goes near s grid d on).ends cells (subst (λ n. PassAt s d n cells) all swept.pass) };
      }

-- a picture with a mark
pub some_mark : (s : Sizes) (marks : Place → Bool) → SomeMarked s marks → some_place (cell_count s) (marks_by_number s marks) ≡ true
some_mark s marks some =
    some_place_at (marks_by_number s marks) (cell_count s) (cell_number s some.place) (number_inside s some.place some.in_grid)
    (ap marks (place_back s some.place some.in_grid) ∙ some.of_kind)

pub mark_from : (s : Sizes) → IsGrid s → (marks : Place → Bool) → some_place (cell_count s) (marks_by_number s marks) ≡ true → SomeMarked s marks
mark_from s grid marks h =
    let found = which_place (marks_by_number s marks) (cell_count s) h in
    record { place = place_of s found.0; in_grid = place_inside s grid found.0 found.1; of_kind = found.2 }

-- the axes below that of the job have been worked
pub record Climbing {R : Type 0} (near : R → Near) (first : Working R) (before : List Cell) (w : Working R) (cells : List Cell) : Type 0 where
  pub same_rule : w.rule ≡ first.rule
  pub same_sizes : w.grid.sizes ≡ first.grid.sizes
  pub same_marks : marks_in cells ≡ marks_in before
  pub field : FieldAt (near w.rule) w.grid.sizes (marks_in cells) (w.axis.number - 1) cells

module _ {R : Type 0} (near : R → Near) (first : Working R) (before : List Cell) where
  pub climb_none : FieldAt (near first.rule) first.grid.sizes (marks_in before) (first.axis.number - 1) before → Climbing near first before first before
  climb_none field = record { same_rule = refl; same_sizes = refl; same_marks = refl; field = field }

  module _ (w : Working R) (cells after : List Cell) (so_far : Climbing near first before w cells) (done : AxisDone (near w.rule) w.grid.sizes w.axis.number cells after) where
    pub climb_more : (next : Working R) → IsWorking w.rule w.grid.sizes (w.axis.number + 1) next → Climbing near first before next after
    climb_more next is =
        let d : w.axis.number ≡ next.axis.number - 1 = omega (arith, is.on_axis) in
        record {
          same_rule = is.same_rule ∙ so_far.same_rule;
          same_sizes = is.same_sizes ∙ so_far.same_sizes;
          same_marks = done.same_marks ∙ so_far.same_marks;
          field = subst (λ r. FieldAt (near r) next.grid.sizes (marks_in after) (next.axis.number - 1) after) (sym is.same_rule)
              (subst (λ s. FieldAt (near w.rule) s (marks_in after) (next.axis.number - 1) after) (sym is.same_sizes)
              (subst (λ n. FieldAt (near w.rule) w.grid.sizes (marks_in after) n after) d done.field));
        }

    pub climb_all : (f : Finished R) → w.axis.number ≡ 3 → IsFinished w.rule w.grid.sizes f
        → AllDone (near first.rule) first.rule first.grid.sizes f before after
    climb_all f at_3 is =
        let at : FieldAt (near w.rule) w.grid.sizes (marks_in after) 3 after = subst (λ n. FieldAt (near w.rule) w.grid.sizes (marks_in after) n after) at_3 done.field in
        let whole : FinishedField (near w.rule) w.grid.sizes (marks_in after) after = record { all_hold = at.all_hold; all_at_3 = at.all_at } in
        record {
          same_marks = done.same_marks ∙ so_far.same_marks;
          field = subst (λ r. FinishedField (near r) first.grid.sizes (marks_in after) after) so_far.same_rule
              (subst (λ s. FinishedField (near w.rule) s (marks_in after) after) so_far.same_sizes whole);
          job = record { same_rule = is.same_rule ∙ so_far.same_rule; same_sizes = is.same_sizes ∙ so_far.same_sizes };
        }

-- the cells that a picture has been loaded into
module _ (s : Sizes) (grid : IsGrid s) (marks : Place → Bool) (outside : (at : Place) → inside s at ≡ false → marks at ≡ false)
    (cells : List Cell) (loaded : cells ≡ painted_cells (marks_by_number s marks) (cell_count s)) where
  loaded_marks : marks_in cells ≡ marks_by_number s marks
  loaded_marks = ap marks_in loaded ∙ marks_painted (marks_by_number s marks) (cell_count s) (picture_past s marks outside)

  loaded_painted : Painted s (marks_in cells) cells
  loaded_painted = subst (λ x. Painted s (marks_in x) x) (sym loaded) (painted_all (marks_by_number s marks) (cell_count s) s refl)

  pub loaded_long : (t : Sizes) → t ≡ s → length cells ≡ cell_count t
  loaded_long t same = loaded_painted.one_each ∙ ap cell_count (sym same)

  pub loaded_start : SomeMarked s marks → (t : Sizes) → t ≡ s → start_door t (marks_in cells) ≡ None
  loaded_start some t same =
      ap (λ x. start_door x (marks_in cells)) same ∙ ap (start_door s) loaded_marks
      ∙ cond-true (some_place (cell_count s) (marks_by_number s marks)) None (Some refusal.NoMark) (some_mark s marks some)

  pub loaded_field : {R : Type 0} (near : R → Near) (w : Working R) (rule : R) → IsWorking rule s 1 w
      → FieldAt (near w.rule) w.grid.sizes (marks_in cells) (w.axis.number - 1) cells
  loaded_field near w rule is =
      let none : 0 ≡ w.axis.number - 1 = omega (arith, is.on_axis) in
      subst (λ t. FieldAt (near w.rule) t (marks_in cells) (w.axis.number - 1) cells) (sym is.same_sizes)
      (subst (λ n. FieldAt (near w.rule) s (marks_in cells) n cells) none (painted_holds (near w.rule) s (marks_in cells) cells loaded_painted))

  pub loaded_done : {R : Type 0} (near : R → Near) (w : Working R) (rule : R) → IsWorking rule s 1 w → (f : Finished R) (after : List Cell)
      → AllDone (near w.rule) w.rule w.grid.sizes f cells after → IsFinished rule s f × FinishedField (near rule) s (marks_by_number s marks) after
  loaded_done near w rule is f after done =
      let same : marks_in after ≡ marks_by_number s marks = done.same_marks ∙ loaded_marks in (
        record { same_rule = done.job.same_rule ∙ is.same_rule; same_sizes = done.job.same_sizes ∙ is.same_sizes },
        subst (λ r. FinishedField (near r) s (marks_by_number s marks) after) is.same_rule
            (subst (λ t. FinishedField (near w.rule) t (marks_by_number s marks) after) is.same_sizes
            (subst (λ m. FinishedField (near w.rule) w.grid.sizes m after) same done.field)),
      )

-- the two questions of a whole field
module _ (s : Sizes) (marks : Place → Bool) (cells : List Cell) (fits : length cells ≡ cell_count s) where
  pub field_open : SomeMarked s marks → field_door s (marks_by_number s marks) cells ≡ None
  field_open some =
      lent_open s cells (start_door s (marks_by_number s marks)) fits
      ∙ cond-true (some_place (cell_count s) (marks_by_number s marks)) None (Some refusal.NoMark) (some_mark s marks some)

  pub field_unmarked : IsGrid s → (SomeMarked s marks → ⊥) → field_door s (marks_by_number s marks) cells ≡ Some refusal.NoMark
  field_unmarked grid none =
      lent_open s cells (start_door s (marks_by_number s marks)) fits
      ∙ cond-false (some_place (cell_count s) (marks_by_number s marks)) None (Some refusal.NoMark)
      (⊎_elim (λ t. absurd (none (mark_from s grid marks t))) (λ f. f) (cases_Bool (some_place (cell_count s) (marks_by_number s marks))))

-- a job that was painted and started, with its rule and its sizes
pub same_start : {R : Type 0} (rule : R) (s : Sizes) (p : Painting R) (w : Working R) → IsPainting rule s p → IsWorking p.rule p.grid.sizes 1 w → IsWorking rule s 1 w
same_start rule s p w painted started =
    record { same_rule = started.same_rule ∙ painted.same_rule; same_sizes = started.same_sizes ∙ painted.same_sizes; on_axis = started.on_axis }
