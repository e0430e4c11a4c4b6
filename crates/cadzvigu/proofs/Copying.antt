-- What is copied out of a finished field.
use Rattle.std.proofs.Common.{◌≡◌, ℕ, ◌<◌, Bool, true, ◌&&◌, eqb, List, length, get_or, is_some, None, Decides, Option, sym, ap, ◌∙◌, subst, arith}
use Rattle.std.proofs.lemmas.Bool.{and_from, cond-true, eq-eqb}
use Rattle.std.proofs.lemmas.Bool.Decides.{same_from_decides}
use Rattle.grid.specs.declared.cell.Cell.{Cell}
use Rattle.grid.specs.declared.refusal.Refusal.TheVariants as refusal
use Rattle.grid.specs.declared.sizes.Sizes.{Sizes}
use Rattle.grid.specs.Geometry.{Place, IsGrid, cell_count, cell_number}
use Rattle.grid.specs.Distance.{Near}
use Rattle.grid.specs.Cells.{Answers, Nearest, FinishedField, cell_at}
use Rattle.grid.specs.Doors.{unless}
use Rattle.grid.proofs.Places.{number_inside, place_back}
use Rattle.pictures.specs.Kinds.{SomeMarked}
use Rattle.pictures.specs.Numbered.{marks_by_number}
use Rattle.job.specs.Doors.{some_place}
use Rattle.fields.proofs.Agreement.{mark_reaches_all}
use Rattle.replay.proofs.Sweep.{some_mark, mark_from}
use Rattle.cadzvigu.specs.Doors.{field_questions}
use Rattle.cadzvigu.specs.Nearests.{CopiesCells, HoldsNearest}

module _ (near : Near) (s : Sizes) (marks : Place → Bool) (cells : List Cell) (field : FinishedField near s (marks_by_number s marks) cells) where
  -- where a cell is marked, every cell has a point
  pub all_reached : SomeMarked s marks → (k : ℕ) → k < length cells → is_some (cell_at cells k).point ≡ true
  all_reached some k h =
      mark_reaches_all near s (marks_by_number s marks) cells field (cell_number s some.place) (number_inside s some.place some.in_grid)
      (ap marks (place_back s some.place some.in_grid) ∙ some.of_kind) k (omega (arith, field.all_hold.one_each))

  pub copied_field : (values points : List ℕ) → CopiesCells cells values points → HoldsNearest near s (marks_by_number s marks) values points
  copied_field values points copied =
      record {
        one_value_each = copied.one_value_each ∙ field.all_hold.one_each;
        one_point_each = copied.one_point_each ∙ field.all_hold.one_each;
        each = λ k h. nearest k h;
      }
    where
      nearest : (k : ℕ) → k < cell_count s → Nearest near s (marks_by_number s marks) 3 k (get_or points k 0) (get_or values k 0)
      nearest k h =
          let here : k < length cells = omega (arith, field.all_hold.one_each) in
          let m = marks_by_number s marks in
          let P : ℕ → Type 0 = λ d. Answers near s m d k (cell_at cells k).point (cell_at cells k).value in
          let Q : Option ℕ → Type 0 = λ o. Answers near s m 3 k o (cell_at cells k).value in
          let R : ℕ → Type 0 = λ v. Nearest near s m 3 k (get_or points k 0) v in
          subst R (sym (copied.value_of k here)) (subst Q (copied.point_of k here) (subst P (field.all_at_3 k h) (field.all_hold.each k h).nearest))

-- with one value and one point for each cell, only a mark is asked for
pub with_outputs : (s : Sizes) → IsGrid s → (marks : Place → Bool) (values points : ℕ) → values ≡ cell_count s → points ≡ cell_count s → (b : Bool)
    → Decides b (SomeMarked s marks) → field_questions s (marks_by_number s marks) values points ≡ unless b refusal.NoMark None
with_outputs s grid marks values points v p b d =
    cond-true (eqb values (cell_count s) && eqb points (cell_count s)) _ _
    (and_from (eqb values (cell_count s)) (eqb points (cell_count s)) (eq-eqb values (cell_count s) v) (eq-eqb points (cell_count s) p))
    ∙ ap (λ t. unless t refusal.NoMark None)
    (sym (same_from_decides b (some_place (cell_count s) (marks_by_number s marks)) d (mark_from s grid marks, some_mark s marks)))
