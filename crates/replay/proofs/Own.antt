-- The book refuses nothing for the number of cells, and nothing for a value.
use Rattle.std.proofs.Common.{◌≡◌, ℕ, ◌-◌, Bool, true, false, eqb, ltb, List, Some, None, Option, sym, refl, subst, arith}
use Rattle.std.specs.List.{AllByRecursion}
use Rattle.std.proofs.ByRecursion.{All-push}
use Rattle.grid.specs.declared.cell.Cell.{Cell}
use Rattle.grid.specs.declared.refusal.Refusal.{Refusal}
use Rattle.grid.specs.declared.refusal.Refusal.TheVariants as refusal
use Rattle.grid.specs.declared.sizes.Sizes.{Sizes}
use Rattle.grid.specs.Geometry.{Place, axis_size}
use Rattle.grid.specs.RowDoors.{all_places}
use Rattle.grid.specs.RowGeometry.{row_cell, row_count}
use Rattle.job.specs.Doors.{row_door}
use Rattle.grid.specs.Distance.{Near}
use Rattle.grid.specs.Doors.{unless}
use Rattle.replay.specs.declared.calls.Answer.{Answer}
use Rattle.replay.specs.declared.calls.Call.{Call}
use Rattle.replay.specs.declared.calls.Call.TheVariants as call
use Rattle.replay.specs.Book.{Stage, painting, working, finished, Book, Outcome, absent, refused, accepted, behind, step, step_at, with_row, book_after, OfTheBook}
use Rattle.replay.specs.Runs.{Ran, begun, called, Told, Accepted, AnswerOfTheBook}

none_own : (e : Refusal) → None ≡ Some e → OfTheBook e
none_own e h = let z : ◌≡◌ {A = ℕ} 0 1 = cc in absurd (omega arith)

-- a question whose refusal is the book's, before others of the kind
asked_own : (yes : Bool) (x e : Refusal) (rest : Option Refusal) → OfTheBook x → (rest ≡ Some e → OfTheBook e) → unless yes x rest ≡ Some e → OfTheBook e
asked_own true x e rest own more h = more h
asked_own false x e rest own more h = let same : x ≡ e = cc in subst OfTheBook same own

behind_own : (door : Option Refusal) (b : Book) (e : Refusal) → (door ≡ Some e → OfTheBook e) → behind door b ≡ refused e → OfTheBook e
behind_own None b e own h = let z : ◌≡◌ {A = ℕ} 0 1 = cc in absurd (omega arith)
behind_own (Some x) b e own h = let same : Some x ≡ Some e = cc in own same

absent_own : (e : Refusal) → absent ≡ refused e → OfTheBook e
absent_own e h = let z : ◌≡◌ {A = ℕ} 0 1 = cc in absurd (omega arith)

accepted_own : (b : Book) (e : Refusal) → accepted b ≡ refused e → OfTheBook e
accepted_own b e h = let z : ◌≡◌ {A = ℕ} 0 1 = cc in absurd (omega arith)

outside_own : OfTheBook refusal.OutsideGrid
outside_own = record { not_for_the_count = omega arith; not_for_a_value = omega arith }

other_own : OfTheBook refusal.OtherSizes
other_own = record { not_for_the_count = omega arith; not_for_a_value = omega arith }

mark_own : OfTheBook refusal.NoMark
mark_own = record { not_for_the_count = omega arith; not_for_a_value = omega arith }

row_own : OfTheBook refusal.NoSuchRow
row_own = record { not_for_the_count = omega arith; not_for_a_value = omega arith }

level_own : OfTheBook refusal.RowLevel
level_own = record { not_for_the_count = omega arith; not_for_a_value = omega arith }

left_own : OfTheBook refusal.RowsLeft
left_own = record { not_for_the_count = omega arith; not_for_a_value = omega arith }

module _ {P : Type 0} (extent : P → Sizes) (marks : P → Place → Bool) where
  own_at : (st : Stage) (b : Book) (c : Call P) (e : Refusal) → step_at extent marks st b c ≡ refused e → OfTheBook e
  own_at painting b (call.Mark p) e h = behind_own _ _ e (asked_own _ _ e _ outside_own (none_own e)) h
  own_at painting b (call.Wipe p) e h = behind_own _ _ e (asked_own _ _ e _ outside_own (none_own e)) h
  own_at painting b (call.Load q) e h = behind_own _ _ e (asked_own _ _ e _ other_own (none_own e)) h
  own_at painting b call.Start e h = behind_own _ _ e (asked_own _ _ e _ mark_own (none_own e)) h
  own_at painting b (call.Row m) e h = absent_own e h
  own_at painting b call.Raise e h = absent_own e h
  own_at painting b (call.Look p) e h = absent_own e h
  own_at painting b call.Reopen e h = absent_own e h
  own_at (working d) b (call.Mark p) e h = absent_own e h
  own_at (working d) b (call.Wipe p) e h = absent_own e h
  own_at (working d) b (call.Load q) e h = absent_own e h
  own_at (working d) b call.Start e h = absent_own e h
  own_at (working d) b (call.Row m) e h =
      let stands = all_places (axis_size b.sizes d) (λ i. eqb (b.levels (row_cell b.sizes d m i)) (d - 1)) in
      behind_own (row_door b.sizes d m b.levels None) (with_row b d m) e
      (asked_own (ltb m (row_count b.sizes d)) refusal.NoSuchRow e (unless stands refusal.RowLevel None) row_own (asked_own stands refusal.RowLevel e None level_own (none_own e)))
      h
  own_at (working d) b call.Raise e h = behind_own _ _ e (asked_own _ _ e _ left_own (none_own e)) h
  own_at (working d) b (call.Look p) e h = absent_own e h
  own_at (working d) b call.Reopen e h = accepted_own _ e h
  own_at finished b (call.Mark p) e h = absent_own e h
  own_at finished b (call.Wipe p) e h = absent_own e h
  own_at finished b (call.Load q) e h = absent_own e h
  own_at finished b call.Start e h = absent_own e h
  own_at finished b (call.Row m) e h = absent_own e h
  own_at finished b call.Raise e h = absent_own e h
  own_at finished b (call.Look p) e h = behind_own _ _ e (asked_own _ _ e _ outside_own (none_own e)) h
  own_at finished b call.Reopen e h = accepted_own _ e h

  module _ (near : Near) where
    accepted_answer : (b : Book) (c : Call P) (a : Answer) (before after : List Cell) → Accepted marks near b c a before after → AnswerOfTheBook a
    accepted_answer b (call.Mark p) a before after h = subst AnswerOfTheBook (sym h.0) tt
    accepted_answer b (call.Wipe p) a before after h = subst AnswerOfTheBook (sym h.0) tt
    accepted_answer b (call.Load q) a before after h = subst AnswerOfTheBook (sym h.0) tt
    accepted_answer b call.Start a before after h = subst AnswerOfTheBook (sym h.0) tt
    accepted_answer b (call.Row m) a before after h = subst AnswerOfTheBook (sym h.0) tt
    accepted_answer b call.Raise a before after h = subst AnswerOfTheBook (sym h.0) tt
    accepted_answer b (call.Look p) a before after h = subst AnswerOfTheBook (sym h.0) tt
    accepted_answer b call.Reopen a before after h = subst AnswerOfTheBook (sym h.0) tt

    told_answer : (o : Outcome) → ((e : Refusal) → o ≡ refused e → OfTheBook e) → (b : Book) (c : Call P) (a : Answer) (before after : List Cell)
        → Told marks near o b c a before after → AnswerOfTheBook a
    told_answer absent own b c a before after h = subst AnswerOfTheBook (sym h.0) tt
    told_answer (refused e) own b c a before after h = subst AnswerOfTheBook (sym h.0) (own e refl)
    told_answer (accepted next) own b c a before after h = accepted_answer b c a before after h

    pub own_answers : (s : Sizes) (calls : List (Call P)) (answers : List Answer) (cells : List Cell) → Ran extent marks near s calls answers cells → AllByRecursion AnswerOfTheBook answers
    own_answers s calls answers cells begun = tt
    own_answers s calls answers cells (called {calls = l} {answers = told-before} {before = before} ran c a after told) =
        All-push AnswerOfTheBook told-before a (own_answers s l told-before before ran)
        (told_answer (step extent marks (book_after extent marks s l) c) (own_at (book_after extent marks s l).stage (book_after extent marks s l) c) (book_after extent marks s l) c a before after told)
