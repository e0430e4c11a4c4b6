-- From the finished field of the half-grid to the signed field.
use Rattle.std.proofs.Common.{◌≡◌, ℕ, ◌^◌, ◌<◌, ◌≤◌, Bool, true, List, ℤ, Some, None, Option, sym, ap, ◌∙◌, subst, arith}
use Rattle.grid.specs.declared.cell.Cell.{Cell}
use Rattle.grid.specs.declared.sizes.Sizes.{Sizes}
use Rattle.grid.specs.Geometry.{Place, IsGrid, cell_count, cell_number, place_of, inside}
use Rattle.grid.specs.Grids.{as_grid_is_grid}
use Rattle.grid.specs.Distance.{Near, distance}
use Rattle.grid.specs.Cells.{Answers, Holds, FinishedField, cell_at}
use Rattle.grid.proofs.Places.{below_from_inside, inside_from_below, place_inside, number_inside, place_back, number_back}
use Rattle.rules.specs.Laws.{Bounded, Ceilings}
use Rattle.pictures.specs.Faces.{AnswersHalfGrid, FacePlace, half_sizes, half_extent, half_marks, doubled}
use Rattle.pictures.specs.Kinds.{SomeMarked, BothKinds}
use Rattle.pictures.specs.Numbered.{marks_by_number}
use Rattle.pictures.proofs.Crossings.{both_kinds_have_a_face}
use Rattle.fields.proofs.Distances.{value_below_ceiling}
use Rattle.fields.proofs.Least.{whole_grid, value_is_least}
use Rattle.fields.proofs.Agreement.{mark_reaches_all}
use Rattle.signed.specs.Distances.{face_marks, doubled_number, NearestFace, with_sign}
use Rattle.signed.specs.Fields.{ReadsField, SignedField, CanRead}

-- a cell's doubled place belongs to the half-grid
pub doubled_inside : (s : Sizes) (p : Place) → inside s p ≡ true → inside (half_sizes s) (doubled p) ≡ true
doubled_inside s p h =
    let b = below_from_inside s p h in
    inside_from_below (half_sizes s) (doubled p) record { x = omega (arith, b.x); y = omega (arith, b.y); z = omega (arith, b.z) }

module _ (s : Sizes) (marks : Place → Bool) (answers : AnswersHalfGrid s marks) where
  pub half_is_grid : IsGrid (half_sizes s)
  half_is_grid = subst IsGrid answers.twice_less_one (as_grid_is_grid (half_sizes s))

  -- a half-grid of a picture with both kinds has a mark
  pub face_is_marked : BothKinds s marks → SomeMarked (half_extent s) (half_marks s marks)
  face_is_marked kinds =
      let some = both_kinds_have_a_face s marks kinds in
      record {
        place = some.0;
        in_grid = subst (λ h. inside h some.0 ≡ true) (sym answers.twice_less_one) some.1.in_half_grid;
        of_kind = (answers.marks_faces some.0).1 some.1;
      }

  -- a face place by its number, and back
  pub face_below : (p : Place) → FacePlace s marks p → cell_number (half_sizes s) p < cell_count (half_sizes s)
  face_below p f = number_inside (half_sizes s) p f.in_half_grid

  pub face_marked : (p : Place) → FacePlace s marks p → face_marks s marks (cell_number (half_sizes s) p) ≡ true
  face_marked p f = ap (half_marks s marks) (place_back (half_sizes s) p f.in_half_grid) ∙ (answers.marks_faces p).1 f

  pub marked_face : (q : ℕ) → face_marks s marks q ≡ true → FacePlace s marks (place_of (half_sizes s) q)
  marked_face q m = (answers.marks_faces (place_of (half_sizes s) q)).0 m

  module _ (near : Near) (some : BothKinds s marks) where
    face : (p : Place) × FacePlace s marks p
    face = both_kinds_have_a_face s marks some

    nearest_face : (k : ℕ) (o : Option ℕ) (v : ℕ) → Answers near (half_sizes s) (face_marks s marks) 3 (doubled_number s k) o v → NearestFace near s marks k v
    nearest_face k None v a =
        absurd (a.1 (cell_number (half_sizes s) face.0) (whole_grid (half_sizes s) (face_marks s marks) (doubled_number s k) _ (face_below face.0 face.1) (face_marked face.0 face.1)))
    nearest_face k (Some p) v a =
        record {
          face = place_of (half_sizes s) p;
          is_face = marked_face p a.point.is_marked;
          value = a.value ∙ ap (distance near (half_sizes s) 3 (doubled_number s k)) (sym (number_back (half_sizes s) p));
          none_nearer = λ other f. a.none_nearer (cell_number (half_sizes s) other)
              (whole_grid (half_sizes s) (face_marks s marks) (doubled_number s k) _ (face_below other f) (face_marked other f));
        }

    pub signed_field : IsGrid s → (cells : List Cell) (output : List ℤ) → FinishedField near (half_sizes s) (face_marks s marks) cells → ReadsField s marks cells output
        → SignedField near s marks cells output
    signed_field grid cells output finished read =
        record {
          finished = finished;
          all_reached = mark_reaches_all near (half_sizes s) (face_marks s marks) cells finished (cell_number (half_sizes s) face.0) (face_below face.0 face.1) (face_marked face.0 face.1);
          read = read;
          numbers = λ k h. read.each k h ∙ ap (with_sign (marks (place_of s k)))
              (value_is_least near (half_sizes s) (face_marks s marks) (doubled_number s k) (cell_at cells (doubled_number s k)) (holds k h) (top k h)).value;
          faces = λ k h. record {
            value = (cell_at cells (doubled_number s k)).value;
            signed = read.each k h;
            nearest = nearest_face k (cell_at cells (doubled_number s k)).point (cell_at cells (doubled_number s k)).value
                (subst (λ (l : ℕ). Answers near (half_sizes s) (face_marks s marks) l (doubled_number s k) (cell_at cells (doubled_number s k)).point (cell_at cells (doubled_number s k)).value) (top k h) (holds k h).nearest);
          };
        }
      where
        stands : (k : ℕ) → k < cell_count s → doubled_number s k < cell_count (half_sizes s)
        stands k h = number_inside (half_sizes s) (doubled (place_of s k)) (doubled_inside s (place_of s k) (place_inside s grid k h))

        holds : (k : ℕ) → k < cell_count s → Holds near (half_sizes s) (face_marks s marks) (doubled_number s k) (cell_at cells (doubled_number s k))
        holds k h = finished.all_hold.each (doubled_number s k) (stands k h)

        top : (k : ℕ) → k < cell_count s → (cell_at cells (doubled_number s k)).level ≡ 3
        top k h = finished.all_at_3 (doubled_number s k) (stands k h)

  -- the values of a finished field can be read and negated
  pub can_read : (ceiling : ℕ → ℕ) (near : Near) → Bounded ceiling near → Ceilings ceiling → (half : Sizes) → half ≡ half_sizes s → (cells : List Cell)
      → FinishedField near (half_sizes s) (face_marks s marks) cells → CanRead s half cells
  can_read ceiling near bounded ceilings half same cells finished =
      record {
        sizes = same;
        all_cells = finished.all_hold.one_each ∙ ap cell_count (sym same);
        small = λ q h. small q (subst (λ n. q < cell_count n) same h);
      }
    where
      small : (q : ℕ) → q < cell_count (half_sizes s) → (cell_at cells q).value ≤ 2 ^ 62
      small q h =
          let holds = finished.all_hold.each q h in
          omega (arith, value_below_ceiling ceiling near bounded (half_sizes s) half_is_grid (face_marks s marks) q h (cell_at cells q) holds, ceilings.1 (cell_at cells q).level holds.level_at_most_3)

-- The same facts told of the picture `below` that a half-grid holds, which is the picture p.
module _ {P : Type 0} (extent : P → Sizes) (marks : P → Place → Bool) (below p : P) (same : below ≡ p) (answers : AnswersHalfGrid (extent p) (marks p)) where
  pub held_sizes : half_extent (extent below) ≡ half_sizes (extent p)
  held_sizes = ap (λ q. half_extent (extent q)) same ∙ answers.twice_less_one

  pub held_mark : BothKinds (extent p) (marks p) → SomeMarked (half_extent (extent below)) (half_marks (extent below) (marks below))
  held_mark kinds = subst (λ q. SomeMarked (half_extent (extent q)) (half_marks (extent q) (marks q))) (sym same) (face_is_marked (extent p) (marks p) answers kinds)

  pub held_field : (near : Near) (cells : List Cell)
      → FinishedField near (half_extent (extent below)) (marks_by_number (half_extent (extent below)) (half_marks (extent below) (marks below))) cells
      → FinishedField near (half_sizes (extent p)) (face_marks (extent p) (marks p)) cells
  held_field near cells finished =
      subst (λ h. FinishedField near h (marks_by_number h (half_marks (extent p) (marks p))) cells) answers.twice_less_one
      (subst (λ q. FinishedField near (half_extent (extent q)) (marks_by_number (half_extent (extent q)) (half_marks (extent q) (marks q))) cells) same finished)
