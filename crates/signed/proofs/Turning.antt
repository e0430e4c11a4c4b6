-- The negative of a picture turns the sign of every number.
use Rattle.std.proofs.Common.{◌≡◌, ℕ, ◌<◌, Bool, eqb, List, length, ℤ, neg_ℤ, None, Ok, Err, Result, unwrap_or, sym, ap, ◌∙◌, subst}
use Rattle.grid.specs.declared.cell.Cell.{Cell}
use Rattle.grid.specs.declared.refusal.Refusal.{Refusal}
use Rattle.grid.specs.declared.refusal.Refusal.TheVariants as refusal
use Rattle.grid.specs.declared.sizes.Sizes.{Sizes}
use Rattle.grid.specs.Geometry.{Place, IsGrid, cell_count, place_of}
use Rattle.grid.specs.Distance.{Near}
use Rattle.grid.specs.Cells.{FinishedField, Marks}
use Rattle.grid.specs.Doors.{unless}
use Rattle.grid.proofs.Places.{place_inside}
use Rattle.pictures.specs.Doors.{half_grid_door}
use Rattle.pictures.specs.Faces.{half_sizes}
use Rattle.pictures.specs.Negatives.{negative_marks}
use Rattle.pictures.specs.Numbered.{marks_by_number}
use Rattle.pictures.proofs.SameFaces.{negative_has_same_faces}
use Rattle.pictures.proofs.Turning.{turned}
use Rattle.fields.specs.Least.{least_distance}
use Rattle.signed.specs.Distances.{face_marks, doubled_number, with_sign, signed_distance}
use Rattle.signed.specs.Doors.{and_then, signed_door}
use Rattle.signed.specs.Fields.{SignedField, TurnedField, Fills}
use Rattle.signed.specs.Theorems.{NegativeTurnsSign}
use Rattle.signed.proofs.TwoKinds.{negative_both_kinds}
use Rattle.signed.proofs.Signs.{sign_turns}

module _ (s : Sizes) (grid : IsGrid s) (marks : Place → Bool) where
  -- the half-grid of the negative marks the same places
  pub negative_marks_same_faces : face_marks s (negative_marks s marks) ≡ face_marks s marks
  negative_marks_same_faces = ap (marks_by_number (half_sizes s)) (negative_has_same_faces s grid marks).same_answers

  same_door : (cells numbers : ℕ) → signed_door s (negative_marks s marks) cells numbers ≡ signed_door s marks cells numbers
  same_door cells numbers =
      ap (λ b. and_then (half_grid_door s)
      (unless (eqb cells (cell_count (half_sizes s))) refusal.CellCount (unless (eqb numbers (cell_count s)) refusal.OutputCount (unless b refusal.OneKind None))))
      (negative_both_kinds s grid marks)

  turned_distance : (near : Near) (k : ℕ) → k < cell_count s → signed_distance near s (negative_marks s marks) k ≡ neg_ℤ (signed_distance near s marks k)
  turned_distance near k h =
      let v : Marks → ℕ = λ faces. unwrap_or (least_distance near (half_sizes s) faces (doubled_number s k)) 0 in
      ap (λ faces. with_sign (negative_marks s marks (place_of s k)) (v faces)) negative_marks_same_faces
      ∙ ap (λ b. with_sign b (v (face_marks s marks))) (turned s marks (place_of s k) (place_inside s grid k h))
      ∙ sign_turns (marks (place_of s k)) (v (face_marks s marks))

pub negative_turns_sign : NegativeTurnsSign
negative_turns_sign s grid marks =
    record {
      same_face_marks = negative_marks_same_faces s grid marks;
      same_door = same_door s grid marks;
      turned_distance = turned_distance s grid marks;
      turned_numbers = λ near cells others output turned one two k h. two.numbers k h ∙ turned_distance s grid marks near k h ∙ ap neg_ℤ (sym (one.numbers k h));
    }

-- what a call leaves for the negative, told of the picture
module _ (near : Near) (s : Sizes) (grid : IsGrid s) (marks : Place → Bool) where
  turned_field : (cells : List Cell) (output : List ℤ) → SignedField near s (negative_marks s marks) cells output → TurnedField near s marks cells output
  turned_field cells output f =
      record {
        finished = subst (λ faces. FinishedField near (half_sizes s) faces cells) (negative_marks_same_faces s grid marks) f.finished;
        one_each = f.read.one_each;
        numbers = λ k h. f.numbers k h ∙ turned_distance s grid marks near k h;
      }

  pub turned_fill : {T : Type 0} (r : Result T Refusal) (cells cells-after : List Cell) (output output-after : List ℤ)
      → Fills r s (negative_marks s marks) cells cells-after output output-after (SignedField near s (negative_marks s marks) cells-after output-after)
      → Fills r s marks cells cells-after output output-after (TurnedField near s marks cells-after output-after)
  turned_fill (Ok _) cells cells-after output output-after f =
      (sym (same_door s grid marks (length cells) (length output)) ∙ f.0, turned_field cells-after output-after f.1)
  turned_fill (Err e) cells cells-after output output-after f =
      (sym (same_door s grid marks (length cells) (length output)) ∙ f.0, f.1, f.2)
