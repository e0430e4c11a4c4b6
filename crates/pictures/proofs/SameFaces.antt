-- A picture and its negative have the same face places.
use Rattle.std.proofs.Common.{◌≡◌, Bool, not, sym, ap, ◌∙◌}
use mathlib.Core.Path.{fun_ext}
use Rattle.std.proofs.lemmas.Bool.Decides.{same_from_decides, Decides-like}
use Rattle.grid.specs.declared.sizes.Sizes.{Sizes}
use Rattle.grid.specs.Geometry.{Place}
use Rattle.pictures.specs.Faces.{FacePlace, half_marks}
use Rattle.pictures.specs.Negatives.{negative_marks}
use Rattle.pictures.specs.Theorems.{NegativeHasSameFaces}
use Rattle.pictures.proofs.Differing.{not_injective}
use Rattle.pictures.proofs.Turning.{turned}
use Rattle.pictures.proofs.Corners.{half_marks_faces}

-- other marks that also differ at the two cells of the face
other_marks : (s : Sizes) (marks others : Place → Bool) (p : Place) (f : FacePlace s marks p) → others f.here ≡ not (others f.next) → FacePlace s others p
other_marks s marks others p f one =
    record {
      axis = f.axis;
      here = f.here;
      next = f.next;
      here_in_grid = f.here_in_grid;
      next_in_grid = f.next_in_grid;
      neighbours = f.neighbours;
      one_marked = one;
      in_half_grid = f.in_half_grid;
      on_axis = f.on_axis;
      off_axis = f.off_axis;
    }

module _ (s : Sizes) (marks : Place → Bool) where
  to_negative : (p : Place) → FacePlace s marks p → FacePlace s (negative_marks s marks) p
  to_negative p f =
      other_marks s marks (negative_marks s marks) p f
      (turned s marks f.here f.here_in_grid ∙ ap not f.one_marked ∙ sym (ap not (turned s marks f.next f.next_in_grid)))

  from_negative : (p : Place) → FacePlace s (negative_marks s marks) p → FacePlace s marks p
  from_negative p f =
      other_marks s (negative_marks s marks) marks p f
      (not_injective (marks f.here) (not (marks f.next))
      (sym (turned s marks f.here f.here_in_grid) ∙ f.one_marked ∙ ap not (turned s marks f.next f.next_in_grid)))

pub negative_has_same_faces : NegativeHasSameFaces
negative_has_same_faces s grid marks =
    record {
      same_places = λ p. (from_negative s marks p, to_negative s marks p);
      same_answers = fun_ext (λ p.
          same_from_decides (half_marks s (negative_marks s marks) p) (half_marks s marks p)
          (Decides-like (half_marks s (negative_marks s marks) p) (λ h. (h.0, from_negative s marks p h.1)) (λ h. (h.0, to_negative s marks p h.1)) (half_marks_faces s (negative_marks s marks) grid.0 p))
          (half_marks_faces s marks grid.0 p));
    }
