-- How far a cell is from the faces between marked and unmarked cells, with a sign. All distances are those of the
-- half-grid, so a spacing of the rule is that of one half step.
use Rattle.std.specs.Prelude.{◌≡◌, ℕ, ◌≤◌, Bool, cond, ℤ, pos, neg_ℤ, Option}
use Rattle.std.specs.Option.{unwrap_or}
use Rattle.grid.specs.declared.sizes.Sizes.{Sizes}
use Rattle.grid.specs.Geometry.{Place, cell_number, place_of}
use Rattle.grid.specs.Distance.{Near, distance}
use Rattle.grid.specs.Cells.{Marks}
use Rattle.pictures.specs.Faces.{FacePlace, half_sizes, half_marks, doubled}
use Rattle.pictures.specs.Numbered.{marks_by_number}
use Rattle.fields.specs.Least.{least_distance}

-- the face places of a picture, by their numbers on the half-grid
abbrev pub face_marks : Sizes → (Place → Bool) → Marks
face_marks s marks = marks_by_number (half_sizes s) (half_marks s marks)

-- where the cell with a number stands on the half-grid: the number of its doubled place
abbrev pub doubled_number : Sizes → ℕ → ℕ
doubled_number s k = cell_number (half_sizes s) (doubled (place_of s k))

-- the distance at the cell k from a place of the half-grid
abbrev pub distance_from : Near → Sizes → ℕ → Place → ℕ
distance_from near s k place = distance near (half_sizes s) 3 (doubled_number s k) (cell_number (half_sizes s) place)

-- v is the distance at the cell k from a face place, and every other face place is at least as far
pub record NearestFace (near : Near) (s : Sizes) (marks : Place → Bool) (k v : ℕ) : Type 0 where
  pub face : Place
  pub is_face : FacePlace s marks face
  pub value : v ≡ distance_from near s k face
  pub none_nearer : (other : Place) → FacePlace s marks other → v ≤ distance_from near s k other

-- the distance at the cell k from the nearest face place, or none where there is no face
abbrev pub face_distance : Near → Sizes → (Place → Bool) → ℕ → Option ℕ
face_distance near s marks k = least_distance near (half_sizes s) (face_marks s marks) (doubled_number s k)

-- a distance, negated on a marked cell
abbrev pub with_sign : Bool → ℕ → ℤ
with_sign marked v = cond marked (neg_ℤ (pos v)) (pos v)

-- the signed distance of the cell k; 0 where there is no face
abbrev pub signed_distance : Near → Sizes → (Place → Bool) → ℕ → ℤ
signed_distance near s marks k = with_sign (marks (place_of s k)) (unwrap_or (face_distance near s marks k) 0)
