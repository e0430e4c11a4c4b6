-- What turning a picture does to its signed field.
use Rattle.std.specs.Prelude.{◌≡◌, ℕ, ◌<◌, Bool, List, ℤ, neg_ℤ}
use Rattle.grid.specs.declared.cell.Cell.{Cell}
use Rattle.grid.specs.declared.sizes.Sizes.{Sizes}
use Rattle.grid.specs.Geometry.{Place, IsGrid, cell_count}
use Rattle.grid.specs.Distance.{Near}
use Rattle.pictures.specs.Negatives.{negative_marks}
use Rattle.signed.specs.Distances.{face_marks, signed_distance}
use Rattle.signed.specs.Doors.{signed_door}
use Rattle.signed.specs.Fields.{SignedField, number_at}

-- the half-grid of the negative marks the same places, its door is the picture's, each signed distance is the picture's
-- with the sign turned, and so is each number of a signed field
pub record TurnsSign (s : Sizes) (marks : Place → Bool) : Type 0 where
  pub same_face_marks : face_marks s (negative_marks s marks) ≡ face_marks s marks
  pub same_door : (cells numbers : ℕ) → signed_door s (negative_marks s marks) cells numbers ≡ signed_door s marks cells numbers
  pub turned_distance : (near : Near) (k : ℕ) → k < cell_count s → signed_distance near s (negative_marks s marks) k ≡ neg_ℤ (signed_distance near s marks k)
  pub turned_numbers : (near : Near) (cells others : List Cell) (output turned : List ℤ)
      → SignedField near s marks cells output → SignedField near s (negative_marks s marks) others turned
      → (k : ℕ) → k < cell_count s → number_at turned k ≡ neg_ℤ (number_at output k)

abbrev pub NegativeTurnsSign : Type 0
NegativeTurnsSign = (s : Sizes) → IsGrid s → (marks : Place → Bool) → TurnsSign s marks
