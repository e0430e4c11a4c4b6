-- What a signed field is, and what its calls leave in the cells and in the output.
use Rattle.std.specs.Prelude.{◌≡◌, ℕ, ◌^◌, ◌<◌, ◌≤◌, Bool, true, List, length, ℤ, pos, neg_ℤ, is_some, Some, None, Ok, Err, Result, slice_index_or}
use Rattle.grid.specs.declared.cell.Cell.{Cell}
use Rattle.grid.specs.declared.refusal.Refusal.{Refusal}
use Rattle.grid.specs.declared.sizes.Sizes.{Sizes}
use Rattle.grid.specs.Geometry.{Place, cell_count, place_of}
use Rattle.grid.specs.Distance.{Near}
use Rattle.grid.specs.Cells.{FinishedField, cell_at}
use Rattle.pictures.specs.Faces.{half_sizes}
use Rattle.signed.specs.Distances.{face_marks, doubled_number, NearestFace, with_sign, signed_distance}
use Rattle.signed.specs.Doors.{signed_door}

-- the number of the cell k
abbrev pub number_at : List ℤ → ℕ → ℤ
number_at output k = slice_index_or output k (pos 0)

-- each number is the value at the cell's doubled place, negated where the cell is marked
pub record ReadsField (s : Sizes) (marks : Place → Bool) (cells : List Cell) (output : List ℤ) : Type 0 where
  pub one_each : length output ≡ cell_count s
  pub each : (k : ℕ) → k < cell_count s → number_at output k ≡ with_sign (marks (place_of s k)) (cell_at cells (doubled_number s k)).value

-- the number of the cell k is its distance from a face place, negated where the cell is marked, and every other face
-- place is at least as far
pub record TellsFace (near : Near) (s : Sizes) (marks : Place → Bool) (k : ℕ) (number : ℤ) : Type 0 where
  pub value : ℕ
  pub signed : number ≡ with_sign (marks (place_of s k)) value
  pub nearest : NearestFace near s marks k value

-- the cells are the finished field of the half-grid, and the numbers are the signed distances
pub record SignedField (near : Near) (s : Sizes) (marks : Place → Bool) (cells : List Cell) (output : List ℤ) : Type 0 where
  -- every place of the half-grid holds a nearest face place, and there is one
  pub finished : FinishedField near (half_sizes s) (face_marks s marks) cells
  pub all_reached : (q : ℕ) → q < cell_count (half_sizes s) → is_some (cell_at cells q).point ≡ true
  pub read : ReadsField s marks cells output
  pub numbers : (k : ℕ) → k < cell_count s → number_at output k ≡ signed_distance near s marks k
  pub faces : (k : ℕ) → k < cell_count s → TellsFace near s marks k (number_at output k)

-- the call is refused by the door of the picture, and cells and output are as they were, or it is accepted and `New` holds
abbrev pub Fills : {T : Type 0} → Result T Refusal → Sizes → (Place → Bool) → List Cell → List Cell → List ℤ → List ℤ → Type 0 → Type 0
Fills (Ok _) s marks cells cells-after output output-after New = (signed_door s marks (length cells) (length output) ≡ None) × New
Fills (Err e) s marks cells cells-after output output-after New =
    (signed_door s marks (length cells) (length output) ≡ Some e) × (cells-after ≡ cells) × (output-after ≡ output)

-- the same cells as the picture's, and its numbers with the sign turned
pub record TurnedField (near : Near) (s : Sizes) (marks : Place → Bool) (cells : List Cell) (output : List ℤ) : Type 0 where
  pub finished : FinishedField near (half_sizes s) (face_marks s marks) cells
  pub one_each : length output ≡ cell_count s
  pub numbers : (k : ℕ) → k < cell_count s → number_at output k ≡ neg_ℤ (signed_distance near s marks k)

-- what the writing of the numbers needs: a finished field of the half-grid with values that can be negated, and room
pub record CanRead (s half : Sizes) (cells : List Cell) : Type 0 where
  pub sizes : half ≡ half_sizes s
  pub all_cells : length cells ≡ cell_count half
  pub small : (q : ℕ) → q < cell_count half → (cell_at cells q).value ≤ 2 ^ 62
