-- What holds of every picture and its half-grid.
use Rattle.std.specs.Prelude.{◌≡◌, Bool, true, ◌↔◌}
use Rattle.grid.specs.declared.sizes.Sizes.{Sizes}
use Rattle.grid.specs.Geometry.{Place, IsGrid, inside}
use Rattle.pictures.specs.Faces.{FacePlace, half_sizes, half_marks, doubled}
use Rattle.pictures.specs.Negatives.{negative_marks}
use Rattle.pictures.specs.Kinds.{BothKinds}

-- a picture and its negative have the same face places, so their half-grids answer alike
pub record SameFaces (s : Sizes) (marks : Place → Bool) : Type 0 where
  pub same_places : (place : Place) → FacePlace s (negative_marks s marks) place ↔ FacePlace s marks place
  pub same_answers : half_marks s (negative_marks s marks) ≡ half_marks s marks

abbrev pub NegativeHasSameFaces : Type 0
NegativeHasSameFaces = (s : Sizes) → IsGrid s → (marks : Place → Bool) → SameFaces s marks

-- and the negative has both kinds of cell exactly where the picture has
abbrev pub NegativeHasSameKinds : Type 0
NegativeHasSameKinds = (s : Sizes) (marks : Place → Bool) → BothKinds s (negative_marks s marks) ↔ BothKinds s marks

-- where there are marked cells and unmarked ones, some place of the half-grid is a face place
abbrev pub BothKindsHaveAFace : Type 0
BothKindsHaveAFace = (s : Sizes) (marks : Place → Bool) → BothKinds s marks → (place : Place) × FacePlace s marks place

-- a cell's doubled place belongs to the half-grid, and is never a face place itself
pub record OffTheFaces (s : Sizes) (marks : Place → Bool) (cell : Place) : Type 0 where
  pub in_half_grid : inside (half_sizes s) (doubled cell) ≡ true
  pub no_face : FacePlace s marks (doubled cell) → ⊥

abbrev pub CellsLieOffTheFaces : Type 0
CellsLieOffTheFaces = (s : Sizes) (marks : Place → Bool) (cell : Place) → inside s cell ≡ true → OffTheFaces s marks cell
