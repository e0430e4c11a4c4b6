-- The questions that a signed field asks, in their order.
use Rattle.std.specs.Prelude.{ℕ, Bool, ◌&&◌, Some, None, Option, ◌==◌, nat_le, nat_lt}
use Rattle.grid.specs.declared.refusal.Refusal.{Refusal}
use Rattle.grid.specs.declared.refusal.Refusal.TheVariants as refusal
use Rattle.grid.specs.declared.sizes.Sizes.{Sizes}
use Rattle.grid.specs.Geometry.{Place, cell_count}
use Rattle.grid.specs.Doors.{unless}
use Rattle.pictures.specs.Faces.{half_sizes}
use Rattle.pictures.specs.Doors.{half_grid_door}
use Rattle.pictures.specs.Kinds.{count_marks}

-- the questions of one door, and then those of another
abbrev pub and_then : Option Refusal → Option Refusal → Option Refusal
and_then (Some e) rest = Some e
and_then None rest = rest

-- whether some cell is marked, and not every cell
abbrev pub both_kinds : Sizes → (Place → Bool) → Bool
both_kinds s marks = nat_le 1 (count_marks s marks) && nat_lt (count_marks s marks) (cell_count s)

-- is there one cell for each place of the half-grid and one number for each cell of the picture, and has the picture
-- both kinds of cell?
abbrev pub room_door : Sizes → (Place → Bool) → ℕ → ℕ → Option Refusal
room_door s marks cells numbers =
    unless (cells == cell_count (half_sizes s)) refusal.CellCount
    (unless (numbers == cell_count s) refusal.OutputCount
    (unless (both_kinds s marks) refusal.OneKind None))

-- the signed field of a picture in so many cells and numbers: is there a half-grid, and then the questions above
abbrev pub signed_door : Sizes → (Place → Bool) → ℕ → ℕ → Option Refusal
signed_door s marks cells numbers = and_then (half_grid_door s) (room_door s marks cells numbers)
