-- What the negative of a picture marks.
use Rattle.std.specs.Prelude.{◌≡◌, Bool, true, false, not, ◌&&◌, Decides}
use Rattle.grid.specs.declared.sizes.Sizes.{Sizes}
use Rattle.grid.specs.Geometry.{Place, inside}

-- the cells of the grid that are not marked
abbrev pub negative_marks : Sizes → (Place → Bool) → Place → Bool
negative_marks s marks at = inside s at && not (marks at)

-- the marks `rest` are those of exactly the cells of the grid that `marks` leaves out
abbrev pub MarksTheRest : Sizes → (Place → Bool) → (Place → Bool) → Type 0
MarksTheRest s marks rest = (at : Place) → Decides (rest at) ((inside s at ≡ true) × (marks at ≡ false))
