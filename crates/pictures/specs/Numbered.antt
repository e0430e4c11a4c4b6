-- A picture's marks by the numbers of the cells.
use Rattle.std.specs.Prelude.{Bool}
use Rattle.grid.specs.declared.sizes.Sizes.{Sizes}
use Rattle.grid.specs.Geometry.{Place, place_of}
use Rattle.grid.specs.Cells.{Marks}

-- whether the cell with a number is marked
abbrev pub marks_by_number : Sizes → (Place → Bool) → Marks
marks_by_number s marks k = marks (place_of s k)
