-- What a cell's number and its places have to do with one another.
use Rattle.std.specs.Prelude.{◌≡◌, ℕ, ◌<◌, true}
use Rattle.grid.specs.declared.sizes.Sizes.{Sizes}
use Rattle.grid.specs.Geometry.{Place, IsGrid, cell_count, inside, cell_number, place_of}

-- on a grid of these sizes numbers and places are inverse to one another
pub record Inverse (s : Sizes) : Type 0 where
  pub number_below : (p : Place) → inside s p ≡ true → cell_number s p < cell_count s
  pub place_back : (p : Place) → inside s p ≡ true → place_of s (cell_number s p) ≡ p
  pub place_inside : (k : ℕ) → k < cell_count s → inside s (place_of s k) ≡ true
  pub number_back : (k : ℕ) → k < cell_count s → cell_number s (place_of s k) ≡ k

abbrev pub PlacesInvert : Type 0
PlacesInvert = (s : Sizes) → IsGrid s → Inverse s
