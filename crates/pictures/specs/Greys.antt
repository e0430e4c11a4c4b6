-- What a grey picture marks: the cells whose byte reaches the threshold.
use Rattle.std.specs.Prelude.{◌≡◌, ℕ, Bool, ◌&&◌, List, nat_le, slice_index}
use Rattle.grid.specs.declared.sizes.Sizes.{Sizes}
use Rattle.grid.specs.Geometry.{Place, inside, cell_number}
use Rattle.pictures.specs.Laws.{Lawful, lawful_within}
use Rattle.pictures.specs.declared.grey.Grey.{Grey}

-- the cells of the grid whose byte, one for each cell in the order of the cell numbers, is at least the threshold
abbrev pub grey_cells : Sizes → ℕ → List ℕ → Place → Bool
grey_cells s threshold bytes at = inside s at && nat_le threshold (slice_index bytes (cell_number s at))

-- what a picture of the type shows
abbrev pub grey_extent : Grey → Sizes
grey_extent g = g.grid.sizes

abbrev pub grey_marks : Grey → Place → Bool
grey_marks g = grey_cells g.grid.sizes g.threshold g.bytes.now

pub grey_lawful : Lawful grey_extent grey_marks
grey_lawful =
    lawful_within grey_extent (λ g at. nat_le g.threshold (slice_index g.bytes.now (cell_number g.grid.sizes at))) (λ g. g.grid.is)

-- the picture has exactly these sizes, and marks exactly the cells that these bytes and this threshold mark
pub record IsGrey (g : Grey) (s : Sizes) (threshold : ℕ) (bytes : List ℕ) : Type 0 where
  pub sizes_given : grey_extent g ≡ s
  pub cells_given : grey_marks g ≡ grey_cells s threshold bytes
