-- The questions that the makers of pictures ask, in their order.
use Rattle.std.specs.Prelude.{ℕ, Bool, ◌&&◌, None, Option, ◌==◌, nat_le}
use Rattle.grid.specs.declared.refusal.Refusal.{Refusal}
use Rattle.grid.specs.declared.refusal.Refusal.TheVariants as refusal
use Rattle.grid.specs.declared.sizes.Sizes.{Sizes}
use Rattle.grid.specs.Geometry.{sizes_fit, cell_count}
use Rattle.grid.specs.Doors.{unless}
use Rattle.pictures.specs.Faces.{half_sizes}

-- a grey picture over so many bytes: is each size from 1 to 1,023, are there at most 16,777,216 cells, and is there
-- one byte for each cell?
abbrev pub grey_door : Sizes → ℕ → Option Refusal
grey_door s bytes = unless (sizes_fit s) refusal.SizeRange (unless (nat_le (cell_count s) 16777216) refusal.TooManyCells (unless (bytes == cell_count s) refusal.ByteCount None))

-- each size is at most 512, so that a half-grid has at most 1,023 places on each axis
abbrev pub fits_doubled : Sizes → Bool
fits_doubled s = nat_le s.nx 512 && (nat_le s.ny 512 && nat_le s.nz 512)

-- the half-grid of a picture: is each size of the picture at most 512, and has the half-grid at most 16,777,216 places?
abbrev pub half_grid_door : Sizes → Option Refusal
half_grid_door s = unless (fits_doubled s) refusal.HalfGridSize (unless (nat_le (cell_count (half_sizes s)) 16777216) refusal.TooManyCells None)
