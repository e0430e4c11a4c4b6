-- What a stack of images marks.
use Rattle.std.specs.Prelude.{ℕ, ◌+◌, ◌-◌, ◌*◌, ◌/◌, ◌%◌, ◌^◌, Bool, ◌&&◌, List, [], length, ◌==◌, slice_index, slice_index_or}
use Rattle.grid.specs.declared.sizes.Sizes.{Sizes}
use Rattle.grid.specs.Geometry.{Place, inside}
use Rattle.pictures.specs.Laws.{Lawful, lawful_within}
use Rattle.pbm.specs.Form.{header, row_bytes, raster_bytes}
use Rattle.pbm.specs.declared.stack.Stack.{Stack}

-- whether the bit of the cell at place x of its row is set in its byte, the highest bit first
abbrev pub bit_is_set : ℕ → ℕ → Bool
bit_is_set byte x = byte / 2 ^ (7 - x % 8) % 2 == 1

-- the byte of a raster of the width w that has the cell x of row y
abbrev pub raster_place : ℕ → ℕ → ℕ → ℕ
raster_place w x y = y * row_bytes w + x / 8

-- the cells of the rasters, one a layer, whose bit is set; padding bits belong to no cell
abbrev pub raster_cells : Sizes → List (List ℕ) → Place → Bool
raster_cells s rasters at = inside s at && bit_is_set (slice_index (slice_index_or rasters at.2 []) (raster_place s.nx at.0 at.1)) at.0

-- the bytes of an image, from its start to the next
abbrev pub image_bytes : Sizes → ℕ
image_bytes s = length (header s.nx s.ny) + raster_bytes s.nx s.ny

-- the same cells, by the places of their bits among all bytes of the stack
abbrev pub stack_cells : Sizes → List ℕ → Place → Bool
stack_cells s bytes at = inside s at && bit_is_set (slice_index bytes (at.2 * image_bytes s + (length (header s.nx s.ny) + raster_place s.nx at.0 at.1))) at.0

-- what a stack of the type shows
abbrev pub stack_extent : Stack → Sizes
stack_extent s = s.grid.sizes

-- the byte that has the bit of a place of the grid
abbrev pub byte_at : Stack → Place → ℕ
byte_at s at = at.2 * s.stride + (s.skip + raster_place s.grid.sizes.nx at.0 at.1)

abbrev pub bit_at : Stack → Place → Bool
bit_at s at = bit_is_set (slice_index s.bytes.now (byte_at s at)) at.0

abbrev pub stack_marks : Stack → Place → Bool
stack_marks s at = inside (stack_extent s) at && bit_at s at

pub stack_lawful : Lawful stack_extent stack_marks
stack_lawful = lawful_within stack_extent bit_at (λ s. s.grid.is)
