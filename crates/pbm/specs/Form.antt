-- The form of a stack of raw bit images: one image after the other, all of one width and height.
use Rattle.std.specs.Prelude.{◌≡◌, ℕ, ◌+◌, ◌*◌, ◌/◌, ◌≤◌, List, [], ◌∷◌, ◌++◌, length}
use Rattle.std.specs.List.{flat_map, AllByRecursion}
use Rattle.grid.specs.declared.sizes.Sizes.{Sizes}
use Rattle.grid.specs.Geometry.{IsSize}
use Rattle.numerals.specs.Numerals.{numeral, space, line_feed}

-- `P4` and a line feed
abbrev pub magic : List ℕ
magic = 80 ∷ 52 ∷ 10 ∷ []

-- the magic, the width, a space, the height, a line feed
abbrev pub header : ℕ → ℕ → List ℕ
header w h = magic ++ (numeral w ++ space ∷ (numeral h ++ line_feed ∷ []))

-- the bytes of a row of w cells: eight cells to a byte, the last byte filled up with padding
abbrev pub row_bytes : ℕ → ℕ
row_bytes w = (w + 7) / 8

-- the bytes of the rows of an image
abbrev pub raster_bytes : ℕ → ℕ → ℕ
raster_bytes w h = row_bytes w * h

-- images of one width and height, each given by its raster, one after the other
abbrev pub images_of : ℕ → ℕ → List (List ℕ) → List ℕ
images_of w h rasters = flat_map (λ raster. header w h ++ raster) rasters

abbrev pub AllFull : ℕ → ℕ → List (List ℕ) → Type 0
AllFull w h rasters = AllByRecursion (λ raster. length raster ≡ raster_bytes w h) rasters

-- the bytes are a stack of these sizes: one image or more, each a header and a full raster
pub record IsStack (bytes : List ℕ) (s : Sizes) : Type 0 where
  pub rasters : List (List ℕ)
  pub width : IsSize s.nx
  pub height : IsSize s.ny
  pub full : AllFull s.nx s.ny rasters
  pub count : length rasters ≡ s.nz
  pub some : 1 ≤ s.nz
  pub whole : bytes ≡ images_of s.nx s.ny rasters

-- n images of the width w and the height h
abbrev pub sizes_of : ℕ → ℕ → ℕ → Sizes
sizes_of w h n = record { nx = w; ny = h; nz = n }
