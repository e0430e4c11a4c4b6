-- Which fault the bytes of a stack have, and where: the first question answered no.
use Rattle.std.specs.Prelude.{◌≡◌, ℕ, ◌+◌, ◌<◌, ◌⊎◌, List, ◌++◌, length, ◌≢◌}
use Rattle.grid.specs.declared.sizes.Sizes.{Sizes}
use Rattle.grid.specs.Geometry.{IsSize, IsGrid}
use Rattle.numerals.specs.Numerals.{numeral, space, line_feed, Reads, Unread}
use Rattle.numerals.specs.Prefixes.{Follows, NotPrefix}
use Rattle.pbm.specs.Form.{magic, header, raster_bytes, images_of, AllFull, IsStack}
use Rattle.pbm.specs.declared.faults.Cause.{Cause}
use Rattle.pbm.specs.declared.faults.Cause.TheVariants.{Magic, Number, Short, OtherSize, TooLarge}
use Rattle.pbm.specs.declared.faults.StackFault.{StackFault}

-- the text is a header of the width w and the height h, and the rest
pub record Opens (text : List ℕ) (w h : ℕ) (rest : List ℕ) : Type 0 where
  pub width : IsSize w
  pub height : IsSize h
  pub whole : text ≡ header w h ++ rest

-- the text is an image of the width w and the height h, and the rest
pub record Begins (text : List ℕ) (w h : ℕ) (rest : List ℕ) : Type 0 where
  pub raster : List ℕ
  pub full : length raster ≡ raster_bytes w h
  pub whole : text ≡ (header w h ++ raster) ++ rest

-- Next come the questions that an image is asked, in their order, each answered no. The text starts where the image
-- should, and `at` is the byte of the fault, counted from there.

-- do `P4` and a line feed stand there?
pub record NoMagic (text : List ℕ) (at : ℕ) : Type 0 where
  pub absent : NotPrefix magic text
  pub place : at ≡ 0

-- is the width a number from 1 to 1,023 without leading zero, with its space?
pub record NoWidth (text : List ℕ) (at : ℕ) : Type 0 where
  pub sizes : List ℕ
  pub starts : Follows magic sizes text
  pub unread : Unread sizes space 1023
  pub place : at ≡ 3

-- is the height such a number, with its line feed? The fault stands at the height's first byte.
pub record NoHeight (text : List ℕ) (at : ℕ) : Type 0 where
  pub sizes : List ℕ
  pub starts : Follows magic sizes text
  pub width : ℕ
  pub second : List ℕ
  pub reads : Reads sizes space 1023 width second
  pub unread : Unread second line_feed 1023
  pub place : at ≡ 3 + (length (numeral width) + 1)

-- is the size w by h?
pub record Resized (text : List ℕ) (w h at : ℕ) : Type 0 where
  pub width : ℕ
  pub height : ℕ
  pub rest : List ℕ
  pub opens : Opens text width height rest
  pub other : (width ≡ w) × (height ≡ h) → ⊥
  pub place : at ≡ 3

-- are all rows there? The fault stands where the text ends.
pub record CutShort (text : List ℕ) (w h at : ℕ) : Type 0 where
  pub rest : List ℕ
  pub opens : Opens text w h rest
  pub few : length rest < raster_bytes w h
  pub place : at ≡ length text

-- the header is faulty
abbrev pub FaultyHeader : List ℕ → Cause → ℕ → Type 0
FaultyHeader text Magic at = NoMagic text at
FaultyHeader text Number at = NoWidth text at ⊎ NoHeight text at
FaultyHeader text OtherSize at = ⊥
FaultyHeader text Short at = ⊥
FaultyHeader text TooLarge at = ⊥

-- the image, which should be w by h, is faulty
abbrev pub FaultyImage : List ℕ → ℕ → ℕ → Cause → ℕ → Type 0
FaultyImage text w h Magic at = NoMagic text at
FaultyImage text w h Number at = NoWidth text at ⊎ NoHeight text at
FaultyImage text w h OtherSize at = Resized text w h at
FaultyImage text w h Short at = CutShort text w h at
FaultyImage text w h TooLarge at = ⊥

-- The images before are sound and of one size, and the next one, of which at least a byte is there, is faulty.
-- Where no image comes before, there may be no byte either, and any size is right.
pub record FirstFaulty (bytes : List ℕ) (fault : StackFault) : Type 0 where
  pub width : ℕ
  pub height : ℕ
  pub before : List (List ℕ)
  pub rest : List ℕ
  pub at : ℕ
  pub full : AllFull width height before
  pub whole : bytes ≡ images_of width height before ++ rest
  pub sizes : 0 < length before → IsSize width × IsSize height
  pub left : 0 < length before → 0 < length rest
  pub sized : (0 < length before) ⊎ (fault.cause ≢ OtherSize)
  pub image : fault.image ≡ length before
  pub byte : fault.byte ≡ length (images_of width height before) + at
  pub faulty : FaultyImage rest width height fault.cause at

-- every image is sound, and they are too many or have too many cells
pub record OverLimits (bytes : List ℕ) (fault : StackFault) : Type 0 where
  pub sizes : Sizes
  pub stack : IsStack bytes sizes
  pub large : IsGrid sizes → ⊥
  pub cause : fault.cause ≡ TooLarge
  pub image : fault.image ≡ 0
  pub byte : fault.byte ≡ 0

-- the bytes have this fault
abbrev pub FaultyBytes : List ℕ → StackFault → Type 0
FaultyBytes bytes fault = FirstFaulty bytes fault ⊎ OverLimits bytes fault
