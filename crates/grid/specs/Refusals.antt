-- The numbers of the refusals, and their words.
use Rattle.std.specs.Prelude.{ℕ, List, codes}
use Rattle.grid.specs.declared.refusal.Refusal.{Refusal}
use Rattle.grid.specs.declared.refusal.Refusal.TheVariants.{SizeRange, TooManyCells, CellCount, OutsideGrid, OtherSizes, NoMark, NoSuchRow, RowLevel, RowValue, RowsLeft, SpacingRange, ByteCount, HalfGridSize, OutputCount, OneKind}

abbrev pub refusal_number : Refusal → ℕ
refusal_number SizeRange = 1
refusal_number TooManyCells = 2
refusal_number CellCount = 3
refusal_number OutsideGrid = 4
refusal_number OtherSizes = 5
refusal_number NoMark = 6
refusal_number NoSuchRow = 7
refusal_number RowLevel = 8
refusal_number RowValue = 9
refusal_number RowsLeft = 10
refusal_number SpacingRange = 11
refusal_number ByteCount = 12
refusal_number HalfGridSize = 13
refusal_number OutputCount = 14
refusal_number OneKind = 15

-- what is wrong, in words
abbrev pub refusal_words : Refusal → List ℕ
refusal_words SizeRange = codes "a size is not from 1 to 1023"
refusal_words TooManyCells = codes "there are more than 16777216 cells"
refusal_words CellCount = codes "there is not one cell for each place of the grid"
refusal_words OutsideGrid = codes "the place is outside the grid"
refusal_words OtherSizes = codes "the picture has other sizes than the job"
refusal_words NoMark = codes "no cell is marked"
refusal_words NoSuchRow = codes "the axis has no row of that number"
refusal_words RowLevel = codes "a cell of the row does not stand at the level below the axis"
refusal_words RowValue = codes "a value in the row is above the ceiling of the rule"
refusal_words RowsLeft = codes "a cell does not stand at the level of the axis yet"
refusal_words SpacingRange = codes "a spacing is not from 1 to 10000"
refusal_words ByteCount = codes "there is not one byte for each cell"
refusal_words HalfGridSize = codes "a size of the picture is above 512"
refusal_words OutputCount = codes "the output has not one number for each cell"
refusal_words OneKind = codes "the picture has not both marked and unmarked cells"
