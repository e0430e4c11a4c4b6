-- The file of a field: for each cell by its number its value, eight bytes; then for each cell its point, four bytes.
-- The lowest byte comes first.
use Rattle.std.specs.Prelude.{◌≡◌, ℕ, ◌+◌, ◌-◌, ◌*◌, ◌/◌, ◌%◌, ◌^◌, ◌<◌, ◌≤◌, cond, List, length, Some, None, Ok, Err, Option, Result, ◌≢◌, nat_lt, slice_index}
use Rattle.grid.specs.declared.cell.Cell.{Cell}
use Rattle.grid.specs.Cells.{cell_at}
use Rattle.volumes.specs.declared.bytes.ChunkFault.{ChunkFault}
use Rattle.volumes.specs.declared.bytes.ChunkFault.TheVariants.{Uneven, PastEnd}

-- byte j of a number, counted from the lowest
abbrev pub low_byte : ℕ → ℕ → ℕ
low_byte v j = v / 256 ^ j % 256

-- the number that stands for a point: all ones where there is none
abbrev pub point_number : Option ℕ → ℕ
point_number (Some p) = p
point_number None = 4294967295

-- byte p of the values, and byte p of the points
abbrev pub value_byte : List Cell → ℕ → ℕ
value_byte cells p = low_byte (cell_at cells (p / 8)).value (p % 8)

abbrev pub point_byte : List Cell → ℕ → ℕ
point_byte cells p = low_byte (point_number (cell_at cells (p / 4)).point) (p % 4)

-- byte p of the file: first all values, then all points
unfoldable pub file_byte : List Cell → ℕ → ℕ
file_byte cells p = cond (nat_lt p (8 * length cells)) (value_byte cells p) (point_byte cells (p - 8 * length cells))

-- a chunk with `width` bytes for each of some of n cells, from the cell `from` on: of each byte it is true what
-- `is_byte` says; or it does not hold a whole number of cells, or the cells end before it does, and then it is as it was
abbrev pub PutsBy : {X : Type 0} → Result X ChunkFault → ℕ → ℕ → ℕ → (ℕ → ℕ → Type 0) → List ℕ → List ℕ → Type 0
PutsBy (Ok x) width n from is_byte before after =
    (length before % width ≡ 0) × (from + length before / width ≤ n) × (length after ≡ length before) × ((i : ℕ) → i < length before → is_byte i (slice_index after i))
PutsBy (Err Uneven) width n from is_byte before after = (length before % width ≢ 0) × (after ≡ before)
PutsBy (Err PastEnd) width n from is_byte before after = (length before % width ≡ 0) × (n < from + length before / width) × (after ≡ before)

-- the same, where each byte is what `byte` says
abbrev pub Puts : {X : Type 0} → Result X ChunkFault → ℕ → ℕ → ℕ → (ℕ → ℕ) → List ℕ → List ℕ → Type 0
Puts r width n from byte before after = PutsBy r width n from (λ i b. b ≡ byte i) before after

-- byte i of such a chunk, which has the lowest bytes of a number of each cell: `gives` says which number
abbrev pub IsByteOf : (ℕ → ℕ → Type 0) → ℕ → ℕ → ℕ → ℕ → Type 0
IsByteOf gives width from i b = (v : ℕ) × gives (from + i / width) v × (b ≡ low_byte v (i % width))
