-- The text of a report: a line of names, and a line for each cell by its number.
use Rattle.std.specs.Prelude.{◌≡◌, ℕ, zero, suc, ◌*◌, ◌<◌, cond, List, [], ◌∷◌, ◌++◌, map, length, Some, None, codes, decimal, Option, ◌≢◌, nat_le}
use Rattle.grid.specs.declared.cell.Cell.{Cell}
use Rattle.grid.specs.declared.sizes.Sizes.{Sizes}
use Rattle.grid.specs.Geometry.{Place, place_of}
use Rattle.grid.specs.Cells.{cell_at}
use Rattle.grid.specs.declared.refusal.Refusal.TheVariants.{NoMark}
use Rattle.reporting.specs.declared.faults.ReportError.{ReportError}
use Rattle.reporting.specs.declared.faults.ReportError.TheVariants.{Fault, NoMemory}
use Rattle.reporting.specs.declared.faults.ReportFault.TheVariants.{Field}
use Rattle.rules.specs.declared.name.RuleName.{RuleName}
use Rattle.rules.specs.declared.name.RuleName.TheVariants.{Square, Block, Chess}
use Rattle.job_text.specs.Lines.{line_of}

-- the largest of the numbers up to n whose square is at most v
abbrev pub root_up_to : ℕ → ℕ → ℕ
root_up_to zero v = 0
root_up_to (suc n) v = cond (nat_le (suc n * suc n) v) (suc n) (root_up_to n v)

-- the largest whole number whose square is at most v
unfoldable pub whole_root : ℕ → ℕ
whole_root v = root_up_to v v

-- what stands under `dist`: a length, so of a square its whole root
abbrev pub shown_distance : RuleName → ℕ → ℕ
shown_distance Square v = whole_root v
shown_distance Block v = v
shown_distance Chess v = v

-- the line of a cell: its place, its point's place, the value and the distance
abbrev pub cell_line : RuleName → Place → Place → ℕ → List ℕ
cell_line rule at from v =
    line_of (map decimal (at.0 ∷ at.1 ∷ at.2 ∷ from.0 ∷ from.1 ∷ from.2 ∷ v ∷ shown_distance rule v ∷ []))

-- the line of the cell k, whose record has a point
abbrev pub record_line : RuleName → Sizes → ℕ → Option ℕ → ℕ → List ℕ
record_line rule s k None v = []
record_line rule s k (Some p) v = cell_line rule (place_of s k) (place_of s p) v

-- the lines of the cells below n
abbrev pub lines_below : RuleName → Sizes → List Cell → ℕ → List ℕ
lines_below rule s cells zero = []
lines_below rule s cells (suc n) = lines_below rule s cells n ++ record_line rule s n (cell_at cells n).point (cell_at cells n).value

-- the names of the columns
abbrev pub report_names : List ℕ
report_names = codes "x y z px py pz value dist\n"

-- the text is the report on the cells below n, which all have a point
pub record PrintsBelow (rule : RuleName) (s : Sizes) (cells : List Cell) (n : ℕ) (text : List ℕ) : Type 0 where
  pub all_pointed : (k : ℕ) → k < n → (cell_at cells k).point ≢ None
  pub text_is : text ≡ report_names ++ lines_below rule s cells n

-- the text is the report on a field in which every cell has a point
abbrev pub PrintsField : RuleName → Sizes → List Cell → List ℕ → Type 0
PrintsField rule s cells text = PrintsBelow rule s cells (length cells) text

-- some cell has no point: there is no mark to report a distance to
pub record NoPoint (cells : List Cell) : Type 0 where
  pub number : ℕ
  pub is_cell : number < length cells
  pub no_point : (cell_at cells number).point ≡ None

-- why there is no text of a field: a cell without a point, or want of memory
abbrev pub LacksPoint : List Cell → ReportError → Type 0
LacksPoint cells (Fault f) = (f ≡ Field NoMark) × NoPoint cells
LacksPoint cells NoMemory = Unit {0}
