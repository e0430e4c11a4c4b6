-- All cells of a grid at once: their marks, their levels, and how they are painted.
use Rattle.std.specs.Prelude.{ℕ, List, map, Option}
use Rattle.std.specs.List.{range_with_len}
use Rattle.std.specs.Option.{option_map}
use Rattle.grid.specs.declared.cell.Cell.{Cell}
use Rattle.grid.specs.Cells.{Marks, cell_at, painted}

-- the marks and the levels that stand in the records
abbrev pub marks_in : List Cell → Marks
marks_in cells k = (cell_at cells k).marked

abbrev pub Levels : Type 0
Levels = ℕ → ℕ

abbrev pub levels_in : List Cell → Levels
levels_in cells k = (cell_at cells k).level

-- n cells with these marks, before any row is worked
abbrev pub painted_cells : Marks → ℕ → List Cell
painted_cells marks n = map (λ k. painted (marks k) k) (range_with_len 0 n)

-- what a record answers to a look: its point and its value, or none
abbrev pub held : Cell → Option (ℕ × ℕ)
held c = option_map (λ p. (p, c.value)) c.point
