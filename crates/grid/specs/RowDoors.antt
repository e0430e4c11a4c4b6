-- The questions that the working of a row asks of the row's records.
use Rattle.std.specs.Prelude.{ℕ, zero, suc, Bool, true, ◌&&◌, None, Option, nat_eq, nat_le}
use Rattle.grid.specs.declared.cell.Cell.{Cell}
use Rattle.grid.specs.declared.refusal.Refusal.{Refusal}
use Rattle.grid.specs.declared.refusal.Refusal.TheVariants.{RowLevel, RowValue}
use Rattle.grid.specs.Doors.{unless}

-- whether each of the first n places passes a test
abbrev pub all_places : ℕ → (ℕ → Bool) → Bool
all_places zero test = true
all_places (suc n) test = test n && all_places n test

-- whether every place of the row stands at the level l
abbrev pub row_stands : ℕ → (ℕ → Cell) → ℕ → Bool
row_stands n row l = all_places n (λ i. nat_eq (row i).level l)

-- whether every value in the row is at most `most`
abbrev pub row_below : ℕ → (ℕ → Cell) → ℕ → Bool
row_below n row most = all_places n (λ i. nat_le (row i).value most)

-- do all cells of the row stand at the level l, and is each value in it at most `most`?
abbrev pub row_cells_door : ℕ → (ℕ → Cell) → ℕ → ℕ → Option Refusal
row_cells_door n row l most = unless (row_stands n row l) RowLevel (unless (row_below n row most) RowValue None)
