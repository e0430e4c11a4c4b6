-- What it means that a row has been worked, for any records whatever.
use Rattle.std.specs.Prelude.{◌≡◌, ℕ, ◌<◌, ◌≤◌, ◌≢◌, List, length, Some, None, Option}
use Rattle.grid.specs.declared.sizes.Sizes.{Sizes}
use Rattle.grid.specs.declared.row.Row.{Row}
use Rattle.grid.specs.declared.cell.Cell.{Cell}
use Rattle.grid.specs.Geometry.{axis_size}
use Rattle.grid.specs.RowGeometry.{row_cell, row_at}
use Rattle.grid.specs.Distance.{Near}
use Rattle.grid.specs.Cells.{cell_at}

-- what a rule means on one axis: the cost at the second place of a point at the first that carries the third number
abbrev pub NearOn : Type 0
NearOn = ℕ → ℕ → ℕ → ℕ

-- Below a row has n places, and `row i` is the record at its place i.

-- the place i offers its point p to every place of the row
pub record Offers (n : ℕ) (row : ℕ → Cell) (i p : ℕ) : Type 0 where
  pub in_row : i < n
  pub point : (row i).point ≡ Some p

-- what the offer of the place i costs at the place t
abbrev pub offer_cost : NearOn → (ℕ → Cell) → ℕ → ℕ → ℕ
offer_cost near row i t = near i t (row i).value

-- the order of offers: v is as good at the place t as any offer of the row, that is no more than any of them costs there
abbrev pub AsGoodAsAny : NearOn → ℕ → (ℕ → Cell) → ℕ → ℕ → Type 0
AsGoodAsAny near n row t v = (j q : ℕ) → Offers n row j q → v ≤ offer_cost near row j t

-- the point p at the cost v is an offer of the row as good as any at the place t; which of several equal offers is free
pub record BestOffer (near : NearOn) (n : ℕ) (row : ℕ → Cell) (t p v : ℕ) : Type 0 where
  pub from : ℕ
  pub offered : Offers n row from p
  pub cost : v ≡ offer_cost near row from t
  pub as_good : AsGoodAsAny near n row t v

-- the place t is to have this point and this value: the best offer of the row, or none and 0 where nothing is offered
abbrev pub Best : NearOn → ℕ → (ℕ → Cell) → ℕ → Option ℕ → ℕ → Type 0
Best near n row t None v = (v ≡ 0) × ((i p : ℕ) → Offers n row i p → ⊥)
Best near n row t (Some p) v = BestOffer near n row t p v

-- the records of a row: `at i` is the number of the cell at its place i
abbrev pub records : List Cell → (ℕ → ℕ) → ℕ → Cell
records cells at i = cell_at cells (at i)

-- the row with the n cells `at 0`, `at 1`, .. has been worked on the axis d: each of its places is at the level d with the best
-- offer that the row made before, every mark is as it was, and so is every other cell
pub record RowDone (near : Near) (d n : ℕ) (at : ℕ → ℕ) (before after : List Cell) : Type 0 where
  pub same_length : length after ≡ length before
  pub others : (k : ℕ) → ((i : ℕ) → i < n → k ≢ at i) → cell_at after k ≡ cell_at before k
  pub marks : (t : ℕ) → t < n → (records after at t).marked ≡ (records before at t).marked
  pub level : (t : ℕ) → t < n → (records after at t).level ≡ d
  pub best : (t : ℕ) → t < n → Best (near d) n (records before at) t (records after at t).point (records after at t).value

-- a row of a slice is worked, by its start, stride and count
abbrev pub SliceRowDone : Near → ℕ → Row → List Cell → List Cell → Type 0
SliceRowDone near d row = RowDone near d row.count (row_at row)

-- the row m of the axis d of a grid is worked
abbrev pub GridRowDone : Near → Sizes → ℕ → ℕ → List Cell → List Cell → Type 0
GridRowDone near s d m = RowDone near d (axis_size s d) (row_cell s d m)

-- every place of a row stands at the level l
abbrev pub RowAt : ℕ → (ℕ → Cell) → ℕ → Type 0
RowAt n row l = (i : ℕ) → i < n → (row i).level ≡ l

-- every value in a row is at most `most`
abbrev pub RowBelow : ℕ → (ℕ → Cell) → ℕ → Type 0
RowBelow n row most = (i : ℕ) → i < n → (row i).value ≤ most
