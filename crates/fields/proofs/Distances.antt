-- The distance at a level: on what it depends, and how far it goes.
use Rattle.std.proofs.Common.{◌≡◌, ℕ, zero, suc, ◌-◌, ◌<◌, ◌≤◌, Some, None, Option, refl, subst, arith}
use Rattle.grid.specs.declared.sizes.Sizes.{Sizes}
use Rattle.grid.specs.Geometry.{IsGrid, cell_count, place_on}
use Rattle.grid.specs.Distance.{Near, distance}
use Rattle.grid.specs.Cells.{Answers, cell_at}
use Rattle.grid.specs.RowGeometry.{OnAxis, row_cell}
use Rattle.grid.proofs.Places.{place_below}
use Rattle.grid.proofs.RowCells.{row_in_grid, axis_is_size}
use Rattle.rules.specs.Ranges.{Seen}
use Rattle.rules.specs.Laws.{Bounded}
use Rattle.fields.specs.Steps.{ValueBelowCeiling, RowValuesFit}

-- it depends on the lower places of the cell only
pub distance_same : (near : Near) (s : Sizes) (d a b p : ℕ) → ((e : ℕ) → 1 ≤ e → e ≤ d → place_on s e a ≡ place_on s e b)
    → distance near s d a p ≡ distance near s d b p
distance_same near s zero a b p same = refl
distance_same near s (suc d) a b p same =
    let here : place_on s (suc d) a ≡ place_on s (suc d) b = same (suc d) (omega arith) (omega arith) in
    let below : distance near s d a p ≡ distance near s d b p = distance_same near s d a b p (λ e h l. same e h (omega arith)) in
    cc

-- a cell's place is in the range of every rule
pub place_in_range : (s : Sizes) → IsGrid s → (d k : ℕ) → OnAxis d → k < cell_count s → place_on s d k < 1023
place_in_range s grid d k on h = omega (arith, place_below s grid d k on.0 on.1 h, (axis_is_size s grid d on).1)

-- the axis suc d may be asked about a point that carries what the axis d comes to
pub seen_from : (ceiling : ℕ → ℕ) (d i g t : ℕ) → OnAxis (suc d) → i < 1023 → t < 1023 → g ≤ ceiling d → Seen ceiling (suc d) i g t
seen_from ceiling d i g t on hi ht hg =
    let e : suc d - 1 ≡ d = omega arith in
    record { point = record { axis_low = on.0; axis_high = on.1; place = hi; carried = rw e hg }; asked_at = ht }

module _ (ceiling : ℕ → ℕ) (near : Near) (bounded : Bounded ceiling near) (s : Sizes) (grid : IsGrid s) where
  pub distance_bounded : (d k p : ℕ) → d ≤ 3 → k < cell_count s → p < cell_count s → distance near s d k p ≤ ceiling d
  distance_bounded zero k p l hk hp = omega arith
  distance_bounded (suc d) k p l hk hp =
      let on : OnAxis (suc d) = (omega arith, l) in
      bounded (suc d) (place_on s (suc d) p) (place_on s (suc d) k) (distance near s d k p)
      (seen_from ceiling d _ _ _ on (place_in_range s grid (suc d) p on hp) (place_in_range s grid (suc d) k on hk)
      (distance_bounded d k p (omega arith) hk hp))

pub value_below_ceiling : ValueBelowCeiling
value_below_ceiling ceiling near bounded s grid marks k hk c holds = go c.point c.value holds.nearest
  where
    go : (o : Option ℕ) (v : ℕ) → Answers near s marks c.level k o v → v ≤ ceiling c.level
    go None v a = omega (arith, a.0)
    go (Some p) v a = omega (arith, a.value, distance_bounded ceiling near bounded s grid c.level k p holds.level_at_most_3 hk a.point.in_grid)

pub row_values_fit : RowValuesFit
row_values_fit ceiling near bounded s marks d m row cells holds stands i hi =
    let hk : row_cell s d m i < cell_count s = row_in_grid s row.grid d m i row.axis row.number hi in
    subst (λ (l : ℕ). (cell_at cells (row_cell s d m i)).value ≤ ceiling l) (stands i hi)
    (value_below_ceiling ceiling near bounded s row.grid marks (row_cell s d m i) hk (cell_at cells (row_cell s d m i))
    (holds.each (row_cell s d m i) hk))
