-- A worked row lifts its cells by one level, and every record stays right.
use Rattle.std.proofs.Common.{◌≡◌, ℕ, zero, suc, ◌-◌, ◌<◌, ◌≤◌, List, Some, None, Option, sym, refl, ap, ◌∙◌, subst, le_trans, arith}
use native.Mathlib.Decide.{ℕ_discrete}
use Rattle.grid.specs.declared.sizes.Sizes.{Sizes}
use Rattle.grid.specs.declared.cell.Cell.{Cell}
use Rattle.grid.specs.Geometry.{IsGrid, cell_count, axis_size, place_on}
use Rattle.grid.specs.Distance.{Near, distance}
use Rattle.grid.specs.Cells.{Marks, Marked, Nearest, Answers, Holds, AllHold, cell_at}
use Rattle.grid.specs.RowGeometry.{OnAxis, row_count, row_cell}
use Rattle.grid.specs.Rows.{Offers, Best, GridRowDone, records}
use Rattle.grid.proofs.Places.{place_below}
use Rattle.grid.proofs.RowCells.{row_in_grid, row_place, row_other, axis_is_size}
use Rattle.rules.specs.Ranges.{Seen}
use Rattle.rules.specs.Laws.{Order, Bounded}
use Rattle.fields.specs.Steps.{GridRowAt, StepUp}
use Rattle.fields.proofs.Distances.{distance_same, distance_bounded, place_in_range, seen_from}

-- the row m of the axis suc d, whose cells stand at the level d
module _ (near : Near) (s : Sizes) (grid : IsGrid s) (marks : Marks) (d m : ℕ) (on : OnAxis (suc d)) (hm : m < row_count s (suc d)) where
  -- its number of places, its cell at the place i, and the place of the cell q along it
  abbrev size : ℕ
  size = axis_size s (suc d)

  abbrev at : ℕ → ℕ
  at i = row_cell s (suc d) m i

  abbrev place : ℕ → ℕ
  place q = place_on s (suc d) q

  place_fits : (q : ℕ) → q < cell_count s → place q < size
  place_fits q hq = place_below s grid (suc d) q on.0 on.1 hq

  -- a cell of the larger slab is in the slab of the row's cell at its own place
  down : (t q : ℕ) → t < size → Marked s marks (suc d) (at t) q → Marked s marks d (at (place q)) q
  down t q ht mq = record { in_grid = mq.in_grid; is_marked = mq.is_marked; in_slab = λ e lo hi. go e lo hi (ℕ_discrete e (suc d)) }
    where
      go : (e : ℕ) → d < e → e ≤ 3 → Dec (e ≡ suc d) → place_on s e (at (place q)) ≡ place_on s e q
      go e lo hi (yes is) = rw is (row_place s grid (suc d) m (place q) on hm (place_fits q mq.in_grid))
      go e lo hi (no ne) =
          row_other s grid (suc d) m (place q) t e on hm (place_fits q mq.in_grid) ht (omega arith, hi) ne
          ∙ mq.in_slab e (omega arith) hi

  -- what is in the slab of one of the row's cells is in the larger slab of each of them
  up : (i t p : ℕ) → i < size → t < size → Marked s marks d (at i) p → Marked s marks (suc d) (at t) p
  up i t p hi ht mp =
      record {
        in_grid = mp.in_grid;
        is_marked = mp.is_marked;
        in_slab = λ e lo h. row_other s grid (suc d) m t i e on hm ht hi (omega arith, h) (omega arith) ∙ mp.in_slab e (omega arith) h;
      }

  -- the distance at the lower level is the same all along the row
  along : (i t p : ℕ) → i < size → t < size → distance near s d (at i) p ≡ distance near s d (at t) p
  along i t p hi ht =
      distance_same near s d (at i) (at t) p (λ e lo h. row_other s grid (suc d) m i t e on hm hi ht (lo, omega (arith, on.1)) (omega arith))

  -- one axis more
  one_up : (t q : ℕ) → t < size → distance near s (suc d) (at t) q ≡ near (suc d) (place q) t (distance near s d (at t) q)
  one_up t q ht = ap (λ (x : ℕ). near (suc d) (place q) x (distance near s d (at t) q)) (row_place s grid (suc d) m t on hm ht)

  module _ (ceiling : ℕ → ℕ) (order : Order ceiling near) (bounded : Bounded ceiling near) where
    -- the rule may be asked what a point carries along the row
    in_range : (t q : ℕ) → t < size → q < cell_count s → Seen ceiling (suc d) (place q) (distance near s d (at t) q) t
    in_range t q ht hq =
        seen_from ceiling d (place q) (distance near s d (at t) q) t on (place_in_range s grid (suc d) q on hq)
        (omega (arith, (axis_is_size s grid (suc d) on).1))
        (distance_bounded ceiling near bounded s grid d (at t) q (omega (arith, on.1)) (row_in_grid s grid (suc d) m t on hm ht) hq)

    module _ (row : ℕ → Cell) (right : (i : ℕ) → i < size → Answers near s marks d (at i) (row i).point (row i).value) where
      -- a marked cell of the larger slab is matched by the row's cell at its place: that offers a point, at no more than its distance
      matched : (t q : ℕ) → t < size → Marked s marks (suc d) (at t) q
          → (p : ℕ) × Offers size row (place q) p × (near (suc d) (place q) t (row (place q)).value ≤ distance near s (suc d) (at t) q)
      matched t q ht mq = go (row (place q)).point (row (place q)).value refl refl (right (place q) hj)
        where
          hj : place q < size
          hj = place_fits q mq.in_grid

          go : (o : Option ℕ) (v : ℕ) → (row (place q)).point ≡ o → (row (place q)).value ≡ v → Answers near s marks d (at (place q)) o v
              → (p : ℕ) × Offers size row (place q) p × (near (suc d) (place q) t (row (place q)).value ≤ distance near s (suc d) (at t) q)
          go None v eo ev a = absurd (a.1 q (down t q ht mq))
          go (Some p) v eo ev a =
              let same : distance near s d (at (place q)) q ≡ distance near s d (at t) q = along (place q) t q hj ht in
              let less : (row (place q)).value ≤ distance near s d (at t) q = rw (ev, ← same) (a.none_nearer q (down t q ht mq)) in (
                p,
                record { in_row = hj; point = eo },
                subst (λ (x : ℕ). near (suc d) (place q) t (row (place q)).value ≤ x) (sym (one_up t q ht))
                    (order (suc d) (place q) t (row (place q)).value (distance near s d (at t) q) (in_range t q ht mq.in_grid) less),
              )

      -- a worked place is right one level up
      lifted : (t : ℕ) → t < size → (o : Option ℕ) (v : ℕ) → Best (near (suc d)) size row t o v → Answers near s marks (suc d) (at t) o v
      lifted t ht None v none = (none.0, λ q mq. let offer = matched t q ht mq in none.1 (place q) offer.0 offer.1)
      lifted t ht (Some p) v best = go (row best.from).point (row best.from).value refl refl (right best.from hi)
        where
          hi : best.from < size
          hi = best.offered.in_row

          go : (o : Option ℕ) (w : ℕ) → (row best.from).point ≡ o → (row best.from).value ≡ w
              → Answers near s marks d (at best.from) o w → Nearest near s marks (suc d) (at t) p v
          go None w eo ew a = absurd (let z : ◌≡◌ {A = ℕ} 0 1 = cc best.offered.point in omega arith)
          go (Some p') w eo ew a =
              let e : p' ≡ p = cc best.offered.point in
              let below : Nearest near s marks d (at best.from) p w = rw e at a in
              let here : place p ≡ best.from =
              sym (below.point.in_slab (suc d) (omega arith) on.1) ∙ row_place s grid (suc d) m best.from on hm hi in
              let same : distance near s d (at best.from) p ≡ distance near s d (at t) p = along best.from t p hi ht in
              record {
                point = up best.from t p hi ht below.point;
                value = best.cost ∙ ap (λ (x : ℕ). near (suc d) best.from t x) (ew ∙ below.value ∙ same)
                    ∙ ap (λ (x : ℕ). near (suc d) x t (distance near s d (at t) p)) (sym here) ∙ sym (one_up t p ht);
                none_nearer = λ q mq.
                    let offer = matched t q ht mq in le_trans (best.as_good (place q) offer.0 offer.1) offer.2;
              }

    -- every record stays right
    stays_right : (before after : List Cell) → AllHold near s marks before → GridRowAt s (suc d) m d before → GridRowDone near s (suc d) m before after
        → AllHold near s marks after
    stays_right before after holds stands done =
        record { one_each = done.same_length ∙ holds.one_each; each = λ k hk. go k hk (ℕ_discrete (at (place k)) k) }
      where
        old : (i : ℕ) → i < size → Holds near s marks (at i) (cell_at before (at i))
        old i hi = holds.each (at i) (row_in_grid s grid (suc d) m i on hm hi)

        right : (i : ℕ) → i < size → Answers near s marks d (at i) (cell_at before (at i)).point (cell_at before (at i)).value
        right i hi =
            subst (λ (l : ℕ). Answers near s marks l (at i) (cell_at before (at i)).point (cell_at before (at i)).value) (stands i hi)
            (old i hi).nearest

        worked : (t : ℕ) → t < size → Holds near s marks (at t) (cell_at after (at t))
        worked t ht =
            record {
              mark = done.marks t ht ∙ (old t ht).mark;
              level_at_most_3 = omega (arith, done.level t ht, on.1);
              nearest = subst (λ (l : ℕ). Answers near s marks l (at t) (cell_at after (at t)).point (cell_at after (at t)).value)
                  (sym (done.level t ht)) (lifted (records before at) right t ht _ _ (done.best t ht));
            }

        go : (k : ℕ) → k < cell_count s → Dec (at (place k) ≡ k) → Holds near s marks k (cell_at after k)
        go k hk (yes e) = subst (λ (x : ℕ). Holds near s marks x (cell_at after x)) e (worked (place k) (place_fits k hk))
        go k hk (no ne) =
            subst (λ (c : Cell). Holds near s marks k c) (sym (done.others k (λ i hi is. ne (back i hi is)))) (holds.each k hk)
          where
            back : (i : ℕ) → i < size → k ≡ at i → at (place k) ≡ k
            back i hi is = ap at (ap place is ∙ row_place s grid (suc d) m i on hm hi) ∙ sym is

pub step_up : StepUp
step_up ceiling near order bounded s marks zero m row before after holds stands done = absurd (omega (arith, row.axis.0))
step_up ceiling near order bounded s marks (suc d) m row before after holds stands done =
    let level : suc d - 1 ≡ d = omega arith in
    record {
      all_hold = stays_right near s row.grid marks d m row.axis row.number ceiling order bounded before after holds
          (λ i hi. stands i hi ∙ level) done;
      row_at = done.level;
    }
