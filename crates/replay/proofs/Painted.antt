-- What the marks and levels of cells come to when cells are painted.
use Rattle.std.proofs.Common.{◌≡◌, ℕ, ◌<◌, ◌≤◌, Bool, false, eqb, List, length, set, sym, refl, ap, ◌∙◌, subst, ⊎_elim, arith}
use mathlib.Core.Path.{fun_ext}
use Rattle.std.proofs.lemmas.List.{get_or-set_same, get_or-set_other, get_or_past, length-set}
use Rattle.std.proofs.lemmas.List.FromFn.{get_or-map-range_with_len, length-map-range_with_len}
use Rattle.std.proofs.lemmas.Bool.{cases_lt, cases_eq, cases_Bool, cond-true, cond-false, eq-eqb, ne_eqb}
use Rattle.grid.specs.declared.cell.Cell.{Cell}
use Rattle.grid.specs.declared.sizes.Sizes.{Sizes}
use Rattle.grid.specs.Geometry.{Place, cell_count, inside, place_of}
use Rattle.grid.specs.Cells.{Marks, cell_at, no_cell, painted}
use Rattle.grid.proofs.Places.{number_inside, number_back}
use Rattle.pictures.specs.Numbered.{marks_by_number}
use Rattle.fields.specs.Painting.{Painted}
use Rattle.job.specs.Cells.{marks_in, levels_in, painted_cells}
use Rattle.replay.specs.Book.{marks_with}

-- past the last cell there is no mark
pub marks_past : (cells : List Cell) (k : ℕ) → length cells ≤ k → marks_in cells k ≡ false
marks_past cells k h = ap (λ (c : Cell). c.marked) (get_or_past cells k no_cell h)

levels_past : (cells : List Cell) (k : ℕ) → length cells ≤ k → levels_in cells k ≡ 0
levels_past cells k h = ap (λ (c : Cell). c.level) (get_or_past cells k no_cell h)

-- one cell is painted
module _ (cells : List Cell) (k : ℕ) (mark : Bool) (in_grid : k < length cells) where
  here : cell_at (set cells k (painted mark k)) k ≡ painted mark k
  here = get_or-set_same cells k (painted mark k) no_cell in_grid

  there : (j : ℕ) → (j ≡ k → ⊥) → cell_at (set cells k (painted mark k)) j ≡ cell_at cells j
  there j ne = get_or-set_other cells k j (painted mark k) no_cell ne

  pub marks_set : marks_in (set cells k (painted mark k)) ≡ marks_with (marks_in cells) k mark
  marks_set = fun_ext (λ j. ⊎_elim
      (λ e. subst (λ i. marks_in (set cells k (painted mark k)) i ≡ marks_with (marks_in cells) k mark i) (sym e)
      (ap (λ (c : Cell). c.marked) here ∙ sym (cond-true (eqb k k) mark (marks_in cells k) (eq-eqb k k refl))))
      (λ ne. ap (λ (c : Cell). c.marked) (there j ne) ∙ sym (cond-false (eqb j k) mark (marks_in cells j) (ne_eqb j k ne)))
      (cases_eq j k))

  pub levels_set : levels_in cells k ≡ 0 → levels_in (set cells k (painted mark k)) ≡ levels_in cells
  levels_set at-0 = fun_ext (λ j. ⊎_elim
      (λ e. subst (λ i. levels_in (set cells k (painted mark k)) i ≡ levels_in cells i) (sym e) (ap (λ (c : Cell). c.level) here ∙ sym at-0))
      (λ ne. ap (λ (c : Cell). c.level) (there j ne))
      (cases_eq j k))

  pub painted_set : (s : Sizes) → Painted s (marks_in cells) cells → Painted s (marks_in (set cells k (painted mark k))) (set cells k (painted mark k))
  painted_set s was =
      record {
        one_each = length-set cells k (painted mark k) ∙ was.one_each;
        each = λ j h. ⊎_elim
            (λ e. subst (λ i. cell_at (set cells k (painted mark k)) i ≡ painted (marks_in (set cells k (painted mark k)) i) i) (sym e)
            (here ∙ ap (λ (b : Bool). painted b k) (sym (ap (λ (c : Cell). c.marked) here))))
            (λ ne. there j ne ∙ was.each j h ∙ ap (λ (b : Bool). painted b j) (sym (ap (λ (c : Cell). c.marked) (there j ne))))
            (cases_eq j k);
      }

-- while cells are painted they stand at level 0
module _ (s : Sizes) (cells : List Cell) (was : Painted s (marks_in cells) cells) where
  pub level_0 : (k : ℕ) → k < cell_count s → levels_in cells k ≡ 0
  level_0 k h = ap (λ (c : Cell). c.level) (was.each k h)

  pub levels_0 : levels_in cells ≡ (λ k. 0)
  levels_0 = fun_ext (λ k. ⊎_elim (λ h. level_0 k h) (λ past. levels_past cells k (omega (arith, was.one_each))) (cases_lt k (cell_count s)))

-- all cells are painted
module _ (marks : Marks) (n : ℕ) where
  at : (k : ℕ) → k < n → cell_at (painted_cells marks n) k ≡ painted (marks k) k
  at k h = get_or-map-range_with_len (λ k. painted (marks k) k) 0 n k k no_cell h (omega arith)

  long : length (painted_cells marks n) ≡ n
  long = length-map-range_with_len (λ k. painted (marks k) k) 0 n

  pub marks_painted : ((k : ℕ) → n ≤ k → marks k ≡ false) → marks_in (painted_cells marks n) ≡ marks
  marks_painted none = fun_ext (λ k. ⊎_elim
      (λ h. ap (λ (c : Cell). c.marked) (at k h))
      (λ past. marks_past (painted_cells marks n) k (omega (arith, long)) ∙ sym (none k past))
      (cases_lt k n))

  pub painted_all : (s : Sizes) → n ≡ cell_count s → Painted s (marks_in (painted_cells marks n)) (painted_cells marks n)
  painted_all s e =
      record {
        one_each = long ∙ e;
        each = λ k h. let here = at k (omega arith) in here ∙ ap (λ (b : Bool). painted b k) (sym (ap (λ (c : Cell). c.marked) here));
      }

-- a picture that marks nothing outside its grid has no mark past the last cell
pub picture_past : (s : Sizes) (marks : Place → Bool) → ((p : Place) → inside s p ≡ false → marks p ≡ false)
    → (k : ℕ) → cell_count s ≤ k → marks_by_number s marks k ≡ false
picture_past s marks outside k past =
    outside (place_of s k)
    (⊎_elim (λ t. absurd (let low = number_inside s (place_of s k) t in let back = number_back s k in omega arith)) (λ f. f) (cases_Bool (inside s (place_of s k))))
