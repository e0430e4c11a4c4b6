-- Reading the number of a cell from the half-grid.
use Rattle.std.proofs.Common.{◌≡◌, ℕ, ◌<◌, Bool, true, List, ℤ, sym, ap, ◌∙◌, subst}
use Rattle.grid.specs.declared.cell.Cell.{Cell}
use Rattle.grid.specs.declared.sizes.Sizes.{Sizes}
use Rattle.grid.specs.Geometry.{Place, IsGrid, cell_count, cell_number, place_of, inside}
use Rattle.grid.specs.Cells.{cell_at}
use Rattle.grid.proofs.Places.{place_inside}
use Rattle.pictures.specs.Faces.{half_sizes, doubled}
use Rattle.signed.specs.Distances.{doubled_number, with_sign}

module _ (s extent : Sizes) (same : s ≡ extent) (place : Place) (k : ℕ) (here : place ≡ place_of s k) where
  pub placed_inside : IsGrid extent → k < cell_count s → inside extent place ≡ true
  placed_inside grid h =
      let lies : inside s (place_of s k) ≡ true = place_inside s (subst IsGrid (sym same) grid) k h in
      ap (inside extent) here ∙ subst (λ n. inside n (place_of s k) ≡ true) same lies

  pub number_read : (marks : Place → Bool) (cells : List Cell) (half : Sizes) → half ≡ half_sizes extent
      → (r : ℤ) → r ≡ with_sign (marks place) (cell_at cells (cell_number half (doubled place))).value
      → r ≡ with_sign (marks (place_of s k)) (cell_at cells (doubled_number s k)).value
  number_read marks cells half halved r e =
      e ∙ ap (λ p. with_sign (marks p) (cell_at cells (cell_number half (doubled p))).value) here
      ∙ ap (λ h. with_sign (marks (place_of s k)) (cell_at cells (cell_number h (doubled (place_of s k)))).value) (halved ∙ sym (ap half_sizes same))
