-- A half-grid that is let in is one.
use Rattle.std.proofs.Common.{◌≡◌, ◌≤◌, Bool, true, leb, None, sym, ◌∙◌, subst, arith}
use Rattle.std.proofs.lemmas.Bool.{and_parts, leb-true, le-leb, cond-true}
use Rattle.std.proofs.lemmas.Bool.Decides.{Decides-like}
use Rattle.grid.specs.declared.sizes.Sizes.{Sizes}
use Rattle.grid.specs.Geometry.{Place, SizesFit, inside, cell_count}
use Rattle.grid.specs.Grids.{as_grid_keeps_grids}
use Rattle.pictures.specs.Doors.{fits_doubled, half_grid_door}
use Rattle.pictures.specs.Faces.{AnswersHalfGrid, half_sizes, half_marks}
use Rattle.pictures.proofs.Corners.{half_marks_faces}

pub half_sizes_fit : (s : Sizes) → SizesFit s → fits_doubled s ≡ true → SizesFit (half_sizes s)
half_sizes_fit s fit small =
    let a = and_parts (leb s.nx 512) _ small in
    let b = and_parts (leb s.ny 512) _ a.1 in
    let x = leb-true s.nx 512 a.0 in
    let y = leb-true s.ny 512 b.0 in
    let z = leb-true s.nz 512 b.1 in
    ((omega (arith, fit.0), omega (arith, fit.0)), (omega (arith, fit.1), omega (arith, fit.1)), (omega (arith, fit.2), omega (arith, fit.2)))

module _ (s : Sizes) (small : fits_doubled s ≡ true) (few : cell_count (half_sizes s) ≤ 16777216) where
  pub half_grid_door_open : half_grid_door s ≡ None
  half_grid_door_open = cond-true (fits_doubled s) _ _ small ∙ cond-true (leb (cell_count (half_sizes s)) 16777216) _ _ (le-leb (cell_count (half_sizes s)) 16777216 few)

  pub answers_half_grid : SizesFit s → (marks : Place → Bool) → AnswersHalfGrid s marks
  answers_half_grid fit marks =
      let same = as_grid_keeps_grids (half_sizes s) (half_sizes_fit s fit small, few) in
      record {
        twice_less_one = same;
        marks_faces = λ at. Decides-like (half_marks s marks at) (λ h. h.1) (λ f. (subst (λ n. inside n at ≡ true) (sym same) f.in_half_grid, f)) (half_marks_faces s marks fit at);
      }
