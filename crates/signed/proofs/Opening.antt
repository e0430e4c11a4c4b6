-- What the door of a signed field says where it is open, and at its last question.
use Rattle.std.proofs.Common.{◌≡◌, ℕ, Bool, eqb, None, sym, ap, ◌∙◌}
use Rattle.std.proofs.lemmas.Bool.{eqb-true, eq-eqb, cond-true}
use Rattle.grid.specs.declared.refusal.Refusal.TheVariants as refusal
use Rattle.grid.specs.declared.sizes.Sizes.{Sizes}
use Rattle.grid.specs.Geometry.{Place, cell_count}
use Rattle.grid.specs.Doors.{unless}
use Rattle.grid.proofs.Doors.{passed_yes, passed_rest}
use Rattle.pictures.specs.Faces.{half_sizes}
use Rattle.pictures.specs.Doors.{half_grid_door}
use Rattle.signed.specs.Doors.{both_kinds, and_then, room_door, signed_door}

module _ (s : Sizes) (marks : Place → Bool) (cells numbers : ℕ) where
  -- with room for both, only the kinds of cell are asked about
  pub with_room : cells ≡ cell_count (half_sizes s) → numbers ≡ cell_count s → (b : Bool) → b ≡ both_kinds s marks
      → room_door s marks cells numbers ≡ unless b refusal.OneKind None
  with_room c n b e =
      cond-true (eqb cells (cell_count (half_sizes s))) _ _ (eq-eqb cells (cell_count (half_sizes s)) c)
      ∙ cond-true (eqb numbers (cell_count s)) _ _ (eq-eqb numbers (cell_count s) n)
      ∙ ap (λ t. unless t refusal.OneKind None) (sym e)

  pub cells_counted : room_door s marks cells numbers ≡ None → cells ≡ cell_count (half_sizes s)
  cells_counted h = eqb-true cells (cell_count (half_sizes s)) (passed_yes (eqb cells (cell_count (half_sizes s))) _ _ h)

  pub numbers_counted : room_door s marks cells numbers ≡ None → numbers ≡ cell_count s
  numbers_counted h =
      eqb-true numbers (cell_count s) (passed_yes (eqb numbers (cell_count s)) _ _ (passed_rest (eqb cells (cell_count (half_sizes s))) _ _ h))

  pub signed_open : half_grid_door s ≡ None → room_door s marks cells numbers ≡ None → signed_door s marks cells numbers ≡ None
  signed_open half room = ap (λ d. and_then d (room_door s marks cells numbers)) half ∙ room
