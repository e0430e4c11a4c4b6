-- On the grid the negative turns every mark.
use Rattle.std.proofs.Common.{◌≡◌, Bool, true, false, not, ◌&&◌, sym, ap, ◌∙◌}
use Rattle.grid.specs.declared.sizes.Sizes.{Sizes}
use Rattle.grid.specs.Geometry.{Place, inside}
use Rattle.pictures.specs.Negatives.{negative_marks}
use Rattle.pictures.specs.Kinds.{SomeCell}
use Rattle.pictures.specs.Theorems.{NegativeHasSameKinds}
use Rattle.pictures.proofs.Differing.{not_injective}

module _ (s : Sizes) (marks : Place → Bool) where
  pub turned : (p : Place) → inside s p ≡ true → negative_marks s marks p ≡ not (marks p)
  turned p h = ap (λ b. b && not (marks p)) h

  -- a cell of one kind is of the other kind in the negative
  pub turned_cell : (kind : Bool) → SomeCell s marks kind → SomeCell s (negative_marks s marks) (not kind)
  turned_cell kind some = record { place = some.place; in_grid = some.in_grid; of_kind = turned some.place some.in_grid ∙ ap not some.of_kind }

  pub turned_back : (kind : Bool) → SomeCell s (negative_marks s marks) (not kind) → SomeCell s marks kind
  turned_back kind some =
      record { place = some.place; in_grid = some.in_grid; of_kind = not_injective (marks some.place) kind (sym (turned some.place some.in_grid) ∙ some.of_kind) }

pub negative_has_same_kinds : NegativeHasSameKinds
negative_has_same_kinds s marks = (λ kinds. (turned_back s marks true kinds.1, turned_back s marks false kinds.0), λ kinds. (turned_cell s marks false kinds.1, turned_cell s marks true kinds.0))
