use Rattle.std.proofs.Common.{◌≡◌, ℕ, ◌<◌}
use Rattle.grid.specs.Geometry.{place_of}
use Rattle.grid.specs.Cells.{cell_at}
use Rattle.signed.specs.Distances.{doubled_number, with_sign}
use Rattle.signed.specs.Fields.{number_at}
use Rattle.signed.proofs.numbers.write_numbers.Given as goal

abbrev pub invariant-loop-number : goal.invariant-loop-number
invariant-loop-number g l =
    ((k : ℕ) → k < l.number-index → number_at l.output k ≡ with_sign (g.P.Picture.marks l.picture (place_of l.grid.sizes k)) (cell_at l.cells (doubled_number l.grid.sizes k)).value)
    × (l.place ≡ place_of l.grid.sizes l.number-index)
