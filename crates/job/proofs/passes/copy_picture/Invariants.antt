use Rattle.std.proofs.Common.{◌≡◌, ℕ, ◌<◌}
use Rattle.grid.specs.Cells.{cell_at, painted}
use Rattle.grid.specs.Geometry.{place_of}
use Rattle.pictures.specs.Numbered.{marks_by_number}
use Rattle.job.proofs.passes.copy_picture.Given as goal

abbrev pub invariant-loop-k : goal.invariant-loop-k
invariant-loop-k g l =
    ((k : ℕ) → k < l.k → cell_at l.cells k ≡ painted (marks_by_number l.grid.sizes (g.P.Picture.marks l.picture) k) k)
    × (l.place ≡ place_of l.grid.sizes l.k)
