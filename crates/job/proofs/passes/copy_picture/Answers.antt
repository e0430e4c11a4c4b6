use Rattle.std.proofs.Common.{ap, ◌∙◌, arith}
use Rattle.grid.specs.Cells.{painted}
use Rattle.grid.proofs.Places.{next_placed}
use Rattle.pictures.specs.Numbered.{marks_by_number}
use Rattle.job.proofs.Writing.{written_more, written_all}
use Rattle.job.proofs.passes.copy_picture.Goals as goal

pub loop-k-preserved : goal.loop-k-preserved
loop-k-preserved g c =
    let marks = g.P.Picture.marks c.args.picture.now in
    let sizes = c.args.grid.sizes in (
      written_more (λ k. painted (marks_by_number sizes marks k) k) c.loop-k.cells c.loop-k.k c.loop-k.invariant.0 c.painted.result (omega arith)
          (c.painted.ensures ∙ ap (λ b. painted b c.loop-k.k) (c.marked.ensures ∙ ap marks c.loop-k.invariant.1)),
      next_placed sizes c.args.grid.is c.loop-k.k c.loop-k.place c.loop-k.invariant.1 _ c.next-place.ensures,
    )

pub returns : goal.returns
returns g c =
    let marks = g.P.Picture.marks c.args.picture.now in
    written_all (λ k. painted (marks_by_number c.args.grid.sizes marks k) k) c.loop-k.cells c.loop-k.k c.loop-k.invariant.0 _ (omega arith) (omega arith)
