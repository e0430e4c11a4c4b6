use Rattle.std.proofs.Common.{refl, sym, ap, ◌∙◌}
use Rattle.std.proofs.lemmas.Bool.{both_ways, eqb-true}
use Rattle.grid.specs.Geometry.{cell_count}
use Rattle.replay.proofs.Sweep.{loaded_long, loaded_start, loaded_field, loaded_done, field_open, field_unmarked, same_start}
use Rattle.replay.proofs.whole.find_field_watched.Goals as goal

pub returns-then-not-has_mark : goal.returns-then-not-has_mark
returns-then-not-has_mark g c =
    let q = c.args.picture.now in
    let found = c.has_mark.ensures in
    let fits = eqb-true _ _ (sym c.fits.ensures ∙ c.if-not-fits.false) ∙ ap cell_count c.grid.ensures in (
      field_unmarked (g.P.Picture.extent q) (g.P.Picture.marks q) c.args.cells.now fits (g.P.Picture.lawful.grid q)
          (λ some. both_ways c.has_mark.result c.if-not-has_mark.true (found.1 some)),
      refl,
      refl,
    )

pub started-requires : goal.started-requires
started-requires g c =
    let q = c.args.picture.now in
    let is = c.paint_picture-painting.ensures.job in
    let some = c.has_mark.ensures.0 c.if-not-has_mark.false in
    record {
      cells = loaded_long (g.P.Picture.extent q) (g.P.Picture.lawful.grid q) (g.P.Picture.marks q) (g.P.Picture.lawful.outside q) c.paint_picture-painting.new.cells c.paint_picture-painting.ensures.cells
          c.paint_picture-painting.result.grid.sizes is.same_sizes;
      mark = loaded_start (g.P.Picture.extent q) (g.P.Picture.lawful.grid q) (g.P.Picture.marks q) (g.P.Picture.lawful.outside q) c.paint_picture-painting.new.cells c.paint_picture-painting.ensures.cells
          some c.paint_picture-painting.result.grid.sizes is.same_sizes;
    }

pub finish-requires : goal.finish-requires
finish-requires g c =
    let q = c.args.picture.now in
    let is = same_start c.args.rule (g.P.Picture.extent q) c.paint_picture-painting.result c.started.result c.paint_picture-painting.ensures.job c.started.ensures in
    loaded_field (g.P.Picture.extent q) (g.P.Picture.lawful.grid q) (g.P.Picture.marks q) (g.P.Picture.lawful.outside q) c.paint_picture-painting.new.cells c.paint_picture-painting.ensures.cells
    g.R.Rule.near c.started.result c.args.rule is

pub returns : goal.returns
returns g c =
    let q = c.args.picture.now in
    let is = same_start c.args.rule (g.P.Picture.extent q) c.paint_picture-painting.result c.started.result c.paint_picture-painting.ensures.job c.started.ensures in
    let some = c.has_mark.ensures.0 c.if-not-has_mark.false in
    let fits = eqb-true _ _ (sym c.fits.ensures ∙ c.if-not-fits.false) ∙ ap cell_count c.grid.ensures in
    let done =
    loaded_done (g.P.Picture.extent q) (g.P.Picture.lawful.grid q) (g.P.Picture.marks q) (g.P.Picture.lawful.outside q) c.paint_picture-painting.new.cells c.paint_picture-painting.ensures.cells
    g.R.Rule.near c.started.result c.args.rule is c.finish.result c.finish.new.cells c.finish.ensures in (
      field_open (g.P.Picture.extent q) (g.P.Picture.marks q) c.args.cells.now fits some,
      done.0,
      done.1,
    )
