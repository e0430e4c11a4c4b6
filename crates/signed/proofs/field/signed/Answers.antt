use Rattle.std.proofs.Common.{length, sym, ap, ◌∙◌}
use Rattle.grid.specs.Geometry.{cell_count}
use Rattle.signed.proofs.Opening.{cells_counted, numbers_counted, signed_open}
use Rattle.signed.proofs.Faces.{held_sizes, held_mark, held_field, signed_field, can_read}
use Rattle.signed.proofs.field.signed.Goals as goal

pub find_whole-requires : goal.find_whole-requires
find_whole-requires g c =
    let pic = g.P.Picture in
    let p = c.args.picture.now in
    let below = c.in_ok-half.half.below.now in
    let made = c.in_ok-half.ensures.1 in
    let room = c.in_ok-check_room.ensures in
    record {
      room = cells_counted (pic.extent p) (pic.marks p) (length c.args.cells.now) (length c.args.output.now) room.0
          ∙ sym (ap cell_count (held_sizes pic.extent pic.marks below p made.0 made.1));
      mark = held_mark pic.extent pic.marks below p made.0 made.1 room.1;
    }

pub write_numbers-requires : goal.write_numbers-requires
write_numbers-requires g c =
    let pic = g.P.Picture in
    let p = c.args.picture.now in
    let below = c.in_ok-half.half.below.now in
    let rule = c.args.rule in
    let near = g.R.Rule.near rule in
    let cells = c.find_whole.new.cells in
    let made = c.in_ok-half.ensures.1 in
    let room = c.in_ok-check_room.ensures in
    record {
      field = can_read (pic.extent p) (pic.marks p) made.1 (g.R.Rule.ceiling rule) near (g.met.R.Rule.bounded rule) (g.met.R.Rule.ceilings rule)
          c.grid-2.result.sizes (c.grid-2.ensures ∙ held_sizes pic.extent pic.marks below p made.0 made.1)
          cells (held_field pic.extent pic.marks below p made.0 made.1 near cells c.find_whole.ensures);
      room = numbers_counted (pic.extent p) (pic.marks p) (length c.args.cells.now) (length c.args.output.now) room.0;
    }

pub returns : goal.returns
returns g c =
    let pic = g.P.Picture in
    let p = c.args.picture.now in
    let below = c.in_ok-half.half.below.now in
    let near = g.R.Rule.near c.args.rule in
    let cells = c.find_whole.new.cells in
    let half = c.in_ok-half.ensures in
    let room = c.in_ok-check_room.ensures in (
      signed_open (pic.extent p) (pic.marks p) (length c.args.cells.now) (length c.args.output.now) half.0 room.0,
      signed_field (pic.extent p) (pic.marks p) half.1.1 near room.1 (pic.lawful.grid p) cells c.write_numbers.new.output
          (held_field pic.extent pic.marks below p half.1.0 half.1.1 near cells c.find_whole.ensures) c.write_numbers.ensures,
    )
