use Rattle.replay.proofs.Sweep.{field_open, found_through}
use Rattle.signed.proofs.field.find_whole.Goals as goal

pub unwrap-requires : goal.unwrap-requires
unwrap-requires g c =
    let p = c.args.picture.now in
    found_through _ _ _ _ _ _ _ c.find_field.ensures (field_open (g.P.Picture.extent p) (g.P.Picture.marks p) c.args.cells.now c.requires.room c.requires.mark)
