use Rattle.std.proofs.Common.{subst}
use Rattle.pictures.specs.Negatives.{negative_marks}
use Rattle.signed.specs.Fields.{SignedField, Fills}
use Rattle.signed.proofs.Turning.{turned_fill}
use Rattle.signed.proofs.field.signed_of_negative.Goals as goal

pub returns : goal.returns
returns g c =
    let p = c.args.picture.now in
    let near = g.R.Rule.near c.args.rule in
    let before = c.args.cells.now in
    let cells = c.signed.new.cells in
    let old = c.args.output.now in
    let output = c.signed.new.output in
    let r = c.signed.result in
    let own = subst (λ q. let s = g.P.Picture.extent q in let rest = negative_marks s (g.P.Picture.marks q) in Fills r s rest before cells old output (SignedField near s rest cells output))
    c.new-negative.ensures.picture c.signed.ensures in
    record { turned = turned_fill near (g.P.Picture.extent p) (g.P.Picture.lawful.grid p) (g.P.Picture.marks p) r before cells old output own; own = own }
