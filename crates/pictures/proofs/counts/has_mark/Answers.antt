use Rattle.std.proofs.Common.{◌≡◌, true, false, refl, rules}
use Rattle.std.proofs.Math.Nat.{sub-zero}
use Rattle.std.proofs.lemmas.Iterator.{YieldsList-from_range, cases_from_any}
use Rattle.pictures.specs.Numbered.{marks_by_number}
use Rattle.pictures.proofs.Finding.{looked_for}
use Rattle.pictures.proofs.counts.has_mark.Goals as goal

pub returns : goal.returns
returns g c =
    let p = c.args.picture.now in
    let s = c.grid-grid.result.sizes in
    let n = c.count.result in
    let marks = g.P.Picture.marks p in
    looked_for (g.P.Picture.extent p) (g.P.Picture.lawful.grid p) marks s c.grid-grid.ensures n c.count.ensures.value c.any.result
    (cases_from_any _ _ c.any.result (λ k. marks_by_number s marks k ≡ true) (λ k. marks_by_number s marks k ≡ false) c.any.ensures.ran (YieldsList-from_range 0 n n refl (sub-zero n)) (λ x q k. search rules) (λ x q k. search rules))
