use Rattle.std.proofs.Common.{◌≡◌, ap, ◌∙◌, filter, length, rules, arith}
use Rattle.std.proofs.Math.Nat.{sub-zero}
use Rattle.std.proofs.lemmas.Iterator.{YieldsList-from_range}
use Rattle.std.proofs.lemmas.Iterator.Consumers.{YieldsList-from_filter, count_from_yields_List}
use Rattle.std.specs.List.{range_with_len}
use Rattle.pictures.specs.Kinds.{count_marks}
use Rattle.pictures.specs.Numbered.{marks_by_number}
use Rattle.pictures.proofs.Counting.{counted_all}
use Rattle.pictures.proofs.counts.count_marked.Goals as goal

pub returns : goal.returns
returns g c =
    let s = c.grid-grid.result.sizes in
    let n = c.count.result in
    let extent = g.P.Picture.extent c.args.picture.now in
    let marks = g.P.Picture.marks c.args.picture.now in
    let counted : c.count-2.result ≡ count_marks extent marks =
    count_from_yields_List _ c.count-2.result c.count-2.ensures.ran
    (YieldsList-from_filter _ (marks_by_number s marks) (YieldsList-from_range 0 n n c.filter.ensures.source (sub-zero n)) c.filter.ensures.closure (λ x b q k. search rules))
    ∙ ap (λ m. length (filter (marks_by_number s marks) (range_with_len 0 m))) c.count.ensures.value ∙ counted_all marks s extent c.grid-grid.ensures in
    omega (arith, counted)
