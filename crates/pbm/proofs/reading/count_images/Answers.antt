use Rattle.std.proofs.Common.{◌≡◌, ◌<◌, length, subst, inl, rules}
use Rattle.std.specs.Result.{MatchResult}
use Rattle.std.proofs.lemmas.Result.{MatchResult-at_err, err_from_is_err_and}
use Rattle.pbm.specs.Faults.{Begins, FaultyImage}
use Rattle.pbm.proofs.Loop.{mapped, kept, FaultOfImage, passed_more, next_faulty}
use Rattle.pbm.proofs.reading.count_images.Goals as goal

pub returns-in_err-rest : goal.returns-in_err-rest
returns-in_err-rest c =
    let bytes = c.args.bytes.now in
    let rest = c.loop-rest.rest.now in
    let w = c.args.width in
    let h = c.args.height in
    let images = c.loop-rest.images in
    let all : MatchResult c.map_err.result (λ more. Begins rest w h more.now) (FaultOfImage bytes rest w h images) =
    mapped _ _ _ (FaultOfImage bytes rest w h images) c.read_image.result c.map_err.result c.read_image.ensures c.map_err.ensures.cases (λ e d q k. let same : e.cause ≡ d.cause = search rules in record { at = e.byte; image = search rules; byte = search rules; faulty = subst (λ x. FaultyImage rest w h x e.byte) same q }) in
    let f = err_from_is_err_and c.from_residual.result c.from_residual.ensures.1 in
    let left : 0 < length rest = search rules in
    rw (f.1, f.2) (inl (next_faulty bytes rest c.requires.0 w h images _ c.requires.1 c.loop-rest.invariant left (MatchResult-at_err _ _ _ c.in_err-rest.was all)))

pub loop-rest-preserved : goal.loop-rest-preserved
loop-rest-preserved c =
    let bytes = c.args.bytes.now in
    let rest = c.loop-rest.rest.now in
    let w = c.args.width in
    let h = c.args.height in
    let more : Begins rest w h c.in_ok-rest.rest.now = kept _ _ _ c.read_image.result c.map_err.result c.in_ok-rest.rest c.read_image.ensures c.map_err.ensures.cases c.in_ok-rest.was in
    passed_more bytes rest _ w h c.loop-rest.images c.loop-rest.invariant more
