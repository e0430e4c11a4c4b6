use Rattle.std.proofs.Common.{◌≡◌, ◌+◌, ◌-◌, ◌*◌, length, sym, refl, ap, subst, inl, arith, rules}
use Rattle.std.specs.Result.{MatchResult}
use Rattle.std.proofs.lemmas.Result.{MatchResult-at_err, err_from_is_err_and}
use Rattle.pbm.specs.Faults.{Opens, FaultyHeader, FirstFaulty}
use Rattle.pbm.specs.Form.{IsStack, raster_bytes, sizes_of, header as header_bytes}
use Rattle.pbm.proofs.Headers.{header_length}
use Rattle.pbm.proofs.Bytes.{shows, follows, fills, skipped}
use Rattle.pbm.proofs.Loop.{mapped, kept, header_faulty}
use Rattle.pbm.proofs.reading.read_stack.Goals as goal

pub returns-in_err-header : goal.returns-in_err-header
returns-in_err-header c =
    let bytes = c.args.bytes.now in
    let all : MatchResult c.map_err.result (λ h. Opens bytes h.width h.height h.rest.now) (FirstFaulty bytes) =
    mapped _ _ _ (FirstFaulty bytes) c.read_header.result c.map_err.result c.read_header.ensures c.map_err.ensures.cases (λ e d q k. let same : e.cause ≡ d.cause = search rules in header_faulty bytes d e.byte (search rules) (search rules) (subst (λ x. FaultyHeader bytes x e.byte) same q)) in
    let f = err_from_is_err_and c.from_residual.result c.from_residual.ensures.1 in
    rw (f.1, f.2) (inl (MatchResult-at_err _ _ _ c.in_err-header.was all))

pub invariant_of-result : goal.invariant_of-result
invariant_of-result c =
    let header = c.in_ok-header.header in
    let bytes = c.args.bytes.now in
    let o : Opens bytes header.width header.height header.rest.now = kept _ _ _ c.read_header.result c.map_err.result header c.read_header.ensures c.map_err.ensures.cases c.in_ok-header.was in
    let n = sizes_of header.width header.height c.in_ok-images.images in
    let same : c.in-Some.grid.sizes ≡ n = c.in-Some.ensures in
    let skip = length bytes - length header.rest.now in
    let stride = skip + c.row_bytes.result * header.height in
    let skips : skip ≡ length (header_bytes header.width header.height) = omega (arith, header_length bytes header.rest.now header.width header.height o) in
    let strides : stride ≡ skip + raster_bytes header.width header.height = ap (λ x. skip + x * header.height) c.row_bytes.ensures in
    record {
      rows_follow = follows bytes n c.in_ok-images.ensures skip stride skips strides c.in-Some.grid.sizes same;
      one_image_a_layer = fills bytes n c.in_ok-images.ensures skip stride skips strides c.in-Some.grid.sizes same;
    }

pub returns : goal.returns
returns c =
    let header = c.in_ok-header.header in
    let bytes = c.args.bytes.now in
    let o : Opens bytes header.width header.height header.rest.now = kept _ _ _ c.read_header.result c.map_err.result header c.read_header.ensures c.map_err.ensures.cases c.in_ok-header.was in
    let n = sizes_of header.width header.height c.in_ok-images.images in
    let same : c.in-Some.grid.sizes ≡ n = c.in-Some.ensures in
    let skip = length bytes - length header.rest.now in
    let stride = skip + c.row_bytes.result * header.height in
    let skips : skip ≡ length (header_bytes header.width header.height) = omega (arith, header_length bytes header.rest.now header.width header.height o) in
    let strides : stride ≡ skip + raster_bytes header.width header.height = ap (λ x. skip + x * header.height) c.row_bytes.ensures in
    shows _
    (record {
      over = refl;
      form = subst (λ q. IsStack bytes q) (sym same) c.in_ok-images.ensures;
      grid = c.in-Some.grid.is;
      skip = skipped bytes n c.in_ok-images.ensures skip stride skips strides c.in-Some.grid.sizes same;
      stride = follows bytes n c.in_ok-images.ensures skip stride skips strides c.in-Some.grid.sizes same;
    })
