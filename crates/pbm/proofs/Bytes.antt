-- Where the bytes of an image lie in a stack.
use Rattle.std.proofs.Common.{◌≡◌, ℕ, zero, suc, ◌+◌, ◌*◌, ◌/◌, ◌<◌, true, ◌&&◌, List, [], ◌∷◌, ◌++◌, length, get_or, sym, ap, subst, ◌∙◌, ⊎_elim, suc-mul, mul_comm, zero-mul, arith}
use mathlib.Core.Path.{fun_ext}
use Rattle.std.proofs.lemmas.Nat.{mul-add-lt, mul-le}
use Rattle.std.proofs.lemmas.List.{length-append, get_or_append_left, get_or-append-add}
use Rattle.std.proofs.lemmas.Bool.{cases_lt}
use Rattle.grid.specs.declared.sizes.Sizes.{Sizes}
use Rattle.grid.specs.Geometry.{Place, inside}
use Rattle.grid.proofs.Places.{below_from_inside}
use Rattle.pictures.proofs.Differing.{and_same}
use Rattle.pbm.specs.Form.{header, raster_bytes, row_bytes, images_of, AllFull, IsStack}
use Rattle.pbm.specs.Marks.{bit_is_set, raster_place, raster_cells, image_bytes, stack_cells, byte_at, stack_marks}
use Rattle.pbm.specs.Promises.{LiesOver, Shows}
use Rattle.pbm.specs.declared.stack.Stack.{Stack}

images_length : (w h : ℕ) (rasters : List (List ℕ)) → AllFull w h rasters → length (images_of w h rasters) ≡ length rasters * (length (header w h) + raster_bytes w h)
images_length w h [] all = sym (zero-mul (length (header w h) + raster_bytes w h))
images_length w h (raster ∷ rasters) all =
    let each = length (header w h) + raster_bytes w h in
    let whole : length ((header w h ++ raster) ++ images_of w h rasters) ≡ length (header w h) + length raster + length (images_of w h rasters) =
    length-append (header w h ++ raster) (images_of w h rasters) ∙ ap (λ n. n + length (images_of w h rasters)) (length-append (header w h) raster) in
    omega (arith, whole, all.0, images_length w h rasters all.1, suc-mul (length rasters) each)

-- byte k of raster z
raster_byte : (w h : ℕ) (rasters : List (List ℕ)) (z k : ℕ) → AllFull w h rasters → z < length rasters → k < raster_bytes w h → get_or (images_of w h rasters) (z * (length (header w h) + raster_bytes w h) + (length (header w h) + k)) 0 ≡ get_or (get_or rasters z []) k 0
raster_byte w h [] z k all hz hk = absurd (omega arith)
raster_byte w h (raster ∷ rasters) zero k all hz hk =
    let H = length (header w h) in
    let start : 0 * (H + raster_bytes w h) + (H + k) ≡ H + k = omega (arith, zero-mul (H + raster_bytes w h)) in
    let front : length (header w h ++ raster) ≡ H + raster_bytes w h = length-append (header w h) raster ∙ ap (λ n. H + n) all.0 in
    ap (λ i. get_or ((header w h ++ raster) ++ images_of w h rasters) i 0) start
    ∙ get_or_append_left (header w h ++ raster) (images_of w h rasters) 0 (H + k) (omega (arith, front))
    ∙ get_or-append-add (header w h) raster k 0
raster_byte w h (raster ∷ rasters) (suc z) k all hz hk =
    let H = length (header w h) in
    let L = H + raster_bytes w h in
    let front : length (header w h ++ raster) ≡ L = length-append (header w h) raster ∙ ap (λ n. H + n) all.0 in
    let start : suc z * L + (H + k) ≡ length (header w h ++ raster) + (z * L + (H + k)) = omega (arith, suc-mul z L, front) in
    ap (λ i. get_or ((header w h ++ raster) ++ images_of w h rasters) i 0) start
    ∙ get_or-append-add (header w h ++ raster) (images_of w h rasters) (z * L + (H + k)) 0
    ∙ raster_byte w h rasters z k all.1 (omega arith) hk

below_from_product : (z n m L : ℕ) → 0 < L → z < n → n * L ≡ m * L → z < m
below_from_product z n m L some l e =
    ⊎_elim (λ k. k) (λ k. absurd (omega (arith, mul-le m L z L k (omega arith), suc-mul z L, mul-le (suc z) L n L l (omega arith)))) (cases_lt z m)

-- the place of a cell's bit among all bytes
abbrev place_of_byte : Sizes → Place → ℕ
place_of_byte s at = at.2 * image_bytes s + (length (header s.nx s.ny) + raster_place s.nx at.0 at.1)

module _ (s : Sizes) (at : Place) (within : inside s at ≡ true) where
  in_raster : raster_place s.nx at.0 at.1 < raster_bytes s.nx s.ny
  in_raster =
      let b = below_from_inside s at within in
      mul-add-lt at.1 (row_bytes s.nx) (at.0 / 8) s.ny b.y (omega (arith, b.x))

  module _ (bytes : List ℕ) (form : IsStack bytes s) where
    bytes_length : length bytes ≡ s.nz * image_bytes s
    bytes_length = ap length form.whole ∙ images_length s.nx s.ny form.rasters form.full ∙ ap (λ n. n * image_bytes s) form.count

    byte_there : place_of_byte s at < length bytes
    byte_there =
        let b = below_from_inside s at within in
        let r = raster_place s.nx at.0 at.1 in
        let whole = mul-add-lt at.2 (image_bytes s) (length (header s.nx s.ny) + r) s.nz b.z (omega (arith, in_raster)) in
        omega (arith, whole, bytes_length, mul_comm s.nz (image_bytes s))

    -- the byte of a cell is the one of its raster
    byte_of_raster : (rasters : List (List ℕ)) → AllFull s.nx s.ny rasters → bytes ≡ images_of s.nx s.ny rasters → get_or bytes (place_of_byte s at) 0 ≡ get_or (get_or rasters at.2 []) (raster_place s.nx at.0 at.1) 0
    byte_of_raster rasters full whole =
        let b = below_from_inside s at within in
        let long : s.nz * image_bytes s ≡ length rasters * image_bytes s = sym bytes_length ∙ ap length whole ∙ images_length s.nx s.ny rasters full in
        let many : at.2 < length rasters = below_from_product at.2 s.nz (length rasters) (image_bytes s) (omega arith) b.z long in
        ap (λ xs. get_or xs (place_of_byte s at) 0) whole ∙ raster_byte s.nx s.ny rasters at.2 (raster_place s.nx at.0 at.1) full many in_raster

cells_of_rasters : (s : Sizes) (bytes : List ℕ) → IsStack bytes s → (rasters : List (List ℕ)) → AllFull s.nx s.ny rasters → bytes ≡ images_of s.nx s.ny rasters → stack_cells s bytes ≡ raster_cells s rasters
cells_of_rasters s bytes form rasters full whole =
    fun_ext (λ at. and_same (inside s at) _ _ (λ h. ap (λ n. bit_is_set n at.0) (byte_of_raster s at h bytes form rasters full whole)))

module _ (s : Stack) (o : LiesOver s s.bytes.now) where
  held_marks : (at : Place) → stack_marks s at ≡ stack_cells s.grid.sizes s.bytes.now at
  held_marks at =
      let n = s.grid.sizes in
      let r = raster_place n.nx at.0 at.1 in
      let stride : s.stride ≡ image_bytes n = o.stride ∙ ap (λ k. k + raster_bytes n.nx n.ny) o.skip in
      let same : byte_at s at ≡ place_of_byte n at = ap (λ k. at.2 * k + (s.skip + r)) stride ∙ ap (λ k. at.2 * image_bytes n + (k + r)) o.skip in
      ap (λ k. inside n at && bit_is_set (get_or s.bytes.now k 0) at.0) same

  pub shows : Shows s s.bytes.now
  shows =
      let bits : stack_marks s ≡ stack_cells s.grid.sizes s.bytes.now = fun_ext held_marks in
      record {
        lies_over = o;
        bits = bits;
        marks = λ rasters full whole. bits ∙ cells_of_rasters s.grid.sizes s.bytes.now o.form rasters full whole;
      }

-- the images of a stack fill it
pub filled : (bytes : List ℕ) (s : Sizes) → IsStack bytes s → length bytes ≡ s.nz * image_bytes s
filled bytes s form = ap length form.whole ∙ images_length s.nx s.ny form.rasters form.full ∙ ap (λ n. n * image_bytes s) form.count

-- the bit of a place of the grid lies among the bytes
pub bit_lies : (s : Stack) (at : Place) → inside s.grid.sizes at ≡ true → byte_at s at < length s.bytes.now
bit_lies s at within =
    let b = below_from_inside s.grid.sizes at within in
    let r = raster_place s.grid.sizes.nx at.0 at.1 in
    let whole = mul-add-lt at.2 s.stride (s.skip + r) s.grid.sizes.nz b.z (omega (arith, in_raster s.grid.sizes at within, s.rows_follow)) in
    omega (arith, whole, s.one_image_a_layer, mul_comm s.grid.sizes.nz s.stride)

-- what is known of a stack that was read by its sizes n
module _ (bytes : List ℕ) (n : Sizes) (form : IsStack bytes n) (skip stride : ℕ) (skips : skip ≡ length (header n.nx n.ny)) (strides : stride ≡ skip + raster_bytes n.nx n.ny) where
  pub fills : (m : Sizes) → m ≡ n → length bytes ≡ m.nz * stride
  fills m same =
      let whole : stride ≡ image_bytes n = strides ∙ ap (λ k. k + raster_bytes n.nx n.ny) skips in
      subst (λ (q : Sizes). length bytes ≡ q.nz * stride) (sym same) (filled bytes n form ∙ ap (λ k. n.nz * k) (sym whole))

  pub follows : (m : Sizes) → m ≡ n → stride ≡ skip + raster_bytes m.nx m.ny
  follows m same = subst (λ (q : Sizes). stride ≡ skip + raster_bytes q.nx q.ny) (sym same) strides

  pub skipped : (m : Sizes) → m ≡ n → skip ≡ length (header m.nx m.ny)
  skipped m same = subst (λ (q : Sizes). skip ≡ length (header q.nx q.ny)) (sym same) skips
