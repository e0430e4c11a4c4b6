-- Bytes that are a stack have no faulty image, and are a stack of one size and count only.
use Rattle.std.proofs.Common.{◌≡◌, ℕ, ◌+◌, ◌<◌, ◌⊎◌, List, [], ◌∷◌, ◌++◌, length, drop, sym, refl, ap, ◌∙◌, subst, inl, inr, ⊎_elim, arith}
use Rattle.std.proofs.lemmas.List.{append_assoc, append-nil, append_cancel_left, length-append, drop_at}
use Rattle.grid.specs.declared.sizes.Sizes.{Sizes}
use Rattle.grid.specs.Geometry.{IsSize}
use Rattle.numerals.specs.Numerals.{numeral, space, line_feed}
use Rattle.numerals.proofs.Reading.{reads_same}
use Rattle.pbm.specs.Form.{magic, header, raster_bytes, images_of, AllFull, IsStack, sizes_of}
use Rattle.pbm.specs.Faults.{Opens, Begins, NoMagic, NoWidth, NoHeight, FaultyImage, FirstFaulty}
use Rattle.pbm.specs.declared.faults.Cause.{Cause}
use Rattle.pbm.specs.declared.faults.Cause.TheVariants.{Magic, Number, Short, OtherSize, TooLarge}
use Rattle.pbm.specs.declared.faults.StackFault.{StackFault}
use Rattle.pbm.proofs.Headers.{header_then, opens_same}

-- what has a header lacks no part of one
module _ (text rest : List ℕ) (w h : ℕ) (o : Opens text w h rest) where
  pub magic_there : (at : ℕ) → NoMagic text at → ⊥
  magic_there at n = n.absent ((numeral w ++ space ∷ (numeral h ++ line_feed ∷ [])) ++ rest) o.whole

  after_magic : (sizes : List ℕ) → text ≡ magic ++ sizes → sizes ≡ numeral w ++ space ∷ (numeral h ++ line_feed ∷ rest)
  after_magic sizes e = let f = sym e ∙ o.whole ∙ header_then w h rest in cc

  pub numbers_there : (at : ℕ) → NoWidth text at ⊎ NoHeight text at → ⊥
  numbers_there at (inl n) = n.unread w (numeral h ++ line_feed ∷ rest) (record { range = o.width; whole = after_magic n.sizes n.starts })
  numbers_there at (inr n) =
      let same = reads_same n.width w space n.second (numeral h ++ line_feed ∷ rest) (omega arith) (sym n.reads.whole ∙ after_magic n.sizes n.starts) in
      n.unread h rest (record { range = o.height; whole = same.1 })

-- an image of the size w by h has no fault, unless it should have another size
module _ (text more : List ℕ) (w h : ℕ) (fw : IsSize w) (fh : IsSize h) (b : Begins text w h more) where
  opened : Opens text w h (b.raster ++ more)
  opened = record { width = fw; height = fh; whole = b.whole ∙ append_assoc (header w h) b.raster more }

  pub sound_image : (v g : ℕ) (cause : Cause) (at : ℕ) → FaultyImage text v g cause at → (cause ≡ OtherSize → (w ≡ v) × (h ≡ g)) → ⊥
  sound_image v g Magic at n sized = magic_there text (b.raster ++ more) w h opened at n
  sound_image v g Number at n sized = numbers_there text (b.raster ++ more) w h opened at n
  sound_image v g Short at n sized =
      let same = opens_same text n.rest (b.raster ++ more) v g w h n.opens opened in
      let long : length n.rest ≡ raster_bytes w h + length more = ap length same.2 ∙ length-append b.raster more ∙ ap (λ x. x + length more) b.full in
      let size : raster_bytes v g ≡ raster_bytes w h = ap (λ x. raster_bytes x g) same.0 ∙ ap (raster_bytes w) same.1 in
      omega (arith, long, size, n.few)
  sound_image v g OtherSize at n sized =
      let same = opens_same text n.rest (b.raster ++ more) n.width n.height w h n.opens opened in
      let s = sized refl in
      n.other (same.0 ∙ s.0, same.1 ∙ s.1)
  sound_image v g TooLarge at n sized = n

-- the images after some that stand at the front of others
pub record After (w h : ℕ) (rasters before : List (List ℕ)) (rest : List ℕ) : Type 0 where
  pub others : List (List ℕ)
  pub full : AllFull w h others
  pub whole : rest ≡ images_of w h others
  pub count : length before + length others ≡ length rasters

after : (w h : ℕ) (rasters before : List (List ℕ)) (rest : List ℕ) → AllFull w h rasters → AllFull w h before → images_of w h rasters ≡ images_of w h before ++ rest → After w h rasters before rest
after w h rasters [] rest all all' e = record { others = rasters; full = all; whole = sym e; count = omega arith }
after w h [] (x ∷ before) rest all all' e = absurd (let n = ap length e in omega arith)
after w h (y ∷ rasters) (x ∷ before) rest all all' e =
    let X = images_of w h rasters in
    let Y = images_of w h before ++ rest in
    let f : header w h ++ (y ++ X) ≡ header w h ++ (x ++ Y) =
    sym (append_assoc (header w h) y X) ∙ e ∙ append_assoc (header w h ++ x) (images_of w h before) rest ∙ append_assoc (header w h) x Y in
    let k : y ++ X ≡ x ++ Y = append_cancel_left (header w h) (y ++ X) (x ++ Y) f in
    let tail : X ≡ Y = sym (drop_at y X (raster_bytes w h) all.0) ∙ ap (drop (raster_bytes w h)) k ∙ drop_at x Y (raster_bytes w h) all'.0 in
    let r = after w h rasters before rest all.1 all'.1 tail in
    record { others = r.others; full = r.full; whole = r.whole; count = omega (arith, r.count) }

-- the first of several images
pub first_opens : (bytes : List ℕ) (w h : ℕ) (x : List ℕ) (xs : List (List ℕ)) (rest : List ℕ) → IsSize w → IsSize h → bytes ≡ images_of w h (x ∷ xs) ++ rest → Opens bytes w h (x ++ (images_of w h xs ++ rest))
first_opens bytes w h x xs rest fw fh e = record {
  width = fw;
  height = fh;
  whole = e ∙ append_assoc (header w h ++ x) (images_of w h xs) rest ∙ append_assoc (header w h) x (images_of w h xs ++ rest);
}

some_others : (w h : ℕ) (others : List (List ℕ)) (rest : List ℕ) → rest ≡ images_of w h others → 0 < length rest → 0 < length others
some_others w h [] rest is some = absurd (omega (arith, ap length is))
some_others w h (x ∷ xs) rest is some = omega arith

no_others : (w h : ℕ) (others : List (List ℕ)) → [] ≡ images_of w h others → length others ≡ 0
no_others w h [] is = refl
no_others w h (x ∷ xs) is = absurd (let e = ap length is in omega arith)

stack_opens : (bytes : List ℕ) (s : Sizes) → IsStack bytes s → (rest : List ℕ) × Opens bytes s.nx s.ny rest
stack_opens bytes s form = go form.rasters form.whole form.count
  where
    go : (rasters : List (List ℕ)) → bytes ≡ images_of s.nx s.ny rasters → length rasters ≡ s.nz → (rest : List ℕ) × Opens bytes s.nx s.ny rest
    go [] e m = absurd (omega (arith, form.some, m))
    go (x ∷ xs) e m =
        (x ++ (images_of s.nx s.ny xs ++ []), first_opens bytes s.nx s.ny x xs [] form.width form.height (e ∙ sym (append-nil (images_of s.nx s.ny (x ∷ xs)))))

-- full images of one size are full images of an equal one
resize : (v g w h : ℕ) (rasters : List (List ℕ)) → v ≡ w → g ≡ h → AllFull v g rasters → AllFull w h rasters
resize v g w h rasters ew eh all = subst (λ x. AllFull x h rasters) ew (subst (λ y. AllFull v y rasters) eh all)

same_images : (v g w h : ℕ) (rasters : List (List ℕ)) → v ≡ w → g ≡ h → images_of v g rasters ≡ images_of w h rasters
same_images v g w h rasters ew eh = ap (λ x. images_of x g rasters) ew ∙ ap (λ y. images_of w y rasters) eh

module _ (bytes : List ℕ) (s : Sizes) (form : IsStack bytes s) where
  pub no_faulty_image : (fault : StackFault) → FirstFaulty bytes fault → ⊥
  no_faulty_image fault f = go f.before f.full f.whole f.sizes f.left f.sized
    where
      begins : (others : List (List ℕ)) (rest : List ℕ) → AllFull s.nx s.ny others → rest ≡ images_of s.nx s.ny others → 0 < length others → (v g : ℕ) → FaultyImage rest v g fault.cause f.at → (fault.cause ≡ OtherSize → (s.nx ≡ v) × (s.ny ≡ g)) → ⊥
      begins [] rest all is some v g bad sized = omega arith
      begins (x ∷ xs) rest all is some v g bad sized =
          sound_image rest (images_of s.nx s.ny xs) s.nx s.ny form.width form.height (record { raster = x; full = all.0; whole = is }) v g fault.cause f.at bad sized

      go : (before : List (List ℕ)) → AllFull f.width f.height before → bytes ≡ images_of f.width f.height before ++ f.rest → (0 < length before → IsSize f.width × IsSize f.height) → (0 < length before → 0 < length f.rest) → (0 < length before) ⊎ (fault.cause ≡ OtherSize → ⊥) → ⊥
      go [] full whole sizes left sized =
          begins form.rasters f.rest form.full (sym whole ∙ form.whole) (omega (arith, form.count, form.some)) f.width f.height f.faulty
          (λ is. ⊎_elim (λ l. absurd (omega arith)) (λ ne. absurd (ne is)) sized)
      go (x ∷ before) full whole sizes left sized =
          let some : 0 < length {A = List ℕ} (x ∷ before) = omega arith in
          let fits = sizes some in
          let mine = first_opens bytes f.width f.height x before f.rest fits.0 fits.1 whole in
          let yours = stack_opens bytes s form in
          let same = opens_same bytes _ yours.0 f.width f.height s.nx s.ny mine yours.1 in
          let full' = resize f.width f.height s.nx s.ny (x ∷ before) same.0 same.1 full in
          let whole' : bytes ≡ images_of s.nx s.ny (x ∷ before) ++ f.rest = whole ∙ ap (λ xs. xs ++ f.rest) (same_images f.width f.height s.nx s.ny (x ∷ before) same.0 same.1) in
          let a = after s.nx s.ny form.rasters (x ∷ before) f.rest form.full full' (sym form.whole ∙ whole') in
          begins a.others f.rest a.full a.whole (some_others s.nx s.ny a.others f.rest a.whole (left some)) f.width f.height f.faulty (λ _. (sym same.0, sym same.1))

  -- the sizes of a stack are told by its bytes
  pub same_sizes : (t : Sizes) → IsStack bytes t → t ≡ s
  same_sizes t other =
      let mine = stack_opens bytes t other in
      let yours = stack_opens bytes s form in
      let same = opens_same bytes mine.0 yours.0 t.nx t.ny s.nx s.ny mine.1 yours.1 in
      let rasters = other.rasters in
      let full' = resize t.nx t.ny s.nx s.ny rasters same.0 same.1 other.full in
      let whole' : bytes ≡ images_of s.nx s.ny rasters ++ [] = other.whole ∙ same_images t.nx t.ny s.nx s.ny rasters same.0 same.1 ∙ sym (append-nil (images_of s.nx s.ny rasters)) in
      let a = after s.nx s.ny form.rasters rasters [] form.full full' (sym form.whole ∙ whole') in
      let count : t.nz ≡ s.nz = omega (arith, no_others s.nx s.ny a.others a.whole, a.count, form.count, other.count) in
      ap (λ x. sizes_of x t.ny t.nz) same.0 ∙ ap (λ y. sizes_of s.nx y t.nz) same.1 ∙ ap (sizes_of s.nx s.ny) count
