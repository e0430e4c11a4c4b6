-- Bytes have at most one fault, and none where they are a stack of a grid's sizes.
use Rattle.std.proofs.Common.{◌≡◌, ℕ, suc, ◌+◌, ◌≤◌, ◌⊎◌, List, [], ◌∷◌, ◌++◌, length, drop, Ok, Err, Result, sym, refl, ap, ◌∙◌, subst, inl, inr, ⊎_elim, arith, MatchResult}
use Rattle.std.proofs.lemmas.List.{append_assoc, append_cancel_left, length-append, drop_at}
use Rattle.grid.specs.declared.sizes.Sizes.{Sizes}
use Rattle.grid.specs.Geometry.{IsGrid}
use Rattle.numerals.specs.Numerals.{numeral, space}
use Rattle.numerals.proofs.Reading.{reads_same}
use Rattle.pbm.specs.Form.{magic, header, raster_bytes, images_of, AllFull, IsStack}
use Rattle.pbm.specs.Faults.{Begins, NoWidth, NoHeight, FaultyImage, FirstFaulty, FaultyBytes}
use Rattle.pbm.specs.Promises.{Shows, AcceptsStacks, TellsFault, FaultWithin}
use Rattle.pbm.specs.declared.faults.Cause.{Cause}
use Rattle.pbm.specs.declared.faults.Cause.TheVariants.{Magic, Number, Short, OtherSize, TooLarge}
use Rattle.pbm.specs.declared.faults.StackFault.{StackFault}
use Rattle.pbm.specs.declared.stack.Stack.{Stack}
use Rattle.pbm.proofs.Headers.{opens_same}
use Rattle.pbm.proofs.Loop.{fault_in_image}
use Rattle.pbm.proofs.Sound.{magic_there, numbers_there, sound_image, first_opens, no_faulty_image, same_sizes}

same_rest : (text a b : List ℕ) → text ≡ magic ++ a → text ≡ magic ++ b → a ≡ b
same_rest text a b p q = let e = sym p ∙ q in cc

-- a width that is read in one way is not unread, whatever is said of the rest
width_there : (text : List ℕ) (s t : ℕ) → NoWidth text s → NoHeight text t → ⊥
width_there text s t a b =
    a.unread b.width b.second (record { range = b.reads.range; whole = same_rest text a.sizes b.sizes a.starts b.starts ∙ b.reads.whole })

number_places : (text : List ℕ) (s t : ℕ) → NoWidth text s ⊎ NoHeight text s → NoWidth text t ⊎ NoHeight text t → s ≡ t
number_places text s t (inl a) (inl b) = a.place ∙ sym b.place
number_places text s t (inl a) (inr b) = absurd (width_there text s t a b)
number_places text s t (inr a) (inl b) = absurd (width_there text t s b a)
number_places text s t (inr a) (inr b) =
    let same = reads_same a.width b.width space a.second b.second (omega arith)
    (sym a.reads.whole ∙ same_rest text a.sizes b.sizes a.starts b.starts ∙ b.reads.whole) in
    a.place ∙ ap (λ k. 3 + (length (numeral k) + 1)) same.0 ∙ sym b.place

-- an image is faulty in one way only
same_fault_of_image : (text : List ℕ) (w h v g : ℕ) (c d : Cause) (s t : ℕ) → (c ≡ OtherSize → (w ≡ v) × (h ≡ g)) → (d ≡ OtherSize → (w ≡ v) × (h ≡ g)) → FaultyImage text w h c s → FaultyImage text v g d t → (c ≡ d) × (s ≡ t)
same_fault_of_image text w h v g Magic Magic s t p q n m = (refl, n.place ∙ sym m.place)
same_fault_of_image text w h v g Magic Number s t p q n (inl m) = absurd (n.absent m.sizes m.starts)
same_fault_of_image text w h v g Magic Number s t p q n (inr m) = absurd (n.absent m.sizes m.starts)
same_fault_of_image text w h v g Magic Short s t p q n m = absurd (magic_there text m.rest v g m.opens s n)
same_fault_of_image text w h v g Magic OtherSize s t p q n m = absurd (magic_there text m.rest m.width m.height m.opens s n)
same_fault_of_image text w h v g Magic TooLarge s t p q n m = absurd m
same_fault_of_image text w h v g Number Magic s t p q (inl n) m = absurd (m.absent n.sizes n.starts)
same_fault_of_image text w h v g Number Magic s t p q (inr n) m = absurd (m.absent n.sizes n.starts)
same_fault_of_image text w h v g Number Number s t p q n m = (refl, number_places text s t n m)
same_fault_of_image text w h v g Number Short s t p q n m = absurd (numbers_there text m.rest v g m.opens s n)
same_fault_of_image text w h v g Number OtherSize s t p q n m = absurd (numbers_there text m.rest m.width m.height m.opens s n)
same_fault_of_image text w h v g Number TooLarge s t p q n m = absurd m
same_fault_of_image text w h v g Short Magic s t p q n m = absurd (magic_there text n.rest w h n.opens t m)
same_fault_of_image text w h v g Short Number s t p q n m = absurd (numbers_there text n.rest w h n.opens t m)
same_fault_of_image text w h v g Short Short s t p q n m = (refl, n.place ∙ sym m.place)
same_fault_of_image text w h v g Short OtherSize s t p q n m =
    let o = opens_same text m.rest n.rest m.width m.height w h m.opens n.opens in
    let z = q refl in
    absurd (m.other (o.0 ∙ z.0, o.1 ∙ z.1))
same_fault_of_image text w h v g Short TooLarge s t p q n m = absurd m
same_fault_of_image text w h v g OtherSize Magic s t p q n m = absurd (magic_there text n.rest n.width n.height n.opens t m)
same_fault_of_image text w h v g OtherSize Number s t p q n m = absurd (numbers_there text n.rest n.width n.height n.opens t m)
same_fault_of_image text w h v g OtherSize Short s t p q n m =
    let o = opens_same text n.rest m.rest n.width n.height v g n.opens m.opens in
    let z = p refl in
    absurd (n.other (o.0 ∙ sym z.0, o.1 ∙ sym z.1))
same_fault_of_image text w h v g OtherSize OtherSize s t p q n m = (refl, n.place ∙ sym m.place)
same_fault_of_image text w h v g OtherSize TooLarge s t p q n m = absurd m
same_fault_of_image text w h v g TooLarge d s t p q n m = absurd n

-- two fronts of images: as long, or one goes on with an image
compare_fronts : (w h : ℕ) (xs ys : List (List ℕ)) (r s : List ℕ) → AllFull w h xs → AllFull w h ys → images_of w h xs ++ r ≡ images_of w h ys ++ s → ((length xs ≡ length ys) × (r ≡ s)) ⊎ (((t : List ℕ) × Begins r w h t) ⊎ ((t : List ℕ) × Begins s w h t))
compare_fronts w h [] [] r s p q e = inl (refl, e)
compare_fronts w h [] (y ∷ ys) r s p q e = inr (inl (images_of w h ys ++ s, record { raster = y; full = q.0; whole = e ∙ append_assoc (header w h ++ y) (images_of w h ys) s }))
compare_fronts w h (x ∷ xs) [] r s p q e = inr (inr (images_of w h xs ++ r, record { raster = x; full = p.0; whole = sym e ∙ append_assoc (header w h ++ x) (images_of w h xs) r }))
compare_fronts w h (x ∷ xs) (y ∷ ys) r s p q e =
    let X = images_of w h xs ++ r in
    let Y = images_of w h ys ++ s in
    let f : header w h ++ (x ++ X) ≡ header w h ++ (y ++ Y) =
    sym (append_assoc (header w h ++ x) (images_of w h xs) r ∙ append_assoc (header w h) x X) ∙ e ∙ append_assoc (header w h ++ y) (images_of w h ys) s ∙ append_assoc (header w h) y Y in
    let k : x ++ X ≡ y ++ Y = append_cancel_left (header w h) (x ++ X) (y ++ Y) f in
    let tail : X ≡ Y = sym (drop_at x X (raster_bytes w h) p.0) ∙ ap (drop (raster_bytes w h)) k ∙ drop_at y Y (raster_bytes w h) q.0 in
    ⊎_elim (λ z. inl (ap suc z.0, z.1)) inr (compare_fronts w h xs ys r s p.1 q.1 tail)

abbrev made : Cause → ℕ → ℕ → StackFault
made c i b = record { cause = c; image = i; byte = b }

same_made : (f g : StackFault) → f.cause ≡ g.cause → f.image ≡ g.image → f.byte ≡ g.byte → f ≡ g
same_made f g cause image byte =
    ap (λ c. made c f.image f.byte) cause ∙ ap (λ i. made g.cause i f.byte) image ∙ ap (made g.cause g.image) byte

-- the images before and the rest are all bytes
parts : (bytes : List ℕ) (f : StackFault) (F : FirstFaulty bytes f) → length bytes ≡ length (images_of F.width F.height F.before) + length F.rest
parts bytes f F = ap length F.whole ∙ length-append (images_of F.width F.height F.before) F.rest

-- with no image before, the fault is not one of the size
unsized : (bytes : List ℕ) (f : StackFault) (F : FirstFaulty bytes f) → F.before ≡ [] → {A : Type 0} → f.cause ≡ OtherSize → A
unsized bytes f F none is = absurd (⊎_elim (λ l. omega (arith, ap length none)) (λ ne. ne is) F.sized)

module _ (bytes : List ℕ) (f g : StackFault) (F : FirstFaulty bytes f) (G : FirstFaulty bytes g) where
  same_at_one_image : F.rest ≡ G.rest → length F.before ≡ length G.before → (f.cause ≡ OtherSize → (F.width ≡ G.width) × (F.height ≡ G.height)) → (g.cause ≡ OtherSize → (F.width ≡ G.width) × (F.height ≡ G.height)) → f ≡ g
  same_at_one_image rest many p q =
      let m = subst (λ r. FaultyImage r G.width G.height g.cause G.at) (sym rest) G.faulty in
      let same = same_fault_of_image F.rest F.width F.height G.width G.height f.cause g.cause F.at G.at p q F.faulty m in
      same_made f g same.0 (F.image ∙ many ∙ sym G.image) (omega (arith, F.byte, G.byte, ap length rest, same.1, parts bytes f F, parts bytes g G))

  -- the sizes of the images before agree, if both have some
  sizes_agree : (x y : List ℕ) (xs ys : List (List ℕ)) → F.before ≡ x ∷ xs → G.before ≡ y ∷ ys → (F.width ≡ G.width) × (F.height ≡ G.height)
  sizes_agree x y xs ys is is' =
      let fits = F.sizes (omega (arith, ap length is)) in
      let fits' = G.sizes (omega (arith, ap length is')) in
      let a = first_opens bytes F.width F.height x xs F.rest fits.0 fits.1 (F.whole ∙ ap (λ l. images_of F.width F.height l ++ F.rest) is) in
      let b = first_opens bytes G.width G.height y ys G.rest fits'.0 fits'.1 (G.whole ∙ ap (λ l. images_of G.width G.height l ++ G.rest) is') in
      let same = opens_same bytes _ _ F.width F.height G.width G.height a b in
      (same.0, same.1)

  -- no fault in the first image where the other has that image as a sound one
  first_sound : (y : List ℕ) (ys : List (List ℕ)) → F.before ≡ [] → G.before ≡ y ∷ ys → ⊥
  first_sound y ys none is =
      let fits = G.sizes (omega (arith, ap length is)) in
      let w = G.width in
      let h = G.height in
      let all : AllFull w h (y ∷ ys) = subst (AllFull w h) is G.full in
      let whole : F.rest ≡ images_of w h (y ∷ ys) ++ G.rest =
      sym (F.whole ∙ ap (λ l. images_of F.width F.height l ++ F.rest) none) ∙ G.whole ∙ ap (λ l. images_of w h l ++ G.rest) is in
      let b : Begins F.rest w h (images_of w h ys ++ G.rest) = record { raster = y; full = all.0; whole = whole ∙ append_assoc (header w h ++ y) (images_of w h ys) G.rest } in
      sound_image F.rest (images_of w h ys ++ G.rest) w h fits.0 fits.1 b F.width F.height f.cause F.at F.faulty (unsized bytes f F none)

same_first_faulty : (bytes : List ℕ) (f g : StackFault) → FirstFaulty bytes f → FirstFaulty bytes g → f ≡ g
same_first_faulty bytes f g F G = go F.before G.before refl refl
  where
    go : (xs ys : List (List ℕ)) → F.before ≡ xs → G.before ≡ ys → f ≡ g
    go [] [] a b =
        same_at_one_image bytes f g F G (sym (F.whole ∙ ap (λ l. images_of F.width F.height l ++ F.rest) a) ∙ G.whole ∙ ap (λ l. images_of G.width G.height l ++ G.rest) b) (ap length a ∙ sym (ap length b))
        (unsized bytes f F a) (unsized bytes g G b)
    go [] (y ∷ ys) a b = absurd (first_sound bytes f g F G y ys a b)
    go (x ∷ xs) [] a b = absurd (first_sound bytes g f G F x xs b a)
    go (x ∷ xs) (y ∷ ys) a b =
        let w = F.width in
        let h = F.height in
        let fits = F.sizes (omega (arith, ap length a)) in
        let same = sizes_agree bytes f g F G x y xs ys a b in
        let all : AllFull w h G.before = subst (λ v. AllFull v h G.before) (sym same.0) (subst (λ k. AllFull G.width k G.before) (sym same.1) G.full) in
        let e : images_of w h F.before ++ F.rest ≡ images_of w h G.before ++ G.rest =
        sym F.whole ∙ G.whole ∙ ap (λ v. images_of v G.height G.before ++ G.rest) (sym same.0) ∙ ap (λ k. images_of w k G.before ++ G.rest) (sym same.1) in
        ⊎_elim
        (λ z. same_at_one_image bytes f g F G z.1 z.0 (λ _. same) (λ _. same))
        (⊎_elim
        (λ t. absurd (sound_image F.rest t.0 w h fits.0 fits.1 t.1 w h f.cause F.at F.faulty (λ _. (refl, refl))))
        (λ t. absurd (sound_image G.rest t.0 w h fits.0 fits.1 t.1 G.width G.height g.cause G.at G.faulty (λ _. same))))
        (compare_fronts w h F.before G.before F.rest G.rest F.full all e)

same_fault : (bytes : List ℕ) (f g : StackFault) → FaultyBytes bytes f → FaultyBytes bytes g → f ≡ g
same_fault bytes f g (inl F) (inl G) = same_first_faulty bytes f g F G
same_fault bytes f g (inl F) (inr G) = absurd (no_faulty_image bytes G.sizes G.stack f F)
same_fault bytes f g (inr F) (inl G) = absurd (no_faulty_image bytes F.sizes F.stack g G)
same_fault bytes f g (inr F) (inr G) = same_made f g (F.cause ∙ sym G.cause) (F.image ∙ sym G.image) (F.byte ∙ sym G.byte)

-- a stack of a grid's sizes has no fault
no_fault : (bytes : List ℕ) (s : Sizes) → IsStack bytes s → IsGrid s → (f : StackFault) → FaultyBytes bytes f → ⊥
no_fault bytes s form grid f (inl F) = no_faulty_image bytes s form f F
no_fault bytes s form grid f (inr F) = F.large (subst IsGrid (sym (same_sizes bytes s form F.sizes F.stack)) grid)

fault_within : (bytes : List ℕ) (f : StackFault) → FaultyBytes bytes f → f.byte ≤ length bytes
fault_within bytes f (inl F) = omega (arith, F.byte, parts bytes f F, fault_in_image F.rest F.width F.height f.cause F.at F.faulty)
fault_within bytes f (inr F) = omega (arith, F.byte)

-- what follows from a result that is a stack or a fault
module _ (bytes : List ℕ) where
  abbrev Read : Result Stack StackFault → Type 0
  Read r = MatchResult r (λ s. Shows s bytes) (λ f. FaultyBytes bytes f)

  pub accepts : (r : Result Stack StackFault) → Read r → AcceptsStacks bytes r
  accepts (Ok x) c s form grid = same_sizes bytes s form x.grid.sizes c.lies_over.form
  accepts (Err f) c s form grid = no_fault bytes s form grid f c

  pub tells : (r : Result Stack StackFault) → Read r → TellsFault bytes r
  tells (Ok x) c f bad = absurd (no_fault bytes x.grid.sizes c.lies_over.form c.lies_over.grid f bad)
  tells (Err g) c f bad = ap Err (same_fault bytes g f c bad)

  pub within : (r : Result Stack StackFault) → Read r → FaultWithin bytes r
  within (Ok x) c = tt
  within (Err f) c = fault_within bytes f c
