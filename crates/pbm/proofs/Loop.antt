-- The loop that reads image after image: what stands between two turns, and how it ends.
use Rattle.std.proofs.Common.{◌≡◌, ℕ, ◌+◌, ◌-◌, ◌<◌, ◌≤◌, ◌⊎◌, List, [], ◌∷◌, ◌++◌, length, Ok, Err, Result, sym, refl, ap, ◌∙◌, subst, inl, inr, arith}
use Rattle.std.specs.Result.{MatchResult, IsErrAnd}
use Rattle.std.proofs.ByRecursion.{All-push}
use Rattle.std.proofs.lemmas.Result.{MatchResult-at_ok}
use Rattle.std.proofs.lemmas.List.{append_assoc, length-append, length_push, flat_map_more}
use Rattle.numerals.specs.Numerals.{numeral, space}
use Rattle.pbm.specs.Form.{header, raster_bytes, images_of, AllFull}
use Rattle.pbm.specs.Faults.{Opens, Begins, Resized, FaultyHeader, FaultyImage, FirstFaulty}
use Rattle.pbm.specs.declared.faults.Cause.{Cause}
use Rattle.pbm.specs.declared.faults.Cause.TheVariants.{Magic, Number, Short, OtherSize, TooLarge}
use Rattle.pbm.specs.declared.faults.StackFault.{StackFault}
use Rattle.pbm.proofs.Headers.{opens_same, header_length}

-- an error mapped to another
pub mapped : {A E D : Type 0} (P : A → Type 0) (Q : E → Type 0) (S : E → D → Type 0) (R : D → Type 0) (r : Result A E) (s : Result A D) → MatchResult r P Q → MatchResult r (λ x. s ≡ Ok x) (λ e. IsErrAnd s (S e)) → ((e : E) (d : D) → Q e → S e d → R d) → MatchResult s P R
mapped P Q S R (Ok x) s p e f = subst (λ t. MatchResult t P R) (sym e) p
mapped P Q S R (Err x) (Ok y) q e f = absurd e
mapped P Q S R (Err x) (Err d) q e f = f x d q e

-- a value where only errors are mapped
pub kept : {A E D : Type 0} (P : A → Type 0) (Q : E → Type 0) (S : E → D → Type 0) (r : Result A E) (s : Result A D) (x : A) → MatchResult r P Q → MatchResult r (λ y. s ≡ Ok y) (λ e. IsErrAnd s (S e)) → s ≡ Ok x → P x
kept P Q S r s x p e is = MatchResult-at_ok P _ x is (mapped P Q S (λ d. d ≡ d) r s p e (λ _ d q k. refl))

-- an image of a stack has a fault, told as one of the stack
pub record FaultOfImage (bytes rest : List ℕ) (w h images : ℕ) (fault : StackFault) : Type 0 where
  pub at : ℕ
  pub image : fault.image ≡ images
  pub byte : fault.byte ≡ length bytes - length rest + at
  pub faulty : FaultyImage rest w h fault.cause at

-- some images were read, and the rest is left
pub record Passed (bytes rest : List ℕ) (w h images : ℕ) : Type 0 where
  pub before : List (List ℕ)
  pub full : AllFull w h before
  pub whole : bytes ≡ images_of w h before ++ rest
  pub count : images ≡ length before
  pub room : images + length rest ≤ length bytes

pub shorter : (text more : List ℕ) (w h : ℕ) → Begins text w h more → length more + 3 ≤ length text
shorter text more w h b =
    let e = ap length b.whole ∙ length-append (header w h ++ b.raster) more in
    let f = length-append (header w h) b.raster in
    omega (arith, e, f)

pub passed_more : (bytes rest more : List ℕ) (w h n : ℕ) → Passed bytes rest w h n → Begins rest w h more → Passed bytes more w h (n + 1)
passed_more bytes rest more w h n p b =
    let image : List ℕ → List ℕ = λ raster. header w h ++ raster in
    record {
      before = p.before ++ b.raster ∷ [];
      full = All-push (λ raster. length raster ≡ raster_bytes w h) p.before b.raster p.full b.full;
      whole =
          p.whole
          ∙ ap (λ xs. images_of w h p.before ++ xs) b.whole
          ∙ sym (append_assoc (images_of w h p.before) (image b.raster) more)
          ∙ ap (λ xs. xs ++ more) (flat_map_more image [] p.before b.raster);
      count = omega (arith, p.count, length_push p.before b.raster);
      room = omega (arith, p.room, shorter rest more w h b);
    }

-- the fault of an image stands within it, or where it ends
pub fault_in_image : (text : List ℕ) (w h : ℕ) (cause : Cause) (at : ℕ) → FaultyImage text w h cause at → at ≤ length text
fault_in_image text w h Magic at n = omega (arith, n.place)
fault_in_image text w h Number at (inl n) = omega (arith, n.place, ap length n.starts)
fault_in_image text w h Number at (inr n) =
    omega (arith, n.place, ap length n.starts, ap length n.reads.whole ∙ length-append (numeral n.width) (space ∷ n.second))
fault_in_image text w h Short at n = omega (arith, n.place)
fault_in_image text w h OtherSize at n = omega (arith, n.place, header_length text n.rest n.width n.height n.opens)
fault_in_image text w h TooLarge at n = absurd n

-- the next image is faulty
pub next_faulty : (bytes rest first : List ℕ) (w h images : ℕ) (fault : StackFault) → Opens bytes w h first → Passed bytes rest w h images → 0 < length rest → FaultOfImage bytes rest w h images fault → FirstFaulty bytes fault
next_faulty bytes rest first w h images fault opens p left bad = record {
  width = w;
  height = h;
  before = p.before;
  rest = rest;
  at = bad.at;
  full = p.full;
  whole = p.whole;
  sizes = λ some. (opens.width, opens.height);
  left = λ some. left;
  sized = go p.before p.whole;
  image = bad.image ∙ p.count;
  byte = omega (arith, bad.byte, ap length p.whole ∙ length-append (images_of w h p.before) rest);
  faulty = bad.faulty;
}
  where
    go : (rasters : List (List ℕ)) → bytes ≡ images_of w h rasters ++ rest → (0 < length rasters) ⊎ (fault.cause ≡ OtherSize → ⊥)
    go [] e = inr (λ is.
        let n : Resized rest w h bad.at = subst (λ c. FaultyImage rest w h c bad.at) is bad.faulty in
        let other : Opens bytes n.width n.height n.rest = subst (λ xs. Opens xs n.width n.height n.rest) (sym e) n.opens in
        let same = opens_same bytes n.rest first n.width n.height w h other opens in
        n.other (same.0, same.1))
    go (x ∷ xs) e = inl (omega arith)

image_from_header : (text : List ℕ) (w h : ℕ) (cause : Cause) (at : ℕ) → FaultyHeader text cause at → FaultyImage text w h cause at
image_from_header text w h Magic at n = n
image_from_header text w h Number at n = n
image_from_header text w h Short at n = absurd n
image_from_header text w h OtherSize at n = absurd n
image_from_header text w h TooLarge at n = absurd n

-- the header of the first image is faulty
pub header_faulty : (bytes : List ℕ) (fault : StackFault) (at : ℕ) → fault.image ≡ 0 → fault.byte ≡ at → FaultyHeader bytes fault.cause at → FirstFaulty bytes fault
header_faulty bytes fault at first place bad = record {
  width = 0;
  height = 0;
  before = [];
  rest = bytes;
  at = at;
  full = tt;
  whole = refl;
  sizes = λ some. absurd (omega (arith, some));
  left = λ some. absurd (omega (arith, some));
  sized = inr (λ is. subst (λ c. FaultyHeader bytes c at) is bad);
  image = first;
  byte = omega (arith, place);
  faulty = image_from_header bytes 0 0 fault.cause at bad;
}
