-- A header put together from its parts, and an image from its header and rows.
use Rattle.std.proofs.Common.{◌≡◌, ℕ, ◌+◌, ◌-◌, ◌≤◌, List, [], ◌∷◌, ◌++◌, length, get_or, take, drop, sym, ap, ◌∙◌, arith}
use Rattle.std.proofs.lemmas.List.{append_assoc, length-append, take-append-drop, take_rest, length-take-le}
use Rattle.grid.specs.Geometry.{IsSize}
use Rattle.numerals.specs.Numerals.{numeral, space, line_feed, Reads, Unread}
use Rattle.numerals.specs.Prefixes.{Follows}
use Rattle.numerals.proofs.Digits.{numeral_short}
use Rattle.numerals.proofs.Reading.{reads_same}
use Rattle.pbm.specs.Form.{magic, header, raster_bytes}
use Rattle.pbm.specs.Faults.{Opens, Begins, NoHeight}

-- a text whose first three bytes are known
pub split_three : (xs : List ℕ) (a b c : ℕ) → 3 ≤ length xs → get_or xs 0 0 ≡ a → get_or xs 1 0 ≡ b → get_or xs 2 0 ≡ c → xs ≡ a ∷ b ∷ c ∷ take (length xs - 3) (drop 3 xs)
split_three [] a b c l p q r = absurd (omega arith)
split_three (x ∷ []) a b c l p q r = absurd (omega arith)
split_three (x ∷ y ∷ []) a b c l p q r = absurd (omega arith)
split_three (x ∷ y ∷ z ∷ xs) a b c l p q r = let rest : take (length (x ∷ y ∷ z ∷ xs) - 3) xs ≡ xs = take_rest (x ∷ y ∷ z ∷ xs) 3 in cc

pub header_then : (w h : ℕ) (rest : List ℕ) → header w h ++ rest ≡ magic ++ (numeral w ++ space ∷ (numeral h ++ line_feed ∷ rest))
header_then w h rest =
    ap (λ xs. magic ++ xs) (append_assoc (numeral w) (space ∷ (numeral h ++ line_feed ∷ [])) rest)
    ∙ ap (λ xs. magic ++ (numeral w ++ space ∷ xs)) (append_assoc (numeral h) (line_feed ∷ []) rest)

module _ (text sizes second : List ℕ) (w : ℕ) (starts : Follows magic sizes text) (first : Reads sizes space 1023 w second) where
  pub header_made : (h : ℕ) (rest : List ℕ) → Reads second line_feed 1023 h rest → Opens text w h rest
  header_made h rest next = record {
    width = first.range;
    height = next.range;
    whole =
        starts
        ∙ ap (λ xs. magic ++ xs) first.whole
        ∙ ap (λ xs. magic ++ (numeral w ++ space ∷ xs)) next.whole
        ∙ sym (header_then w h rest);
  }

  pub before_height : length text ≡ 3 + (length (numeral w) + 1) + length second
  before_height =
      let a : length text ≡ 3 + length sizes = ap length starts ∙ omega arith in
      let b : length sizes ≡ length (numeral w) + (length second + 1) = ap length first.whole ∙ length-append (numeral w) (space ∷ second) ∙ omega arith in
      omega arith

  pub no_height : Unread second line_feed 1023 → NoHeight text (length text - length second)
  no_height unread = record {
    sizes = sizes;
    starts = starts;
    width = w;
    second = second;
    reads = first;
    unread = unread;
    place = omega (arith, before_height);
  }

pub image_made : (text rest : List ℕ) (v g w h n : ℕ) → v ≡ w → g ≡ h → n ≡ raster_bytes w h → Opens text v g rest → n ≤ length rest → Begins text w h (take (length rest - n) (drop n rest))
image_made text rest v g w h n ev eg is opens enough = record {
  raster = take n rest;
  full = length-take-le n rest enough ∙ is;
  whole =
      opens.whole
      ∙ ap (λ x. header x g ++ rest) ev
      ∙ ap (λ x. header w x ++ rest) eg
      ∙ ap (λ xs. header w h ++ xs) (sym (take-append-drop n rest))
      ∙ sym (append_assoc (header w h) (take n rest) (drop n rest))
      ∙ ap (λ xs. (header w h ++ take n rest) ++ xs) (sym (take_rest rest n));
}

-- a header is read in one way only
pub opens_same : (text r s : List ℕ) (v g w h : ℕ) → Opens text v g r → Opens text w h s → (v ≡ w) × (g ≡ h) × (r ≡ s)
opens_same text r s v g w h p q =
    let e = sym (header_then v g r) ∙ sym p.whole ∙ q.whole ∙ header_then w h s in
    let f : numeral v ++ space ∷ (numeral g ++ line_feed ∷ r) ≡ numeral w ++ space ∷ (numeral h ++ line_feed ∷ s) = cc in
    let first = reads_same v w space (numeral g ++ line_feed ∷ r) (numeral h ++ line_feed ∷ s) (omega arith) f in
    let second = reads_same g h line_feed r s (omega arith) first.1 in
    (first.0, second.0, second.1)

pub header_length : (text rest : List ℕ) (w h : ℕ) → Opens text w h rest → length text ≡ length (header w h) + length rest
header_length text rest w h o = ap length o.whole ∙ length-append (header w h) rest

-- a header is at most 13 bytes
pub header_short : (w h : ℕ) → IsSize w → IsSize h → length (header w h) ≤ 13
header_short w h iw ih =
    omega (arith, numeral_short 4 w (omega (arith, iw.1)), numeral_short 4 h (omega (arith, ih.1)), length-append (numeral w) (space ∷ (numeral h ++ line_feed ∷ [])), length-append (numeral h) (line_feed ∷ []))
