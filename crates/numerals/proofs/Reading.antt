-- Why a text is read as a number in one way at most, and when it is not read at all.
use Rattle.std.proofs.Common.{◌≡◌, ℕ, ◌+◌, ◌-◌, ◌*◌, ◌<◌, ◌≤◌, ◌⊎◌, inl, List, [], ◌∷◌, ◌++◌, length, sym, refl, ap, ◌∙◌, subst, ⊎_elim, arith}
use Rattle.std.specs.List.{AllByRecursion}
use Rattle.std.proofs.lemmas.List.{append_assoc, append-nil}
use Rattle.numerals.specs.Numerals.{numeral, NoDigitNext, BeginsWith, NoNumber, Unread}
use Rattle.numerals.proofs.Digits.{IsDigit, numeral_none, numeral_more, numeral_digits, same_numeral, longer_no_smaller, no_zero_in_front}

-- two ways to cut a text after digits, one where the digits end: that one goes on where the other stops
pub record Ahead (ds es u t : List ℕ) : Type 0 where
  pub more : List ℕ
  pub longer : es ≡ ds ++ more
  pub left : u ≡ more ++ t

ahead : (ds es u t : List ℕ) → NoDigitNext t → AllByRecursion IsDigit ds → ds ++ u ≡ es ++ t → Ahead ds es u t
ahead [] es u t stops all e = record { more = es; longer = refl; left = e }
ahead (d ∷ ds) [] u [] stops all e = let h = ap length e in absurd (omega (arith, h))
ahead (d ∷ ds) [] u (x ∷ t) stops all e =
    let h : d ≡ x = cc in
    absurd (⊎_elim (λ l. omega (arith, all.0)) (λ l. omega (arith, all.0)) stops)
ahead (d ∷ ds) (x ∷ es) u t stops all e =
    let h : x ≡ d = cc in
    let k : ds ++ u ≡ es ++ t = cc in
    let r = ahead ds es u t stops all.1 k in
    record { more = r.more; longer = ap (λ y. y ∷ es) h ∙ ap (λ ys. d ∷ ys) r.longer; left = r.left }

digit_within : (ds : List ℕ) (f : ℕ) (fs : List ℕ) → AllByRecursion IsDigit (ds ++ f ∷ fs) → IsDigit f
digit_within [] f fs h = h.0
digit_within (d ∷ ds) f fs h = digit_within ds f fs h.1

-- what goes on after the digits of a number, and still belongs to one, is a digit
next_is_digit : (v w f : ℕ) (fs : List ℕ) → numeral w ≡ numeral v ++ f ∷ fs → IsDigit f
next_is_digit v w f fs e = digit_within (numeral v) f fs (subst (AllByRecursion IsDigit) e (numeral_digits w))

same_head : (x y : ℕ) (xs ys : List ℕ) → x ∷ xs ≡ y ∷ ys → x ≡ y
same_head x y xs ys p = cc

-- the digits at the front of a text are those of one number only
pub digits_same : (v w : ℕ) (t u : List ℕ) → NoDigitNext t → NoDigitNext u → numeral v ++ t ≡ numeral w ++ u → (v ≡ w) × (t ≡ u)
digits_same v w t u stop_t stop_u e = go a.more a.longer a.left
  where
    a : Ahead (numeral v) (numeral w) t u
    a = ahead (numeral v) (numeral w) t u stop_u (numeral_digits v) e

    go : (fs : List ℕ) → numeral w ≡ numeral v ++ fs → t ≡ fs ++ u → (v ≡ w) × (t ≡ u)
    go [] p q = (same_numeral v w (sym (p ∙ append-nil (numeral v))), q)
    go (f ∷ fs) p q =
        let digit = next_is_digit v w f fs p in
        absurd (⊎_elim (λ l. omega (arith, digit)) (λ l. omega (arith, digit)) (subst NoDigitNext q stop_t))

-- a number is read in one way only
pub reads_same : (v w end : ℕ) (t u : List ℕ) → end < 48 → numeral v ++ end ∷ t ≡ numeral w ++ end ∷ u → (v ≡ w) × (t ≡ u)
reads_same v w end t u small e =
    let s = digits_same v w (end ∷ t) (end ∷ u) (inl small) (inl small) e in
    let rest : t ≡ u = cc in
    (s.0, rest)

-- the digits so far are the number v
module _ (text rest : List ℕ) (v most : ℕ) (so_far : text ≡ numeral v ++ rest) where
  pub no_number_at_end : v ≡ 0 → NoDigitNext rest → NoNumber text most
  no_number_at_end none stops w t r =
      let s = digits_same v w rest t stops r.stops (sym so_far ∙ r.whole) in
      omega (arith, s.0, r.range)

  -- the next byte is a digit
  module _ (b : ℕ) (after : List ℕ) (has : rest ≡ b ∷ after) (digit : (48 ≤ b) × (b ≤ 57)) where
    grown : 1 ≤ v * 10 + (b - 48) → numeral v ++ b ∷ after ≡ numeral (v * 10 + (b - 48)) ++ after
    grown some =
        let is : b ≡ 48 + (b - 48) = omega arith in
        ap (λ x. numeral v ++ x ∷ after) is
        ∙ sym (append_assoc (numeral v) ((48 + (b - 48)) ∷ []) after)
        ∙ ap (λ xs. xs ++ after) (sym (numeral_more v (b - 48) (omega arith) (omega (arith, some))))

    pub digit_here : 1 ≤ v * 10 + (b - 48) → text ≡ numeral (v * 10 + (b - 48)) ++ after
    digit_here some = so_far ∙ ap (λ xs. numeral v ++ xs) has ∙ grown some

    -- and leads out of the range
    pub no_number_out : (v * 10 + (b - 48) < 1) ⊎ (most < v * 10 + (b - 48)) → NoNumber text most
    no_number_out out w t r = go a.more a.longer (sym has ∙ a.left)
      where
        a : Ahead (numeral v) (numeral w) rest t
        a = ahead (numeral v) (numeral w) rest t r.stops (numeral_digits v) (sym so_far ∙ r.whole)

        go : (fs : List ℕ) → numeral w ≡ numeral v ++ fs → b ∷ after ≡ fs ++ t → ⊥
        go [] e p = ⊎_elim (λ l. omega (arith, digit)) (λ l. omega (arith, digit)) (subst NoDigitNext (sym p) r.stops)
        go (f ∷ fs) e p =
            let same : f ≡ b = sym (same_head b f after (fs ++ t) p) in
            let e' : numeral w ≡ numeral v ++ b ∷ fs = e ∙ ap (λ x. numeral v ++ x ∷ fs) same in
            ⊎_elim
            (λ z.
            let vz : v ≡ 0 = omega arith in
            let bz : b ≡ 48 = omega (arith, digit) in
            no_zero_in_front w fs (omega (arith, r.range)) (e' ∙ ap (λ x. numeral x ++ b ∷ fs) vz ∙ ap (λ xs. xs ++ b ∷ fs) numeral_none ∙ ap (λ x. x ∷ fs) bz))
            (λ big.
            let is : b ≡ 48 + (b - 48) = omega (arith, digit) in
            let more : numeral w ≡ numeral (v * 10 + (b - 48)) ++ fs =
            e'
            ∙ ap (λ x. numeral v ++ x ∷ fs) is
            ∙ sym (append_assoc (numeral v) ((48 + (b - 48)) ∷ []) fs)
            ∙ ap (λ xs. xs ++ fs) (sym (numeral_more v (b - 48) (omega (arith, digit)) (omega (arith, big)))) in
            omega (arith, longer_no_smaller (v * 10 + (b - 48)) w fs more, r.range, big))
            out

-- the digits at the front are a number's, and its ending does not come next
pub unread_unended : (text : List ℕ) (end most v : ℕ) (u : List ℕ) → end < 48 → BeginsWith text most v u → ((t : List ℕ) → u ≡ end ∷ t → ⊥) → Unread text end most
unread_unended text end most v u small b other w t r =
    other t (digits_same v w u (end ∷ t) b.stops (inl small) (sym b.whole ∙ r.whole)).1
