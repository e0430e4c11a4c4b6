-- The bytes of a number, and their places in the file.
use Rattle.std.proofs.Common.{◌≡◌, ℕ, zero, suc, ◌+◌, ◌-◌, ◌*◌, ◌/◌, ◌%◌, ◌<◌, ◌≤◌, ltb, List, [], ◌∷◌, ◌++◌, length, get_or, take, drop, Ok, Err, Result, ⊎_elim, sym, refl, ap, ◌∙◌, subst, arith}
use borrow.Rule.Slice.PartMut.{put_mid, post_of}
use Rattle.std.proofs.Math.Nat.{mul-add-div, mul-add-mod_self_left, div-eq_of_lt, mod-eq_of_lt}
use Rattle.std.proofs.lemmas.List.{get_or-append-add, get_or_append_left, get_or-take, get_or-drop, length-take-le}
use Rattle.std.proofs.lemmas.Bool.{cond-true, cond-false, lt-ltb, le-ltb, cases_lt}
use Rattle.grid.specs.declared.cell.Cell.{Cell}
use Rattle.volumes.specs.declared.bytes.ChunkFault.{ChunkFault}
use Rattle.volumes.specs.declared.bytes.ChunkFault.TheVariants.{Uneven, PastEnd}
use Rattle.grid.specs.Cells.{cell_at, no_cell}
use Rattle.volumes.specs.Files.{low_byte, point_number, point_byte, file_byte, PutsBy, IsByteOf}

-- the bytes of a number of 64 bits, the lowest first
abbrev pub eight_bytes : ℕ → List ℕ
eight_bytes v =
    v % 256 ∷ v / 256 % 256 ∷ v / 65536 % 256 ∷ v / 16777216 % 256 ∷ v / 4294967296 % 256 ∷ v / 1099511627776 % 256 ∷ v / 281474976710656 % 256 ∷ v / 72057594037927936 % 256 ∷ []

lowest : (v : ℕ) → v % 256 ≡ low_byte v 0
lowest v = omega arith

byte_of_eight : (v j : ℕ) → j < 8 → get_or (eight_bytes v) j 0 ≡ low_byte v j
byte_of_eight v zero h = lowest v
byte_of_eight v (suc zero) h = refl
byte_of_eight v (suc (suc zero)) h = refl
byte_of_eight v (suc (suc (suc zero))) h = refl
byte_of_eight v (suc (suc (suc (suc zero)))) h = refl
byte_of_eight v (suc (suc (suc (suc (suc zero))))) h = refl
byte_of_eight v (suc (suc (suc (suc (suc (suc zero)))))) h = refl
byte_of_eight v (suc (suc (suc (suc (suc (suc (suc zero))))))) h = refl
byte_of_eight v (suc (suc (suc (suc (suc (suc (suc (suc j)))))))) h = absurd (omega arith)

-- the cells of a chunk, counted from its first: it goes from `start`, which is `from`, to `past`, n cells on
pub chosen : (cells : List Cell) (from n k start past : ℕ) → start ≡ from → past ≡ from + n → k < n → get_or (take (past - start) (drop start cells)) k no_cell ≡ cell_at cells (from + k)
chosen cells from n k start past begins ends h =
    get_or-take (past - start) (drop start cells) k no_cell (omega arith) ∙ get_or-drop start cells k no_cell ∙ ap (λ (m : ℕ). cell_at cells (m + k)) begins

-- the chunk that is filled, with `width` bytes of a number of each cell from the cell `from` on
module _ (gives : ℕ → ℕ → Type 0) (width from : ℕ) (some : 0 < width) (few : width ≤ 8) where
  -- the bytes of the first k cells are there
  abbrev pub Filled : ℕ → List ℕ → Type 0
  Filled k bytes = (i : ℕ) → i < width * k → IsByteOf gives width from i (get_or bytes i 0)

  -- where a place stands: below the cell k, or at a byte of it
  module _ (k v e : ℕ) (before ys : List ℕ) (fits : width * k ≤ length before) (are : ys ≡ take width (eight_bytes v)) (given : gives (from + k) v) where
    long : length ys ≡ width
    long = ap length are ∙ length-take-le width (eight_bytes v) few

    byte : (j : ℕ) → j < width → get_or ys j 0 ≡ low_byte v j
    byte j h =
        ap (λ (l : List ℕ). get_or l j 0) are
        ∙ get_or-take width (eight_bytes v) j 0 h
        ∙ byte_of_eight v j (omega arith)

    written : (j : ℕ) → j < width → get_or (put_mid (width * k) e before ys) (width * k + j) 0 ≡ low_byte v j
    written j h =
        ap (λ (n : ℕ). get_or (put_mid (width * k) e before ys) (n + j) 0) (sym (length-take-le (width * k) before fits))
        ∙ get_or-append-add (take (width * k) before) (ys ++ post_of (width * k) e before) j 0
        ∙ get_or_append_left ys (post_of (width * k) e before) 0 j (omega (arith, long))
        ∙ byte j h

    kept : (i : ℕ) → i < width * k → get_or (put_mid (width * k) e before ys) i 0 ≡ get_or before i 0
    kept i h =
        get_or_append_left (take (width * k) before) (ys ++ post_of (width * k) e before) 0 i (omega (arith, length-take-le (width * k) before fits))
        ∙ get_or-take (width * k) before i 0 h

    of_cell : (j : ℕ) → j < width → IsByteOf gives width from (width * k + j) (get_or (put_mid (width * k) e before ys) (width * k + j) 0)
    of_cell j h =
        let at_cell : (width * k + j) / width ≡ k = mul-add-div some k j ∙ ap (λ (n : ℕ). k + n) (div-eq_of_lt h) ∙ omega arith in
        let at_byte : (width * k + j) % width ≡ j = mul-add-mod_self_left width k j ∙ mod-eq_of_lt h in
        (v, subst (λ (n : ℕ). gives (from + n) v) (sym at_cell) given, written j h ∙ ap (low_byte v) (sym at_byte))

    pub one_cell_more : Filled k before → Filled (k + 1) (put_mid (width * k) e before ys)
    one_cell_more so_far i h =
        let after : List ℕ = put_mid (width * k) e before ys in
        ⊎_elim
        (λ below. subst (IsByteOf gives width from i) (sym (kept i below)) (so_far i below))
        (λ past.
        let back : width * k + (i - width * k) ≡ i = omega arith in
        subst (λ n. IsByteOf gives width from n (get_or after n 0)) back (of_cell (i - width * k) (omega arith)))
        (cases_lt i (width * k))

-- other facts of each byte of a chunk from the cell `start`, which is `from`
pub puts_weaker : {X : Type 0} (r : Result X ChunkFault) (width n start from : ℕ) (P Q : ℕ → ℕ → Type 0) (before after : List ℕ) → start ≡ from
    → (length before % width ≡ 0 → from + length before / width ≤ n → (i b : ℕ) → i < length before → P i b → Q i b) → PutsBy r width n start P before after → PutsBy r width n from Q before after
puts_weaker (Ok x) width n start from P Q before after same f h =
    let few : from + length before / width ≤ n = omega (arith, h.1) in
    (h.0, few, h.2, λ i l. f h.0 few i (get_or after i 0) l (h.3 i l))
puts_weaker (Err Uneven) width n start from P Q before after same f h = h
puts_weaker (Err PastEnd) width n start from P Q before after same f h = (h.0, omega (arith, h.1), h.2)

-- a byte of the values, and a byte of the points, in the file
pub value_in_file : (cells : List Cell) (from i b : ℕ) → from + i / 8 < length cells → b ≡ low_byte (cell_at cells (from + i / 8)).value (i % 8)
    → b ≡ file_byte cells (8 * from + i)
unfolding file_byte
value_in_file cells from i b h e =
    let p = 8 * from + i in
    let cell : p / 8 ≡ from + i / 8 = omega arith in
    let byte : p % 8 ≡ i % 8 = omega arith in
    e
    ∙ ap (λ (k : ℕ). low_byte (cell_at cells k).value (i % 8)) (sym cell)
    ∙ ap (low_byte (cell_at cells (p / 8)).value) (sym byte)
    ∙ sym (cond-true (ltb p (8 * length cells)) _ _ (lt-ltb p (8 * length cells) (omega arith)))

pub point_in_file : (cells : List Cell) (from i b : ℕ) → b ≡ low_byte (point_number (cell_at cells (from + i / 4)).point) (i % 4)
    → b ≡ file_byte cells (8 * length cells + (4 * from + i))
unfolding file_byte
point_in_file cells from i b e =
    let p = 4 * from + i in
    let cell : p / 4 ≡ from + i / 4 = omega arith in
    let byte : p % 4 ≡ i % 4 = omega arith in
    let past : 8 * length cells + p - 8 * length cells ≡ p = omega arith in
    e
    ∙ ap (λ (k : ℕ). low_byte (point_number (cell_at cells k).point) (i % 4)) (sym cell)
    ∙ ap (low_byte (point_number (cell_at cells (p / 4)).point)) (sym byte)
    ∙ ap (point_byte cells) (sym past)
    ∙ sym (cond-false (ltb (8 * length cells + p) (8 * length cells)) _ _ (le-ltb (8 * length cells + p) (8 * length cells) (omega arith)))
