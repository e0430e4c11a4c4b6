-- A cell's number and its places are inverse to one another.
use Rattle.std.proofs.Common.{◌≡◌, ℕ, zero, suc, ◌+◌, ◌*◌, ◌/◌, ◌%◌, ◌<◌, ◌≤◌, true, ltb, sym, ap, ◌∙◌, subst, mod-lt, mod-eq_of_lt, mul_assoc, mul-le-mul_left, mul-zero, zero-add, mul-one, mul-add, arith}
use native.Mathlib.Nat.{add_right_comm, div-eq_of_lt, add-mul-mod_self_left, add-mul-div_left, div-div-eq-div-mul, mod-add-div}
use Rattle.std.proofs.lemmas.Nat.{mul-add-lt, mul-le, div_below}
use Rattle.std.proofs.lemmas.Bool.{and_parts, and_from, ltb-true, lt-ltb}
use Rattle.grid.specs.declared.sizes.Sizes.{Sizes}
use Rattle.grid.specs.Geometry.{Place, SizesFit, IsGrid, cell_count, axis_size, inside, cell_number, place_on, place_of}
use Rattle.grid.specs.Places.{PlacesInvert}

-- a number of two digits, the lower of n kinds
pub low_digit : (n x q : ℕ) → x < n → (x + n * q) % n ≡ x
low_digit n x q h = add-mul-mod_self_left x n q ∙ mod-eq_of_lt h

pub high_digit : (n x q : ℕ) → x < n → (x + n * q) / n ≡ q
high_digit n x q h =
    let p : 0 < n = omega arith in
    add-mul-div_left x q p ∙ ap (λ (a : ℕ). a + q) (div-eq_of_lt h) ∙ zero-add q

pub two_digits_below : (n m x q : ℕ) → x < n → q < m → x + n * q < n * m
two_digits_below n m x q h k = omega (arith, mul-add-lt q n x m k h)

-- the place p lies in the grid, axis by axis
pub record Below (s : Sizes) (p : Place) : Type 0 where
  pub x : p.0 < s.nx
  pub y : p.1 < s.ny
  pub z : p.2 < s.nz

pub below_from_inside : (s : Sizes) (p : Place) → inside s p ≡ true → Below s p
below_from_inside s p h =
    let a = and_parts (ltb p.0 s.nx) _ h in
    let b = and_parts (ltb p.1 s.ny) _ a.1 in
    record {
      x = ltb-true p.0 s.nx a.0;
      y = ltb-true p.1 s.ny b.0;
      z = ltb-true p.2 s.nz b.1;
    }

pub inside_from_below : (s : Sizes) (p : Place) → Below s p → inside s p ≡ true
inside_from_below s p b =
    and_from (ltb p.0 s.nx) _ (lt-ltb p.0 s.nx b.x)
    (and_from (ltb p.1 s.ny) _ (lt-ltb p.1 s.ny b.y) (lt-ltb p.2 s.nz b.z))

module _ (s : Sizes) where
  pub place_x : (x y z : ℕ) → x < s.nx → place_on s 1 (cell_number s (x, y, z)) ≡ x
  place_x x y z hx = low_digit s.nx x (y + s.ny * z) hx

  pub place_y : (x y z : ℕ) → x < s.nx → y < s.ny → place_on s 2 (cell_number s (x, y, z)) ≡ y
  place_y x y z hx hy = ap (λ (a : ℕ). a % s.ny) (high_digit s.nx x (y + s.ny * z) hx) ∙ low_digit s.ny y z hy

  pub place_z : (x y z : ℕ) → x < s.nx → y < s.ny → place_on s 3 (cell_number s (x, y, z)) ≡ z
  place_z x y z hx hy =
      sym (div-div-eq-div-mul (cell_number s (x, y, z)) s.nx s.ny)
      ∙ ap (λ (a : ℕ). a / s.ny) (high_digit s.nx x (y + s.ny * z) hx) ∙ high_digit s.ny y z hy

  pub number_below : (x y z : ℕ) → x < s.nx → y < s.ny → z < s.nz → cell_number s (x, y, z) < cell_count s
  number_below x y z hx hy hz =
      rw mul_assoc (two_digits_below s.nx (s.ny * s.nz) x (y + s.ny * z) hx (two_digits_below s.ny s.nz y z hy hz))

  pub number_inside : (p : Place) → inside s p ≡ true → cell_number s p < cell_count s
  number_inside p h = let b = below_from_inside s p h in number_below p.0 p.1 p.2 b.x b.y b.z

  pub number_back : (k : ℕ) → cell_number s (place_of s k) ≡ k
  number_back k =
      rw (← div-div-eq-div-mul k s.nx s.ny, mod-add-div (k / s.nx) s.ny, mod-add-div k s.nx)

  pub place_back : (p : Place) → inside s p ≡ true → place_of s (cell_number s p) ≡ p
  place_back p h =
      let b = below_from_inside s p h in
      let ex = place_x p.0 p.1 p.2 b.x in
      let ey = place_y p.0 p.1 p.2 b.x b.y in
      let ez = place_z p.0 p.1 p.2 b.x b.y in
      cc

  -- the place that has a number, of places that lie in their layer
  pub place_found : (x y z k : ℕ) → x < s.nx → y < s.ny → cell_number s (x, y, z) ≡ k → place_of s k ≡ (x, y, z)
  place_found x y z k hx hy e =
      let ex = place_x x y z hx in
      let ey = place_y x y z hx hy in
      let ez = place_z x y z hx hy in
      cc

  -- the next cell stands one place on, or at the start of the next row, or of the next layer
  module _ (x y z : ℕ) (in_row : x < s.nx) (in-layer : y < s.ny) where
    pub next_in_row : x + 1 < s.nx → place_of s (cell_number s (x, y, z) + 1) ≡ (x + 1, y, z)
    next_in_row h = place_found (x + 1) y z _ h in-layer (omega arith)

    pub next_row : x + 1 ≡ s.nx → y + 1 < s.ny → place_of s (cell_number s (x, y, z) + 1) ≡ (0, y + 1, z)
    next_row e h =
        place_found 0 (y + 1) z _ (omega arith) h
        (let m : s.nx * (y + 1 + s.ny * z) ≡ s.nx * (y + s.ny * z) + s.nx = rw (add_right_comm y 1 (s.ny * z), mul-add, mul-one) in omega arith)

    pub next_layer : x + 1 ≡ s.nx → y + 1 ≡ s.ny → place_of s (cell_number s (x, y, z) + 1) ≡ (0, 0, z + 1)
    next_layer e f =
        place_found 0 0 (z + 1) _ (omega arith) (omega arith)
        (let l : s.ny * (z + 1) ≡ y + s.ny * z + 1 = omega (arith, mul-add s.ny z 1, mul-one s.ny) in
        let m : s.nx * (y + s.ny * z + 1) ≡ s.nx * (y + s.ny * z) + s.nx = rw (mul-add, mul-one) in
        let n : s.nx * (0 + s.ny * (z + 1)) ≡ s.nx * (y + s.ny * z + 1) = ap (λ a. s.nx * a) (zero-add (s.ny * (z + 1)) ∙ l) in
        omega arith)

  module _ (x-least : 1 ≤ s.nx) (y-least : 1 ≤ s.ny) where
    pub place_below_least : (e k : ℕ) → 1 ≤ e → e ≤ 3 → k < cell_count s → place_on s e k < axis_size s e
    place_below_least zero k h l b = omega arith
    place_below_least (suc zero) k h l b = mod-lt k x-least
    place_below_least (suc (suc zero)) k h l b = mod-lt (k / s.nx) y-least
    place_below_least (suc (suc (suc zero))) k h l b =
        let p : 0 < s.nx * s.ny = omega (arith, mul-le-mul_left s.nx y-least) in
        div_below k (s.nx * s.ny) s.nz p (omega arith)
    place_below_least (suc (suc (suc (suc e)))) k h l b = omega arith

-- a cell's place on an axis is below the axis's size
pub place_below : (s : Sizes) → IsGrid s → (e k : ℕ) → 1 ≤ e → e ≤ 3 → k < cell_count s → place_on s e k < axis_size s e
place_below s grid = place_below_least s grid.0.0.0 grid.0.1.0

pub place_inside : (s : Sizes) → IsGrid s → (k : ℕ) → k < cell_count s → inside s (place_of s k) ≡ true
place_inside s grid k h =
    inside_from_below s (place_of s k) record {
      x = place_below s grid 1 k (omega arith) (omega arith) h;
      y = place_below s grid 2 k (omega arith) (omega arith) h;
      z = place_below s grid 3 k (omega arith) (omega arith) h;
    }

-- going from cell to cell by their places
module _ (s : Sizes) (grid : IsGrid s) where
  pub first_place : place_of s 0 ≡ (0, 0, 0)
  first_place =
      place_found s 0 0 0 0 (omega (arith, grid.0.0.0)) (omega (arith, grid.0.1.0))
      (let m : s.ny * 0 ≡ 0 = mul-zero s.ny in rw (m, mul-zero s.nx))

  module _ (k : ℕ) (p : Place) (here : p ≡ place_of s k) where
    pub placed_inside : k < cell_count s → inside s p ≡ true
    placed_inside h = subst (λ q. inside s q ≡ true) (sym here) (place_inside s grid k h)

    pub next_placed : (q : Place) → q ≡ place_of s (cell_number s p + 1) → q ≡ place_of s (k + 1)
    next_placed q e = e ∙ ap (λ n. place_of s (n + 1)) (ap (cell_number s) here ∙ number_back s k)

pub places_invert : PlacesInvert
places_invert s grid =
    record {
      number_below = number_inside s;
      place_back = place_back s;
      place_inside = place_inside s grid;
      number_back = λ k h. number_back s k;
    }

-- products of sizes do not wrap
pub cell_count_small : (s : Sizes) → SizesFit s → cell_count s ≤ 1023 * 1023 * 1023
cell_count_small s h = mul-le (s.nx * s.ny) s.nz (1023 * 1023) 1023 (mul-le s.nx s.ny 1023 1023 h.0.1 h.1.1) h.2.1

pub layer_positive : (s : Sizes) → IsGrid s → 0 < s.nx * s.ny
layer_positive s grid = omega (arith, mul-le-mul_left s.nx grid.0.1.0, grid.0.0.0)
