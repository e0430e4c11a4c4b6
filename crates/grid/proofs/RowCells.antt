-- Where the cells of a row are.
use Rattle.std.proofs.Common.{◌≡◌, ℕ, zero, suc, ◌+◌, ◌-◌, ◌*◌, ◌/◌, ◌%◌, ◌<◌, ◌≤◌, ◌≢◌, sym, refl, ap, ◌∙◌, mod-lt, arith}
use native.Mathlib.Nat.{mod-add-div}
use Rattle.std.proofs.lemmas.Nat.{div_below}
use Rattle.grid.specs.declared.sizes.Sizes.{Sizes}
use Rattle.grid.specs.Geometry.{IsGrid, IsSize, cell_count, axis_size, cell_number, place_on}
use Rattle.grid.specs.RowGeometry.{OnAxis, row_count, row_cell, row_stride, row_of, row_at, LiesIn, RowsPart}
use Rattle.grid.proofs.Places.{low_digit, high_digit, two_digits_below, place_x, place_y, place_z, number_below, number_back, place_below, layer_positive}

module _ (s : Sizes) (grid : IsGrid s) where
  x_positive : 0 < s.nx
  x_positive = grid.0.0.0

  y_positive : 0 < s.ny
  y_positive = grid.0.1.0

  -- a cell of a row is a cell of the grid
  pub row_in_grid : (d m i : ℕ) → OnAxis d → m < row_count s d → i < axis_size s d → row_cell s d m i < cell_count s
  row_in_grid zero m i on b hi = omega arith
  row_in_grid (suc zero) m i on b hi =
      number_below s i (m % s.ny) (m / s.ny) hi (mod-lt m y_positive) (div_below m s.ny s.nz y_positive (omega arith))
  row_in_grid (suc (suc zero)) m i on b hi =
      number_below s (m % s.nx) i (m / s.nx) (mod-lt m x_positive) hi (div_below m s.nx s.nz x_positive (omega arith))
  row_in_grid (suc (suc (suc zero))) m i on b hi =
      number_below s (m % s.nx) (m / s.nx) i (mod-lt m x_positive) (div_below m s.nx s.ny x_positive (omega arith)) hi
  row_in_grid (suc (suc (suc (suc d)))) m i on b hi = omega arith

  -- the place i of a row is the place i on the row's axis
  pub row_place : (d m i : ℕ) → OnAxis d → m < row_count s d → i < axis_size s d → place_on s d (row_cell s d m i) ≡ i
  row_place zero m i on b hi = omega arith
  row_place (suc zero) m i on b hi = place_x s i (m % s.ny) (m / s.ny) hi
  row_place (suc (suc zero)) m i on b hi = place_y s (m % s.nx) i (m / s.nx) (mod-lt m x_positive) hi
  row_place (suc (suc (suc zero))) m i on b hi =
      place_z s (m % s.nx) (m / s.nx) i (mod-lt m x_positive) (div_below m s.nx s.ny x_positive (omega arith))
  row_place (suc (suc (suc (suc d)))) m i on b hi = omega arith

  -- the place of every cell of the row m of the axis d on another axis e
  across : ℕ → ℕ → ℕ → ℕ
  across zero m e = 0
  across (suc zero) m zero = 0
  across (suc zero) m (suc zero) = 0
  across (suc zero) m (suc (suc zero)) = m % s.ny
  across (suc zero) m (suc (suc (suc e))) = m / s.ny
  across (suc (suc zero)) m zero = 0
  across (suc (suc zero)) m (suc zero) = m % s.nx
  across (suc (suc zero)) m (suc (suc e)) = m / s.nx
  across (suc (suc (suc d))) m zero = 0
  across (suc (suc (suc d))) m (suc zero) = m % s.nx
  across (suc (suc (suc d))) m (suc (suc e)) = m / s.nx

  row_across : (d m i e : ℕ) → OnAxis d → m < row_count s d → i < axis_size s d → OnAxis e → e ≢ d → place_on s e (row_cell s d m i) ≡ across d m e
  unfolding across
  row_across zero m i e on b hi oe ne = omega arith
  row_across (suc zero) m i zero on b hi oe ne = omega arith
  row_across (suc zero) m i (suc zero) on b hi oe ne = absurd (ne refl)
  row_across (suc zero) m i (suc (suc zero)) on b hi oe ne = place_y s i (m % s.ny) (m / s.ny) hi (mod-lt m y_positive)
  row_across (suc zero) m i (suc (suc (suc e))) on b hi oe ne = place_z s i (m % s.ny) (m / s.ny) hi (mod-lt m y_positive)
  row_across (suc (suc zero)) m i zero on b hi oe ne = omega arith
  row_across (suc (suc zero)) m i (suc zero) on b hi oe ne = place_x s (m % s.nx) i (m / s.nx) (mod-lt m x_positive)
  row_across (suc (suc zero)) m i (suc (suc zero)) on b hi oe ne = absurd (ne refl)
  row_across (suc (suc zero)) m i (suc (suc (suc e))) on b hi oe ne = place_z s (m % s.nx) i (m / s.nx) (mod-lt m x_positive) hi
  row_across (suc (suc (suc d))) m i zero on b hi oe ne = omega arith
  row_across (suc (suc (suc d))) m i (suc zero) on b hi oe ne = place_x s (m % s.nx) (m / s.nx) i (mod-lt m x_positive)
  row_across (suc (suc (suc d))) m i (suc (suc zero)) on b hi oe ne =
      place_y s (m % s.nx) (m / s.nx) i (mod-lt m x_positive) (div_below m s.nx s.ny x_positive (omega arith))
  row_across (suc (suc (suc d))) m i (suc (suc (suc e))) on b hi oe ne =
      let z : suc (suc (suc e)) ≡ suc (suc (suc d)) = omega arith in absurd (ne z)

  -- all cells of a row have the same place on any other axis
  pub row_other : (d m i j e : ℕ) → OnAxis d → m < row_count s d → i < axis_size s d → j < axis_size s d → OnAxis e → e ≢ d
      → place_on s e (row_cell s d m i) ≡ place_on s e (row_cell s d m j)
  row_other d m i j e on b hi hj oe ne = row_across d m i e on b hi oe ne ∙ sym (row_across d m j e on b hj oe ne)

-- a row's cells stand one stride apart
pub row_steps : (s : Sizes) (d m i : ℕ) → OnAxis d → row_cell s d m i ≡ row_at (row_of s d m) i
row_steps s zero m i on = omega arith
row_steps s (suc zero) m i on = rw mod-add-div (omega arith)
row_steps s (suc (suc zero)) m i on = omega arith
row_steps s (suc (suc (suc zero))) m i on = omega (arith, mod-add-div m s.nx)
row_steps s (suc (suc (suc (suc d)))) m i on = omega arith

-- a number is known by its remainder and its quotient
digits_same : (n a b : ℕ) → a % n ≡ b % n → a / n ≡ b / n → a ≡ b
digits_same n a b e f = sym (mod-add-div a n) ∙ ap (λ (x : ℕ). x + n * (a / n)) e ∙ ap (λ (x : ℕ). b % n + n * x) f ∙ mod-add-div b n

-- a function of the two digits of a number
from_digits : (n a b : ℕ) (f : ℕ → ℕ → ℕ) → a < n → f ((a + n * b) % n) ((a + n * b) / n) ≡ f a b
from_digits n a b f h =
    ap (λ (x : ℕ). f x ((a + n * b) / n)) (low_digit n a b h) ∙ ap (λ (x : ℕ). f a x) (high_digit n a b h)

module _ (s : Sizes) (grid : IsGrid s) where
  -- each cell is in a row, at its place on the axis
  pub row_through : (d k : ℕ) → OnAxis d → k < cell_count s → (m : ℕ) × (m < row_count s d) × (row_cell s d m (place_on s d k) ≡ k)
  row_through zero k on b = (0, omega arith, omega arith)
  row_through (suc zero) k on b =
      let y : place_on s 2 k < s.ny = place_below s grid 2 k (omega arith) (omega arith) b in
      let z : place_on s 3 k < s.nz = place_below s grid 3 k (omega arith) (omega arith) b in (
        place_on s 2 k + s.ny * place_on s 3 k,
        two_digits_below s.ny s.nz (place_on s 2 k) (place_on s 3 k) y z,
        from_digits s.ny (place_on s 2 k) (place_on s 3 k) (λ u v. cell_number s (place_on s 1 k, u, v)) y ∙ number_back s k,
      )
  row_through (suc (suc zero)) k on b =
      let x : place_on s 1 k < s.nx = place_below s grid 1 k (omega arith) (omega arith) b in
      let z : place_on s 3 k < s.nz = place_below s grid 3 k (omega arith) (omega arith) b in (
        place_on s 1 k + s.nx * place_on s 3 k,
        two_digits_below s.nx s.nz (place_on s 1 k) (place_on s 3 k) x z,
        from_digits s.nx (place_on s 1 k) (place_on s 3 k) (λ u v. cell_number s (u, place_on s 2 k, v)) x ∙ number_back s k,
      )
  row_through (suc (suc (suc zero))) k on b =
      let x : place_on s 1 k < s.nx = place_below s grid 1 k (omega arith) (omega arith) b in
      let y : place_on s 2 k < s.ny = place_below s grid 2 k (omega arith) (omega arith) b in (
        place_on s 1 k + s.nx * place_on s 2 k,
        two_digits_below s.nx s.ny (place_on s 1 k) (place_on s 2 k) x y,
        from_digits s.nx (place_on s 1 k) (place_on s 2 k) (λ u v. cell_number s (u, v, place_on s 3 k)) x ∙ number_back s k,
      )
  row_through (suc (suc (suc (suc d)))) k on b = (0, omega arith, omega arith)

  -- two rows that have a cell in common are one
  pub same_row : (d m n i j : ℕ) → OnAxis d → m < row_count s d → n < row_count s d → i < axis_size s d → j < axis_size s d
      → row_cell s d m i ≡ row_cell s d n j → m ≡ n
  unfolding across
  same_row d m n i j on hm hn hi hj e = go d on other
    where
      other : (a : ℕ) → OnAxis a → a ≢ d → across s grid d m a ≡ across s grid d n a
      other a oa ne = sym (row_across s grid d m i a on hm hi oa ne) ∙ ap (place_on s a) e ∙ row_across s grid d n j a on hn hj oa ne

      go : (d' : ℕ) → OnAxis d' → ((a : ℕ) → OnAxis a → a ≢ d' → across s grid d' m a ≡ across s grid d' n a) → m ≡ n
      go zero on' o = omega arith
      go (suc zero) on' o =
          digits_same s.ny m n (o 2 (omega arith, omega arith) (omega arith)) (o 3 (omega arith, omega arith) (omega arith))
      go (suc (suc zero)) on' o =
          digits_same s.nx m n (o 1 (omega arith, omega arith) (omega arith)) (o 3 (omega arith, omega arith) (omega arith))
      go (suc (suc (suc zero))) on' o =
          digits_same s.nx m n (o 1 (omega arith, omega arith) (omega arith)) (o 2 (omega arith, omega arith) (omega arith))
      go (suc (suc (suc (suc d')))) on' o = omega arith

  pub axis_is_size : (d : ℕ) → OnAxis d → IsSize (axis_size s d)
  axis_is_size zero on = (omega arith, omega arith)
  axis_is_size (suc zero) on = grid.0.0
  axis_is_size (suc (suc zero)) on = grid.0.1
  axis_is_size (suc (suc (suc d))) on = grid.0.2

  stride_positive : (d : ℕ) → OnAxis d → 1 ≤ row_stride s d
  stride_positive zero on = omega arith
  stride_positive (suc zero) on = omega arith
  stride_positive (suc (suc zero)) on = grid.0.0.0
  stride_positive (suc (suc (suc d))) on = layer_positive s grid

  -- a row of the grid lies among its cells
  pub row_lies : (d m : ℕ) → OnAxis d → m < row_count s d → LiesIn (row_of s d m) (cell_count s)
  row_lies d m on hm =
      let size = axis_is_size d on in
      let last : row_cell s d m (axis_size s d - 1) < cell_count s = row_in_grid s grid d m (axis_size s d - 1) on hm (omega (arith, size.0)) in
      record {
        stepped = stride_positive d on;
        not_empty = size.0;
        few_places = size.1;
        last_below = omega (arith, row_steps s d m (axis_size s d - 1) on);
      }

pub rows_part : RowsPart
rows_part s grid d on =
    record {
      in_grid = λ m i hm hi. row_in_grid s grid d m i on hm hi;
      at_its_place = λ m i hm hi. row_place s grid d m i on hm hi;
      one_stride_apart = λ m i. row_steps s d m i on;
      each_in_a_row = λ k hk. row_through s grid d k on hk;
      in_no_other = λ m n i j hm hn hi hj e. (
        same_row s grid d m n i j on hm hn hi hj e,
        sym (row_place s grid d m i on hm hi) ∙ ap (place_on s d) e ∙ row_place s grid d n j on hn hj,
      );
      lies_in_grid = λ m hm. row_lies s grid d m on hm;
    }
