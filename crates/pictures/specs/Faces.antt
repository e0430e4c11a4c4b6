-- The half-grid of a picture: which of its places lie on the faces between marked and unmarked cells.
use Rattle.std.specs.Prelude.{◌≡◌, ℕ, ◌+◌, ◌-◌, ◌*◌, ◌/◌, ◌≤◌, Bool, true, false, not, ◌&&◌, ◌||◌, ◌≢◌, Decides}
use Rattle.grid.specs.declared.sizes.Sizes.{Sizes}
use Rattle.grid.specs.Geometry.{Place, as_grid, inside}

pub data Axis : Type 0 where
  first second third : Axis

-- a place's coordinate on an axis
abbrev pub along : Axis → Place → ℕ
along first p = p.0
along second p = p.1
along third p = p.2

-- 2n - 1 places where the picture has n
abbrev pub half_sizes : Sizes → Sizes
half_sizes s = record { nx = 2 * s.nx - 1; ny = 2 * s.ny - 1; nz = 2 * s.nz - 1 }

-- where the cell at a place of the picture stands on the half-grid
abbrev pub doubled : Place → Place
doubled p = (2 * p.0, 2 * p.1, 2 * p.2)

-- the place midway between the doubled places of two cells: the half of 2a + 2b on each axis
abbrev pub midway : Place → Place → Place
midway a b = (a.0 + b.0, a.1 + b.1, a.2 + b.2)

-- the second cell is the next one after the first on this axis, and has the same places on the other two
pub record Neighbours (axis : Axis) (here next : Place) : Type 0 where
  pub one_on : along axis next ≡ along axis here + 1
  pub same_off : (other : Axis) → other ≢ axis → along other next ≡ along other here

abbrev pub AtMostOneApart : ℕ → ℕ → Type 0
AtMostOneApart a b = (a ≤ b + 1) × (b ≤ a + 1)

-- A face place of a picture. Two cells of its grid are neighbours on one axis, one marked and one not. The place
-- belongs to the half-grid, and is the one midway between their doubled places, or differs from that only on the
-- other two axes, by at most 1 on each.
pub record FacePlace (s : Sizes) (marks : Place → Bool) (place : Place) : Type 0 where
  pub axis : Axis
  pub here : Place
  pub next : Place
  pub here_in_grid : inside s here ≡ true
  pub next_in_grid : inside s next ≡ true
  pub neighbours : Neighbours axis here next
  pub one_marked : marks here ≡ not (marks next)
  pub in_half_grid : inside (half_sizes s) place ≡ true
  pub on_axis : along axis place ≡ along axis (midway here next)
  pub off_axis : (other : Axis) → other ≢ axis → AtMostOneApart (along other place) (along other (midway here next))

-- The same as a test. On each axis a place of the half-grid lies between the cells `low` and `high`, which are one
-- cell where the place is even; the cells so met are the corners of the place, eight at most.
abbrev pub low : ℕ → ℕ
low p = p / 2

abbrev pub high : ℕ → ℕ
high p = p - p / 2

abbrev pub differ : Bool → Bool → Bool
differ true b = not b
differ false b = b

-- whether the test holds of a corner other than the first
abbrev pub other_corner : (ℕ → ℕ → ℕ → Bool) → ℕ → ℕ → ℕ → ℕ → ℕ → ℕ → Bool
other_corner test x0 x1 y0 y1 z0 z1 = test x1 y0 z0 || (test x0 y1 z0 || (test x1 y1 z0 || (test x0 y0 z1 || (test x1 y0 z1 || (test x0 y1 z1 || test x1 y1 z1)))))

-- whether some corner of the place is unlike the first
abbrev pub mixed_corners : (Place → Bool) → Place → Bool
mixed_corners marks p =
    other_corner (λ x y z. differ (marks (low p.0, low p.1, low p.2)) (marks (x, y, z)))
    (low p.0) (high p.0) (low p.1) (high p.1) (low p.2) (high p.2)

-- what a half-grid answers for whatever picture lies below it; one that would be no grid is read as a single place
abbrev pub half_extent : Sizes → Sizes
half_extent s = as_grid (half_sizes s)

abbrev pub half_marks : Sizes → (Place → Bool) → Place → Bool
half_marks s marks p = inside (half_extent s) p && mixed_corners marks p

-- what a half-grid answers is that of this picture: it has 2n - 1 places where the picture has n, and marks exactly
-- the face places
pub record AnswersHalfGrid (s : Sizes) (marks : Place → Bool) : Type 0 where
  pub twice_less_one : half_extent s ≡ half_sizes s
  pub marks_faces : (place : Place) → Decides (half_marks s marks place) (FacePlace s marks place)
