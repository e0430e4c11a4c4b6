-- Places of a grid and of its half-grid, one axis at a time.
use Rattle.std.proofs.Common.{◌≡◌, ℕ, ◌+◌, ◌-◌, ◌*◌, ◌<◌, true, ◌≢◌, ◌⊎◌, refl, ap, inl, inr, arith}
use Rattle.grid.specs.declared.sizes.Sizes.{Sizes}
use Rattle.grid.specs.Geometry.{Place, inside}
use Rattle.grid.proofs.Places.{below_from_inside, inside_from_below}
use Rattle.pictures.specs.Faces.{Axis, first, second, third, along, half_sizes, midway}

abbrev pub size_on : Axis → Sizes → ℕ
size_on first s = s.nx
size_on second s = s.ny
size_on third s = s.nz

pub inside_on : (s : Sizes) (p : Place) → inside s p ≡ true → (o : Axis) → along o p < size_on o s
inside_on s p h first = (below_from_inside s p h).x
inside_on s p h second = (below_from_inside s p h).y
inside_on s p h third = (below_from_inside s p h).z

pub inside_from_axes : (s : Sizes) (p : Place) → ((o : Axis) → along o p < size_on o s) → inside s p ≡ true
inside_from_axes s p h = inside_from_below s p record { x = h first; y = h second; z = h third }

pub half_size_on : (s : Sizes) (o : Axis) → size_on o (half_sizes s) ≡ 2 * size_on o s - 1
half_size_on s first = refl
half_size_on s second = refl
half_size_on s third = refl

pub midway_on : (a b : Place) (o : Axis) → along o (midway a b) ≡ along o a + along o b
midway_on a b first = refl
midway_on a b second = refl
midway_on a b third = refl

-- between two cells of the grid lies a place of the half-grid
pub midway_inside : (s : Sizes) (a b : Place) → inside s a ≡ true → inside s b ≡ true → inside (half_sizes s) (midway a b) ≡ true
midway_inside s a b ha hb =
    inside_from_axes (half_sizes s) (midway a b) (λ o. omega (arith, midway_on a b o, half_size_on s o, inside_on s a ha o, inside_on s b hb o))

pub same_axis : (a b : Axis) → (a ≡ b) ⊎ (a ≢ b)
same_axis first first = inl refl
same_axis first second = inr (λ e. let z : ◌≡◌ {A = ℕ} 0 1 = cc in omega arith)
same_axis first third = inr (λ e. let z : ◌≡◌ {A = ℕ} 0 1 = cc in omega arith)
same_axis second first = inr (λ e. let z : ◌≡◌ {A = ℕ} 0 1 = cc in omega arith)
same_axis second second = inl refl
same_axis second third = inr (λ e. let z : ◌≡◌ {A = ℕ} 0 1 = cc in omega arith)
same_axis third first = inr (λ e. let z : ◌≡◌ {A = ℕ} 0 1 = cc in omega arith)
same_axis third second = inr (λ e. let z : ◌≡◌ {A = ℕ} 0 1 = cc in omega arith)
same_axis third third = inl refl

-- the place p with another coordinate on one axis
abbrev pub moved : Axis → Place → ℕ → Place
moved first p c = (c, p.1, p.2)
moved second p c = (p.0, c, p.2)
moved third p c = (p.0, p.1, c)

pub moved_on : (axis : Axis) (p : Place) (c : ℕ) → along axis (moved axis p c) ≡ c
moved_on first p c = refl
moved_on second p c = refl
moved_on third p c = refl

pub moved_off : (axis : Axis) (p : Place) (c : ℕ) (other : Axis) → other ≢ axis → along other (moved axis p c) ≡ along other p
moved_off first p c = elim [ first ↦ λ ne. absurd (ne refl) | second ↦ λ ne. refl | third ↦ λ ne. refl ]
moved_off second p c = elim [ first ↦ λ ne. refl | second ↦ λ ne. absurd (ne refl) | third ↦ λ ne. refl ]
moved_off third p c = elim [ first ↦ λ ne. refl | second ↦ λ ne. refl | third ↦ λ ne. absurd (ne refl) ]

pub moved_nowhere : (axis : Axis) (p : Place) (c : ℕ) → c ≡ along axis p → moved axis p c ≡ p
moved_nowhere first p c e = ap (λ i. (i, p.1, p.2)) e
moved_nowhere second p c e = ap (λ i. (p.0, i, p.2)) e
moved_nowhere third p c e = ap (λ i. (p.0, p.1, i)) e

-- what holds on every axis holds after a move to a coordinate where it holds
pub moved_keeps : (Q : Axis → ℕ → Type 0) (axis : Axis) (p : Place) (c : ℕ) → ((o : Axis) → Q o (along o p)) → Q axis c → (o : Axis) → Q o (along o (moved axis p c))
moved_keeps Q first p c all here = elim [ first ↦ here | second ↦ all second | third ↦ all third ]
moved_keeps Q second p c all here = elim [ first ↦ all first | second ↦ here | third ↦ all third ]
moved_keeps Q third p c all here = elim [ first ↦ all first | second ↦ all second | third ↦ here ]
