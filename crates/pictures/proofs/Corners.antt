-- The corners of a place of the half-grid are not all alike exactly where the place is a face place.
use Rattle.std.proofs.Common.{◌≡◌, ℕ, ◌+◌, ◌-◌, ◌*◌, ◌/◌, ◌<◌, Bool, true, false, ◌⊎◌, Decides, sym, refl, ap, ◌∙◌, subst, inl, inr, ⊎_elim, arith}
use Rattle.std.proofs.lemmas.Bool.{and_parts, and_from, or_cases, cases_lt, cond_both, both_ways}
use Rattle.grid.specs.declared.sizes.Sizes.{Sizes}
use Rattle.grid.specs.Geometry.{Place, SizesFit, is_grid, as_grid, one_cell, inside}
use Rattle.grid.proofs.Places.{below_from_inside, inside_from_below}
use Rattle.pictures.specs.Faces.{Axis, first, second, third, along, midway, AtMostOneApart, FacePlace, half_sizes, half_extent, half_marks, low, high, differ, other_corner, mixed_corners}
use Rattle.pictures.proofs.Differing.{one_from_differ, differ_from_one, differ_self, differ_sym, differ_via}
use Rattle.pictures.proofs.Axes.{size_on, inside_on, inside_from_axes, half_size_on, midway_on, same_axis, moved, moved_on, moved_off, moved_nowhere, moved_keeps}

-- one of the two cells beside a place on one axis
abbrev Beside : ℕ → ℕ → Type 0
Beside p c = (c ≡ low p) ⊎ (c ≡ high p)

beside_below : (p c n : ℕ) → p < 2 * n - 1 → Beside p c → c < n
beside_below p c n h b = ⊎_elim (λ e. omega arith) (λ e. omega arith) b

beside_near : (p c : ℕ) → Beside p c → AtMostOneApart p (c + c)
beside_near p c b = ⊎_elim (λ e. omega arith) (λ e. omega arith) b

beside_from_near : (p c : ℕ) → AtMostOneApart p (c + c) → Beside p c
beside_from_near p c h = ⊎_elim (λ l. inr (omega arith)) (λ l. inl (omega arith)) (cases_lt (p / 2) c)

-- the cells i and the next one, with the place midway between them
beside_on_axis : (p i j middle : ℕ) → j ≡ i + 1 → middle ≡ i + j → p ≡ middle → Beside p i × Beside p j
beside_on_axis p i j middle next sum mid = (inl (omega arith), inr (omega arith))

beside_off_axis : (p i j middle : ℕ) → j ≡ i → middle ≡ i + j → AtMostOneApart p middle → Beside p i × Beside p j
beside_off_axis p i j middle same sum near =
    let beside : Beside p i = beside_from_near p i (omega arith, omega arith) in
    (beside, subst (Beside p) (sym same) beside)

-- a cell beside a place that is not the low one is the next
next_cell : (p c l : ℕ) → l ≡ low p → Beside p c → (c ≡ l → ⊥) → (c ≡ l + 1) × (p ≡ l + c)
next_cell p c l at_low b ne = ⊎_elim (λ e. absurd (ne (e ∙ sym at_low))) (λ e. (omega arith, omega arith)) b

-- a cell beside a place on each axis
abbrev Corner : Place → Place → Type 0
Corner p c = (o : Axis) → Beside (along o p) (along o c)

at_corner : (p c : Place) → Beside p.0 c.0 → Beside p.1 c.1 → Beside p.2 c.2 → Corner p c
at_corner p c x y z first = x
at_corner p c x y z second = y
at_corner p c x y z third = z

abbrev low_corner : Place → Place
low_corner p = (low p.0, low p.1, low p.2)

module _ (test : ℕ → ℕ → ℕ → Bool) (p : Place) where
  abbrev Found : Type 0
  Found = (c : Place) × Corner p c × (test c.0 c.1 c.2 ≡ true)

  abbrev other : Bool
  other = other_corner test (low p.0) (high p.0) (low p.1) (high p.1) (low p.2) (high p.2)

  found_other : other ≡ true → Found
  found_other h =
      ⊎_elim (at (high p.0) (low p.1) (low p.2) (inr refl) (inl refl) (inl refl))
      (λ h₁. ⊎_elim (at (low p.0) (high p.1) (low p.2) (inl refl) (inr refl) (inl refl))
      (λ h₂. ⊎_elim (at (high p.0) (high p.1) (low p.2) (inr refl) (inr refl) (inl refl))
      (λ h₃. ⊎_elim (at (low p.0) (low p.1) (high p.2) (inl refl) (inl refl) (inr refl))
      (λ h₄. ⊎_elim (at (high p.0) (low p.1) (high p.2) (inr refl) (inl refl) (inr refl))
      (λ h₅. ⊎_elim (at (low p.0) (high p.1) (high p.2) (inl refl) (inr refl) (inr refl))
      (at (high p.0) (high p.1) (high p.2) (inr refl) (inr refl) (inr refl))
      (or_cases (test (low p.0) (high p.1) (high p.2)) _ h₅))
      (or_cases (test (high p.0) (low p.1) (high p.2)) _ h₄))
      (or_cases (test (low p.0) (low p.1) (high p.2)) _ h₃))
      (or_cases (test (high p.0) (high p.1) (low p.2)) _ h₂))
      (or_cases (test (low p.0) (high p.1) (low p.2)) _ h₁))
      (or_cases (test (high p.0) (low p.1) (low p.2)) _ h)
    where
      at : (x y z : ℕ) → Beside p.0 x → Beside p.1 y → Beside p.2 z → test x y z ≡ true → Found
      at x y z bx by bz e = ((x, y, z), at_corner p (x, y, z) bx by bz, e)

  moved_to : {x y z i j k : ℕ} → x ≡ i → y ≡ j → z ≡ k → test x y z ≡ true → test i j k ≡ true
  moved_to {x} {y} {z} {i} {j} ex ey ez h = sym (ap (λ q. test q y z) ex ∙ ap (λ q. test i q z) ey ∙ ap (test i j) ez) ∙ h

  -- a corner of which the test holds, where it does not hold of the first
  other_found : test (low p.0) (low p.1) (low p.2) ≡ false → (x y z : ℕ) → Beside p.0 x → Beside p.1 y → Beside p.2 z → test x y z ≡ true → other ≡ true
  other_found none x y z (inl ex) (inl ey) (inl ez) h = let e = moved_to ex ey ez h in absurd (both_ways _ none e)
  other_found none x y z (inr ex) (inl ey) (inl ez) h = let e = moved_to ex ey ez h in grind arith
  other_found none x y z (inl ex) (inr ey) (inl ez) h = let e = moved_to ex ey ez h in grind arith
  other_found none x y z (inr ex) (inr ey) (inl ez) h = let e = moved_to ex ey ez h in grind arith
  other_found none x y z (inl ex) (inl ey) (inr ez) h = let e = moved_to ex ey ez h in grind arith
  other_found none x y z (inr ex) (inl ey) (inr ez) h = let e = moved_to ex ey ez h in grind arith
  other_found none x y z (inl ex) (inr ey) (inr ez) h = let e = moved_to ex ey ez h in grind arith
  other_found none x y z (inr ex) (inr ey) (inr ez) h = let e = moved_to ex ey ez h in grind arith

module _ (s : Sizes) (m : Place → Bool) (p : Place) where
  abbrev unlike : ℕ → ℕ → ℕ → Bool
  unlike x y z = differ (m (low_corner p)) (m (x, y, z))

  module _ (within : inside (half_sizes s) p ≡ true) where
    corner_inside : (c : Place) → Corner p c → inside s c ≡ true
    corner_inside c corner =
        inside_from_axes s c (λ o. beside_below (along o p) (along o c) (size_on o s) (subst (λ n. along o p < n) (half_size_on s o) (inside_on (half_sizes s) p within o)) (corner o))

    -- two corners that differ, one from the other by a step on one axis, are two cells with the place on their face
    face_on : (axis : Axis) (a : Place) (c : ℕ) → Corner p a → along axis a ≡ low (along axis p) → Beside (along axis p) c → differ (m a) (m (moved axis a c)) ≡ true → FacePlace s m p
    face_on axis a c corner at_low beside h =
        let b = moved axis a c in
        let apart : c ≡ along axis a → ⊥ = λ e. both_ways (differ (m a) (m b)) (ap (λ q. differ (m a) (m q)) (moved_nowhere axis a c e) ∙ differ_self (m a)) h in
        let step = next_cell (along axis p) c (along axis a) at_low beside apart in
        record {
          axis = axis;
          here = a;
          next = b;
          here_in_grid = corner_inside a corner;
          next_in_grid = corner_inside b (moved_keeps (λ o i. Beside (along o p) i) axis a c corner beside);
          neighbours = record { one_on = moved_on axis a c ∙ step.0; same_off = moved_off axis a c };
          one_marked = one_from_differ (m a) (m b) h;
          in_half_grid = within;
          on_axis = step.1 ∙ ap (λ i. along axis a + i) (sym (moved_on axis a c)) ∙ sym (midway_on a b axis);
          off_axis = λ o ne. subst (AtMostOneApart (along o p)) (sym (midway_on a b o ∙ ap (λ i. along o a + i) (moved_off axis a c o ne))) (beside_near (along o p) (along o a) (corner o));
        }

    -- from the first corner to one that differs, along one axis after the other
    face_from_mixed : mixed_corners m p ≡ true → FacePlace s m p
    face_from_mixed h =
        let found = found_other unlike p h in
        let c = found.0 in
        let a = low_corner p in
        let b = moved first a c.0 in
        let d = moved second b c.1 in
        let beside : Axis → ℕ → Type 0 = λ o i. Beside (along o p) i in
        let at_a : Corner p a = at_corner p a (inl refl) (inl refl) (inl refl) in
        let at_b : Corner p b = moved_keeps beside first a c.0 at_a (found.1 first) in
        let at-d : Corner p d = moved_keeps beside second b c.1 at_b (found.1 second) in
        ⊎_elim
        (face_on first a c.0 at_a refl (found.1 first))
        (λ e. ⊎_elim (face_on second b c.1 at_b refl (found.1 second)) (face_on third d c.2 at-d refl (found.1 third)) (differ_via (m b) (m d) (m c) e))
        (differ_via (m a) (m b) (m c) found.2)

  -- both cells of a face are corners of its places
  both_beside : (f : FacePlace s m p) (o : Axis) → Beside (along o p) (along o f.here) × Beside (along o p) (along o f.next)
  both_beside f o =
      ⊎_elim
      (λ e. subst (λ q. Beside (along q p) (along q f.here) × Beside (along q p) (along q f.next)) (sym e)
      (beside_on_axis (along f.axis p) (along f.axis f.here) (along f.axis f.next) (along f.axis (midway f.here f.next)) f.neighbours.one_on (midway_on f.here f.next f.axis) f.on_axis))
      (λ ne. beside_off_axis (along o p) (along o f.here) (along o f.next) (along o (midway f.here f.next)) (f.neighbours.same_off o ne) (midway_on f.here f.next o) (f.off_axis o ne))
      (same_axis o f.axis)

  mixed_from_face : FacePlace s m p → mixed_corners m p ≡ true
  mixed_from_face f =
      let at-cell : (c : Place) → Corner p c → differ (m (low_corner p)) (m c) ≡ true → mixed_corners m p ≡ true =
      λ c corner. other_found unlike p (differ_self (m (low_corner p))) c.0 c.1 c.2 (corner first) (corner second) (corner third) in
      ⊎_elim
      (λ d. at-cell f.here (λ o. (both_beside f o).0) (differ_sym (m (low_corner p)) (m f.here) ∙ d))
      (λ d. at-cell f.next (λ o. (both_beside f o).1) d)
      (differ_via (m f.here) (m (low_corner p)) (m f.next) (differ_from_one (m f.here) (m f.next) f.one_marked))

-- a place of the extent is one of the whole half-grid
whole_inside : (s : Sizes) (p : Place) → SizesFit s → inside (half_extent s) p ≡ true → inside (half_sizes s) p ≡ true
unfolding as_grid
whole_inside s p fit =
    cond_both (is_grid (half_sizes s)) (half_sizes s) one_cell (λ k. inside k p ≡ true → inside (half_sizes s) p ≡ true) (λ _ e. e)
    (λ _ e. let b = below_from_inside one_cell p e in inside_from_below (half_sizes s) p record { x = omega (arith, b.x, fit.0.0); y = omega (arith, b.y, fit.1.0); z = omega (arith, b.z, fit.2.0) })

pub half_marks_faces : (s : Sizes) (m : Place → Bool) → SizesFit s → (p : Place) → Decides (half_marks s m p) ((inside (half_extent s) p ≡ true) × FacePlace s m p)
half_marks_faces s m fit p = (
  (λ h.
      let parts = and_parts (inside (half_extent s) p) (mixed_corners m p) h in
      (parts.0, face_from_mixed s m p (whole_inside s p fit parts.0) parts.1)),
  (λ h. and_from (inside (half_extent s) p) (mixed_corners m p) h.0 (mixed_from_face s m p h.1)),
)
