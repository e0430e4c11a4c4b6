-- On the way from a marked cell to an unmarked one lies a face.
use Rattle.std.proofs.Common.{◌≡◌, ℕ, zero, suc, ◌+◌, ◌<◌, Bool, true, sym, refl, ap, ◌∙◌, subst, ⊎_elim, add-one, arith}
use Rattle.std.proofs.lemmas.Bool.{both_ways}
use Rattle.grid.specs.declared.sizes.Sizes.{Sizes}
use Rattle.grid.specs.Geometry.{Place, inside}
use Rattle.pictures.specs.Faces.{Axis, first, second, third, along, midway, differ, FacePlace}
use Rattle.pictures.specs.Theorems.{BothKindsHaveAFace}
use Rattle.pictures.proofs.Differing.{one_from_differ, differ_self, differ_sym, differ_via}
use Rattle.pictures.proofs.Axes.{size_on, inside_on, inside_from_axes, midway_inside, moved, moved_on, moved_off, moved_nowhere, moved_keeps}

-- a change between neighbours, both below n
record Change (f : ℕ → Bool) (n : ℕ) : Type 0 where
  i : ℕ
  below : i + 1 < n
  differs : differ (f i) (f (i + 1)) ≡ true

-- where a run of flags changes from its start, it changes between two neighbours
change_from_start : (f : ℕ → Bool) (n j : ℕ) → j < n → differ (f 0) (f j) ≡ true → Change f n
change_from_start f n zero lt h = absurd (both_ways (differ (f 0) (f 0)) (differ_self (f 0)) h)
change_from_start f n (suc j) lt h =
    ⊎_elim
    (change_from_start f n j (omega arith))
    (λ d. record { i = j; below = omega arith; differs = subst (λ k. differ (f j) (f k) ≡ true) (sym (add-one j)) d })
    (differ_via (f 0) (f j) (f (suc j)) h)

change_between : (f : ℕ → Bool) (n i j : ℕ) → i < n → j < n → differ (f i) (f j) ≡ true → Change f n
change_between f n i j hi hj h =
    ⊎_elim
    (λ d. change_from_start f n i hi (differ_sym (f 0) (f i) ∙ d))
    (change_from_start f n j hj)
    (differ_via (f i) (f 0) (f j) h)

abbrev SomeFace : Sizes → (Place → Bool) → Type 0
SomeFace s m = (place : Place) × FacePlace s m place

module _ (s : Sizes) (m : Place → Bool) where
  moved_inside : (axis : Axis) (p : Place) (c : ℕ) → inside s p ≡ true → c < size_on axis s → inside s (moved axis p c) ≡ true
  moved_inside axis p c h lt = inside_from_axes s (moved axis p c) (moved_keeps (λ o i. i < size_on o s) axis p c (inside_on s p h) lt)

  -- two cells of one row that differ
  face_in_row : (axis : Axis) (a : Place) (c : ℕ) → inside s a ≡ true → c < size_on axis s → differ (m a) (m (moved axis a c)) ≡ true → SomeFace s m
  face_in_row axis a c ha hc h =
      let f : ℕ → Bool = λ i. m (moved axis a i) in
      let from : differ (f (along axis a)) (f c) ≡ true = ap (λ q. differ (m q) (f c)) (moved_nowhere axis a (along axis a) refl) ∙ h in
      let change = change_between f (size_on axis s) (along axis a) c (inside_on s a ha axis) hc from in
      let here = moved axis a change.i in
      let next = moved axis a (change.i + 1) in
      let here-inside = moved_inside axis a change.i ha (omega (arith, change.below)) in
      let next-inside = moved_inside axis a (change.i + 1) ha change.below in (
        midway here next,
        record {
          axis = axis;
          here = here;
          next = next;
          here_in_grid = here-inside;
          next_in_grid = next-inside;
          neighbours = record {
            one_on = moved_on axis a (change.i + 1) ∙ sym (ap (λ k. k + 1) (moved_on axis a change.i));
            same_off = λ o ne. moved_off axis a (change.i + 1) o ne ∙ sym (moved_off axis a change.i o ne);
          };
          one_marked = one_from_differ (m here) (m next) change.differs;
          in_half_grid = midway_inside s here next here-inside next-inside;
          on_axis = refl;
          off_axis = λ o ne. (omega arith, omega arith);
        },
      )

  -- along the first axis, then the second, then the third
  face_between : (a b : Place) → inside s a ≡ true → inside s b ≡ true → differ (m a) (m b) ≡ true → SomeFace s m
  face_between a b ha hb h =
      let c = moved first a b.0 in
      let d = moved second c b.1 in
      let hc = moved_inside first a b.0 ha (inside_on s b hb first) in
      let hd = moved_inside second c b.1 hc (inside_on s b hb second) in
      ⊎_elim
      (face_in_row first a b.0 ha (inside_on s b hb first))
      (λ e. ⊎_elim (face_in_row second c b.1 hc (inside_on s b hb second)) (face_in_row third d b.2 hd (inside_on s b hb third)) (differ_via (m c) (m d) (m b) e))
      (differ_via (m a) (m c) (m b) h)

pub both_kinds_have_a_face : BothKindsHaveAFace
both_kinds_have_a_face s m kinds =
    let marked = kinds.0 in
    let unmarked = kinds.1 in
    face_between s m marked.place unmarked.place marked.in_grid unmarked.in_grid
    (ap (λ b. differ b (m unmarked.place)) marked.of_kind ∙ ap (λ b. differ true b) unmarked.of_kind)
