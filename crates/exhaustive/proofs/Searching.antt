-- One marked cell more, and the record of a finished cell.
use Rattle.std.proofs.Common.{◌≡◌, ℕ, ◌+◌, ◌<◌, ◌≤◌, Bool, true, false, cond, leb, Some, None, Option, sym, refl, ap, ◌∙◌, subst, arith}
use Rattle.std.proofs.lemmas.Bool.{leb-true, leb-false}
use native.Mathlib.Decide.{ℕ_discrete}
use Rattle.grid.specs.declared.sizes.Sizes.{Sizes}
use Rattle.grid.specs.Geometry.{Place, cell_count, place_of}
use Rattle.grid.specs.Distance.{Near, distance}
use Rattle.grid.specs.Cells.{Marks, Answers}
use Rattle.pictures.specs.Numbered.{marks_by_number}
use Rattle.exhaustive.specs.Search.{Best, NearestBelow, nearer_of}

-- what a picture tells of the place of a cell is the cell's mark
pub mark_told : (marked : Place → Bool) (s : Sizes) (k : ℕ) (p : Place) (b : Bool) → p ≡ place_of s k → b ≡ marked p → b ≡ marks_by_number s marked k
mark_told marked s k p b at told = told ∙ ap marked at

pub told_mark : (marked : Place → Bool) (s : Sizes) (k : ℕ) (p : Place) (b : Bool) → p ≡ place_of s k → b ≡ marked p → marks_by_number s marked k ≡ b
told_mark marked s k p b at told = sym (mark_told marked s k p b at told)

module _ (near : Near) (s : Sizes) (marks : Marks) (k : ℕ) where
  pub none_yet : NearestBelow near s marks k 0 None
  none_yet q h m = omega arith

  -- a cell that is not marked changes nothing
  past_unmarked : (n : ℕ) (best : Option (ℕ × ℕ)) → NearestBelow near s marks k n best → marks n ≡ false → NearestBelow near s marks k (n + 1) best
  past_unmarked n None so_far un = λ q h m. elim (ℕ_discrete q n) [
    | yes e ↦ (let z : true ≡ false = sym m ∙ ap marks e ∙ un in let y : ◌≡◌ {A = ℕ} 0 1 = cc in omega arith)
    | no ne ↦ so_far q (omega arith) m
  ]
  past_unmarked n (Some b) so_far un =
      record {
        below = omega (arith, so_far.below);
        is_marked = so_far.is_marked;
        value = so_far.value;
        none_nearer = λ q h m. elim (ℕ_discrete q n) [
          | yes e ↦ (let z : true ≡ false = sym m ∙ ap marks e ∙ un in let y : ◌≡◌ {A = ℕ} 0 1 = cc in omega arith)
          | no ne ↦ so_far.none_nearer q (omega arith) m
        ];
      }

  at_new : (n v : ℕ) → marks n ≡ true → v ≡ distance near s 3 k n
      → ((q : ℕ) → q < n → marks q ≡ true → v ≤ distance near s 3 k q) → Best near s marks k (n + 1) n v
  at_new n v m e least =
      record {
        below = omega arith;
        is_marked = m;
        value = e;
        none_nearer = λ q h mq. elim (ℕ_discrete q n) [
          | yes same ↦ (let d : distance near s 3 k q ≡ distance near s 3 k n = ap (distance near s 3 k) same in omega arith)
          | no ne ↦ least q (omega arith) mq
        ];
      }

  -- a marked cell is compared with the best so far
  past_marked : (n v : ℕ) (best : Option (ℕ × ℕ)) → NearestBelow near s marks k n best → marks n ≡ true → v ≡ distance near s 3 k n
      → NearestBelow near s marks k (n + 1) (nearer_of best n v)
  past_marked n v None so_far m e = at_new n v m e (λ q h mq. absurd (so_far q h mq))
  past_marked n v (Some b) so_far m e = go (leb b.1 v) refl
    where
      go : (t : Bool) → leb b.1 v ≡ t → NearestBelow near s marks k (n + 1) (cond t (Some b) (Some (n, v)))
      go true h =
          record {
            below = omega (arith, so_far.below);
            is_marked = so_far.is_marked;
            value = so_far.value;
            none_nearer = λ q hq mq. elim (ℕ_discrete q n) [
              | yes same ↦ (let d : distance near s 3 k q ≡ distance near s 3 k n = ap (distance near s 3 k) same in omega (arith, leb-true b.1 v h))
              | no ne ↦ so_far.none_nearer q (omega arith) mq
            ];
          }
      go false h = at_new n v m e (λ q hq mq. omega (arith, leb-false b.1 v h, so_far.none_nearer q hq mq))

  -- the search goes on with what is kept of a marked cell, and as it was at an unmarked one
  pub on_from_marked : (n v : ℕ) (best kept next : Option (ℕ × ℕ)) → NearestBelow near s marks k n best → marks n ≡ true → v ≡ distance near s 3 k n
      → kept ≡ nearer_of best n v → next ≡ kept → NearestBelow near s marks k (n + 1) next
  on_from_marked n v best kept next so_far m e is goes = subst (NearestBelow near s marks k (n + 1)) (sym (goes ∙ is)) (past_marked n v best so_far m e)

  pub on_from_unmarked : (n : ℕ) (best next : Option (ℕ × ℕ)) → NearestBelow near s marks k n best → marks n ≡ false → next ≡ best → NearestBelow near s marks k (n + 1) next
  on_from_unmarked n best next so_far un goes = subst (NearestBelow near s marks k (n + 1)) (sym goes) (past_unmarked n best so_far un)

  -- at level 3 the slab is the whole grid
  pub answers_none : NearestBelow near s marks k (cell_count s) None → Answers near s marks 3 k None 0
  answers_none none = (refl, λ q m. none q m.in_grid m.is_marked)

  pub answers_some : (b : ℕ × ℕ) → NearestBelow near s marks k (cell_count s) (Some b) → Answers near s marks 3 k (Some b.0) b.1
  answers_some b best =
      record {
        point = record { in_grid = best.below; is_marked = best.is_marked; in_slab = λ e lo hi. omega arith };
        value = best.value;
        none_nearer = λ q m. best.none_nearer q m.in_grid m.is_marked;
      }
