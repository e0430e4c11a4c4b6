-- Painted records are right.
use Rattle.std.proofs.Common.{◌≡◌, ℕ, ◌<◌, Bool, true, false, cond, Some, None, sym, refl, ap, ◌∙◌, subst, arith}
use Rattle.grid.specs.declared.sizes.Sizes.{Sizes}
use Rattle.grid.specs.declared.cell.Cell.{Cell}
use Rattle.grid.specs.Geometry.{cell_count, cell_number, place_on, place_of, SameAbove}
use Rattle.grid.specs.Distance.{Near}
use Rattle.grid.specs.Cells.{Marks, Answers, Holds, painted}
use Rattle.grid.proofs.Places.{number_back}
use Rattle.fields.specs.Painting.{PaintedHolds}

-- no two cells have the same three places
same_cell : (s : Sizes) (a b : ℕ) → SameAbove s 0 a b → a ≡ b
same_cell s a b same =
    let x : place_on s 1 a ≡ place_on s 1 b = same 1 (omega arith) (omega arith) in
    let y : place_on s 2 a ≡ place_on s 2 b = same 2 (omega arith) (omega arith) in
    let z : place_on s 3 a ≡ place_on s 3 b = same 3 (omega arith) (omega arith) in
    let places : place_of s a ≡ place_of s b = cc in
    sym (number_back s a) ∙ ap (cell_number s) places ∙ number_back s b

pub not_both : {b : Bool} → b ≡ true → b ≡ false → ⊥
not_both e f = let z : ◌≡◌ {A = ℕ} 0 1 = cc in omega arith

painted_right : (near : Near) (s : Sizes) (marks : Marks) (k : ℕ) → k < cell_count s → Holds near s marks k (painted (marks k) k)
painted_right near s marks k hk = record { mark = refl; level_at_most_3 = omega arith; nearest = go (marks k) refl }
  where
    go : (b : Bool) → marks k ≡ b → Answers near s marks 0 k (cond b (Some k) None) 0
    go true e =
        record {
          point = record { in_grid = hk; is_marked = e; in_slab = λ a lo hi. refl };
          value = refl;
          none_nearer = λ q mq. omega arith;
        }
    go false e = (refl, λ q mq. not_both (ap marks (same_cell s k q mq.in_slab) ∙ mq.is_marked) e)

pub painted_holds : PaintedHolds
painted_holds near s marks cells p =
    record {
      all_hold = record {
        one_each = p.one_each;
        each = λ k hk. subst (λ (c : Cell). Holds near s marks k c) (sym (p.each k hk)) (painted_right near s marks k hk);
      };
      all_at = λ k hk. ap (λ (c : Cell). c.level) (p.each k hk);
    }
