-- Right records of a cell agree, and so do finished fields.
use Rattle.std.proofs.Common.{◌≡◌, ℕ, ◌<◌, true, is_some, Some, None, Option, sym, refl, ◌∙◌, subst, arith}
use Rattle.grid.specs.declared.sizes.Sizes.{Sizes}
use Rattle.grid.specs.declared.cell.Cell.{Cell}
use Rattle.grid.specs.Geometry.{cell_count}
use Rattle.grid.specs.Distance.{Near}
use Rattle.grid.specs.Cells.{Marks, Marked, Answers, Holds, cell_at}
use Rattle.fields.specs.Agreement.{SameMarks, PointIsNearest, RecordsAgree, FinishedFieldsAgree, MarkReachesAll}
use Rattle.fields.proofs.Least.{whole_grid}

pub point_is_nearest : PointIsNearest
point_is_nearest near s marks k c holds p is =
    subst (λ (o : Option ℕ). Answers near s marks c.level k o c.value) is holds.nearest

module _ (near : Near) (s : Sizes) (marks others : Marks) (same : SameMarks s marks others) where
  -- what is right for some marks is right for the same marks
  marked_too : (d k q : ℕ) → Marked s others d k q → Marked s marks d k q
  marked_too d k q m = record { in_grid = m.in_grid; is_marked = same q m.in_grid ∙ m.is_marked; in_slab = m.in_slab }

  marked_back : (d k q : ℕ) → Marked s marks d k q → Marked s others d k q
  marked_back d k q m = record { in_grid = m.in_grid; is_marked = sym (same q m.in_grid) ∙ m.is_marked; in_slab = m.in_slab }

  answers_too : (d k : ℕ) (o : Option ℕ) (v : ℕ) → Answers near s others d k o v → Answers near s marks d k o v
  answers_too d k None v a = (a.0, λ q m. a.1 q (marked_back d k q m))
  answers_too d k (Some p) v a =
      record { point = marked_too d k p a.point; value = a.value; none_nearer = λ q m. a.none_nearer q (marked_back d k q m) }

  pub holds_too : (k : ℕ) → k < cell_count s → (c : Cell) → Holds near s others k c → Holds near s marks k c
  holds_too k hk c h =
      record {
        mark = h.mark ∙ sym (same k hk);
        level_at_most_3 = h.level_at_most_3;
        nearest = answers_too c.level k c.point c.value h.nearest;
      }

pub records_agree : RecordsAgree
records_agree near s marks k one two holds-one holds-two level =
    let both = go one.point one.value two.point two.value
    (subst (λ (l : ℕ). Answers near s marks l k one.point one.value) level holds-one.nearest) holds-two.nearest in
    record { value = both.0; point = both.1 }
  where
    go : (o : Option ℕ) (v : ℕ) (o' : Option ℕ) (v' : ℕ) → Answers near s marks two.level k o v → Answers near s marks two.level k o' v'
        → (v ≡ v') × (is_some o ≡ is_some o')
    go None v None v' a b = (a.0 ∙ sym b.0, refl)
    go None v (Some p) v' a b = absurd (a.1 p b.point)
    go (Some p) v None v' a b = absurd (b.1 p a.point)
    go (Some p) v (Some q) v' a b =
        (omega (arith, a.value, b.value, a.none_nearer q b.point, b.none_nearer p a.point), refl)

pub fields_agree : FinishedFieldsAgree
fields_agree near s marks others same one two first second k hk =
    records_agree near s marks k (cell_at one k) (cell_at two k) (first.all_hold.each k hk)
    (holds_too near s marks others same k hk (cell_at two k) (second.all_hold.each k hk))
    (first.all_at_3 k hk ∙ sym (second.all_at_3 k hk))

pub mark_reaches_all : MarkReachesAll
mark_reaches_all near s marks cells field q hq mq k hk =
    go (cell_at cells k).point (cell_at cells k).value
    (subst (λ (l : ℕ). Answers near s marks l k (cell_at cells k).point (cell_at cells k).value) (field.all_at_3 k hk)
    (field.all_hold.each k hk).nearest)
  where
    go : (o : Option ℕ) (v : ℕ) → Answers near s marks 3 k o v → is_some o ≡ true
    go None v a = absurd (a.1 q (whole_grid s marks k q hq mq))
    go (Some p) v a = refl
