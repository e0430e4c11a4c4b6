-- Counting cells, and counting by their numbers.
use Rattle.std.proofs.Common.{◌≡◌, ℕ, zero, suc, ◌+◌, ◌≤◌, List, length, take, cond, sym, refl, ap, ◌∙◌, add-one, arith}
use Rattle.std.specs.List.{count_by}
use Rattle.std.proofs.Math.Seq.{take-length}
use Rattle.std.proofs.lemmas.List.Sums.{sum_by_more}
use Rattle.grid.specs.declared.cell.Cell.{Cell}
use Rattle.grid.specs.Cells.{no_cell}
use Rattle.pictures.specs.Kinds.{count_below}
use Rattle.job.specs.Cells.{marks_in}

count_to : (cells : List Cell) (n : ℕ) → n ≤ length cells → count_by (λ (c : Cell). c.marked) (take n cells) ≡ count_below (marks_in cells) n
unfolding count_below
count_to cells zero h = refl
count_to cells (suc n) h =
    ap (λ (m : ℕ). count_by (λ (c : Cell). c.marked) (take m cells)) (sym (add-one n))
    ∙ sum_by_more (λ (c : Cell). cond c.marked 1 0) cells n no_cell (omega arith)
    ∙ ap (λ (m : ℕ). m + cond (marks_in cells n) 1 0) (count_to cells n (omega arith))

-- so many are marked as numbers have a marked cell
pub counted : (cells : List Cell) (n : ℕ) → n ≡ count_by (λ (c : Cell). c.marked) cells → n ≡ count_below (marks_in cells) (length cells)
counted cells n e = e ∙ ap (count_by (λ (c : Cell). c.marked)) (sym (take-length cells)) ∙ count_to cells (length cells) (omega arith)
