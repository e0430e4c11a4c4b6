use Rattle.std.proofs.Common.{ℕ, ◌*◌, ◌/◌, ◌≤◌, length, refl, subst, rules, arith}
use Rattle.std.proofs.Math.Nat.{mul-le-mul_left, mul-div-le}
use Rattle.std.specs.Fn.{FnReturnsAt}
use Rattle.std.proofs.lemmas.Fn.{says_at}
use Rattle.grid.specs.declared.cell.Cell.{Cell}
use Rattle.grid.specs.Cells.{cell_at}
use Rattle.volumes.proofs.Filing.{chosen, one_cell_more}
use Rattle.volumes.proofs.bytes.put_each.Goals as goal

pub loop-k-preserved : goal.loop-k-preserved
loop-k-preserved g c =
    let gives = λ (k v : ℕ). FnReturnsAt g.F.Fn c.args.number (cell_at c.args.cells.now k) v in
    let within : g.row.N * c.loop-k.k ≤ length c.loop-k.bytes = omega (arith, mul-le-mul_left {m = c.loop-k.k} {n = length c.args.bytes.now / g.row.N} g.row.N (omega arith), mul-div-le (length c.args.bytes.now) g.row.N) in
    let called = says_at g.F.Fn c.number.ensures refl in
    let given = subst (λ (x : Cell). FnReturnsAt g.F.Fn c.args.number x c.number.result) (chosen c.args.cells.now c.args.from (length c.args.bytes.now / g.row.N) c.loop-k.k _ _ (omega arith) (omega arith) (omega arith)) called in
    one_cell_more gives g.row.N c.args.from c.requires.width.0 c.requires.width.1
    c.loop-k.k c.number.result _ c.loop-k.bytes c.copy_from_slice.new.self within (search rules) given c.loop-k.invariant
