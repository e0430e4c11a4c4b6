use Rattle.std.proofs.Common.{◌≡◌, ℕ, ◌+◌, ◌/◌, ◌%◌, length, ap, ◌∙◌, rules, arith}
use Rattle.grid.specs.Cells.{cell_at}
use Rattle.volumes.specs.Files.{low_byte}
use Rattle.volumes.proofs.Filing.{puts_weaker, value_in_file}
use Rattle.volumes.proofs.bytes.put_values.Goals as goal

pub returns : goal.returns
returns c =
    puts_weaker c.put_each.result 8 (length c.args.cells.now) _ c.args.from _ _ c.args.bytes.now c.put_each.new.bytes (omega arith)
    (λ even few i b h given.
    let number : given.0 ≡ (cell_at c.args.cells.now (c.args.from + i / 8)).value = search rules in
    value_in_file c.args.cells.now c.args.from i b (omega arith) (given.2 ∙ ap (λ (v : ℕ). low_byte v (i % 8)) number))
    c.put_each.ensures
