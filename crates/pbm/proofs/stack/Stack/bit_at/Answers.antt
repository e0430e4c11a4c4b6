use Rattle.std.proofs.Common.{◌*◌, ap, arith}
use Rattle.pbm.proofs.Bytes.{bit_lies}
use Rattle.pbm.proofs.stack.Stack.bit_at.Goals as goal

pub overflow_add-at : goal.overflow_add-at
overflow_add-at c = omega (arith, bit_lies c.args.self.now c.args.place c.requires, ap (λ w. c.args.place.1 * w) c.row_bytes.ensures)

pub bounds-self-at : goal.bounds-self-at
bounds-self-at c = omega (arith, bit_lies c.args.self.now c.args.place c.requires, ap (λ w. c.args.place.1 * w) c.row_bytes.ensures)
