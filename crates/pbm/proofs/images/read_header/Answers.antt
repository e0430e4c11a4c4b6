use Rattle.std.proofs.Common.{inr, arith}
use Rattle.pbm.proofs.Headers.{header_made, before_height, no_height}
use Rattle.pbm.proofs.images.read_header.Goals as goal

pub overflow_sub-result : goal.overflow_sub-result
overflow_sub-result c = omega (arith, before_height c.args.text.now c.in-Some.sizes.now c.in-Some-read_number.second.now c.in-Some-read_number.width c.in-Some.ensures c.in-Some-read_number.ensures)

pub returns-in_default-read_number-2 : goal.returns-in_default-read_number-2
returns-in_default-read_number-2 c = inr (no_height c.args.text.now c.in-Some.sizes.now c.in-Some-read_number.second.now c.in-Some-read_number.width c.in-Some.ensures c.in-Some-read_number.ensures c.in_default-read_number-2.ensures)

pub returns : goal.returns
returns c = header_made c.args.text.now c.in-Some.sizes.now c.in-Some-read_number.second.now c.in-Some-read_number.width c.in-Some.ensures c.in-Some-read_number.ensures c.in-Some-read_number-2.height c.in-Some-read_number-2.rest.now c.in-Some-read_number-2.ensures
