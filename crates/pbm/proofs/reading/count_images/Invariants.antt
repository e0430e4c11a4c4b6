use Rattle.std.proofs.Common.{length}
use Rattle.pbm.proofs.Loop.{Passed}
use Rattle.pbm.proofs.reading.count_images.Given as goal

abbrev pub invariant-loop-rest : goal.invariant-loop-rest
invariant-loop-rest l = Passed l.bytes l.rest l.width l.height l.images

abbrev pub decreases-loop-rest : goal.decreases-loop-rest
decreases-loop-rest l = length l.rest
