use Rattle.w_leb.proofs.ShortestSpelling.{SoFarSigned}
use Rattle.w_leb.proofs.writing.put_of_size.Given as goal

abbrev pub invariant-loop-left : goal.invariant-loop-left
invariant-loop-left l = SoFarSigned l.negative l.out.items l.left l.size

abbrev pub decreases-loop-left : goal.decreases-loop-left
decreases-loop-left l = l.left
