use Rattle.w_leb.proofs.ShortestSpelling.{SoFar}
use Rattle.w_leb.proofs.writing.put_number.Given as goal

abbrev pub invariant-loop-left : goal.invariant-loop-left
invariant-loop-left l = SoFar l.out.items l.left l.v

abbrev pub decreases-loop-left : goal.decreases-loop-left
decreases-loop-left l = l.left
