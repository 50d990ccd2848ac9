use Rattle.w_words.proofs.Lines.{Begun}
use Rattle.w_words.proofs.words.space_in.Given as goal

abbrev pub invariant-loop-place : goal.invariant-loop-place
invariant-loop-place l = Begun l.line l.place
