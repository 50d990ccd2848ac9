use Rattle.w_words.proofs.Colons.{Sought}
use Rattle.w_words.proofs.clauses.parted.Given as goal

abbrev pub invariant-loop-place : goal.invariant-loop-place
invariant-loop-place l = Sought l.word l.place
