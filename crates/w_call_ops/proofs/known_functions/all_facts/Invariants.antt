use Rattle.w_call_ops.proofs.KnownSoFar.{FactsSoFar}
use Rattle.w_call_ops.proofs.known_functions.all_facts.Given as goal

abbrev pub invariant-loop-code : goal.invariant-loop-code
invariant-loop-code l = FactsSoFar l.fn.program l.code-index l.facts.items
