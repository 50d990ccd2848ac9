use Rattle.std.proofs.Common.{◌≡◌}
use Rattle.w_link.specs.Resolved.{at}
use Rattle.w_resolve.proofs.InPlace.{changed}
use Rattle.w_resolve.proofs.segments.resolve_functions.Given as goal

abbrev pub invariant-loop-index : goal.invariant-loop-index
invariant-loop-index l = l.index-items ≡ changed (at l.instance.functions) l.index-index l.initial.index-items
