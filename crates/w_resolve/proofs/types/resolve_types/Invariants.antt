use Rattle.std.proofs.Common.{◌≡◌}
use Rattle.w_link.specs.Shifted.{type_shifted}
use Rattle.w_resolve.proofs.InPlace.{changed}
use Rattle.w_resolve.proofs.types.resolve_types.Given as goal

abbrev pub invariant-loop-kind : goal.invariant-loop-kind
invariant-loop-kind l = l.kind-items ≡ changed (type_shifted l.n) l.kind-index l.initial.kind-items
