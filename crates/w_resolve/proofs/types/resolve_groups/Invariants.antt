use Rattle.std.proofs.Common.{◌≡◌}
use Rattle.w_link.specs.Shifted.{group_shifted}
use Rattle.w_resolve.proofs.InPlace.{changed}
use Rattle.w_resolve.proofs.types.resolve_groups.Given as goal

abbrev pub invariant-loop-group : goal.invariant-loop-group
invariant-loop-group l = l.group-items ≡ changed (group_shifted l.n) l.group-index l.initial.group-items
