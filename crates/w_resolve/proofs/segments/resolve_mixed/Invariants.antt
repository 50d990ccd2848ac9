use Rattle.std.proofs.Common.{◌≡◌}
use Rattle.w_link.specs.Resolved.{code_resolved}
use Rattle.w_resolve.proofs.InPlace.{changed}
use Rattle.w_resolve.proofs.segments.resolve_mixed.Given as goal

abbrev pub invariant-loop-item : goal.invariant-loop-item
invariant-loop-item l = l.item-items ≡ changed (code_resolved l.instance) l.item-index l.initial.item-items
