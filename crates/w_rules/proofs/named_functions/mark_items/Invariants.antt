use Rattle.std.proofs.Common.{◌≡◌, take}
use Rattle.std.specs.List.{flat_map}
use Rattle.w_rules.specs.Spaces.{marked, named_in}
use Rattle.w_rules.proofs.named_functions.mark_items.Given as goal

abbrev pub invariant-loop-place : goal.invariant-loop-place
invariant-loop-place l = l.declared ≡ marked l.fn.declared (flat_map named_in (take l.place l.items))
