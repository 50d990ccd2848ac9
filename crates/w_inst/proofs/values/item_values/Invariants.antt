use Rattle.std.proofs.Common.{drop}
use Rattle.w_inst.proofs.FoundValues.{ItemsFound}
use Rattle.w_inst.proofs.values.item_values.Given as goal

-- those so far are valued
abbrev pub invariant-loop-place : goal.invariant-loop-place
invariant-loop-place l = ItemsFound l.globals l.functions l.items l.values.items (drop l.place l.items)
