use Rattle.std.proofs.Common.{drop}
use Rattle.w_items.proofs.TypesOfGroups.{ValidBelow, Left}
use Rattle.w_items.proofs.types.first_invalid_type.Given as goal

-- each type of the groups so far is valid, and those that are left stand behind them
abbrev pub invariant-loop-group : goal.invariant-loop-group
invariant-loop-group l = record {
  valid : ValidBelow l.cx.candidate.now l.start;
  left : Left l.cx.candidate.now.types l.start (drop l.group-index l.cx.candidate.now.types);
}
