use Rattle.std.proofs.Common.{◌≡◌, take}
use Rattle.lists.specs.Rows.{row_of, ◌⧺◌}
use Rattle.w_rules.specs.Matching.{known}
use Rattle.w_rows.specs.Operands.{row_in, AreWorded}
use Rattle.w_flow.proofs.operands.give_each.Given as goal

-- the first types are given
abbrev pub invariant-loop-kind : goal.invariant-loop-kind
invariant-loop-kind l = record {
  given : row_in l.operands ≡ row_in l.initial.operands ⧺ known (row_of (take l.kind-index l.types));
  worded : AreWorded l.classes l.initial.operands → AreWorded l.classes l.operands;
}
