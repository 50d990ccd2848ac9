use Rattle.std.proofs.Common.{take}
use Rattle.w_rows.specs.TypeRows.{AreReady}
use Rattle.w_rows.proofs.type_rows.ready_row.Given as goal

-- the types so far stand ready
abbrev pub invariant-loop-kind : goal.invariant-loop-kind
invariant-loop-kind l = AreReady l.classes (take l.kind-index l.types) l.operands.items l.given.items l.wanted.items l.lengths.items
