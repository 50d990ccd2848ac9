use Rattle.std.proofs.Common.{◌≡◌, ◌≤◌, ◌+◌, ◌++◌, drop, length}
use Rattle.std.specs.Prelude.{sum_by}
use Rattle.s_check.specs.Size.{clause_size}
use Rattle.s_code.specs.Clauses.{placed_all}
use Rattle.s_lower.specs.Views.{bounds_of, placed_by}
use Rattle.s_lower.proofs.code.push_all_placed.Given as goal

abbrev pub invariant-loop-clause : goal.invariant-loop-clause
invariant-loop-clause l = record {
  placed : placed_all l.placed.items ++ placed_by l.program l.handler (bounds_of l.parameters) l.temporaries l.next (drop l.clause-index l.clauses)
      ≡ placed_all l.fn.placed.items ++ placed_by l.program l.handler (bounds_of l.parameters) l.temporaries l.fn.from l.clauses;
  room : l.next + length l.parameters + sum_by clause_size (drop l.clause-index l.clauses) ≤ 200000;
}
