use Rattle.std.proofs.Common.{◌≡◌, List, [], drop}
use Rattle.s_syntax.specs.declared.name.Name.{Name}
use Rattle.s_check.specs.Least.{least_of}
use Rattle.s_check.specs.Rules.{in_clauses}
use Rattle.s_check.specs.Views.{HasNames}
use Rattle.s_check.proofs.definition.in_each_clause.Given as goal

abbrev pub invariant-loop-clause : goal.invariant-loop-clause
invariant-loop-clause l = record {
  seen : List Name;
  has : HasNames l.before seen;
  rest : least_of l.least (in_clauses l.declarations l.name l.handler seen (drop l.clause-index l.clause-items)) ≡ least_of l.fn.least (in_clauses l.declarations l.name l.handler [] l.handler.clauses);
}
