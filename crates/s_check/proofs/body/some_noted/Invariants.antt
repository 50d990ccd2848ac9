use Rattle.std.proofs.Common.{◌≡◌, List, [], drop}
use Rattle.s_syntax.specs.declared.name.Name.{Name}
use Rattle.s_check.specs.Scopes.{some_twice}
use Rattle.s_check.specs.Views.{names_of, HasNames}
use Rattle.s_check.proofs.body.some_noted.Given as goal

abbrev pub invariant-loop-name : goal.invariant-loop-name
invariant-loop-name l = record {
  seen : List Name;
  has : HasNames l.before seen;
  rest : some_twice seen (names_of (drop l.name-index l.names)) ≡ some_twice [] (names_of l.names);
}
