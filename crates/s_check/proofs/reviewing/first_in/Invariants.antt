use Rattle.std.proofs.Common.{◌≡◌, List, [], ◌∷◌, ◌++◌, drop}
use Rattle.s_syntax.specs.declared.name.Name.{Name}
use Rattle.s_check.specs.Least.{first_broken}
use Rattle.s_check.specs.Rules.{in_declarations, in_main, broken_rules}
use Rattle.s_check.specs.Views.{HasNames}
use Rattle.s_check.proofs.reviewing.first_in.Given as goal

abbrev pub invariant-loop-index : goal.invariant-loop-index
invariant-loop-index l = record {
  seen : List Name;
  has : HasNames l.before seen;
  rest : first_broken l.index (in_declarations l.all seen (drop l.index l.all) ++ in_main l.all ∷ []) ≡ first_broken 0 (broken_rules l.all);
}
