use Rattle.std.proofs.Common.{◌≡◌, drop}
use Rattle.s_syntax.specs.ExprTree.{exprs}
use Rattle.s_check.specs.Rules.{all_suit}
use Rattle.s_check.proofs.arguments.all_suit.Given as goal

abbrev pub invariant-loop-index : goal.invariant-loop-index
invariant-loop-index l = all_suit l.declarations l.scope (drop l.index l.parameters) (exprs (drop l.index l.arguments)) ≡ all_suit l.declarations l.scope l.parameters (exprs l.arguments)
