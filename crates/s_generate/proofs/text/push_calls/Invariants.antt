use Rattle.std.proofs.Common.{◌≡◌, ◌++◌}
use Rattle.s_generate.specs.Generated.{calls}
use Rattle.s_generate.proofs.text.push_calls.Given as goal

abbrev pub invariant-loop-before : goal.invariant-loop-before
invariant-loop-before l = l.script.items ≡ l.fn.script.items ++ calls l.before
