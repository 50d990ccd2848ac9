use Rattle.std.proofs.Common.{◌≡◌, ◌++◌, drop}
use Rattle.s_code.specs.Handlers.{labels}
use Rattle.s_code.proofs.handler.labels.Given as goal

abbrev pub invariant-loop-index : goal.invariant-loop-index
invariant-loop-index l = l.all.items ++ labels l.program l.index (drop l.index l.clauses) ≡ labels l.program 0 l.clauses
