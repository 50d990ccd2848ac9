use Rattle.std.proofs.Common.{◌-◌, drop, length}
use Rattle.s_code.specs.Views.{FoundLocals}
use Rattle.s_code.proofs.layout.first_locals.Given as goal

abbrev pub invariant-loop-behind : goal.invariant-loop-behind
invariant-loop-behind l = FoundLocals l.first (drop (length l.names - l.behind) l.names)
