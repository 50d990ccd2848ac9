use Rattle.std.proofs.Common.{◌≡◌, ◌++◌, map}
use Rattle.s_code.specs.Lowered.{group}
use Rattle.s_lower.proofs.parts.push_groups.Given as goal

abbrev pub invariant-loop-ty : goal.invariant-loop-ty
invariant-loop-ty l = l.groups.items ≡ l.fn.groups.items ++ map group l.yielded
