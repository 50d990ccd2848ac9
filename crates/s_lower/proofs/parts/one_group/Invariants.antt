use Rattle.std.proofs.Common.{◌≡◌, map}
use Rattle.w_syntax.specs.Types.{alone_of}
use Rattle.s_lower.proofs.parts.one_group.Given as goal

abbrev pub invariant-loop-ty : goal.invariant-loop-ty
invariant-loop-ty l = l.all ≡ map alone_of l.yielded
