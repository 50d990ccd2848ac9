use Rattle.std.proofs.Common.{◌≡◌, drop}
use Rattle.s_size.specs.Left.{left_after, declared_size}
use Rattle.s_size.proofs.script.after_declarations.Given as goal

abbrev pub invariant-loop-declaration : goal.invariant-loop-declaration
invariant-loop-declaration l = left_after (declared_size (drop l.declaration-index l.all)) l.left ≡ left_after (declared_size l.all) l.fn.budget
