use Rattle.std.proofs.Common.{◌≡◌, ◌++◌}
use Rattle.w_linked.specs.Linked.{host_imports}
use Rattle.w_linker.proofs.imports.append_imports.Given as goal

abbrev pub invariant-loop-import : goal.invariant-loop-import
invariant-loop-import l = l.all.items ≡ l.fn.all.items ++ host_imports l.n l.module l.yielded
