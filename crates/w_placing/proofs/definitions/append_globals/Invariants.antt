use Rattle.std.proofs.Common.{◌≡◌, ◌++◌, map, take}
use Rattle.w_syntax.specs.declared.module.GlobalVariable.{GlobalVariable}
use Rattle.w_link.specs.Items.{global_type_shifted}
use Rattle.w_placing.proofs.definitions.append_globals.Given as goal

abbrev pub invariant-loop-global : goal.invariant-loop-global
invariant-loop-global l = l.all.items ≡ l.fn.all.items ++ map (λ (g : GlobalVariable). global_type_shifted l.n g.kind) (take l.global-index l.globals)
