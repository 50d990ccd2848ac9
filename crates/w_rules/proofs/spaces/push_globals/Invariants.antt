use Rattle.std.proofs.Common.{◌≡◌, ◌++◌, map, take}
use Rattle.w_syntax.specs.declared.module.GlobalVariable.{GlobalVariable}
use Rattle.w_rules.proofs.spaces.push_globals.Given as goal

abbrev pub invariant-loop-global : goal.invariant-loop-global
invariant-loop-global l = l.globals.items ≡ l.fn.globals.items ++ map (λ (g : GlobalVariable). g.kind) (take l.global-index l.own)
