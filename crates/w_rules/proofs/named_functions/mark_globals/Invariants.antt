use Rattle.std.proofs.Common.{◌≡◌, take}
use Rattle.std.specs.List.{flat_map}
use Rattle.w_syntax.specs.declared.module.GlobalVariable.{GlobalVariable}
use Rattle.w_rules.specs.Spaces.{marked, named_in}
use Rattle.w_rules.proofs.named_functions.mark_globals.Given as goal

abbrev pub invariant-loop-global : goal.invariant-loop-global
invariant-loop-global l = l.declared ≡ marked l.fn.declared (flat_map (λ (g : GlobalVariable). named_in g.init) (take l.global-index l.globals))
