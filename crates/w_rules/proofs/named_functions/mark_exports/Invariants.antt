use Rattle.std.proofs.Common.{◌≡◌, take}
use Rattle.std.specs.List.{flat_map}
use Rattle.w_syntax.specs.declared.module.Export.{Export}
use Rattle.w_rules.specs.Spaces.{marked, exported}
use Rattle.w_rules.proofs.named_functions.mark_exports.Given as goal

abbrev pub invariant-loop-export : goal.invariant-loop-export
invariant-loop-export l = l.declared ≡ marked l.fn.declared (flat_map (λ (e : Export). exported e.index) (take l.export-index l.exports))
