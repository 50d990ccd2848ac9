use Rattle.std.proofs.Common.{◌≡◌, take}
use Rattle.std.specs.List.{flat_map}
use Rattle.w_syntax.specs.declared.module.Elem.{Elem}
use Rattle.w_rules.specs.Spaces.{marked, named_in}
use Rattle.w_rules.proofs.named_functions.mark_elements.Given as goal

abbrev pub invariant-loop-element : goal.invariant-loop-element
invariant-loop-element l = l.declared ≡ marked l.fn.declared (flat_map (λ (e : Elem). flat_map named_in e.items) (take l.element-index l.elements))
