use Rattle.std.proofs.Common.{◌≡◌, ◌++◌, map, take}
use Rattle.w_syntax.specs.declared.module.Elem.{Elem}
use Rattle.w_rules.proofs.spaces.push_elements.Given as goal

abbrev pub invariant-loop-element : goal.invariant-loop-element
invariant-loop-element l = l.elements.items ≡ l.fn.elements.items ++ map (λ (e : Elem). e.kind) (take l.element-index l.own)
