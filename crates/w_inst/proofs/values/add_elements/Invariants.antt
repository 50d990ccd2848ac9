use Rattle.std.proofs.Common.{◌≡◌, drop, map}
use Rattle.w_syntax.specs.declared.module.Elem.{Elem}
use Rattle.w_reduce.specs.Store.{Store}
use Rattle.w_reduce.specs.Program.{Program}
use Rattle.w_reduce.specs.Constants.{value_of}
use Rattle.w_stands.specs.Values.{store_of}
use Rattle.w_inst.specs.Adding.{with_elements}
use Rattle.w_inst.specs.Constants.{Sees}
use Rattle.w_inst.proofs.values.add_elements.Given as goal

-- those so far are added
abbrev pub invariant-loop-segment : goal.invariant-loop-segment
invariant-loop-segment l = (p : Program) (s : Store) → Sees l.globals l.functions s
    → with_elements (store_of l.store) (map (λ (e : Elem). map (value_of p s) e.items) (drop l.segment-index l.segment-items))
    ≡ with_elements (store_of l.fn.store) (map (λ (e : Elem). map (value_of p s) e.items) l.program.elements)
