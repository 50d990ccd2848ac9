use Rattle.std.proofs.Common.{◌∙◌, ◌∷◌, ◌++◌, [], ℕ, List, false, map, ap}
use Rattle.w_types.specs.declared.types.HeapType.TheVariants as heap
use Rattle.w_syntax.specs.declared.module.ElemMode.TheVariants as mode
use Rattle.w_syntax.specs.Code.{Code}
use Rattle.w_syntax.specs.Items.{reference_to}
use Rattle.w_syntax.specs.declared.module.Elem.{Elem}
use Rattle.s_index.specs.Handled.{handled}
use Rattle.s_lower.proofs.Each.{declared_some}
use Rattle.s_lower.proofs.parts.push_elements.Goals as goal

pub returns : goal.returns
returns c =
    let xs = c.in_ok-functions.functions.items in
    let segment : List Code → List Elem = λ (ks : List Code). (let e : Elem = record { kind = record { nullable = false; heap = heap.Func }; items = ks; mode = mode.Declarative } in e) ∷ [] in
    let items = c.of_functions.ensures ∙ ap (λ (ys : List ℕ). map reference_to ys) c.from_vec.ensures in
    record {
      value = c.in_ok-push.ensures.ok
          ∙ ap (λ (es : List Elem). c.args.elements.now ++ es)
          (declared_some c.args.program.now (handled c.args.program.now) xs (segment c.of_functions.result) c.in_ok-functions.ensures.value
          (λ e. c.if-len-eq0.false (c.len.ensures ∙ c.in_ok-functions.functions.ok.0 ∙ e)) (ap segment items));
    }
