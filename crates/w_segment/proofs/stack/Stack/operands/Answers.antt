use Rattle.std.proofs.Common.{ℕ, List, sym, ap, ◌∙◌, reverse, drop}
use Rattle.std.proofs.lemmas.List.{reverse-reverse}
use Rattle.w_types.specs.declared.value.Value.{Value}
use Rattle.w_segment.specs.declared.stack.Mark.{Mark}
use Rattle.w_segment.specs.Flat.{base}
use Rattle.w_segment.proofs.PartsOfLists.{slice_rest}
use Rattle.w_segment.proofs.stack.Stack.operands.Goals as goal

pub returns : goal.returns
returns c = record {
  value = (let i = c.self.inside in
      let es = reverse i.marks.items in
      let vs = i.operands.items in
      slice_rest c.deref.result.now c.below.result ∙ ap (λ (l : List Value). drop c.below.result l) c.deref.ensures.value
      ∙ ap (λ (b : ℕ). drop b vs) (c.below.ensures.value ∙ ap (λ (l : List Mark). base (reverse l)) c.deref-2.ensures.value)
      ∙ sym (reverse-reverse (drop (base es) vs)) ∙ ap (λ s. reverse s.operands) c.self.view_is);
}
