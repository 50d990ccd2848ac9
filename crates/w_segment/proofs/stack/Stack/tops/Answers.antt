use Rattle.std.proofs.Common.{◌-◌, ◌≤◌, List, sym, ap, ◌∙◌, reverse, length, take, drop, arith}
use Rattle.std.proofs.lemmas.List.{reverse-reverse}
use Rattle.w_types.specs.declared.value.Value.{Value}
use Rattle.w_segment.specs.Flat.{own}
use Rattle.w_segment.proofs.OwnOperands.{base_le, top_of}
use Rattle.w_segment.proofs.PartsOfLists.{slice_rest}
use Rattle.w_segment.proofs.stack.Stack.tops.Goals as goal

pub returns : goal.returns
returns c = record {
  value = (let i = c.self.inside in
      let es = reverse i.marks.items in
      let vs = i.operands.items in
      let b = c.len.result - c.args.count in
      let fits : c.args.count ≤ length (own es vs) = (let v = ap (λ s. length s.operands) c.self.view_is in let p = c.requires.some in omega (arith, v, p)) in
      let le = base_le es (length vs) (length i.locals.items) i.first c.self.invariant.0 in
      let t = top_of es vs c.args.count b fits le (let l = c.len.ensures in omega (arith, l)) in
      slice_rest c.deref.result.now b ∙ ap (λ (l : List Value). drop b l) c.deref.ensures.value ∙ sym (ap reverse t.0 ∙ reverse-reverse (drop b vs)) ∙ ap (λ s. reverse (take c.args.count s.operands)) c.self.view_is);
}
