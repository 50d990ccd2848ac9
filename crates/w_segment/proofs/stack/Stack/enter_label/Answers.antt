use Rattle.std.proofs.Common.{◌≡◌, ◌-◌, ◌≤◌, ◌∷◌, List, sym, ap, ◌∙◌, refl, reverse, length, take, drop, arith}
use Rattle.std.proofs.lemmas.List.{length-reverse}
use Rattle.w_types.specs.declared.value.Value.{Value}
use Rattle.w_segment.specs.declared.stack.Mark.{Mark}
use Rattle.w_segment.specs.declared.stack.Mark.TheVariants as mark
use Rattle.w_segment.specs.Shape.{Shape, Level, Label}
use Rattle.w_segment.specs.Changes.{labelled}
use Rattle.w_segment.specs.Flat.{base, own, levels_of}
use Rattle.w_segment.proofs.CountsOfMarks.{long}
use Rattle.w_segment.proofs.PartsOfLists.{reverse_push}
use Rattle.w_segment.proofs.OwnOperands.{base_le, top_of, levels_split}
use Rattle.w_segment.proofs.SameShapes.{same_shape, same_capacity}
use Rattle.w_segment.proofs.stack.Stack.enter_label.Goals as goal

pub push_reserved-requires : goal.push_reserved-requires
push_reserved-requires c =
    let i = c.self.inside in
    let h = long (reverse i.marks.items) i.operands.items i.locals.items i.first in
    let r = length-reverse i.marks.items in
    let v = ap (λ (s : Shape). length s.levels) c.self.view_is in
    let k = ap (λ (s : Shape). s.capacity.levels) c.self.view_is in omega (arith, h, r, v, k, c.requires.levels)

pub returns : goal.returns
returns c = record {
  after = (let i = c.self.inside in
      let es = reverse i.marks.items in
      let vs = i.operands.items in
      let b = c.len.result - c.args.params in
      let e : reverse c.push_reserved.new.self.items ≡ mark.Label c.args.arity c.args.target b ∷ es = ap reverse c.push_reserved.ensures.items ∙ reverse_push i.marks.items _ in
      let fits : c.args.params ≤ length (own es vs) = (let v = ap (λ s. length s.operands) c.self.view_is in let p = c.requires.params in omega (arith, v, p)) in
      let le : base es ≤ length vs = base_le es (length vs) (length i.locals.items) i.first c.self.invariant.0 in
      let t = top_of es vs c.args.params b fits le (let l = c.len.ensures in omega (arith, l)) in
      same_shape _ _
      (ap (λ (l : List Mark). levels_of l vs i.locals.items i.first) e
      ∙ ap (λ (o : List Value). Label o c.args.arity c.args.target ∷ levels_of es (take b vs) i.locals.items i.first) (sym t.1)
      ∙ ap (λ (l : List Level). Label (drop c.args.params (own es vs)) c.args.arity c.args.target ∷ l) (sym (levels_split es vs i.locals.items i.first b t.2 t.3)))
      (ap (λ (l : List Mark). own l vs) e ∙ sym t.0)
      refl refl refl (same_capacity _ _ _ _ _ _ refl c.push_reserved.ensures.capacity refl)
      ∙ ap (labelled c.args.params c.args.arity c.args.target) c.self.view_is);
}
