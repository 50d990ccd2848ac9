use Rattle.std.proofs.Common.{List, ap, ◌∙◌, refl, reverse, length, arith, length-append}
use Rattle.w_types.specs.declared.value.Value.{Value}
use Rattle.w_segment.specs.Shape.{Shape, height}
use Rattle.w_segment.specs.Changes.{pushed_all}
use Rattle.w_segment.specs.Flat.{own, levels_of}
use Rattle.w_segment.proofs.CountsOfMarks.{high}
use Rattle.w_segment.proofs.OwnOperands.{base_le, own_over, levels_over, ordered_more}
use Rattle.w_segment.proofs.SameShapes.{same_shape, same_capacity}
use Rattle.w_segment.proofs.stack.Stack.push_all.Goals as goal

pub push_values-requires : goal.push_values-requires
push_values-requires c =
    let i = c.self.inside in
    let h = high (reverse i.marks.items) i.operands.items i.locals.items i.first c.self.invariant.0 in
    let v = ap (λ (s : Shape). height s) c.self.view_is in
    let k = ap (λ (s : Shape). s.capacity.operands) c.self.view_is in omega (arith, h, v, k, c.requires.room)

pub invariant_of-self : goal.invariant_of-self
invariant_of-self c =
    let i = c.self.inside in
    let l = ap (λ (l : List Value). length l) c.push_values.ensures.items in
    let a = length-append i.operands.items c.args.values.now in
    (ordered_more (reverse i.marks.items) (length i.operands.items) (length c.push_values.new.operands.items) (length i.locals.items) i.first (omega (arith, l, a)) c.self.invariant.0, c.self.invariant.1, c.self.invariant.2, c.self.invariant.3)

pub returns : goal.returns
returns c = record {
  after = (let i = c.self.inside in
      let es = reverse i.marks.items in
      let vs = i.operands.items in
      let le = base_le es (length vs) (length i.locals.items) i.first c.self.invariant.0 in
      same_shape _ _
      (ap (λ (l : List Value). levels_of es l i.locals.items i.first) c.push_values.ensures.items ∙ levels_over es vs c.args.values.now i.locals.items i.first le)
      (ap (λ (l : List Value). own es l) c.push_values.ensures.items ∙ own_over es vs c.args.values.now le)
      refl refl refl (same_capacity _ _ _ _ _ _ c.push_values.ensures.capacity refl refl)
      ∙ ap (pushed_all c.args.values.now) c.self.view_is);
}
