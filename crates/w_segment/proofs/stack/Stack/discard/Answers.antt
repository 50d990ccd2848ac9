use Rattle.std.proofs.Common.{◌-◌, ◌≤◌, List, sym, ap, ◌∙◌, refl, reverse, length, vec_len, arith}
use Rattle.std.proofs.lemmas.List.{length-take-le}
use Rattle.w_types.specs.declared.value.Value.{Value}
use Rattle.w_segment.specs.Shape.{Shape}
use Rattle.w_segment.specs.Changes.{discarded}
use Rattle.w_segment.specs.Flat.{base, own, levels_of}
use Rattle.w_segment.proofs.CountsOfMarks.{high}
use Rattle.w_segment.proofs.OwnOperands.{ordered_less, own_long, base_le, top_of, levels_split}
use Rattle.w_segment.proofs.SameShapes.{same_shape, same_capacity}
use Rattle.w_segment.proofs.stack.Stack.discard.Goals as goal

pub returns-clause-room : goal.returns-clause-room
returns-clause-room c =
    let i = c.self.inside in
    let es = reverse i.marks.items in
    let k = ap (λ (s : Shape). length s.operands) c.self.view_is in
    let o = own_long es i.operands.items in
    let n = ap (λ (l : List Value). length l) c.take_off.ensures.items ∙ length-take-le (vec_len i.operands - c.args.count) i.operands.items (omega arith) in
    let le = base_le es (length i.operands.items) (length i.locals.items) i.first c.self.invariant.0 in
    let low : base es ≤ length c.take_off.new.items.items = omega (arith, k, o, n, le, c.requires.some) in
    let h = high es c.take_off.new.items.items i.locals.items i.first (ordered_less es (length i.operands.items) (length c.take_off.new.items.items) (length i.locals.items) i.first low c.self.invariant.0) in
    let f = c.take_off.ensures.capacity in omega (arith, h, n, f, c.requires.some, k, o)

pub returns-clause-after : goal.returns-clause-after
returns-clause-after c =
    let i = c.self.inside in
    let es = reverse i.marks.items in
    let vs = i.operands.items in
    let b = vec_len i.operands - c.args.count in
    let fits : c.args.count ≤ length (own es vs) = (let v = ap (λ s. length s.operands) c.self.view_is in let p = c.requires.some in omega (arith, v, p)) in
    let le = base_le es (length vs) (length i.locals.items) i.first c.self.invariant.0 in
    let t = top_of es vs c.args.count b fits le (omega arith) in
    same_shape _ _
    (ap (λ (l : List Value). levels_of es l i.locals.items i.first) c.take_off.ensures.items ∙ sym (levels_split es vs i.locals.items i.first b t.2 t.3))
    (ap (λ (l : List Value). own es l) c.take_off.ensures.items ∙ sym t.1)
    refl refl refl (same_capacity _ _ _ _ _ _ c.take_off.ensures.capacity refl refl)
    ∙ ap (discarded c.args.count) c.self.view_is
