use Rattle.std.proofs.Common.{List, Option, ap, ◌∙◌, refl, reverse, length, arith, length-append}
use Rattle.std.specs.Prelude.{replicate}
use Rattle.w_types.specs.declared.value.Value.{Value}
use Rattle.w_segment.specs.Shape.{Shape, frames_of, locals_all}
use Rattle.w_segment.specs.Changes.{with_more}
use Rattle.w_segment.specs.Flat.{levels_of}
use Rattle.w_segment.proofs.CountsOfMarks.{wide, frames_are}
use Rattle.w_segment.proofs.LocalsOfMarks.{locals_more, ordered_more}
use Rattle.w_segment.proofs.SameShapes.{same_shape, same_capacity}
use Rattle.w_segment.proofs.stack.Stack.add_locals.Goals as goal

pub push_copies-requires : goal.push_copies-requires
push_copies-requires c = record {
  room = (let i = c.self.inside in
      let h = wide (reverse i.marks.items) i.operands.items i.locals.items (length i.operands.items) i.first c.self.invariant.0 in
      let v = ap (λ (s : Shape). locals_all s.levels) c.self.view_is in
      let k = ap (λ (s : Shape). s.capacity.locals) c.self.view_is in omega (arith, h, v, k, c.requires.room));
}

pub invariant_of-self : goal.invariant_of-self
invariant_of-self c =
    let i = c.self.inside in
    let es = reverse i.marks.items in
    let f = frames_are es i.operands.items i.locals.items i.first in
    let v = ap (λ (s : Shape). frames_of s.levels) c.self.view_is in
    let l = ap (λ (l : List (Option Value)). length l) c.push_copies.ensures.items in
    let a = length-append i.locals.items (replicate c.args.count c.args.local) in (
      ordered_more es (length i.operands.items) (length i.locals.items) (length c.push_copies.new.locals.items) i.first (omega (arith, f, v, c.requires.frame)) (omega (arith, l, a)) c.self.invariant.0,
      c.self.invariant.1,
      c.self.invariant.2,
      c.self.invariant.3,
    )

pub returns : goal.returns
returns c = record {
  after = (let i = c.self.inside in
      let es = reverse i.marks.items in
      let ks = replicate c.args.count c.args.local in
      same_shape _ _
      (ap (λ (l : List (Option Value)). levels_of es i.operands.items l i.first) c.push_copies.ensures.items
      ∙ locals_more es i.operands.items i.locals.items ks (length i.operands.items) i.first c.self.invariant.0)
      refl refl refl refl (same_capacity _ _ _ _ _ _ refl refl c.push_copies.ensures.capacity)
      ∙ ap (with_more ks) c.self.view_is);
}
