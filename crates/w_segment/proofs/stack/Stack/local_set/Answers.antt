use Rattle.std.proofs.Common.{ap, ◌∙◌, refl, reverse, length, arith, length-drop}
use Rattle.w_segment.specs.Shape.{locals_of}
use Rattle.w_segment.specs.Changes.{with_locals}
use Rattle.w_segment.proofs.LocalsOfMarks.{locals_are, locals_set}
use Rattle.w_segment.proofs.SameShapes.{same_shape}
use Rattle.w_segment.proofs.stack.Stack.local_set.Goals as goal

pub overflow_add-self-inside : goal.overflow_add-self-inside
overflow_add-self-inside c =
    let i = c.self.inside in
    let v = ap (λ s. length (locals_of s.levels)) c.self.view_is in
    let h = locals_are (reverse i.marks.items) i.operands.items i.locals.items i.first c.args.x (let r = c.requires.there in omega (arith, v, r)) in
    let l = length-drop i.first i.locals.items in
    let m = i.locals.small in
    omega (arith, v, ap length h, l, m, c.requires.there)

pub index_mut-requires : goal.index_mut-requires
index_mut-requires c =
    let i = c.self.inside in
    let v = ap (λ s. length (locals_of s.levels)) c.self.view_is in
    let h = locals_are (reverse i.marks.items) i.operands.items i.locals.items i.first c.args.x (let r = c.requires.there in omega (arith, v, r)) in
    let l = length-drop i.first i.locals.items in
    omega (arith, v, ap length h, l, c.requires.there)

pub returns : goal.returns
returns c = record {
  after = (let i = c.self.inside in
      same_shape _ _ (locals_set (reverse i.marks.items) i.operands.items i.locals.items i.first c.args.x c.args.value) refl refl refl refl refl
      ∙ ap (with_locals c.args.x c.args.value) c.self.view_is);
}
