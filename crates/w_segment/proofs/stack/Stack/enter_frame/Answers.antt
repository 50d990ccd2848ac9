use Rattle.std.proofs.Common.{◌≡◌, ◌-◌, ◌≤◌, ◌∷◌, ◌++◌, List, Option, Some, None, sym, ap, subst, ◌∙◌, refl, reverse, length, take, drop, map, arith, length-drop, length-append}
use Rattle.std.specs.Prelude.{replicate}
use Rattle.std.proofs.lemmas.List.{length-map, length-reverse}
use Rattle.w_types.specs.declared.value.Value.{Value}
use Rattle.w_segment.specs.declared.stack.Mark.{Mark}
use Rattle.w_segment.specs.declared.stack.Mark.TheVariants as mark
use Rattle.w_segment.specs.Shape.{Shape, locals_all}
use Rattle.w_segment.specs.Changes.{framed}
use Rattle.w_segment.specs.Flat.{own, levels_of, Ordered, frames_in, inner_in, Nested}
use Rattle.w_segment.proofs.CountsOfMarks.{long, wide, frames_few}
use Rattle.w_segment.proofs.PartsOfLists.{reverse_push, slice_rest}
use Rattle.w_segment.proofs.FramedLevels.{framed_levels}
use Rattle.w_segment.proofs.SameShapes.{same_shape, same_capacity}
use Rattle.w_segment.proofs.stack.Stack.enter_frame.Goals as goal

pub overflow_add-self : goal.overflow_add-self
overflow_add-self c =
    let i = c.self.inside in
    let f = frames_few (reverse i.marks.items) in
    let r = length-reverse i.marks.items in
    let h = long (reverse i.marks.items) i.operands.items i.locals.items i.first in
    let v = ap (λ (s : Shape). length s.levels) c.self.view_is in
    let k = ap (λ (s : Shape). s.capacity.levels) c.self.view_is in
    omega (arith, c.self.invariant.1, f, r, h, v, k, c.requires.levels)

pub push_reserved-requires : goal.push_reserved-requires
push_reserved-requires c =
    let i = c.self.inside in
    let h = long (reverse i.marks.items) i.operands.items i.locals.items i.first in
    let r = length-reverse i.marks.items in
    let v = ap (λ (s : Shape). length s.levels) c.self.view_is in
    let k = ap (λ (s : Shape). s.capacity.levels) c.self.view_is in omega (arith, h, r, v, k, c.requires.levels)

pub push_arguments-requires : goal.push_arguments-requires
push_arguments-requires c =
    let i = c.self.inside in
    let h = wide (reverse i.marks.items) i.operands.items i.locals.items (length i.operands.items) i.first c.self.invariant.0 in
    let v = ap (λ (s : Shape). locals_all s.levels) c.self.view_is in
    let k = ap (λ (s : Shape). s.capacity.locals) c.self.view_is in
    let a = ap (λ (l : List Value). length l) (slice_rest c.deref.result.now (c.len.result - c.args.params)) in
    let d = length-drop (c.len.result - c.args.params) c.deref.result.now in
    let w = ap (λ (l : List Value). length l) c.deref.ensures.value in
    omega (arith, h, v, k, a, d, w, c.len.ensures, c.requires.locals)

pub push_copies-requires : goal.push_copies-requires
push_copies-requires c =
    let i = c.self.inside in
    let h = wide (reverse i.marks.items) i.operands.items i.locals.items (length i.operands.items) i.first c.self.invariant.0 in
    let v = ap (λ (s : Shape). locals_all s.levels) c.self.view_is in
    let k = ap (λ (s : Shape). s.capacity.locals) c.self.view_is in
    let b = c.len.result - c.args.params in
    let x = take (length c.deref.result.now - b) (drop b c.deref.result.now) in
    let a = ap (λ (l : List Value). length l) (slice_rest c.deref.result.now b) in
    let d = length-drop b c.deref.result.now in
    let w = ap (λ (l : List Value). length l) c.deref.ensures.value in
    let n = ap (λ (l : List (Option Value)). length l) c.push_arguments.ensures.items in
    let z = length-append i.locals.items (map (λ (v : Value). Some v) x) in
    let m = length-map x (λ (v : Value). Some v) in
    omega (arith, h, v, k, a, d, w, n, z, m, c.len.ensures, c.push_arguments.ensures.capacity, c.requires.locals)

pub invariant_of-self : goal.invariant_of-self
invariant_of-self c =
    let i = c.self.inside in
    let es = reverse i.marks.items in
    let vs = i.operands.items in
    let b = c.len.result - c.args.params in
    let e : reverse c.push_reserved.new.self.items ≡ mark.Frame c.args.arity i.func i.place b i.first i.inner ∷ es = ap reverse c.push_reserved.ensures.items ∙ reverse_push i.marks.items _ in
    let fits : c.args.params ≤ length (own es vs) = (let v = ap (λ s. length s.operands) c.self.view_is in let p = c.requires.params in omega (arith, v, p)) in
    let f = framed_levels es vs i.locals.items c.push_copies.new.locals.items c.args.arity i.func i.place i.first i.inner c.len-first.result b c.args.params (c.args.locals - c.args.params) c.self.invariant.0 fits
    (let l = c.len.ensures in omega (arith, l)) (let l = c.len-first.ensures in omega (arith, l))
    (c.push_copies.ensures.items ∙ ap (λ (l : List (Option Value)). l ++ replicate (c.args.locals - c.args.params) None) (c.push_arguments.ensures.items
    ∙ ap (λ (l : List Value). i.locals.items ++ map (λ (v : Value). Some v) l) (slice_rest c.deref.result.now b) ∙ ap (λ (l : List Value). i.locals.items ++ map (λ (v : Value). Some v) (drop b l)) c.deref.ensures.value)) in (
      subst (λ (l : List Mark). Ordered l (length c.truncate.new.self.items) (length c.push_copies.new.locals.items) c.len-first.result) (sym e)
          (subst (λ (l : List Value). Ordered (mark.Frame c.args.arity i.func i.place b i.first i.inner ∷ es) (length l) (length c.push_copies.new.locals.items) c.len-first.result) (sym c.truncate.ensures.items) f.2),
      omega (arith, c.self.invariant.1, ap frames_in e),
      (let l = length-reverse c.push_reserved.new.self.items in let n = ap inner_in e in let m = ap (λ (l : List Mark). length l) e in omega (arith, l, m, n, c.len-self-inside.ensures)),
      subst Nested (sym e) (c.self.invariant.2, c.self.invariant.3),
    )

pub returns : goal.returns
returns c = record {
  after = (let i = c.self.inside in
      let es = reverse i.marks.items in
      let vs = i.operands.items in
      let b = c.len.result - c.args.params in
      let e : reverse c.push_reserved.new.self.items ≡ mark.Frame c.args.arity i.func i.place b i.first i.inner ∷ es = ap reverse c.push_reserved.ensures.items ∙ reverse_push i.marks.items _ in
      let fits : c.args.params ≤ length (own es vs) = (let v = ap (λ s. length s.operands) c.self.view_is in let p = c.requires.params in omega (arith, v, p)) in
      let f = framed_levels es vs i.locals.items c.push_copies.new.locals.items c.args.arity i.func i.place i.first i.inner c.len-first.result b c.args.params (c.args.locals - c.args.params) c.self.invariant.0 fits
      (let l = c.len.ensures in omega (arith, l)) (let l = c.len-first.ensures in omega (arith, l))
      (c.push_copies.ensures.items ∙ ap (λ (l : List (Option Value)). l ++ replicate (c.args.locals - c.args.params) None) (c.push_arguments.ensures.items
      ∙ ap (λ (l : List Value). i.locals.items ++ map (λ (v : Value). Some v) l) (slice_rest c.deref.result.now b) ∙ ap (λ (l : List Value). i.locals.items ++ map (λ (v : Value). Some v) (drop b l)) c.deref.ensures.value)) in
      same_shape _ _
      (ap (λ (l : List Mark). levels_of l c.truncate.new.self.items c.push_copies.new.locals.items c.len-first.result) e
      ∙ ap (λ (l : List Value). levels_of (mark.Frame c.args.arity i.func i.place b i.first i.inner ∷ es) l c.push_copies.new.locals.items c.len-first.result) c.truncate.ensures.items ∙ f.0)
      (ap (λ (l : List Mark). own l c.truncate.new.self.items) e ∙ ap (λ (l : List Value). own (mark.Frame c.args.arity i.func i.place b i.first i.inner ∷ es) l) c.truncate.ensures.items ∙ f.1)
      refl refl refl
      (same_capacity _ _ _ _ _ _ c.truncate.ensures.capacity c.push_reserved.ensures.capacity (c.push_copies.ensures.capacity ∙ c.push_arguments.ensures.capacity))
      ∙ ap (framed c.args.func c.args.params c.args.locals c.args.arity) c.self.view_is);
}
