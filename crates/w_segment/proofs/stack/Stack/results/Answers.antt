use Rattle.std.proofs.Common.{ℕ, ◌-◌, ap, ◌∙◌, reverse, arith}
use Rattle.std.proofs.lemmas.List.{length-reverse}
use Rattle.w_segment.specs.Shape.{frame_at}
use Rattle.w_segment.proofs.ReturnedFrames.{inner_within, frame_is, frame_is_no_label}
use Rattle.w_segment.proofs.stack.Stack.results.Goals as goal

pub overflow_sub-frame : goal.overflow_sub-frame
overflow_sub-frame c =
    let i = c.self.inside in
    let vs = i.operands.items in
    let (r, h, n) = c.requires.there in
    let l = ap (λ s. frame_at s.levels) c.self.view_is ∙ h in
    let w = inner_within (reverse i.marks.items) vs i.locals.items i.first r c.self.invariant.0 l in
    let inner = c.self.invariant.2 in
    let a = w.0 in
    omega (arith, a, inner)

pub index-requires : goal.index-requires
index-requires c =
    let i = c.self.inside in
    let vs = i.operands.items in
    let (r, h, n) = c.requires.there in
    let l = ap (λ s. frame_at s.levels) c.self.view_is ∙ h in
    let w = inner_within (reverse i.marks.items) vs i.locals.items i.first r c.self.invariant.0 l in
    let inner = c.self.invariant.2 in
    let a = w.0 in
    let b = w.1 in
    let m = length-reverse i.marks.items in
    omega (arith, a, b, inner, m)

pub unreachable-requires : goal.unreachable-requires
unreachable-requires c =
    let i = c.self.inside in
    let vs = i.operands.items in
    let (r, h, n) = c.requires.there in
    let l = ap (λ s. frame_at s.levels) c.self.view_is ∙ h in
    frame_is_no_label i.marks.items vs i.locals.items i.first (i.inner - 1) r c.index.result.now c.in-Label.arity c.in-Label.target c.in-Label.below
    c.self.invariant.0 l (ap (λ (n : ℕ). n - 1) c.self.invariant.2) c.index.ensures c.in-Label.is

pub returns : goal.returns
returns c = record {
  results = λ r h. (let i = c.self.inside in
      let l = ap (λ s. frame_at s.levels) c.self.view_is ∙ h in
      let f = frame_is i.marks.items i.operands.items i.locals.items i.first (i.inner - 1) r c.index.result.now
      c.in-Frame.arity _ _ _ _ _
      c.self.invariant.0 l (ap (λ (n : ℕ). n - 1) c.self.invariant.2) c.index.ensures c.in-Frame.is in
      f.arity);
}
