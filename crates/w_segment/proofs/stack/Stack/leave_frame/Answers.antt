use Rattle.std.proofs.Common.{◌≡◌, ℕ, ◌-◌, ◌≤◌, ◌++◌, List, ap, ◌∙◌, reverse, length, take, drop, arith, vec_len}
use Rattle.std.proofs.lemmas.List.{length-reverse}
use Rattle.w_types.specs.declared.value.Value.{Value}
use Rattle.w_segment.specs.Shape.{frame_at}
use Rattle.w_segment.specs.Flat.{own}
use Rattle.w_segment.proofs.ReturnedFrames.{inner_within, frame_is, frame_is_no_label, returned_levels, returned_own, returned_ordered, returned_nested, returned_frames}
use Rattle.w_segment.proofs.OwnOperands.{own_long, base_le}
use Rattle.w_segment.proofs.SameShapes.{same_shape, same_capacity}
use Rattle.w_segment.proofs.stack.Stack.leave_frame.Goals as goal

pub overflow_sub-frame : goal.overflow_sub-frame
overflow_sub-frame c =
    let i = c.self.inside in
    let vs = i.operands.items in
    let (r, h, n) = c.requires.there in
    let l = ap (λ s. frame_at s.levels) c.self.view_is ∙ h in
    let w = inner_within (reverse i.marks.items) vs i.locals.items i.first r c.self.invariant.0 l in
    let inner = c.self.invariant.2 in
    let a = w.0 in
    omega (arith, a, inner)

pub index-requires : goal.index-requires
index-requires c =
    let i = c.self.inside in
    let vs = i.operands.items in
    let (r, h, n) = c.requires.there in
    let l = ap (λ s. frame_at s.levels) c.self.view_is ∙ h in
    let w = inner_within (reverse i.marks.items) vs i.locals.items i.first r c.self.invariant.0 l in
    let inner = c.self.invariant.2 in
    let a = w.0 in
    let b = w.1 in
    let m = length-reverse i.marks.items in
    omega (arith, a, b, inner, m)

pub keep_top-requires : goal.keep_top-requires
keep_top-requires c =
    let i = c.self.inside in
    let vs = i.operands.items in
    let (r, h, n) = c.requires.there in
    let l = ap (λ s. frame_at s.levels) c.self.view_is ∙ h in
    let f = frame_is i.marks.items vs i.locals.items i.first (i.inner - 1) r c.index.result.now
    _ c.in-Frame.caller c.in-Frame.back c.in-Frame.below c.in-Frame.first c.in-Frame.outer
    c.self.invariant.0 l (ap (λ (n : ℕ). n - 1) c.self.invariant.2) c.index.ensures c.in-Frame.is in
    let le = base_le (reverse i.marks.items) (length vs) (length i.locals.items) i.first c.self.invariant.0 in
    let o = own_long (reverse i.marks.items) vs in
    let v = ap (λ s. length s.operands) c.self.view_is in
    let low = f.low in
    record { fits = omega (arith, o, v, n, low, le) }

pub overflow_sub-self : goal.overflow_sub-self
overflow_sub-self c =
    let i = c.self.inside in
    let vs = i.operands.items in
    let (r, h, n) = c.requires.there in
    let l = ap (λ s. frame_at s.levels) c.self.view_is ∙ h in
    let f = frame_is i.marks.items vs i.locals.items i.first (i.inner - 1) r c.index.result.now
    _ c.in-Frame.caller c.in-Frame.back c.in-Frame.below c.in-Frame.first c.in-Frame.outer
    c.self.invariant.0 l (ap (λ (n : ℕ). n - 1) c.self.invariant.2) c.index.ensures c.in-Frame.is in
    let a = f.frames in
    omega (arith, a, c.self.invariant.1)

pub unreachable-requires : goal.unreachable-requires
unreachable-requires c =
    let i = c.self.inside in
    let vs = i.operands.items in
    let (r, h, n) = c.requires.there in
    let l = ap (λ s. frame_at s.levels) c.self.view_is ∙ h in
    frame_is_no_label i.marks.items vs i.locals.items i.first (i.inner - 1) r c.index.result.now c.in-Label.arity c.in-Label.target c.in-Label.below
    c.self.invariant.0 l (ap (λ (n : ℕ). n - 1) c.self.invariant.2) c.index.ensures c.in-Label.is

pub invariant_of-self : goal.invariant_of-self
invariant_of-self c =
    let i = c.self.inside in
    let vs = i.operands.items in
    let (r, h, n) = c.requires.there in
    let l = ap (λ s. frame_at s.levels) c.self.view_is ∙ h in
    let f = frame_is i.marks.items vs i.locals.items i.first (i.inner - 1) r c.index.result.now
    _ c.in-Frame.caller c.in-Frame.back c.in-Frame.below c.in-Frame.first c.in-Frame.outer
    c.self.invariant.0 l (ap (λ (n : ℕ). n - 1) c.self.invariant.2) c.index.ensures c.in-Frame.is in
    let le = base_le (reverse i.marks.items) (length vs) (length i.locals.items) i.first c.self.invariant.0 in
    let ln : vec_len i.operands ≡ length vs = omega arith in
    let ws : c.keep_top.new.items.items ≡ take c.in-Frame.below vs ++ drop (length vs - c.args.kept) vs =
    c.keep_top.ensures.items ∙ ap (λ (k : ℕ). take c.in-Frame.below vs ++ drop (k - c.args.kept) vs) ln in
    let a = returned_frames f c.truncate.ensures.items in
    let g = returned_nested f c.truncate.ensures.items c.self.invariant.3 in
    (returned_ordered c.args.kept f c.truncate.ensures.items le ws c.truncate-in-Frame.ensures.items, omega (arith, a, c.self.invariant.1), g.0, g.1)

pub returns : goal.returns
returns c = record {
  after = λ r h. (let i = c.self.inside in
      let vs = i.operands.items in
      let (r', h', n) = c.requires.there in
      let l = ap (λ s. frame_at s.levels) c.self.view_is ∙ h in
      let f = frame_is i.marks.items vs i.locals.items i.first (i.inner - 1) r c.index.result.now
      _ c.in-Frame.caller c.in-Frame.back c.in-Frame.below c.in-Frame.first c.in-Frame.outer
      c.self.invariant.0 l (ap (λ (n : ℕ). n - 1) c.self.invariant.2) c.index.ensures c.in-Frame.is in
      let le = base_le (reverse i.marks.items) (length vs) (length i.locals.items) i.first c.self.invariant.0 in
      let ln : vec_len i.operands ≡ length vs = omega arith in
      let ws : c.keep_top.new.items.items ≡ take c.in-Frame.below vs ++ drop (length vs - c.args.kept) vs =
      c.keep_top.ensures.items ∙ ap (λ (k : ℕ). take c.in-Frame.below vs ++ drop (k - c.args.kept) vs) ln in
      let v = ap (λ s. s.operands) c.self.view_is in
      let vl = ap (λ (xs : List Value). length xs) v in
      let fits : c.args.kept ≤ length (own (reverse i.marks.items) vs) = omega (arith, vl, n) in
      same_shape _ _
      (returned_levels c.args.kept f c.truncate.ensures.items le ws c.truncate-in-Frame.ensures.items)
      (returned_own c.args.kept f c.truncate.ensures.items le ws fits ∙ ap (λ (xs : List Value). take c.args.kept xs ++ r.below) v)
      f.caller f.back (ap (λ s. s.stage) c.self.view_is)
      (same_capacity _ _ _ _ _ _ c.keep_top.ensures.capacity c.truncate.ensures.capacity c.truncate-in-Frame.ensures.capacity ∙ ap (λ s. s.capacity) c.self.view_is));
}
