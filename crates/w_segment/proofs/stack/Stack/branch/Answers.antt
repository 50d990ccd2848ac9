use Rattle.std.proofs.Common.{◌≡◌, ℕ, ◌-◌, ◌≤◌, ◌++◌, List, Some, sym, ap, ◌∙◌, refl, reverse, length, take, drop, arith, vec_len}
use Rattle.std.proofs.lemmas.List.{length-reverse}
use Rattle.w_types.specs.declared.value.Value.{Value}
use Rattle.w_segment.specs.Shape.{Target, label_at}
use Rattle.w_segment.specs.Flat.{own}
use Rattle.w_segment.proofs.LabelsOfMarks.{label_within, label_is, label_is_no_frame, branched_levels, branched_own, branched_ordered, branched_frames, branched_inner, branched_nested}
use Rattle.w_segment.proofs.OwnOperands.{own_long, base_le}
use Rattle.w_segment.proofs.SameShapes.{same_shape, same_capacity}
use Rattle.w_segment.proofs.stack.Stack.branch.Goals as goal

pub overflow_sub-at-2 : goal.overflow_sub-at-2
overflow_sub-at-2 c =
    let i = c.self.inside in
    let (t, h, n) = c.requires.there in
    let w = label_within (reverse i.marks.items) i.operands.items i.locals.items i.first c.args.label t c.self.invariant.0 (ap (λ s. label_at c.args.label s.levels) c.self.view_is ∙ h) in
    let l = length-reverse i.marks.items in
    omega (arith, c.len.ensures, w, l)

pub keep_top-requires : goal.keep_top-requires
keep_top-requires c =
    let i = c.self.inside in
    let vs = i.operands.items in
    let (t, h, n) = c.requires.there in
    let l = ap (λ s. label_at c.args.label s.levels) c.self.view_is ∙ h in
    let f = label_is i.marks.items vs i.locals.items i.first c.args.label (c.len.result - 1 - c.args.label) t c.index.result.now c.in-Label.arity c.in-Label.target c.in-Label.below
    c.self.invariant.0 l (omega (arith, c.len.ensures)) c.index.ensures c.in-Label.is in
    let o = own_long (reverse i.marks.items) vs in
    let v = ap (λ s. length s.operands) c.self.view_is in
    let le = base_le (reverse i.marks.items) (length vs) (length i.locals.items) i.first c.self.invariant.0 in
    let low = f.low in
    let a = f.arity in
    omega (arith, a, o, v, n, low, le)

pub unreachable-requires : goal.unreachable-requires
unreachable-requires c =
    let i = c.self.inside in
    let (t, h, n) = c.requires.there in
    label_is_no_frame i.marks.items i.operands.items i.locals.items i.first c.args.label (c.len.result - 1 - c.args.label) t c.index.result.now
    c.in-Frame.arity c.in-Frame.caller c.in-Frame.back c.in-Frame.below c.in-Frame.first c.in-Frame.outer
    c.self.invariant.0 (ap (λ s. label_at c.args.label s.levels) c.self.view_is ∙ h) (omega (arith, c.len.ensures)) c.index.ensures c.in-Frame.is

pub invariant_of-self : goal.invariant_of-self
invariant_of-self c =
    let i = c.self.inside in
    let vs = i.operands.items in
    let (t, h, n) = c.requires.there in
    let l = ap (λ s. label_at c.args.label s.levels) c.self.view_is ∙ h in
    let f = label_is i.marks.items vs i.locals.items i.first c.args.label (c.len.result - 1 - c.args.label) t c.index.result.now c.in-Label.arity c.in-Label.target c.in-Label.below
    c.self.invariant.0 l (omega (arith, c.len.ensures)) c.index.ensures c.in-Label.is in
    let le = base_le (reverse i.marks.items) (length vs) (length i.locals.items) i.first c.self.invariant.0 in
    let ln : vec_len i.operands ≡ length vs = omega arith in
    let ws : c.keep_top.new.items.items ≡ take c.in-Label.below vs ++ drop (length vs - c.in-Label.arity) vs =
    c.keep_top.ensures.items ∙ ap (λ (k : ℕ). take c.in-Label.below vs ++ drop (k - c.in-Label.arity) vs) ln in
    (branched_ordered f c.truncate.ensures.items le ws, c.self.invariant.1 ∙ sym (branched_frames f c.truncate.ensures.items), c.self.invariant.2 ∙ sym (branched_inner f c.truncate.ensures.items), branched_nested f c.truncate.ensures.items c.self.invariant.3)

pub returns : goal.returns
returns c = record {
  after = λ t h. (let i = c.self.inside in
      let vs = i.operands.items in
      let (t', h', n) = c.requires.there in
      let same : Some t' ≡ Some t = sym h' ∙ h in
      let te : t' ≡ t = cc in
      let l = ap (λ s. label_at c.args.label s.levels) c.self.view_is ∙ h in
      let f = label_is i.marks.items vs i.locals.items i.first c.args.label (c.len.result - 1 - c.args.label) t c.index.result.now c.in-Label.arity c.in-Label.target c.in-Label.below
      c.self.invariant.0 l (omega (arith, c.len.ensures)) c.index.ensures c.in-Label.is in
      let le = base_le (reverse i.marks.items) (length vs) (length i.locals.items) i.first c.self.invariant.0 in
      let ln : vec_len i.operands ≡ length vs = omega arith in
      let ws : c.keep_top.new.items.items ≡ take c.in-Label.below vs ++ drop (length vs - c.in-Label.arity) vs =
      c.keep_top.ensures.items ∙ ap (λ (k : ℕ). take c.in-Label.below vs ++ drop (k - c.in-Label.arity) vs) ln in
      let v = ap (λ s. s.operands) c.self.view_is in
      let vl = ap (λ (xs : List Value). length xs) v in
      let na = ap (λ (x : Target). x.arity) te in
      let a = f.arity in
      let fits : c.in-Label.arity ≤ length (own (reverse i.marks.items) vs) = omega (arith, vl, n, na, a) in
      same_shape _ _
      (branched_levels f c.truncate.ensures.items le ws)
      (branched_own f c.truncate.ensures.items le ws fits ∙ ap (λ (xs : List Value). take t.arity xs ++ t.below) v)
      (ap (λ s. s.func) c.self.view_is) f.target (ap (λ s. s.stage) c.self.view_is)
      (same_capacity _ _ _ _ _ _ c.keep_top.ensures.capacity c.truncate.ensures.capacity refl ∙ ap (λ s. s.capacity) c.self.view_is));
}
