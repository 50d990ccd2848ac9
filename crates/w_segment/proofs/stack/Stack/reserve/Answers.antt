use Rattle.std.proofs.Common.{◌≡◌, ◌+◌, refl, List, Option, reverse, length, arith, sym, subst}
use Rattle.std.proofs.lemmas.List.{length-reverse}
use Rattle.w_types.specs.declared.value.Value.{Value}
use Rattle.w_segment.specs.declared.stack.Mark.{Mark}
use Rattle.w_segment.specs.Flat.{own, levels_of}
use Rattle.w_segment.specs.Shape.{below_all, locals_all}
use Rattle.w_segment.proofs.CountsOfMarks.{high, long, wide, fits_flat}
use Rattle.w_segment.proofs.stack.Stack.reserve.Goals as goal

pub returns-clause-ok : goal.returns-clause-ok
returns-clause-ok c =
    let i = c.self.inside in
    let es = reverse i.marks.items in
    let vs = i.operands.items in
    let ls = i.locals.items in
    let h = high es vs ls i.first c.self.invariant.0 in
    let g = long es vs ls i.first in
    let w = wide es vs ls (length vs) i.first c.self.invariant.0 in
    let a = c.reserve.ensures.items in
    let b = c.reserve-2.ensures.items in
    let d = c.reserve-3.ensures.items in
    let r = length-reverse i.marks.items in
    let f : List Mark → List Value → List (Option Value) → Type 0 = λ xs ys zs. length (own (reverse xs) ys) + below_all (levels_of (reverse xs) ys zs i.first) ≡ length vs in
    let f' = subst (λ (xs : List Mark). length (own (reverse xs) vs) + below_all (levels_of (reverse xs) vs ls i.first) ≡ length vs) (sym b) h in
    let f2 = subst (λ (ys : List Value). length (own (reverse c.reserve-2.new.self.items) ys) + below_all (levels_of (reverse c.reserve-2.new.self.items) ys ls i.first) ≡ length vs) (sym a) f' in
    let f3 = subst (λ (zs : List (Option Value)). length (own (reverse c.reserve-2.new.self.items) c.reserve.new.self.items) + below_all (levels_of (reverse c.reserve-2.new.self.items) c.reserve.new.self.items zs i.first) ≡ length vs) (sym d) f2 in
    let g1 = subst (λ (xs : List Mark). length (levels_of (reverse xs) vs ls i.first) ≡ length es) (sym b) g in
    let g2 = subst (λ (ys : List Value). length (levels_of (reverse c.reserve-2.new.self.items) ys ls i.first) ≡ length es) (sym a) g1 in
    let g3 = subst (λ (zs : List (Option Value)). length (levels_of (reverse c.reserve-2.new.self.items) c.reserve.new.self.items zs i.first) ≡ length es) (sym d) g2 in
    let w1 = subst (λ (xs : List Mark). locals_all (levels_of (reverse xs) vs ls i.first) ≡ length ls) (sym b) w in
    let w2 = subst (λ (ys : List Value). locals_all (levels_of (reverse c.reserve-2.new.self.items) ys ls i.first) ≡ length ls) (sym a) w1 in
    let w3 = subst (λ (zs : List (Option Value)). locals_all (levels_of (reverse c.reserve-2.new.self.items) c.reserve.new.self.items zs i.first) ≡ length ls) (sym d) w2 in
    record {
      operands = omega (arith, f3, c.in_ok-reserve.ensures.ok, c.in_ok-reserve.ensures.len);
      levels = omega (arith, g3, r, c.in_ok-reserve-2.ensures.ok, c.in_ok-reserve-2.ensures.len, c.if-saturating_add-gt-MOST_LEVELS.false, c.saturating_add.ensures, c.len.ensures);
      locals = omega (arith, w3, c.in_ok-reserve-3.ensures.ok, c.in_ok-reserve-3.ensures.len);
    }

pub returns-then-saturating_add-gt-MOST_LEVELS-clause-succeeds : goal.returns-then-saturating_add-gt-MOST_LEVELS-clause-succeeds
returns-then-saturating_add-gt-MOST_LEVELS-clause-succeeds c h =
    let i = c.self.inside in
    let r = length-reverse i.marks.items in
    let g = fits_flat (reverse i.marks.items) i.operands.items i.locals.items i.first c.args.operands c.args.levels c.args.locals _ c.args.self.now c.self.view_is refl refl c.self.invariant.0 h in
    let k = g.1 in absurd (omega (arith, k, r, c.if-saturating_add-gt-MOST_LEVELS.true, c.saturating_add.ensures, c.len.ensures))

pub returns-in_err-reserve-clause-succeeds : goal.returns-in_err-reserve-clause-succeeds
returns-in_err-reserve-clause-succeeds c h =
    let i = c.self.inside in
    let r = length-reverse i.marks.items in
    let g = fits_flat (reverse i.marks.items) i.operands.items i.locals.items i.first c.args.operands c.args.levels c.args.locals _ c.args.self.now c.self.view_is refl refl c.self.invariant.0 h in
    let k = g.0 in absurd (omega (arith, k, c.in_err-reserve.ensures.full))

pub returns-in_err-reserve-2-clause-succeeds : goal.returns-in_err-reserve-2-clause-succeeds
returns-in_err-reserve-2-clause-succeeds c h =
    let i = c.self.inside in
    let r = length-reverse i.marks.items in
    let g = fits_flat (reverse i.marks.items) i.operands.items i.locals.items i.first c.args.operands c.args.levels c.args.locals _ c.args.self.now c.self.view_is refl refl c.self.invariant.0 h in
    let k = g.1 in absurd (omega (arith, k, r, c.in_err-reserve-2.ensures.full))

pub returns-in_err-reserve-3-clause-succeeds : goal.returns-in_err-reserve-3-clause-succeeds
returns-in_err-reserve-3-clause-succeeds c h =
    let i = c.self.inside in
    let r = length-reverse i.marks.items in
    let g = fits_flat (reverse i.marks.items) i.operands.items i.locals.items i.first c.args.operands c.args.levels c.args.locals _ c.args.self.now c.self.view_is refl refl c.self.invariant.0 h in
    let k = g.2 in absurd (omega (arith, k, c.in_err-reserve-3.ensures.full))
