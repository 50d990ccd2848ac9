use Rattle.std.proofs.Common.{ap, reverse, length, arith}
use Rattle.std.proofs.lemmas.Bool.{leb-true, le-leb}
use Rattle.std.proofs.lemmas.List.{length-reverse}
use Rattle.w_segment.specs.Shape.{Shape, height, locals_all}
use Rattle.w_segment.proofs.CountsOfMarks.{high, long, wide}
use Rattle.w_segment.proofs.stack.Stack.has_levels.Goals as goal

pub returns-then-saturating_add-min : goal.returns-then-saturating_add-min
returns-then-saturating_add-min c = record {
  answer = (let i = c.self.inside in
      let es = reverse i.marks.items in
      let h = high es i.operands.items i.locals.items i.first c.self.invariant.0 in
      let g = long es i.operands.items i.locals.items i.first in
      let w = wide es i.operands.items i.locals.items (length i.operands.items) i.first c.self.invariant.0 in
      let r = length-reverse i.marks.items in
      let hs = ap (λ (s : Shape). height s) c.self.view_is in
      let ho = ap (λ (s : Shape). s.capacity.operands) c.self.view_is in
      let vs = ap (λ (s : Shape). length s.levels) c.self.view_is in
      let vo = ap (λ (s : Shape). s.capacity.levels) c.self.view_is in
      let ls = ap (λ (s : Shape). locals_all s.levels) c.self.view_is in
      let lo = ap (λ (s : Shape). s.capacity.locals) c.self.view_is in (
        λ t. let le = leb-true _ _ t in record {
          operands = omega (arith, h, hs, ho);
          levels = omega (arith, g, r, vs, vo, c.if-saturating_add-min.true, c.len.ensures, c.saturating_add.ensures, c.capacity.ensures, c.min.ensures);
          locals = omega (arith, w, ls, lo, le, c.len-then-saturating_add-min.ensures, c.capacity-then-saturating_add-min.ensures);
        },
        λ f. let k = f.locals in le-leb _ _
            (omega (arith, w, ls, lo, k, c.len-then-saturating_add-min.ensures, c.capacity-then-saturating_add-min.ensures)),
      ));
}

pub returns-else-saturating_add-min : goal.returns-else-saturating_add-min
returns-else-saturating_add-min c = record {
  answer = (let i = c.self.inside in
      let g = long (reverse i.marks.items) i.operands.items i.locals.items i.first in
      let r = length-reverse i.marks.items in
      let vs = ap (λ (s : Shape). length s.levels) c.self.view_is in
      let vo = ap (λ (s : Shape). s.capacity.levels) c.self.view_is in (
        λ t. let le = leb-true _ _ t in absurd (omega (arith, le, c.if-saturating_add-min.false)),
        λ f. let k = f.levels in le-leb _ _ (omega (arith, g, r, vs, vo, k, c.len.ensures, c.saturating_add.ensures, c.capacity.ensures, c.min.ensures)),
      ));
}
