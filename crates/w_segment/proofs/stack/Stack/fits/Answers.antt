use Rattle.std.proofs.Common.{ap, reverse, arith}
use Rattle.std.proofs.lemmas.Bool.{leb-true}
use Rattle.w_segment.specs.Shape.{Shape, height}
use Rattle.w_segment.proofs.CountsOfMarks.{high}
use Rattle.w_segment.proofs.stack.Stack.fits.Goals as goal

pub returns-then-capacity-len : goal.returns-then-capacity-len
returns-then-capacity-len c = record {
  answer = (let i = c.self.inside in
      let h = high (reverse i.marks.items) i.operands.items i.locals.items i.first c.self.invariant.0 in
      let v = ap (λ (s : Shape). height s) c.self.view_is in
      let k = ap (λ (s : Shape). s.capacity.operands) c.self.view_is in (
        λ t. let f = c.has_levels.ensures.answer.0 t in record {
          operands = omega (arith, h, v, k, c.if-capacity-len.true, c.len.ensures, c.capacity.ensures);
          levels = f.levels;
          locals = f.locals;
        },
        λ f. let a = f.operands in c.has_levels.ensures.answer.1 (record { operands = omega (arith, a); levels = f.levels; locals = f.locals }),
      ));
}

pub returns-else-capacity-len : goal.returns-else-capacity-len
returns-else-capacity-len c = record {
  answer = (let i = c.self.inside in
      let h = high (reverse i.marks.items) i.operands.items i.locals.items i.first c.self.invariant.0 in
      let v = ap (λ (s : Shape). height s) c.self.view_is in
      let k = ap (λ (s : Shape). s.capacity.operands) c.self.view_is in (
        λ t. let le = leb-true _ _ t in absurd (omega (arith, le, c.if-capacity-len.false)),
        λ f. let a = f.operands in absurd (omega (arith, h, v, k, a, c.if-capacity-len.false, c.len.ensures, c.capacity.ensures)),
      ));
}
