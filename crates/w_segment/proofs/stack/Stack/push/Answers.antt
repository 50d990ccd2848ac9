use Rattle.std.proofs.Common.{ap, reverse, arith}
use Rattle.w_segment.specs.Shape.{Shape, height}
use Rattle.w_segment.proofs.CountsOfMarks.{high}
use Rattle.w_segment.proofs.stack.Stack.push.Goals as goal

pub push_reserved-requires : goal.push_reserved-requires
push_reserved-requires c =
    let i = c.self.inside in
    let h = high (reverse i.marks.items) i.operands.items i.locals.items i.first c.self.invariant.0 in
    let v = ap (λ (s : Shape). height s) c.self.view_is in
    let k = ap (λ (s : Shape). s.capacity.operands) c.self.view_is in omega (arith, h, v, k, c.requires.room)
