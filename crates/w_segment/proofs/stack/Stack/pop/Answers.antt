use Rattle.std.proofs.Common.{◌≤◌, ap, reverse, length, arith}
use Rattle.w_segment.specs.Shape.{Shape}
use Rattle.w_segment.specs.Flat.{base}
use Rattle.w_segment.proofs.CountsOfMarks.{high}
use Rattle.w_segment.proofs.OwnOperands.{ordered_less, own_long}
use Rattle.w_segment.proofs.stack.Stack.pop.Goals as goal

pub returns-clause-room : goal.returns-clause-room
returns-clause-room c =
    let i = c.self.inside in
    let es = reverse i.marks.items in
    let k = ap (λ (s : Shape). length s.operands) c.self.view_is in
    let o = own_long es i.operands.items in
    let n = c.take_last.ensures.len in
    let low : base es ≤ length c.take_last.new.self.items = omega (arith, k, o, n, c.requires.some) in
    let h = high es c.take_last.new.self.items i.locals.items i.first (ordered_less es (length i.operands.items) (length c.take_last.new.self.items) (length i.locals.items) i.first low c.self.invariant.0) in
    let f = c.take_last.ensures.capacity in omega (arith, h, n, f)
