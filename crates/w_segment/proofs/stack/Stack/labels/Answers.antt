use Rattle.std.proofs.Common.{ap, reverse, arith}
use Rattle.std.proofs.lemmas.List.{length-reverse}
use Rattle.w_segment.specs.Shape.{labels_of}
use Rattle.w_segment.proofs.CountsOfMarks.{frames_few, labels_are}
use Rattle.w_segment.proofs.stack.Stack.labels.Goals as goal

pub overflow_sub-result : goal.overflow_sub-result
overflow_sub-result c =
    let es = reverse c.self.inside.marks.items in
    let f = frames_few es in
    let r = length-reverse c.self.inside.marks.items in
    omega (arith, c.self.invariant.1, f, r, c.len.ensures)

pub returns : goal.returns
returns c = record {
  count = (let i = c.self.inside in
      let l = labels_are (reverse i.marks.items) i.operands.items i.locals.items i.first in
      let r = length-reverse i.marks.items in
      let v = ap (λ s. labels_of s.levels) c.self.view_is in
      omega (arith, c.self.invariant.1, l, r, v, c.len.ensures));
}
