use Rattle.std.proofs.Common.{sym, ap, ◌∙◌, reverse}
use Rattle.w_segment.specs.Shape.{frames_of}
use Rattle.w_segment.proofs.CountsOfMarks.{frames_are}
use Rattle.w_segment.proofs.stack.Stack.frames.Goals as goal

pub returns : goal.returns
returns c = record {
  count = (c.self.invariant.1 ∙ sym (frames_are (reverse c.self.inside.marks.items) c.self.inside.operands.items c.self.inside.locals.items c.self.inside.first)
      ∙ ap (λ s. frames_of s.levels) c.self.view_is);
}
