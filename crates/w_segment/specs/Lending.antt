-- How a segment lends its stack: what is written through the reference becomes its own shape, and its parents stay.
use Rattle.std.specs.Borrow.{Lends, MutBor, Fml}
use Rattle.w_segment.specs.Link.{with_top}
use Rattle.w_segment.specs.declared.segment.Segment.{Segment}
use Rattle.w_segment.specs.declared.stack.Stack.{Stack}
use Rattle.w_segment.specs.contracts.segment.Segment.{the_row}
use Rattle.w_segment.specs.contracts.stack.Stack as stack

-- s ends with the last stack behind r
abbrev pub LendsStack : MutBor Segment → MutBor Stack → Fml
LendsStack s r = Lends the_row stack.the_row s r (λ w. with_top w s.now)
