-- How a chain lends its innermost stack: what is written through the reference becomes that segment's shape, and all else stays.
use Rattle.std.specs.Borrow.{Lends, MutBor, Fml}
use Rattle.w_segment.specs.Link.{with_top}
use Rattle.w_segment.specs.declared.stack.Stack.{Stack}
use Rattle.w_segment.specs.contracts.stack.Stack as stack
use Rattle.w_chain.specs.declared.chain.Chain.{Chain}
use Rattle.w_chain.specs.contracts.chain.Chain.{the_row}

-- c ends with the last stack behind r inside
abbrev pub LendsTop : MutBor Chain → MutBor Stack → Fml
LendsTop c r = Lends the_row stack.the_row c r (λ w. with_top w c.now)
