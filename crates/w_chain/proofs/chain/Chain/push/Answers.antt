use Rattle.std.proofs.Common.{arith}
use Rattle.w_segment.specs.Parents.{parents}
use Rattle.w_chain.proofs.CountsKept.{sum_fits}
use Rattle.w_chain.proofs.chain.Chain.push.Goals as goal

pub overflow_add-self : goal.overflow_add-self
overflow_add-self c =
    let f = sum_fits c.self.inside.segments c.self.inside.below c.frames_in.result (parents c.self.inside.top) c.self.invariant c.frames_in.ensures.few in omega arith
