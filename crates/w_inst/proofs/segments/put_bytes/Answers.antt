use Rattle.std.proofs.Common.{arith}
use Rattle.w_inst.proofs.SegmentCopies.{init_past}
use Rattle.w_inst.proofs.segments.put_bytes.Goals as goal

pub returns-then-bytes-size-clause-copied : goal.returns-then-bytes-size-clause-copied
returns-then-bytes-size-clause-copied c = init_past c.args.memory.now c.args.bytes.now c.args.at (omega (arith, c.if-bytes-size.true, c.size.ensures.whole))
