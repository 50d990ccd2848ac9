use Rattle.std.proofs.Common.{◌++◌, arith, length-append}
use Rattle.w_chain.proofs.MovedSegments.{all_long}
use Rattle.w_chain.proofs.chain.Chain.join.Goals as goal

pub push-requires-in-loop-clause-few : goal.push-requires-in-loop-clause-few
push-requires-in-loop-clause-few c =
    let w = all_long c.loop.outward c.loop.self (c.args.segment.value ++ c.args.self.now) c.loop.invariant.all in
    let a = length-append c.args.segment.value c.args.self.now in
    omega (arith, w, a, c.requires.few, c.loop.invariant.long)
