use Rattle.std.proofs.Common.{take}
use Rattle.w_decode.specs.declared.fault.DecodeFault.TheVariants as fault
use Rattle.w_decode.specs.declared.pieces.Phase.TheVariants as phase
use Rattle.w_decode.proofs.ContentsInPart.{whole_fails, lacks_says}
use Rattle.w_decode.proofs.DecodersStand.{failed, stands_as}
use Rattle.w_decode.proofs.pieces.Decoder.lack.Goals as goal

pub returns-clause-steps : goal.returns-clause-steps
returns-clause-steps c = λ b h.
    let d = c.args.self.now in
    let u = c.args.bytes.now in
    let i = c.args.inside in
    let s = stands_as d.phase (phase.Contents c.args.rank c.args.left i) d u b c.requires.phase h in
    failed c.fail.new.self (fault.Content d.number) u b c.fail.ensures.failed
    (whole_fails i b u c.args.rank c.args.left d.number d.closed d.so_far c.if-bytes-left.false (lacks_says i d.so_far.tree.codes (take c.args.left u) c.requires.more c.requires.lacks) s.1)
