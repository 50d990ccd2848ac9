use Rattle.std.proofs.Common.{refl}
use Rattle.w_decode.specs.declared.fault.DecodeFault.TheVariants as fault
use Rattle.w_decode.specs.declared.pieces.Phase.TheVariants as phase
use Rattle.w_decode.proofs.DecodersStand.{stops, stands_as, past_header, no_header_in}
use Rattle.w_decode.proofs.pieces.Decoder.header_step.Goals as goal

pub returns-then-not-has_header-clause-steps : goal.returns-then-not-has_header-clause-steps
returns-then-not-has_header-clause-steps c = λ b h.
    let d = c.args.self.now in
    let u = c.args.bytes.now in
    stops c.fail.new.self fault.Header u b c.fail.result c.fail.ensures.none c.fail.ensures.failed
    (no_header_in d u b (stands_as d.phase phase.Header d u b c.requires h) (c.if-not-has_header.ensures.no refl) c.if-bytes-lt8.false)

pub returns-clause-steps : goal.returns-clause-steps
returns-clause-steps c = λ b h.
    let d = c.args.self.now in
    let u = c.args.bytes.now in
    past_header d u b (stands_as d.phase phase.Header d u b c.requires h) (c.if-not-has_header.ensures.yes refl)
