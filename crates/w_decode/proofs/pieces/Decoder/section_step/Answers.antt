use Rattle.std.proofs.Common.{drop}
use Rattle.w_decode.specs.declared.fault.DecodeFault.TheVariants as fault
use Rattle.w_decode.specs.declared.pieces.Phase.TheVariants as phase
use Rattle.w_decode.proofs.ContentsInPart.{custom_opened}
use Rattle.w_decode.proofs.DecodersStand.{stops, stands_as, bad_id}
use Rattle.w_decode.proofs.pieces.Decoder.section_step.Goals as goal

pub returns-in-Bad-clause-steps : goal.returns-in-Bad-clause-steps
returns-in-Bad-clause-steps c = λ b h.
    let d = c.args.self.now in
    let u = c.args.bytes.now in
    let s = stands_as d.phase phase.Between d u b c.requires h in
    stops c.fail.new.self (fault.Frame d.number) u b c.fail.result c.fail.ensures.none c.fail.ensures.failed (bad_id u b d.number d.rank d.closed d.so_far s c.in-Bad.ensures)

pub returns-in-Custom-clause-steps : goal.returns-in-Custom-clause-steps
returns-in-Custom-clause-steps c = λ b h.
    let d = c.args.self.now in
    let u = c.args.bytes.now in
    let s = stands_as d.phase phase.Between d u b c.requires h in
    let f = c.in-Custom.field-0 in
    c.settle-in-Custom.ensures (drop f.end u) b (custom_opened b u d.number d.rank d.closed f.left f.end f.named d.so_far s c.in-Custom.ensures)
