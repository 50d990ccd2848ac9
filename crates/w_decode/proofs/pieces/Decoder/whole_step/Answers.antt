use Rattle.std.proofs.Common.{drop, sym, ◌∙◌}
use Rattle.std.specs.Prelude.{slice_range}
use Rattle.w_decode.specs.declared.fault.DecodeFault.TheVariants as fault
use Rattle.w_decode.specs.declared.pieces.Phase.TheVariants as phase
use Rattle.w_decode.proofs.DecodersStand.{stops, stands_as, one_section, bad_one}
use Rattle.w_decode.proofs.pieces.Decoder.whole_step.Goals as goal

pub returns-in-Ok-Some-clause-steps : goal.returns-in-Ok-Some-clause-steps
returns-in-Ok-Some-clause-steps c = λ b h.
    let d = c.args.self.now in
    let u = c.args.bytes.now in
    let f = c.args.frame in
    let s = stands_as d.phase phase.Between d u b c.requires.phase h in
    c.end_section.ensures (drop f.end u) b (one_section u b d.number d.rank d.closed d.so_far _ (f.rank, f.id, slice_range u f.start f.end) (drop f.end u) c.in-Ok-Some.part s c.requires.front.0.0 (sym c.in-Ok-Some.field-0-is ∙ c.in-Ok-Some.ensures) c.requires.front.2 c.add_section.ensures)

pub returns-in-Ok-None-clause-steps : goal.returns-in-Ok-None-clause-steps
returns-in-Ok-None-clause-steps c = λ b h.
    let d = c.args.self.now in
    let u = c.args.bytes.now in
    let f = c.args.frame in
    let s = stands_as d.phase phase.Between d u b c.requires.phase h in
    stops c.fail.new.self (fault.Content d.number) u b c.fail.result c.fail.ensures.none c.fail.ensures.failed
    (bad_one u b d.number d.rank d.closed d.so_far (f.rank, f.id, slice_range u f.start f.end) (drop f.end u) s c.requires.front.0.0 (sym c.in-Ok-None.field-0-is ∙ c.in-Ok-None.ensures))
