use Rattle.std.proofs.Common.{◌≤◌, List, ℕ, length, drop, ap, subst}
use Rattle.std.specs.Prelude.{slice_range}
use Rattle.w_leb.specs.Number.{Unsigned}
use Rattle.w_syntax.specs.declared.module.Func.{Func}
use Rattle.w_syntax.specs.declared.module.Section.TheVariants as part
use Rattle.w_decode.specs.Reading.{with_section}
use Rattle.w_decode.specs.declared.pieces.Inside.TheVariants as inside
use Rattle.w_decode.specs.declared.pieces.Phase.TheVariants as phase
use Rattle.w_decode.proofs.ContentsInPart.{count_taken, count_moves}
use Rattle.w_decode.proofs.DecodersStand.{stands_as}
use Rattle.w_decode.proofs.pieces.Decoder.count_step.Goals as goal

pub returns-clause-moves : goal.returns-clause-moves
returns-clause-moves c = count_moves c.args.bytes.now c.window-contents.result.now c.args.left c.in-Some.next c.in-Some.count c.window-contents.ensures c.in-Some.ensures.begins.1 c.in-Some.ensures.begins.2

pub returns-clause-steps : goal.returns-clause-steps
returns-clause-steps c = λ b h.
    let d = c.args.self.now in
    let u = c.args.bytes.now in
    let next = c.in-Some.next in
    let w = c.window-contents.ensures in
    let g = c.in-Some.ensures.begins in
    let s = stands_as d.phase (phase.Contents c.args.rank c.args.left inside.Count) d u b c.requires h in
    c.settle.ensures (drop next u) b (count_taken b u c.args.rank c.args.left d.number d.closed next c.in-Some.count d.so_far (with_section (part.Codes c.new.result) d.so_far) s.1
    (subst (λ (l : List ℕ). next ≤ length l) w g.1) (subst (λ (l : List ℕ). Unsigned 32 (slice_range l 0 next) c.in-Some.count) w g.2) (ap (λ (fs : List Func). with_section (part.Codes fs) d.so_far) c.new.ensures))
