use Rattle.std.proofs.Common.{◌≤◌, List, ℕ, length, take, drop, sym, ap, subst, ◌∙◌}
use Rattle.std.specs.Prelude.{slice_range}
use Rattle.w_leb.specs.Formats.{bytes}
use Rattle.w_syntax.specs.Fields.{code}
use Rattle.w_syntax.specs.declared.module.Func.{Func}
use Rattle.w_syntax.specs.declared.module.Section.TheVariants as part
use Rattle.w_decode.specs.Reading.{with_section}
use Rattle.w_decode.specs.declared.pieces.Inside.TheVariants as inside
use Rattle.w_decode.specs.declared.pieces.Phase.TheVariants as phase
use Rattle.w_decode.proofs.ContentsInPart.{code_taken, code_moves, skips_past, skips_bad, sized_some, size_lacks}
use Rattle.w_decode.proofs.DecodersStand.{stands_as}
use Rattle.w_decode.proofs.pieces.Decoder.code_step.Goals as goal

pub skip-requires-clause-skips : goal.skip-requires-clause-skips
skip-requires-clause-skips c = λ some. skips_past c.args.more c.args.self.now.so_far (take c.args.left c.args.bytes.now) c.if-more-eq0.true some

pub lack-requires-clause-lacks : goal.lack-requires-clause-lacks
lack-requires-clause-lacks c = size_lacks c.args.more (take c.args.left c.args.bytes.now) (ap bytes.read (sym c.window-contents.ensures) ∙ c.in_default.ensures)

pub skip-requires-in_default-found-clause-skips : goal.skip-requires-in_default-found-clause-skips
skip-requires-in_default-found-clause-skips c = λ some.
    let w = take c.args.left c.args.bytes.now in
    let e = c.window-contents.ensures in
    let h = rw c.in_default-found.is at c.in-Ok.ensures.reads in
    skips_bad c.args.more c.args.self.now.so_far w _ _ c.if-more-eq0.false (ap bytes.read (sym e) ∙ c.in-Some.ensures.0) (ap code.read (sym e) ∙ h)

pub skip-requires-in_default-found-clause-lacks : goal.skip-requires-in_default-found-clause-lacks
skip-requires-in_default-found-clause-lacks c = λ z. absurd (sized_some c.window-contents.result.now _ _ c.in-Some.ensures.0 (ap length c.window-contents.ensures ∙ z))

pub returns-clause-moves : goal.returns-clause-moves
returns-clause-moves c =
    let h = rw c.in-Some-found.is at c.in-Ok.ensures.begins in
    code_moves c.args.bytes.now c.window-contents.result.now c.args.left c.in-Some-found.next c.in-Some-found.function c.window-contents.ensures h.1 h.2

pub returns-clause-steps : goal.returns-clause-steps
returns-clause-steps c = λ b h.
    let d = c.args.self.now in
    let u = c.args.bytes.now in
    let next = c.in-Some-found.next in
    let f = c.in-Some-found.function in
    let w = c.window-contents.ensures in
    let g = rw c.in-Some-found.is at c.in-Ok.ensures.begins in
    let s = stands_as d.phase (phase.Contents c.args.rank c.args.left (inside.Codes c.args.more)) d u b c.requires h in
    c.settle.ensures (drop next u) b (code_taken b u c.args.rank c.args.left d.number d.closed next c.args.more f d.so_far (with_section (part.Codes c.push.new.self) d.so_far) s.1 c.if-more-eq0.false
    (subst (λ (l : List ℕ). next ≤ length l) w g.1) (subst (λ (l : List ℕ). code.Spells (slice_range l 0 next) f) w g.2) (ap (λ (fs : List Func). with_section (part.Codes fs) d.so_far) c.in-Ok-push.ensures.ok))
