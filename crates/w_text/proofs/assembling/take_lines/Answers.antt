use Rattle.std.proofs.Common.{arith, inl, refl, drop, ◌+◌}
use Rattle.std.specs.Prelude.{slice_range}
use Rattle.w_text.specs.Machine.{Fresh}
use Rattle.w_text.proofs.Least.{reached_start}
use Rattle.w_text.proofs.LoopOverLines.{refused_line, taken_line, refused_piece, all_taken}
use Rattle.w_text.proofs.assembling.take_lines.Goals as goal

pub loop-end-init : goal.loop-end-init
loop-end-init c = record { known = record { state = Fresh; counted = Fresh; alike = inl refl; stands = c.requires.none_yet; reached = reached_start c.args.text.now }; within = omega arith; few = omega arith }

pub returns-then-not-taken-clause-err : goal.returns-then-not-taken-clause-err
returns-then-not-taken-clause-err c =
    let t = c.args.text.now in
    let i = c.loop-end.invariant in
    refused_line t c.loop-end.number (drop c.loop-end.at t) (slice_range t c.loop-end.at c.in-Some.end) (drop (c.in-Some.end + 1) t) c.in_ok-taken.taken c.loop-end.assembly c.take_line.new.assembly
    i.known (omega (arith, i.few, i.within, c.requires.short)) c.in-Some.ensures.parts c.in-Some.ensures.some c.if-not-taken.true (c.in_ok-taken.ensures i.known.counted i.known.stands)

pub loop-end-preserved : goal.loop-end-preserved
loop-end-preserved c =
    let t = c.args.text.now in
    let i = c.loop-end.invariant in
    let known = taken_line t c.loop-end.number (drop c.loop-end.at t) (slice_range t c.loop-end.at c.in-Some.end) (drop (c.in-Some.end + 1) t) c.in_ok-taken.taken c.loop-end.assembly c.take_line.new.assembly
    i.known (omega (arith, i.few, i.within, c.requires.short)) c.in-Some.ensures.parts c.in-Some.ensures.some c.if-not-taken.false (c.in_ok-taken.ensures i.known.counted i.known.stands) in
    record { known = known; within = omega (arith, c.in-Some.ensures.place.1); few = omega (arith, i.few, c.in-Some.ensures.place.0) }

pub returns-then-at-text-clause-err : goal.returns-then-at-text-clause-err
returns-then-at-text-clause-err c =
    let i = c.loop-end.invariant in
    refused_piece c.args.text.now c.loop-end.number c.loop-end.at c.loop-end.assembly i.known c.in_default.ensures.none c.if-at-text.true

pub returns-clause-ok : goal.returns-clause-ok
returns-clause-ok c =
    let i = c.loop-end.invariant in
    all_taken c.args.text.now c.loop-end.number c.loop-end.at c.loop-end.assembly i.known c.if-at-text.false
