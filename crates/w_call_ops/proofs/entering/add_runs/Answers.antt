use Rattle.std.proofs.Common.{List, Option, arith, ◌∙◌, sym, ap, take}
use Rattle.std.specs.Prelude.{replicate}
use Rattle.w_types.specs.Values.{default_of}
use Rattle.w_types.specs.declared.value.Value.{Value}
use Rattle.w_segment.specs.Shape.{Shape, frames_of, locals_all}
use Rattle.w_segment.specs.Changes.{with_more}
use Rattle.w_segment.proofs.MoreLocals.{more_none, more_twice, frames_more, locals_all_more}
use Rattle.w_call_ops.specs.Entering.{first_values}
use Rattle.w_call_ops.proofs.Runs.{total_within, first_values_more, first_values_long}
use Rattle.w_call_ops.proofs.entering.add_runs.Goals as goal

pub loop-run-init : goal.loop-run-init
loop-run-init c = sym (more_none c.args.stack.now)

pub add_locals-requires-clause-frame : goal.add_locals-requires-clause-frame
add_locals-requires-clause-frame c =
    let i = ap (λ (s : Shape). frames_of s.levels) c.loop-run.invariant in
    let f = frames_more (first_values (take c.loop-run.run-index c.args.runs.now)) c.args.stack.now.levels in
    omega (arith, i, f, c.requires.frame)

pub add_locals-requires-clause-room : goal.add_locals-requires-clause-room
add_locals-requires-clause-room c =
    let i = ap (λ (s : Shape). locals_all s.levels) c.loop-run.invariant in
    let k = ap (λ (s : Shape). s.capacity.locals) c.loop-run.invariant in
    let f = locals_all_more (first_values (take c.loop-run.run-index c.args.runs.now)) c.args.stack.now.levels c.requires.frame in
    let l = first_values_long (take c.loop-run.run-index c.args.runs.now) in
    let w = total_within c.args.runs.now c.loop-run.run-index c.run-item.result c.loop-run-test.true c.run-item.is in
    omega (arith, i, k, f, l, w, c.requires.room)

pub loop-run-preserved : goal.loop-run-preserved
loop-run-preserved c =
    let r = c.run-item.result in
    let before = first_values (take c.loop-run.run-index c.args.runs.now) in
    c.add_locals.ensures.after
    ∙ ap (λ (o : Option Value). with_more (replicate r.count o) c.loop-run.stack) c.default_of.ensures
    ∙ ap (with_more (replicate r.count (default_of r.kind))) c.loop-run.invariant
    ∙ more_twice before (replicate r.count (default_of r.kind)) c.args.stack.now
    ∙ ap (λ (l : List (Option Value)). with_more l c.args.stack.now) (sym (first_values_more c.args.runs.now c.loop-run.run-index r c.loop-run-test.true c.run-item.is))
