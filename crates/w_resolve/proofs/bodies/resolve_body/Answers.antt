use Rattle.std.proofs.Common.{◌<◌, ◌≤◌, length, ap, ◌∙◌, arith}
use Rattle.w_syntax.specs.Packed.{unpacked_all}
use Rattle.w_syntax.proofs.Whole.{flat_is, tree_is}
use Rattle.w_link.specs.Resolved.{code_resolved}
use Rattle.w_resolve.specs.Instructions.{instr_resolved}
use Rattle.w_resolve.proofs.InPlace.{begins}
use Rattle.w_resolve.proofs.BodyInPlace.{one_resolved, body_resolved}
use Rattle.w_resolve.proofs.bodies.resolve_body.Goals as goal

pub loop-packed-init : goal.loop-packed-init
loop-packed-init c = begins (instr_resolved c.args.instance.now) _

pub loop-packed-preserved : goal.loop-packed-preserved
loop-packed-preserved c =
    let lt : c.loop-packed.packed-index < length c.loop-packed.packed-items = omega arith in
    one_resolved c.args.instance.now _ _ _ c.packed-item.result _ c.loop-packed.invariant lt c.packed-item.is c.in_ok-resolve_packed.ensures

pub new-requires : goal.new-requires
new-requires c =
    let le : c.loop-packed.packed-index ≤ length c.deref_mut-packed-items.result.now = omega arith in
    let ge : length c.deref_mut-packed-items.result.now ≤ c.loop-packed.packed-index = omega arith in
    let d = c.deref_mut-packed-items.ensures in
    flat_is (code_resolved c.args.instance.now c.args.body) _
    (body_resolved c.args.instance.now c.args.body _ _ _ _ _ c.loop-packed.invariant le ge c.loop-packed.auto.packed-items d.len (ap unpacked_all d.value ∙ c.into_instrs-instrs.ensures))

pub returns : goal.returns
returns c =
    let le : c.loop-packed.packed-index ≤ length c.deref_mut-packed-items.result.now = omega arith in
    let ge : length c.deref_mut-packed-items.result.now ≤ c.loop-packed.packed-index = omega arith in
    let d = c.deref_mut-packed-items.ensures in
    c.new.ensures
    ∙ tree_is (code_resolved c.args.instance.now c.args.body) _
    (body_resolved c.args.instance.now c.args.body _ _ _ _ _ c.loop-packed.invariant le ge c.loop-packed.auto.packed-items d.len (ap unpacked_all d.value ∙ c.into_instrs-instrs.ensures))
