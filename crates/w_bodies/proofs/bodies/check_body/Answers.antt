use Rattle.std.proofs.Common.{◌≡◌, ◌<◌, List, ℕ, length, get_or, refl, ap, subst, arith}
use Rattle.w_syntax.specs.Flat.{whole}
use Rattle.w_syntax.specs.declared.instructions.Instr.{Instr}
use Rattle.w_syntax.specs.Packed.{unpacked}
use Rattle.w_syntax.proofs.PackedLists.{unpacked_get, unpacked_length}
use Rattle.w_rules.specs.View.{context_in}
use Rattle.w_bodies.proofs.BodiesMeasured.{Wanted, begun, one_more, refused, measured}
use Rattle.w_bodies.proofs.bodies.check_body.Goals as goal

pub loop-packed-init : goal.loop-packed-init
loop-packed-init c = λ known.
    let b : Wanted = record { context = context_in c.args.setting.cx.now; params = c.args.params.now; runs = c.args.runs.now; results = c.args.setting.results.types.now } in
    let h = c.in_ok-checker.ensures in
    begun c.args.setting.cx.now b c.in_ok-checker.checker refl known h.context h.classes h.stands

pub returns-then-not-branch : goal.returns-then-not-branch
returns-then-not-branch c = λ known.
    let b : Wanted = record { context = context_in c.args.setting.cx.now; params = c.args.params.now; runs = c.args.runs.now; results = c.args.setting.results.types.now } in
    let is : List Instr = whole c.args.body.now in
    let n : ℕ = c.loop-packed.packed-index in
    let ps = c.instrs-packed-items.result.now in
    let i : Instr = unpacked c.packed-item.result in
    let lt : n < length ps = omega arith in
    let here : i ≡ get_or is n i = subst (λ (js : List Instr). i ≡ get_or js n i) c.instrs-packed-items.ensures (unpacked_get ps n c.packed-item.result lt c.packed-item.is) in
    refused b c.loop-packed.checker c.call.new.checker is c.args.body.now n i c.in_ok-call.field-0 c.if-not-branch.true refl (omega (arith, ap length c.instrs-packed-items.ensures, unpacked_length c.instrs-packed-items.result.now)) here
    (c.loop-packed.invariant known) c.in_ok-call.ensures.answers

pub loop-packed-preserved : goal.loop-packed-preserved
loop-packed-preserved c = λ known.
    let b : Wanted = record { context = context_in c.args.setting.cx.now; params = c.args.params.now; runs = c.args.runs.now; results = c.args.setting.results.types.now } in
    let is : List Instr = whole c.args.body.now in
    let n : ℕ = c.loop-packed.packed-index in
    let ps = c.instrs-packed-items.result.now in
    let i : Instr = unpacked c.packed-item.result in
    let lt : n < length ps = omega arith in
    let here : i ≡ get_or is n i = subst (λ (js : List Instr). i ≡ get_or js n i) c.instrs-packed-items.ensures (unpacked_get ps n c.packed-item.result lt c.packed-item.is) in
    one_more b c.loop-packed.checker c.call.new.checker is n i c.in_ok-call.field-0 c.if-not-branch.false (omega (arith, ap length c.instrs-packed-items.ensures, unpacked_length c.instrs-packed-items.result.now)) here
    (c.loop-packed.invariant known) c.in_ok-call.ensures.answers c.call.ensures.body

pub returns : goal.returns
returns c = λ known.
    let b : Wanted = record { context = context_in c.args.setting.cx.now; params = c.args.params.now; runs = c.args.runs.now; results = c.args.setting.results.types.now } in
    let is : List Instr = whole c.args.body.now in
    measured b c.loop-packed.checker is c.args.body.now c.loop-packed.packed-index c.height.result c.depth.result refl (omega (arith, ap length c.instrs-packed-items.ensures, unpacked_length c.instrs-packed-items.result.now))
    (c.loop-packed.invariant known) c.height.ensures c.depth.ensures
