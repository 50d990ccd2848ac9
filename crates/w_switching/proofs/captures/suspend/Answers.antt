use Rattle.std.proofs.Common.{ℕ, length, sym, subst, arith}
use Rattle.w_stands.proofs.Narrow.{narrow_tag}
use Rattle.w_switching.specs.Moved.{Captured}
use Rattle.w_switching.proofs.AtSwitchingInstruction.{place_behind}
use Rattle.w_switching.proofs.Rooms.{capture_roomy}
use Rattle.w_switching.proofs.References.{spare_slot}
use Rattle.w_switching.proofs.Suspensions.{suspend_traps, suspend_layer, suspend_fits, suspend_outside, suspend_goes, suspend_sound}
use Rattle.w_switching.proofs.captures.suspend.Goals as goal

pub returns-in-None-clause-goes : goal.returns-in-None-clause-goes
returns-in-None-clause-goes c = suspend_traps c.args.program.now c.args.chain.now c.args.conts.now c.args.tag c.in-None.ensures.none

pub overflow_cast-args : goal.overflow_cast-args
overflow_cast-args c =
    let n = (narrow_tag c.args.program.now c.args.tag c.in-Some-tag_type.function.now c.requires.at.at.stand.narrow (sym c.in-Some-tag_type.ensures.kind)).0 in
    let l = c.len.ensures in
    omega (arith, n, l)

pub overflow_cast-args-in-Some-tag_type : goal.overflow_cast-args-in-Some-tag_type
overflow_cast-args-in-Some-tag_type c =
    let n = (narrow_tag c.args.program.now c.args.tag c.in-Some-tag_type.function.now c.requires.at.at.stand.narrow (sym c.in-Some-tag_type.ensures.kind)).1 in
    let l = c.len-in-Some-tag_type.ensures in
    omega (arith, n, l)

pub capture-requires-clause-layer : goal.capture-requires-clause-layer
capture-requires-clause-layer c =
    suspend_layer c.args.program.now c.args.chain.now c.args.conts.now c.args.tag c.requires.at c.in-Some.found.0 c.in-Some.found.1 c.in-Some.ensures.found

pub capture-requires-clause-operands : goal.capture-requires-clause-operands
capture-requires-clause-operands c =
    let f = suspend_fits c.args.program.now c.args.chain.now c.args.conts.now c.args.tag c.requires.at c.in-Some.found.0 c.in-Some.found.1 c.in-Some.ensures.found
    c.in-Some-tag_type.function.now (sym c.in-Some-tag_type.ensures.kind) in
    let n = c.len.ensures in
    omega (arith, f, n)

pub capture-requires-clause-place : goal.capture-requires-clause-place
capture-requires-clause-place c = place_behind c.requires.at

pub capture-requires-clause-outside : goal.capture-requires-clause-outside
capture-requires-clause-outside c =
    let f = suspend_outside c.args.program.now c.args.chain.now c.args.conts.now c.args.tag c.requires.at c.in-Some.found.0 c.in-Some.found.1 c.in-Some.ensures.found
    c.in-Some-tag_type.function.now (sym c.in-Some-tag_type.ensures.kind) c.requires.roomy in
    let n = c.len.ensures in
    omega (arith, f, n)

pub capture-requires-clause-spare : goal.capture-requires-clause-spare
capture-requires-clause-spare c =
    let l = suspend_layer c.args.program.now c.args.chain.now c.args.conts.now c.args.tag c.requires.at c.in-Some.found.0 c.in-Some.found.1 c.in-Some.ensures.found in
    spare_slot c.args.chain.now c.args.conts.now c.requires.sound (omega (arith, l))

pub returns-clause-goes : goal.returns-clause-goes
returns-clause-goes c =
    let t = c.in-Some-tag_type.function.now in
    let q = c.in-Some.found in
    let m = c.args.program.now in
    let C = c.args.chain.now in
    let S = c.args.conts.now in
    suspend_goes m C S c.args.tag c.requires.at q.0 q.1 c.in-Some.ensures.found t (sym c.in-Some-tag_type.ensures.kind) c.capture.new.chain c.capture.new.conts
    (subst (λ (n : ℕ). Captured n (length t.results) q.0 q.1 C S c.capture.new.chain c.capture.new.conts) c.len.ensures
    (subst (λ (n : ℕ). Captured c.len.result n q.0 q.1 C S c.capture.new.chain c.capture.new.conts) c.len-in-Some-tag_type.ensures c.capture.ensures.after))

pub returns-clause-sound : goal.returns-clause-sound
returns-clause-sound c =
    let t = c.in-Some-tag_type.function.now in
    let q = c.in-Some.found in
    let m = c.args.program.now in
    let C = c.args.chain.now in
    let S = c.args.conts.now in
    suspend_sound m C S c.args.tag c.requires.at q.0 q.1 c.in-Some.ensures.found t (sym c.in-Some-tag_type.ensures.kind) c.capture.new.chain c.capture.new.conts
    (subst (λ (n : ℕ). Captured n (length t.results) q.0 q.1 C S c.capture.new.chain c.capture.new.conts) c.len.ensures
    (subst (λ (n : ℕ). Captured c.len.result n q.0 q.1 C S c.capture.new.chain c.capture.new.conts) c.len-in-Some-tag_type.ensures c.capture.ensures.after))
    c.requires.sound c.requires.roomy c.requires.few c.capture.ensures.references

pub returns-clause-roomy : goal.returns-clause-roomy
returns-clause-roomy c =
    capture_roomy c.args.program.now _ _ c.in-Some.found.0 c.in-Some.found.1 c.args.chain.now c.args.conts.now c.capture.new.chain c.capture.new.conts c.capture.ensures.after c.requires.roomy
