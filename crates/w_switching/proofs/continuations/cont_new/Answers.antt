use Rattle.std.proofs.Common.{◌≡◌, ◌+◌, ℕ, length, drop, sym, ap, ◌∙◌, subst, arith}
use Rattle.w_types.specs.declared.value.Value.TheVariants as value
use Rattle.w_types.specs.declared.value.ContRef.{ContRef}
use Rattle.w_segment.specs.Changes.{discarded}
use Rattle.w_segment.specs.Shape.{Shape}
use Rattle.w_segment.specs.Link.{top}
use Rattle.w_conts.specs.Conts.{Conts, KeepsReferences, IsOf, with_entry, with_spare}
use Rattle.w_switching.specs.declared.stored.Stored.{Stored}
use Rattle.w_switching.specs.Moved.{next_ref}
use Rattle.w_switching.specs.Sound.{Sound, Roomy}
use Rattle.w_switching.proofs.AtSwitchingInstruction.{place_behind, pushed_on}
use Rattle.w_switching.proofs.Rooms.{new_roomy}
use Rattle.w_switching.proofs.MadeContinuations.{new_traps, new_goes, new_sound}
use Rattle.w_switching.proofs.continuations.cont_new.Goals as goal

pub returns-in-Null-clause-goes : goal.returns-in-Null-clause-goes
returns-in-Null-clause-goes c =
    new_traps c.args.program.now c.args.chain.now c.args.conts.now c.args.kind (drop 1 c.stack.result.now.operands)
    (ap (λ (s : Shape). s.operands) (sym c.stack.ensures.value) ∙ c.in-Null.ensures.value)

pub returns-in_err-reserve_one-clause-sound : goal.returns-in_err-reserve_one-clause-sound
returns-in_err-reserve_one-clause-sound c = subst (Sound c.args.chain.now) (sym c.in_err-reserve_one.ensures.err) c.requires.sound

pub overflow_add-place : goal.overflow_add-place
overflow_add-place c =
    let f = place_behind c.requires.at in
    let w = c.place.ensures.value ∙ ap (λ (s : Shape). s.place) c.push.ensures.after ∙ ap (λ (s : Shape). s.place) c.discard.ensures.after ∙ ap (λ (s : Shape). s.place) c.stack_mut-stack.ensures.value in
    omega (arith, f, w)

pub returns-clause-goes : goal.returns-clause-goes
returns-clause-goes c =
    let S = (top c.args.chain.now).shape in
    let b : Stored = record { takes = c.in-Ok.takes; segment = c.in_ok-segment.segment } in
    let place = c.put-reference.result.place in
    let n = length c.args.conts.now.entries in
    let r = c.in_ok-reserve_one.ensures.ok in
    let serial : c.put-reference.result.serial ≡ n = c.put-reference.ensures.serial ∙ ap (λ (v : Conts Stored). length v.entries) r in
    new_goes c.args.program.now c.args.chain.now c.args.conts.now c.put-reference.new.self c.args.kind c.in-Func.func place (drop 1 c.stack.result.now.operands) c.in-Some.function.now b c.requires.at
    (ap (λ (s : Shape). s.operands) (sym c.stack.ensures.value) ∙ c.in-Func.ensures.value) (sym c.in-Some.ensures.kind) (c.in-Ok.ensures.1 ∙ c.len-takes.ensures) c.in_ok-segment.ensures.ok
    (c.put-reference.ensures.after ∙ ap (with_entry place b) r) c.go.new.self
    (pushed_on (discarded 1 S) c.discard.new.self c.push.new.self c.go.new.self c.place.result (value.Cont c.put-reference.result) (next_ref place n)
    (c.discard.ensures.after ∙ ap (discarded 1) c.stack_mut-stack.ensures.value) (ap (next_ref place) serial) c.push.ensures.after c.place.ensures.value c.go.ensures.after)

pub returns-clause-sound : goal.returns-clause-sound
returns-clause-sound c =
    let S = (top c.args.chain.now).shape in
    let b : Stored = record { takes = c.in-Ok.takes; segment = c.in_ok-segment.segment } in
    let place = c.put-reference.result.place in
    let n = length c.args.conts.now.entries in
    let r = c.in_ok-reserve_one.ensures.ok in
    let serial : c.put-reference.result.serial ≡ n = c.put-reference.ensures.serial ∙ ap (λ (v : Conts Stored). length v.entries) r in
    new_sound c.args.program.now c.args.chain.now c.args.conts.now c.put-reference.new.self c.args.kind c.in-Func.func place (drop 1 c.stack.result.now.operands) c.in-Some.function.now b c.requires.at
    (ap (λ (s : Shape). s.operands) (sym c.stack.ensures.value) ∙ c.in-Func.ensures.value) (sym c.in-Some.ensures.kind) (c.in-Ok.ensures.1 ∙ c.len-takes.ensures) c.in_ok-segment.ensures.ok
    (c.put-reference.ensures.after ∙ ap (with_entry place b) r) c.go.new.self
    (pushed_on (discarded 1 S) c.discard.new.self c.push.new.self c.go.new.self c.place.result (value.Cont c.put-reference.result) (next_ref place n)
    (c.discard.ensures.after ∙ ap (discarded 1) c.stack_mut-stack.ensures.value) (ap (next_ref place) serial) c.push.ensures.after c.place.ensures.value c.go.ensures.after)
    c.requires.sound (subst (λ (v : Conts Stored). KeepsReferences v c.put-reference.new.self) r c.put-reference.ensures.references)
    (subst (λ (k : ℕ). IsOf (let x : ContRef = record { place = place; serial = k } in x) c.put-reference.new.self) serial c.put-reference.ensures.of)

pub returns-in_err-reserve_one-clause-roomy : goal.returns-in_err-reserve_one-clause-roomy
returns-in_err-reserve_one-clause-roomy c = subst (Roomy c.args.program.now c.args.chain.now) (sym c.in_err-reserve_one.ensures.err) c.requires.roomy

pub returns-clause-roomy : goal.returns-clause-roomy
returns-clause-roomy c =
    let S = (top c.args.chain.now).shape in
    let b : Stored = record { takes = c.in-Ok.takes; segment = c.in_ok-segment.segment } in
    let place = c.put-reference.result.place in
    let n = length c.args.conts.now.entries in
    let r = c.in_ok-reserve_one.ensures.ok in
    let serial : c.put-reference.result.serial ≡ n = c.put-reference.ensures.serial ∙ ap (λ (v : Conts Stored). length v.entries) r in
    new_roomy c.args.program.now c.in-Func.func c.in-Ok.takes c.args.chain.now (with_spare (c.args.conts.now.spare + 1) c.args.conts.now) c.put-reference.new.self place b c.go.new.self (S.place + 1) (next_ref place n)
    (c.put-reference.ensures.after ∙ ap (with_entry place b) r) c.in_ok-segment.ensures.ok
    (pushed_on (discarded 1 S) c.discard.new.self c.push.new.self c.go.new.self c.place.result (value.Cont c.put-reference.result) (next_ref place n)
    (c.discard.ensures.after ∙ ap (discarded 1) c.stack_mut-stack.ensures.value) (ap (next_ref place) serial) c.push.ensures.after c.place.ensures.value c.go.ensures.after)
    (record { running = c.requires.roomy.running; stored = c.requires.roomy.stored })
