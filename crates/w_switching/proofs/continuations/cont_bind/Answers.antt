use Rattle.std.proofs.Common.{◌≡◌, ℕ, ◌-◌, ◌∷◌, drop, sym, ap, ◌∙◌, subst, arith}
use Rattle.w_types.specs.declared.value.Value.TheVariants as value
use Rattle.w_syntax.specs.declared.instructions.SwitchingOp.TheVariants as switching
use Rattle.w_segment.specs.Shape.{Shape}
use Rattle.w_segment.specs.Link.{top}
use Rattle.w_switching.specs.Moved.{Bound}
use Rattle.w_switching.specs.Sound.{Sound, is_of, IsGood, Roomy}
use Rattle.w_switching.proofs.BoundArguments.{bind_typed, bind_fits, bind_goes, bind_sound}
use Rattle.w_switching.proofs.ReferenceFirst.{bind_consumes, null_traps, consumed_traps}
use Rattle.w_switching.proofs.AtSwitchingInstruction.{place_behind}
use Rattle.w_switching.proofs.Rooms.{segments_roomy, take_roomy, bind_roomy}
use Rattle.w_switching.proofs.References.{each_at, reference_of}
use Rattle.w_switching.proofs.continuations.cont_bind.Goals as goal

pub returns-in-Null-clause-goes : goal.returns-in-Null-clause-goes
returns-in-Null-clause-goes c =
    null_traps (switching.ContBind c.args.from c.args.to) (bind_consumes c.args.from c.args.to) c.args.program.now c.args.chain.now c.args.conts.now
    (drop 1 c.stack.result.now.operands) (ap (λ (s : Shape). s.operands) (sym c.stack.ensures.value) ∙ c.in-Null.ensures.value)

pub take-requires : goal.take-requires
take-requires c = record {
  of = reference_of c.args.chain.now c.args.conts.now c.in-Cont.reference (drop 1 c.stack.result.now.operands) c.requires.sound
      (ap (λ (s : Shape). s.operands) (sym c.stack.ensures.value) ∙ c.in-Cont.ensures.value);
}

pub unreachable-requires-in-None-cont_type : goal.unreachable-requires-in-None-cont_type
unreachable-requires-in-None-cont_type c =
    let vs = drop 1 c.stack.result.now.operands in
    let on : (top c.args.chain.now).shape.operands ≡ value.Cont c.in-Cont.reference ∷ vs = ap (λ (s : Shape). s.operands) (sym c.stack.ensures.value) ∙ c.in-Cont.ensures.value in
    bind_typed c.args.program.now c.args.chain.now c.args.conts.now c.args.from c.args.to c.in-Cont.reference vs c.in-Some.stored c.requires.at on
    (reference_of c.args.chain.now c.args.conts.now c.in-Cont.reference vs c.requires.sound on) (sym c.in-Some.ensures.value) (sym c.in-None-cont_type.ensures.kind)

pub bind-requires-clause-operands : goal.bind-requires-clause-operands
bind-requires-clause-operands c =
    let vs = drop 1 c.stack.result.now.operands in
    let on : (top c.args.chain.now).shape.operands ≡ value.Cont c.in-Cont.reference ∷ vs = ap (λ (s : Shape). s.operands) (sym c.stack.ensures.value) ∙ c.in-Cont.ensures.value in
    let f = bind_fits c.args.program.now c.args.chain.now c.args.conts.now c.args.from c.args.to c.in-Cont.reference vs c.in-Some.stored c.in-Some-cont_type.function.now c.requires.at on
    (reference_of c.args.chain.now c.args.conts.now c.in-Cont.reference vs c.requires.sound on) (sym c.in-Some.ensures.value) (sym c.in-Some-cont_type.ensures.kind) in
    let l = c.len-params.ensures in
    omega (arith, f, l)

pub bind-requires-clause-place : goal.bind-requires-clause-place
bind-requires-clause-place c = place_behind c.requires.at

pub bind-requires-clause-room : goal.bind-requires-clause-room
bind-requires-clause-room c =
    let g = (each_at (IsGood (is_of c.args.conts.now)) c.args.conts.now.entries c.in-Cont.reference.serial c.in-Some.stored (sym c.in-Some.ensures.value) c.requires.sound.stored).room in
    omega (arith, g)

pub returns-in-Some-cont_type-clause-goes : goal.returns-in-Some-cont_type-clause-goes
returns-in-Some-cont_type-clause-goes c =
    let vs = drop 1 c.stack.result.now.operands in
    let b = c.in-Some.stored in
    let on : (top c.args.chain.now).shape.operands ≡ value.Cont c.in-Cont.reference ∷ vs = ap (λ (s : Shape). s.operands) (sym c.stack.ensures.value) ∙ c.in-Cont.ensures.value in
    bind_goes c.args.program.now c.args.chain.now c.args.conts.now c.args.from c.args.to c.in-Cont.reference vs b c.in-Some-cont_type.function.now c.requires.at on
    (reference_of c.args.chain.now c.args.conts.now c.in-Cont.reference vs c.requires.sound on) (sym c.in-Some.ensures.value) (sym c.in-Some-cont_type.ensures.kind)
    c.take.new.self c.bind.new.chain c.bind.new.conts c.in-Some.ensures.some
    (subst (λ (n : ℕ). Bound (b.takes - n) n b.segment.value c.args.chain.now c.take.new.self c.bind.new.chain c.bind.new.conts) c.len-params.ensures c.bind.ensures.after)

pub returns-in-Some-cont_type-clause-sound : goal.returns-in-Some-cont_type-clause-sound
returns-in-Some-cont_type-clause-sound c =
    let vs = drop 1 c.stack.result.now.operands in
    let b = c.in-Some.stored in
    let on : (top c.args.chain.now).shape.operands ≡ value.Cont c.in-Cont.reference ∷ vs = ap (λ (s : Shape). s.operands) (sym c.stack.ensures.value) ∙ c.in-Cont.ensures.value in
    bind_sound c.args.program.now c.args.chain.now c.args.conts.now c.args.from c.args.to c.in-Cont.reference vs b c.in-Some-cont_type.function.now c.requires.at on
    (reference_of c.args.chain.now c.args.conts.now c.in-Cont.reference vs c.requires.sound on) (sym c.in-Some.ensures.value) (sym c.in-Some-cont_type.ensures.kind)
    c.take.new.self c.bind.new.chain c.bind.new.conts c.in-Some.ensures.some
    (subst (λ (n : ℕ). Bound (b.takes - n) n b.segment.value c.args.chain.now c.take.new.self c.bind.new.chain c.bind.new.conts) c.len-params.ensures c.bind.ensures.after)
    c.requires.sound (c.requires.takes c.in-Some-cont_type.function.now (sym c.in-Some-cont_type.ensures.kind) c.in-Cont.reference vs b on (sym c.in-Some.ensures.value))
    c.in-Some.ensures.references c.bind.ensures.references

pub returns-in-None-clause-goes : goal.returns-in-None-clause-goes
returns-in-None-clause-goes c =
    let vs = drop 1 c.stack.result.now.operands in
    let on : (top c.args.chain.now).shape.operands ≡ value.Cont c.in-Cont.reference ∷ vs = ap (λ (s : Shape). s.operands) (sym c.stack.ensures.value) ∙ c.in-Cont.ensures.value in
    consumed_traps (switching.ContBind c.args.from c.args.to) (bind_consumes c.args.from c.args.to) c.args.program.now c.args.chain.now c.args.conts.now c.take.new.self c.in-Cont.reference vs on
    (reference_of c.args.chain.now c.args.conts.now c.in-Cont.reference vs c.requires.sound on) (sym c.in-None.ensures.value) c.in-None.ensures.none

pub returns-in-None-clause-sound : goal.returns-in-None-clause-sound
returns-in-None-clause-sound c = subst (Sound c.args.chain.now) (sym c.in-None.ensures.none) c.requires.sound

pub returns-in-Some-cont_type-clause-roomy : goal.returns-in-Some-cont_type-clause-roomy
returns-in-Some-cont_type-clause-roomy c =
    let m = c.args.program.now in
    let C = c.args.chain.now in
    let b = c.in-Some.stored in
    bind_roomy m _ _ b.segment.value C c.take.new.self c.bind.new.chain c.bind.new.conts c.bind.ensures.after
    (segments_roomy m C c.args.conts.now c.in-Cont.reference.serial b c.requires.roomy (sym c.in-Some.ensures.value))
    (take_roomy m C c.args.conts.now c.take.new.self c.in-Cont.reference.serial c.in-Some.ensures.some c.requires.roomy)

pub returns-in-None-clause-roomy : goal.returns-in-None-clause-roomy
returns-in-None-clause-roomy c = subst (Roomy c.args.program.now c.args.chain.now) (sym c.in-None.ensures.none) c.requires.roomy
