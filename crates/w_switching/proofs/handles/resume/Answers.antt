use Rattle.std.proofs.Common.{◌≡◌, ◌∷◌, drop, sym, ap, ◌∙◌, subst, arith}
use Rattle.w_types.specs.declared.value.Value.TheVariants as value
use Rattle.w_syntax.specs.declared.instructions.SwitchingOp.TheVariants as switching
use Rattle.w_segment.specs.Shape.{Shape}
use Rattle.w_segment.specs.Link.{top}
use Rattle.w_switching.specs.Sound.{Sound, Roomy, is_of, IsGood}
use Rattle.w_switching.proofs.ReferenceFirst.{resume_consumes, null_traps, consumed_traps}
use Rattle.w_switching.proofs.AtSwitchingInstruction.{place_behind}
use Rattle.w_switching.proofs.Resumptions.{resume_fits, resume_goes, resume_sound}
use Rattle.w_switching.proofs.Rooms.{segments_roomy, take_roomy, pass_roomy}
use Rattle.w_switching.proofs.References.{each_at, reference_of}
use Rattle.w_switching.proofs.handles.resume.Goals as goal

pub returns-in-Null-clause-goes : goal.returns-in-Null-clause-goes
returns-in-Null-clause-goes c =
    null_traps (switching.Resume c.args.kind c.args.clauses.now) (resume_consumes c.args.kind c.args.clauses.now) c.args.program.now c.args.chain.now c.args.conts.now
    (drop 1 c.stack.result.now.operands) (ap (λ (s : Shape). s.operands) (sym c.stack.ensures.value) ∙ c.in-Null.ensures.value)

pub take-requires : goal.take-requires
take-requires c = record {
  of = reference_of c.args.chain.now c.args.conts.now c.in-Cont.reference (drop 1 c.stack.result.now.operands) c.requires.sound
      (ap (λ (s : Shape). s.operands) (sym c.stack.ensures.value) ∙ c.in-Cont.ensures.value);
}

pub pass-requires-clause-operands : goal.pass-requires-clause-operands
pass-requires-clause-operands c =
    let vs = drop 1 c.stack.result.now.operands in
    let on : (top c.args.chain.now).shape.operands ≡ value.Cont c.in-Cont.reference ∷ vs = ap (λ (s : Shape). s.operands) (sym c.stack.ensures.value) ∙ c.in-Cont.ensures.value in
    resume_fits c.args.program.now c.args.chain.now c.args.conts.now c.args.kind c.args.clauses.now c.in-Cont.reference vs c.in-Some.stored c.requires.at on
    (reference_of c.args.chain.now c.args.conts.now c.in-Cont.reference vs c.requires.sound on) (sym c.in-Some.ensures.value)

pub pass-requires-clause-place : goal.pass-requires-clause-place
pass-requires-clause-place c = place_behind c.requires.at

pub pass-requires-clause-room : goal.pass-requires-clause-room
pass-requires-clause-room c =
    (each_at (IsGood (is_of c.args.conts.now)) c.args.conts.now.entries c.in-Cont.reference.serial c.in-Some.stored (sym c.in-Some.ensures.value) c.requires.sound.stored).room

pub pass-requires-clause-few : goal.pass-requires-clause-few
pass-requires-clause-few c =
    let g = (each_at (IsGood (is_of c.args.conts.now)) c.args.conts.now.entries c.in-Cont.reference.serial c.in-Some.stored (sym c.in-Some.ensures.value) c.requires.sound.stored).few in
    let f = c.requires.few in
    omega (arith, f, g)

pub returns-in-Some-clause-goes : goal.returns-in-Some-clause-goes
returns-in-Some-clause-goes c =
    let vs = drop 1 c.stack.result.now.operands in
    let on : (top c.args.chain.now).shape.operands ≡ value.Cont c.in-Cont.reference ∷ vs = ap (λ (s : Shape). s.operands) (sym c.stack.ensures.value) ∙ c.in-Cont.ensures.value in
    resume_goes c.args.program.now c.args.chain.now c.args.conts.now c.args.kind c.args.clauses.now c.in-Cont.reference vs c.in-Some.stored c.requires.at on
    (reference_of c.args.chain.now c.args.conts.now c.in-Cont.reference vs c.requires.sound on) (sym c.in-Some.ensures.value)
    c.pass.new.chain c.take.new.self c.pass.ensures.after c.in-Some.ensures.some

pub returns-in-Some-clause-sound : goal.returns-in-Some-clause-sound
returns-in-Some-clause-sound c =
    let vs = drop 1 c.stack.result.now.operands in
    let on : (top c.args.chain.now).shape.operands ≡ value.Cont c.in-Cont.reference ∷ vs = ap (λ (s : Shape). s.operands) (sym c.stack.ensures.value) ∙ c.in-Cont.ensures.value in
    resume_sound c.args.program.now c.args.chain.now c.args.conts.now c.args.kind c.args.clauses.now c.in-Cont.reference vs c.in-Some.stored c.requires.at on
    (reference_of c.args.chain.now c.args.conts.now c.in-Cont.reference vs c.requires.sound on) (sym c.in-Some.ensures.value)
    c.pass.new.chain c.take.new.self c.pass.ensures.after c.in-Some.ensures.some c.requires.sound c.in-Some.ensures.references

pub returns-in-None-clause-goes : goal.returns-in-None-clause-goes
returns-in-None-clause-goes c =
    let vs = drop 1 c.stack.result.now.operands in
    let on : (top c.args.chain.now).shape.operands ≡ value.Cont c.in-Cont.reference ∷ vs = ap (λ (s : Shape). s.operands) (sym c.stack.ensures.value) ∙ c.in-Cont.ensures.value in
    consumed_traps (switching.Resume c.args.kind c.args.clauses.now) (resume_consumes c.args.kind c.args.clauses.now) c.args.program.now c.args.chain.now c.args.conts.now c.take.new.self c.in-Cont.reference vs on
    (reference_of c.args.chain.now c.args.conts.now c.in-Cont.reference vs c.requires.sound on) (sym c.in-None.ensures.value) c.in-None.ensures.none

pub returns-in-None-clause-sound : goal.returns-in-None-clause-sound
returns-in-None-clause-sound c = subst (Sound c.args.chain.now) (sym c.in-None.ensures.none) c.requires.sound

pub returns-in-Some-clause-roomy : goal.returns-in-Some-clause-roomy
returns-in-Some-clause-roomy c =
    let m = c.args.program.now in
    let C = c.args.chain.now in
    let b = c.in-Some.stored in
    pass_roomy m b.takes b.segment.value C c.pass.new.chain c.take.new.self c.pass.ensures.after
    (segments_roomy m C c.args.conts.now c.in-Cont.reference.serial b c.requires.roomy (sym c.in-Some.ensures.value))
    (take_roomy m C c.args.conts.now c.take.new.self c.in-Cont.reference.serial c.in-Some.ensures.some c.requires.roomy)

pub returns-in-None-clause-roomy : goal.returns-in-None-clause-roomy
returns-in-None-clause-roomy c = subst (Roomy c.args.program.now c.args.chain.now) (sym c.in-None.ensures.none) c.requires.roomy
