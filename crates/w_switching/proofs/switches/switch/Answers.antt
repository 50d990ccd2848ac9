use Rattle.std.proofs.Common.{◌≡◌, ◌∷◌, drop, refl, sym, ap, ◌∙◌, arith}
use Rattle.w_types.specs.declared.value.Value.TheVariants as value
use Rattle.w_syntax.specs.declared.instructions.SwitchingOp.TheVariants as switching
use Rattle.w_segment.specs.Shape.{Shape}
use Rattle.w_segment.specs.Link.{top}
use Rattle.w_switching.proofs.ReferenceFirst.{switch_consumes, null_traps, consumed_traps}
use Rattle.w_switching.proofs.StackSwitches.{switch_traps, switch_typed}
use Rattle.w_switching.proofs.SwitchedSegments.{can_exchange, given_goes, given_sound, given_roomy}
use Rattle.w_switching.proofs.LastTypes.{narrow_at_back}
use Rattle.w_switching.proofs.References.{reference_of}
use Rattle.w_switching.proofs.switches.switch.Goals as goal

pub returns-in-Null-clause-goes : goal.returns-in-Null-clause-goes
returns-in-Null-clause-goes c =
    null_traps (switching.Switch c.args.kind c.args.tag) (switch_consumes c.args.kind c.args.tag) c.args.program.now c.args.chain.now c.args.conts.now
    (drop 1 c.stack.result.now.operands) (ap (λ (s : Shape). s.operands) (sym c.stack.ensures.value) ∙ c.in-Null.ensures.value)

pub look-requires : goal.look-requires
look-requires c = record {
  of = reference_of c.args.chain.now c.args.conts.now c.in-Cont.reference (drop 1 c.stack.result.now.operands) c.requires.sound
      (ap (λ (s : Shape). s.operands) (sym c.stack.ensures.value) ∙ c.in-Cont.ensures.value);
}

pub returns-in-None-clause-goes : goal.returns-in-None-clause-goes
returns-in-None-clause-goes c =
    let vs = drop 1 c.stack.result.now.operands in
    let on : (top c.args.chain.now).shape.operands ≡ value.Cont c.in-Cont.reference ∷ vs = ap (λ (s : Shape). s.operands) (sym c.stack.ensures.value) ∙ c.in-Cont.ensures.value in
    consumed_traps (switching.Switch c.args.kind c.args.tag) (switch_consumes c.args.kind c.args.tag) c.args.program.now c.args.chain.now c.args.conts.now c.args.conts.now c.in-Cont.reference vs on
    (reference_of c.args.chain.now c.args.conts.now c.in-Cont.reference vs c.requires.sound on) (sym c.in-None.ensures.kept) refl

pub returns-in_default-find_switch-clause-goes : goal.returns-in_default-find_switch-clause-goes
returns-in_default-find_switch-clause-goes c =
    let vs = drop 1 c.stack.result.now.operands in
    let on : (top c.args.chain.now).shape.operands ≡ value.Cont c.in-Cont.reference ∷ vs = ap (λ (s : Shape). s.operands) (sym c.stack.ensures.value) ∙ c.in-Cont.ensures.value in
    switch_traps c.args.program.now c.args.chain.now c.args.conts.now c.args.kind c.args.tag c.in-Cont.reference vs c.in-Some.stored.now on
    (reference_of c.args.chain.now c.args.conts.now c.in-Cont.reference vs c.requires.sound on) (sym c.in-Some.ensures.kept) c.in_default-find_switch.ensures.none

pub unreachable-requires-in-None-back_type : goal.unreachable-requires-in-None-back_type
unreachable-requires-in-None-back_type c =
    let vs = drop 1 c.stack.result.now.operands in
    let on : (top c.args.chain.now).shape.operands ≡ value.Cont c.in-Cont.reference ∷ vs = ap (λ (s : Shape). s.operands) (sym c.stack.ensures.value) ∙ c.in-Cont.ensures.value in
    switch_typed c.args.program.now c.args.chain.now c.args.conts.now c.args.kind c.args.tag c.in-Cont.reference vs c.in-Some.stored.now on
    (reference_of c.args.chain.now c.args.conts.now c.in-Cont.reference vs c.requires.sound on) (sym c.in-Some.ensures.kept) c.requires.at
    c.in-Some-find_switch.layer c.in-Some-find_switch.ensures.found (sym c.in-None-back_type.ensures.kind)

pub take-requires : goal.take-requires
take-requires c = record {
  of = reference_of c.args.chain.now c.args.conts.now c.in-Cont.reference (drop 1 c.stack.result.now.operands) c.requires.sound
      (ap (λ (s : Shape). s.operands) (sym c.stack.ensures.value) ∙ c.in-Cont.ensures.value);
}

pub overflow_cast-takes : goal.overflow_cast-takes
overflow_cast-takes c =
    let n = narrow_at_back c.args.program.now c.args.kind c.in-Some-back_type.function.now c.requires.at.at.stand.narrow (sym c.in-Some-back_type.ensures.kind) in
    let l = c.len.ensures in
    omega (arith, n, l)

pub exchange-requires-clause-layer : goal.exchange-requires-clause-layer
exchange-requires-clause-layer c =
    let vs = drop 1 c.stack.result.now.operands in
    let on : (top c.args.chain.now).shape.operands ≡ value.Cont c.in-Cont.reference ∷ vs = ap (λ (s : Shape). s.operands) (sym c.stack.ensures.value) ∙ c.in-Cont.ensures.value in
    (can_exchange c.args.program.now c.args.chain.now c.args.conts.now c.args.kind c.args.tag c.in-Cont.reference vs c.in-Some.stored.now c.in-Some-take.stored on c.requires.sound
    (sym c.in-Some.ensures.kept) (sym c.in-Some-take.ensures.value) c.requires.at c.in-Some-find_switch.layer c.in-Some-find_switch.ensures.found c.in-Some-back_type.function.now
    (sym c.in-Some-back_type.ensures.kind) c.requires.takes c.requires.few).layer_is

pub exchange-requires-clause-operands : goal.exchange-requires-clause-operands
exchange-requires-clause-operands c =
    let vs = drop 1 c.stack.result.now.operands in
    let on : (top c.args.chain.now).shape.operands ≡ value.Cont c.in-Cont.reference ∷ vs = ap (λ (s : Shape). s.operands) (sym c.stack.ensures.value) ∙ c.in-Cont.ensures.value in
    (can_exchange c.args.program.now c.args.chain.now c.args.conts.now c.args.kind c.args.tag c.in-Cont.reference vs c.in-Some.stored.now c.in-Some-take.stored on c.requires.sound
    (sym c.in-Some.ensures.kept) (sym c.in-Some-take.ensures.value) c.requires.at c.in-Some-find_switch.layer c.in-Some-find_switch.ensures.found c.in-Some-back_type.function.now
    (sym c.in-Some-back_type.ensures.kind) c.requires.takes c.requires.few).operands

pub exchange-requires-clause-place : goal.exchange-requires-clause-place
exchange-requires-clause-place c =
    let vs = drop 1 c.stack.result.now.operands in
    let on : (top c.args.chain.now).shape.operands ≡ value.Cont c.in-Cont.reference ∷ vs = ap (λ (s : Shape). s.operands) (sym c.stack.ensures.value) ∙ c.in-Cont.ensures.value in
    (can_exchange c.args.program.now c.args.chain.now c.args.conts.now c.args.kind c.args.tag c.in-Cont.reference vs c.in-Some.stored.now c.in-Some-take.stored on c.requires.sound
    (sym c.in-Some.ensures.kept) (sym c.in-Some-take.ensures.value) c.requires.at c.in-Some-find_switch.layer c.in-Some-find_switch.ensures.found c.in-Some-back_type.function.now
    (sym c.in-Some-back_type.ensures.kind) c.requires.takes c.requires.few).place

pub exchange-requires-clause-room : goal.exchange-requires-clause-room
exchange-requires-clause-room c =
    let vs = drop 1 c.stack.result.now.operands in
    let on : (top c.args.chain.now).shape.operands ≡ value.Cont c.in-Cont.reference ∷ vs = ap (λ (s : Shape). s.operands) (sym c.stack.ensures.value) ∙ c.in-Cont.ensures.value in
    (can_exchange c.args.program.now c.args.chain.now c.args.conts.now c.args.kind c.args.tag c.in-Cont.reference vs c.in-Some.stored.now c.in-Some-take.stored on c.requires.sound
    (sym c.in-Some.ensures.kept) (sym c.in-Some-take.ensures.value) c.requires.at c.in-Some-find_switch.layer c.in-Some-find_switch.ensures.found c.in-Some-back_type.function.now
    (sym c.in-Some-back_type.ensures.kind) c.requires.takes c.requires.few).room

pub exchange-requires-clause-few : goal.exchange-requires-clause-few
exchange-requires-clause-few c =
    let vs = drop 1 c.stack.result.now.operands in
    let on : (top c.args.chain.now).shape.operands ≡ value.Cont c.in-Cont.reference ∷ vs = ap (λ (s : Shape). s.operands) (sym c.stack.ensures.value) ∙ c.in-Cont.ensures.value in
    (can_exchange c.args.program.now c.args.chain.now c.args.conts.now c.args.kind c.args.tag c.in-Cont.reference vs c.in-Some.stored.now c.in-Some-take.stored on c.requires.sound
    (sym c.in-Some.ensures.kept) (sym c.in-Some-take.ensures.value) c.requires.at c.in-Some-find_switch.layer c.in-Some-find_switch.ensures.found c.in-Some-back_type.function.now
    (sym c.in-Some-back_type.ensures.kind) c.requires.takes c.requires.few).few

pub returns-clause-goes : goal.returns-clause-goes
returns-clause-goes c =
    let vs = drop 1 c.stack.result.now.operands in
    let on : (top c.args.chain.now).shape.operands ≡ value.Cont c.in-Cont.reference ∷ vs = ap (λ (s : Shape). s.operands) (sym c.stack.ensures.value) ∙ c.in-Cont.ensures.value in
    given_goes c.args.program.now c.args.chain.now c.args.conts.now c.args.kind c.args.tag c.in-Cont.reference vs c.in-Some.stored.now c.in-Some-take.stored on c.requires.sound
    (sym c.in-Some.ensures.kept) (sym c.in-Some-take.ensures.value) c.requires.at c.in-Some-find_switch.layer c.in-Some-find_switch.ensures.found c.in-Some-back_type.function.now
    (sym c.in-Some-back_type.ensures.kind)
    c.len.result c.len.ensures c.take.new.self c.exchange.new.chain c.exchange.new.conts c.in-Some-take.ensures.some c.exchange.ensures.after

pub returns-clause-sound : goal.returns-clause-sound
returns-clause-sound c =
    let vs = drop 1 c.stack.result.now.operands in
    let on : (top c.args.chain.now).shape.operands ≡ value.Cont c.in-Cont.reference ∷ vs = ap (λ (s : Shape). s.operands) (sym c.stack.ensures.value) ∙ c.in-Cont.ensures.value in
    given_sound c.args.program.now c.args.chain.now c.args.conts.now c.args.kind c.args.tag c.in-Cont.reference vs c.in-Some.stored.now c.in-Some-take.stored on c.requires.sound
    (sym c.in-Some.ensures.kept) (sym c.in-Some-take.ensures.value) c.requires.at c.in-Some-find_switch.layer c.in-Some-find_switch.ensures.found c.in-Some-back_type.function.now
    (sym c.in-Some-back_type.ensures.kind)
    c.len.result c.len.ensures c.take.new.self c.exchange.new.chain c.exchange.new.conts c.in-Some-take.ensures.some c.exchange.ensures.after
    c.requires.roomy c.requires.few c.in-Some-take.ensures.references c.exchange.ensures.references

pub returns-clause-roomy : goal.returns-clause-roomy
returns-clause-roomy c =
    let vs = drop 1 c.stack.result.now.operands in
    let on : (top c.args.chain.now).shape.operands ≡ value.Cont c.in-Cont.reference ∷ vs = ap (λ (s : Shape). s.operands) (sym c.stack.ensures.value) ∙ c.in-Cont.ensures.value in
    given_roomy c.args.program.now c.args.chain.now c.args.conts.now c.args.kind c.args.tag c.in-Cont.reference vs c.in-Some.stored.now c.in-Some-take.stored on c.requires.sound
    (sym c.in-Some.ensures.kept) (sym c.in-Some-take.ensures.value) c.requires.at c.in-Some-find_switch.layer c.in-Some-find_switch.ensures.found c.in-Some-back_type.function.now
    (sym c.in-Some-back_type.ensures.kind)
    c.len.result c.len.ensures c.take.new.self c.exchange.new.chain c.exchange.new.conts c.in-Some-take.ensures.some c.exchange.ensures.after
    c.requires.roomy
