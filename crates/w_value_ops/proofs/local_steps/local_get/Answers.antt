use Rattle.std.proofs.Common.{refl}
use Rattle.w_syntax.specs.declared.instructions.Op.TheVariants as op
use Rattle.w_syntax.specs.declared.instructions.VariableOp.TheVariants as variable
use Rattle.w_stands.proofs.RoomOfFrames.{room_for_one}
use Rattle.std.proofs.Common.{◌≡◌, Option, Some, sym, ◌∙◌, ap, true}
use Rattle.w_types.specs.declared.value.Value.{Value}
use Rattle.w_value_ops.proofs.FactsOfValues.{pushed_next_holds}
use Rattle.w_value_ops.proofs.LocalsRead.{get_there, get_within, get_place, get_follows}
use Rattle.w_segment.proofs.FactsOfValues.{local_is}
use Rattle.w_value_ops.proofs.local_steps.local_get.Goals as goal

pub local_get-requires : goal.local_get-requires
local_get-requires c = record { there = get_within c.args.program.now c.args.stack.now c.args.index c.requires.moves }

pub push_next-requires : goal.push_next-requires
push_next-requires c = record { place = get_place c.args.program.now c.args.stack.now c.args.index c.requires.moves; room = room_for_one c.args.program.now c.requires.moves.u c.args.stack.now (op.Variable (variable.LocalGet c.args.index)) refl c.requires.moves.moves }

pub unreachable-requires : goal.unreachable-requires
unreachable-requires c =
    let there = get_there c.args.program.now c.args.stack.now c.args.index c.requires.moves in
    let e = sym c.local_get.ensures.value ∙ there.1 in
    let n = c.in-None.is in
    absurd (cc)

pub returns-clause-goes : goal.returns-clause-goes
returns-clause-goes c =
    get_follows c.args.program.now c.args.stack.now c.args.index c.requires.moves c.push_next.new.stack c.in-Some.value (c.local_get.ensures.value ∙ ap (λ (o : Option Value). Some o) c.in-Some.is)
    c.push_next.ensures.after

pub returns-clause-keeps : goal.returns-clause-keeps
returns-clause-keeps c = λ test on h.
    pushed_next_holds (λ v. test v ≡ true) c.in-Some.value c.args.stack.now c.push_next.new.stack c.push_next.ensures.after
    (local_is (λ v. test v ≡ true) c.args.index c.in-Some.value c.args.stack.now (c.local_get.ensures.value ∙ ap (λ (o : Option Value). Some o) c.in-Some.is) h) h
