use Rattle.std.proofs.Common.{◌≡◌, List, true, sym, subst, length, ap, ◌∙◌, arith}
use Rattle.w_types.specs.declared.value.Value.{Value}
use Rattle.w_segment.specs.Holds.{Holds}
use Rattle.w_segment.proofs.FactsOfValues.{same_holds, discarded_holds, moved_holds}
use Rattle.w_segment.specs.Changes.{moved}
use Rattle.w_call_ops.specs.declared.known_functions.FunctionFacts.{FunctionFacts}
use Rattle.w_call_ops.proofs.FrameRoom.{gone_operands}
use Rattle.w_call_ops.proofs.entering.enter.Goals as goal

pub enter_callee-requires-clause-given : goal.enter_callee-requires-clause-given
enter_callee-requires-clause-given c =
    let is = c.go.ensures.after ∙ ap (moved c.args.back) c.discard.ensures.after in
    let operands = ap (λ (vs : List Value). length vs) (gone_operands c.args.popped c.args.back c.args.stack.now c.room_for_callee.new.stack c.go.new.self c.room_for_callee.ensures.roomier is) in
    let there = c.requires.there in
    let params = ap (λ (x : FunctionFacts). x.params) (c.facts-facts.ensures there.kind there.code there.there) in
    let some = there.some in
    omega (arith, operands, params, some)

-- each change of the stack keeps it
pub returns-clause-keeps : goal.returns-clause-keeps
returns-clause-keeps c = λ test on h.
    let P : Value → Type 0 = λ v. test v ≡ true in
    let reserved = same_holds P c.args.stack.now c.room_for_callee.new.stack c.room_for_callee.ensures.roomier.same h in
    let discarded = subst (Holds P) (sym c.discard.ensures.after) (discarded_holds P c.args.popped c.room_for_callee.new.stack reserved) in
    let gone = subst (Holds P) (sym c.go.ensures.after) (moved_holds P c.args.back c.discard.new.self discarded) in
    c.enter_callee.ensures.keeps test on gone
