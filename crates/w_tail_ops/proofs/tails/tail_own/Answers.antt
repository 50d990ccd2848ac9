use Rattle.std.proofs.Common.{◌≡◌, ◌≤◌, ℕ, List, true, sym, subst, length, drop, take, ◌++◌, ap, ◌∙◌, arith, length-append}
use Rattle.std.proofs.lemmas.List.{length-take-le}
use Rattle.w_types.specs.declared.value.Value.{Value}
use Rattle.w_segment.specs.Shape.{Shape, frame_at}
use Rattle.w_segment.specs.Changes.{returned}
use Rattle.w_segment.specs.Holds.{Holds}
use Rattle.w_segment.proofs.FactsOfValues.{same_holds, discarded_holds, returned_holds}
use Rattle.w_call_ops.specs.declared.known_functions.FunctionFacts.{FunctionFacts}
use Rattle.w_tail_ops.proofs.LeftRoom.{left_operands, left_fits, left_room}
use Rattle.w_tail_ops.proofs.OwnTails.{tail_there, tail_caller, tail_frame, tail_follows}
use Rattle.w_tail_ops.proofs.tails.tail_own.Goals as goal

pub facts-facts-requires : goal.facts-facts-requires
facts-facts-requires c =
    let k = tail_there c.args.program.now c.args.store.now c.args.stack.now c.args.address c.args.popped c.args.function c.requires.call c.requires.own in
    (k.kind, k.code, k.there)

pub leave_frame-requires : goal.leave_frame-requires
leave_frame-requires c =
    let m = c.args.program.now in
    let s = c.args.stack.now in
    let there = tail_there m c.args.store.now s c.args.address c.args.popped c.args.function c.requires.call c.requires.own in
    let some = there.some in
    let levels = ap (λ (x : Shape). x.levels) c.discard.ensures.after ∙ c.room_for_callee.ensures.roomier.same.levels in
    let operands : c.discard.new.self.operands ≡ drop c.args.popped s.operands =
    ap (λ (x : Shape). x.operands) c.discard.ensures.after ∙ ap (drop c.args.popped) c.room_for_callee.ensures.roomier.same.operands in
    let many = ap (λ (vs : List Value). length vs) operands in
    let l = ap (λ (x : FunctionFacts). x.params) (c.facts-facts.ensures there.kind there.code there.there) in
    record {
      there = (
        tail_caller m c.args.store.now s c.args.address c.args.popped c.args.function c.requires.call c.requires.own,
        ap frame_at levels ∙ tail_frame m c.args.store.now s c.args.address c.args.popped c.args.function c.requires.call c.requires.own,
        omega (arith, some, many, l),
      );
    }

pub enter_callee-requires-clause-there : goal.enter_callee-requires-clause-there
enter_callee-requires-clause-there c =
    let k = tail_there c.args.program.now c.args.store.now c.args.stack.now c.args.address c.args.popped c.args.function c.requires.call c.requires.own in
    (k.kind, k.code, k.there)

pub enter_callee-requires-clause-given : goal.enter_callee-requires-clause-given
enter_callee-requires-clause-given c =
    let m = c.args.program.now in
    let s = c.args.stack.now in
    let n = c.facts-facts.result.params in
    let there = tail_there m c.args.store.now s c.args.address c.args.popped c.args.function c.requires.call c.requires.own in
    let some = there.some in
    let caller = tail_caller m c.args.store.now s c.args.address c.args.popped c.args.function c.requires.call c.requires.own in
    let at = tail_frame m c.args.store.now s c.args.address c.args.popped c.args.function c.requires.call c.requires.own in
    let levels = ap (λ (x : Shape). x.levels) c.discard.ensures.after ∙ c.room_for_callee.ensures.roomier.same.levels in
    let is = c.leave_frame.ensures.after caller (ap frame_at levels ∙ at) ∙ ap (returned n caller) c.discard.ensures.after in
    let operands = ap (λ (vs : List Value). length vs) (left_operands c.args.popped n s c.room_for_callee.new.stack c.leave_frame.new.self caller c.room_for_callee.ensures.roomier at is) in
    let l = ap (λ (x : FunctionFacts). x.params) (c.facts-facts.ensures there.kind there.code there.there) in
    let long : n ≤ length (drop c.args.popped s.operands) = omega (arith, some, l) in
    let joined = length-append (take n (drop c.args.popped s.operands)) caller.below in
    let taken = length-take-le n (drop c.args.popped s.operands) long in
    omega (arith, operands, joined, taken)

pub enter_callee-requires-clause-fits : goal.enter_callee-requires-clause-fits
enter_callee-requires-clause-fits c =
    let m = c.args.program.now in
    let s = c.args.stack.now in
    let n = c.facts-facts.result.params in
    let there = tail_there m c.args.store.now s c.args.address c.args.popped c.args.function c.requires.call c.requires.own in
    let some = there.some in
    let caller = tail_caller m c.args.store.now s c.args.address c.args.popped c.args.function c.requires.call c.requires.own in
    let at = tail_frame m c.args.store.now s c.args.address c.args.popped c.args.function c.requires.call c.requires.own in
    let levels = ap (λ (x : Shape). x.levels) c.discard.ensures.after ∙ c.room_for_callee.ensures.roomier.same.levels in
    let is = c.leave_frame.ensures.after caller (ap frame_at levels ∙ at) ∙ ap (returned n caller) c.discard.ensures.after in
    let l = ap (λ (x : FunctionFacts). x.params) (c.facts-facts.ensures there.kind there.code there.there) in
    left_fits c.args.popped n s c.room_for_callee.new.stack c.leave_frame.new.self caller c.room_for_callee.ensures.roomier at is _ _ _ (omega (arith, some, l)) c.in_ok-room_for_callee.ensures.ok

pub returns-clause-goes : goal.returns-clause-goes
returns-clause-goes c =
    let m = c.args.program.now in
    let s = c.args.stack.now in
    let n = c.facts-facts.result.params in
    let r = c.room_for_callee.new.stack in
    let mid = c.leave_frame.new.self in
    let roomier = c.room_for_callee.ensures.roomier in
    let there = tail_there m c.args.store.now s c.args.address c.args.popped c.args.function c.requires.call c.requires.own in
    let caller = tail_caller m c.args.store.now s c.args.address c.args.popped c.args.function c.requires.call c.requires.own in
    let at = tail_frame m c.args.store.now s c.args.address c.args.popped c.args.function c.requires.call c.requires.own in
    let levels = ap (λ (x : Shape). x.levels) c.discard.ensures.after ∙ roomier.same.levels in
    let is = c.leave_frame.ensures.after caller (ap frame_at levels ∙ at) ∙ ap (returned n caller) c.discard.ensures.after in
    let l = ap (λ (x : FunctionFacts). x.params) (c.facts-facts.ensures there.kind there.code there.there) in
    tail_follows m c.args.store.now s c.args.address c.args.popped c.args.function c.requires.call c.requires.own there.kind mid c.enter_callee.new.stack there.there.type_is
    (ap (λ (x : Shape). x.levels) is)
    (left_operands c.args.popped n s r mid caller roomier at is ∙ ap (λ (k : ℕ). take k (drop c.args.popped s.operands) ++ caller.below) l)
    (ap (λ (x : Shape). x.func) is) (ap (λ (x : Shape). x.place) is) c.enter_callee.ensures.after c.enter_callee.ensures.room
    (left_room c.args.popped n s r mid caller roomier at is m)

-- each change of the stack keeps it
pub returns-clause-keeps : goal.returns-clause-keeps
returns-clause-keeps c = λ test on h.
    let P : Value → Type 0 = λ v. test v ≡ true in
    let m = c.args.program.now in
    let s = c.args.stack.now in
    let caller = tail_caller m c.args.store.now s c.args.address c.args.popped c.args.function c.requires.call c.requires.own in
    let at = tail_frame m c.args.store.now s c.args.address c.args.popped c.args.function c.requires.call c.requires.own in
    let levels = ap (λ (x : Shape). x.levels) c.discard.ensures.after ∙ c.room_for_callee.ensures.roomier.same.levels in
    let reserved = same_holds P s c.room_for_callee.new.stack c.room_for_callee.ensures.roomier.same h in
    let discarded = subst (Holds P) (sym c.discard.ensures.after) (discarded_holds P c.args.popped c.room_for_callee.new.stack reserved) in
    let left = subst (Holds P) (sym (c.leave_frame.ensures.after caller (ap frame_at levels ∙ at))) (returned_holds P c.facts-facts.result.params caller c.discard.new.self (ap frame_at levels ∙ at) discarded) in
    c.enter_callee.ensures.keeps test on left
