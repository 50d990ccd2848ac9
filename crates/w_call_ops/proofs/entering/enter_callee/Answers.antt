use Rattle.std.proofs.Common.{◌≡◌, true, sym, subst, ap, ◌∙◌, refl, arith}
use Rattle.w_types.specs.declared.value.Value.{Value}
use Rattle.w_segment.specs.Holds.{Holds}
use Rattle.w_segment.proofs.FactsOfValues.{framed_holds, labelled_holds}
use Rattle.w_segment.proofs.MoreLocals.{more_holds}
use Rattle.w_segment.specs.Shape.{Capacity, Grown}
use Rattle.w_segment.specs.Changes.{labelled, with_more}
use Rattle.w_stands.proofs.RoomOfFrames.{same_grown}
use Rattle.w_call_ops.specs.Entering.{first_values}
use Rattle.w_call_ops.specs.declared.known_functions.FunctionFacts.{FunctionFacts}
use Rattle.w_call_ops.proofs.FrameRoom.{needed, label_room, framed_room, entered_is}
use Rattle.w_call_ops.proofs.FirstValues.{first_set}
use Rattle.w_call_ops.proofs.entering.enter_callee.Goals as goal

pub add_some_declared-requires-clause-there : goal.add_some_declared-requires-clause-there
add_some_declared-requires-clause-there c =
    let there = c.requires.there in
    (there.1, there.2.code_is, ap (λ (x : FunctionFacts). x.locals) (c.requires.facts there.0 there.1 there.2))

-- each change of the stack keeps it
pub returns-clause-keeps : goal.returns-clause-keeps
returns-clause-keeps c = λ test on h.
    let P : Value → Type 0 = λ v. test v ≡ true in
    let there = c.requires.there in
    let facts = c.args.facts in
    let framed = subst (Holds P) (sym c.enter.ensures.after) (framed_holds P c.args.function facts.params facts.params facts.results c.args.stack.now h) in
    let more = subst (Holds P) (sym (c.add_some_declared.ensures.after there.1 there.2.code_is))
    (more_holds P (first_values there.1.locals) c.enter.new.self (first_set test on there.1.locals) framed) in
    subst (Holds P) (sym c.enter-2.ensures.after) (labelled_holds P 0 facts.results facts.end c.add_some_declared.new.stack more)

pub enter-requires-2-clause-levels : goal.enter-requires-2-clause-levels
enter-requires-2-clause-levels c =
    let there = c.requires.there in
    let facts = c.args.facts in
    let known = c.requires.facts there.0 there.1 there.2 in
    let ks = first_values there.1.locals in
    let n = needed c.args.program.now c.args.function facts.height facts.depth there.0 there.1 there.2 (ap (λ (x : FunctionFacts). x.height) known) (ap (λ (x : FunctionFacts). x.depth) known) in
    label_room c.args.function facts.height facts.depth _ facts.params facts.results ks c.args.stack.now c.add_some_declared.new.stack c.requires.fits n.2
    (c.add_some_declared.ensures.after there.1 there.2.code_is ∙ ap (with_more ks) c.enter.ensures.after)

pub returns-clause-room : goal.returns-clause-room
returns-clause-room c =
    let s = c.args.stack.now in
    let there = c.requires.there in
    let facts = c.args.facts in
    let known = c.requires.facts there.0 there.1 there.2 in
    let s' = c.enter-2.new.self in
    let ks = first_values there.1.locals in
    let n = needed c.args.program.now c.args.function facts.height facts.depth there.0 there.1 there.2 (ap (λ (x : FunctionFacts). x.height) known) (ap (λ (x : FunctionFacts). x.depth) known) in
    let room = framed_room c.args.function facts.height facts.depth _ facts.params facts.results facts.end ks s s' c.requires.fits
    (c.enter-2.ensures.after ∙ ap (labelled 0 facts.results facts.end) (c.add_some_declared.ensures.after there.1 there.2.code_is ∙ ap (with_more ks) c.enter.ensures.after)) in
    let operands = room.1 in
    let levels = room.2 in
    let height = n.0 in
    let depth = n.1 in
    record {
      grown = subst (λ (x : Capacity). Grown s.capacity x) (sym room.0) (same_grown s.capacity);
      operands = omega (arith, operands, height);
      levels = omega (arith, levels, depth);
    }

pub returns-clause-after : goal.returns-clause-after
returns-clause-after c =
    let there = c.requires.there in
    let facts = c.args.facts in
    let known = c.requires.facts there.0 there.1 there.2 in
    let ks = first_values there.1.locals in
    entered_is c.args.program.now c.args.function there.0 there.1 c.args.stack.now c.enter-2.new.self facts.params facts.results facts.end there.1.locals there.2
    (ap (λ (x : FunctionFacts). x.params) known) (ap (λ (x : FunctionFacts). x.results) known) (ap (λ (x : FunctionFacts). x.end) known) refl
    (c.enter-2.ensures.after ∙ ap (labelled 0 facts.results facts.end) (c.add_some_declared.ensures.after there.1 there.2.code_is ∙ ap (with_more ks) c.enter.ensures.after))
