use Rattle.std.proofs.Common.{inl, inr}
use Rattle.w_call_ops.proofs.FindingCallees.{reference_some, reference_kind, reference_traps, reference_calls}
use Rattle.w_call_ops.proofs.callees.callee_by_reference.Goals as goal

pub peek-requires : goal.peek-requires
peek-requires c = record { some = reference_some c.args.program.now c.args.store.now c.args.stack.now c.args.call c.args.kind c.requires.moves }

pub unreachable-requires : goal.unreachable-requires
unreachable-requires c =
    elim (reference_kind c.args.program.now c.args.store.now c.args.stack.now c.args.call c.args.kind c.requires.moves c.peek.result c.peek.ensures.value)
    [ inl e ↦ c.in_default.not-Null e | inr w ↦ c.in_default.not-Func w.0 w.1 ]

pub returns-in-Null-clause-traps : goal.returns-in-Null-clause-traps
returns-in-Null-clause-traps c =
    reference_traps c.args.program.now c.args.store.now c.args.stack.now c.args.call c.args.kind c.requires.moves c.peek.result c.peek.ensures.value c.in-Null.is

pub returns-in-Func-clause-found : goal.returns-in-Func-clause-found
returns-in-Func-clause-found c =
    reference_calls c.args.program.now c.args.store.now c.args.stack.now c.args.call c.args.kind c.requires.moves c.peek.result c.in-Func.address c.peek.ensures.value c.in-Func.is
