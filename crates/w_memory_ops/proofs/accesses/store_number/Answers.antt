use Rattle.std.proofs.Common.{[], ◌∷◌, drop, refl}
use Rattle.w_syntax.specs.declared.instructions.Instr.TheVariants as flat
use Rattle.w_syntax.specs.declared.instructions.Op.TheVariants as op
use Rattle.w_syntax.specs.declared.memory_instructions.MemArg.{MemArg}
use Rattle.w_syntax.specs.declared.memory_instructions.MemoryOp.TheVariants as memory
use Rattle.w_syntax.specs.declared.memory_instructions.StoreOp.{StoreOp}
use Rattle.w_syntax.specs.declared.module.Module.{Module}
use Rattle.w_segment.specs.Shape.{Shape}
use Rattle.w_tables.specs.Store as instances
use Rattle.w_stands.specs.Steps.{MovesAt}
use Rattle.w_memory_ops.specs.Changing.{Nowhere, changing}
use Rattle.w_memory_ops.proofs.Addresses.{store_at}
use Rattle.w_memory_ops.proofs.Rules.{two, storing, store_rule}
use Rattle.w_memory_ops.proofs.Changes.{ChangeNeeds, change_needs, change_follows}
use Rattle.w_memory_ops.proofs.accesses.store_number.Goals as goal

-- what it needs
needs : {m : Module} {u : instances.Store} {s : Shape} (o : StoreOp) (arg : MemArg) → MovesAt (flat.Plain (op.Memory (memory.Store o arg))) m u s →
    ChangeNeeds m u s (two o) arg.memory Nowhere (changing arg.memory Nowhere (storing o arg.offset))
needs {m} {u} {s} o arg k = change_needs m u s (op.Memory (memory.Store o arg)) (two o) arg.memory Nowhere (storing o arg.offset) (store_rule o arg) k

pub top_two-base-requires : goal.top_two-base-requires
top_two-base-requires c = (needs c.args.operation c.args.arg c.requires.moves).operands.some

pub stored_bits-number-requires : goal.stored_bits-number-requires
stored_bits-number-requires c =
    ((needs c.args.operation c.args.arg c.requires.moves).operands.of (c.top_two-base.result.1 ∷ c.top_two-base.result.0 ∷ []) (drop 2 c.args.stack.now.operands) c.top_two-base.ensures refl).0

pub memory_with-memory-requires-clause-memory : goal.memory_with-memory-requires-clause-memory
memory_with-memory-requires-clause-memory c = (needs c.args.operation c.args.arg c.requires.moves).memory

pub i32_of-requires : goal.i32_of-requires
i32_of-requires c =
    ((needs c.args.operation c.args.arg c.requires.moves).operands.of (c.top_two-base.result.1 ∷ c.top_two-base.result.0 ∷ []) (drop 2 c.args.stack.now.operands) c.top_two-base.ensures refl).1.0

pub finish-requires-clause-place : goal.finish-requires-clause-place
finish-requires-clause-place c = (needs c.args.operation c.args.arg c.requires.moves).operands.place

pub returns-clause-goes : goal.returns-clause-goes
returns-clause-goes c =
    change_follows c.args.program.now c.args.store.now c.args.stack.now (op.Memory (memory.Store c.args.operation c.args.arg)) (two c.args.operation) c.args.arg.memory Nowhere
    (storing c.args.operation c.args.arg.offset) (store_rule c.args.operation c.args.arg) c.requires.moves
    (c.top_two-base.result.1 ∷ c.top_two-base.result.0 ∷ []) (drop 2 c.args.stack.now.operands) c.top_two-base.ensures refl
    c.memory_with-memory.result.0.now c.store-done.new.self c.memory_with-memory.ensures.memory [] refl
    c.store-done.result c.finish.result c.finish.new.stack
    (store_at c.memory_with-memory.result.0.now c.args.operation c.args.arg.offset c.address-at.result c.address-at.ensures c.i32_of.ensures c.stored_size.ensures c.stored_bits-number.ensures c.store-done.ensures.outcome)
    c.store-done.ensures.unchanged c.finish.ensures.did c.finish.ensures.after
