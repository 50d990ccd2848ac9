use Rattle.std.proofs.Common.{ℕ, [], ◌∷◌, drop, refl, ◌%◌}
use Rattle.w_syntax.specs.declared.instructions.Op.TheVariants as op
use Rattle.w_syntax.specs.declared.instructions.Instr.TheVariants as flat
use Rattle.w_syntax.specs.declared.memory_instructions.MemoryOp.TheVariants as memory
use Rattle.w_syntax.specs.declared.module.Module.{Module}
use Rattle.w_memory.specs.Memory.{fill}
use Rattle.w_segment.specs.Shape.{Shape}
use Rattle.w_tables.specs.Store as instances
use Rattle.w_stands.specs.Steps.{MovesAt}
use Rattle.w_memory_ops.specs.Changing.{Nowhere, changing}
use Rattle.w_memory_ops.proofs.Rules.{three, filling, fill_rule}
use Rattle.w_memory_ops.proofs.Operands.{by_three}
use Rattle.w_memory_ops.proofs.Changes.{ChangeNeeds, change_needs, change_follows}
use Rattle.w_memory_ops.proofs.bulk.fill.Goals as goal

-- what it needs
needs : {m : Module} {u : instances.Store} {s : Shape} (index : ℕ) → MovesAt (flat.Plain (op.Memory (memory.Fill index))) m u s → ChangeNeeds m u s three index Nowhere (changing index Nowhere filling)
needs {m} {u} {s} index k = change_needs m u s (op.Memory (memory.Fill index)) three index Nowhere filling (fill_rule index) k

pub top_three-to-requires : goal.top_three-to-requires
top_three-to-requires c = (needs c.args.index c.requires.moves).operands.some

pub i32_of-requires : goal.i32_of-requires
i32_of-requires c = ((needs c.args.index c.requires.moves).operands.of (c.top_three-to.result.2 ∷ c.top_three-to.result.1 ∷ c.top_three-to.result.0 ∷ []) (drop 3 c.args.stack.now.operands) c.top_three-to.ensures refl).1.0

pub i32_of-requires-2 : goal.i32_of-requires-2
i32_of-requires-2 c = ((needs c.args.index c.requires.moves).operands.of (c.top_three-to.result.2 ∷ c.top_three-to.result.1 ∷ c.top_three-to.result.0 ∷ []) (drop 3 c.args.stack.now.operands) c.top_three-to.ensures refl).1.1.0

pub i32_of-requires-3 : goal.i32_of-requires-3
i32_of-requires-3 c = ((needs c.args.index c.requires.moves).operands.of (c.top_three-to.result.2 ∷ c.top_three-to.result.1 ∷ c.top_three-to.result.0 ∷ []) (drop 3 c.args.stack.now.operands) c.top_three-to.ensures refl).0

pub memory_with-memory-requires-clause-memory : goal.memory_with-memory-requires-clause-memory
memory_with-memory-requires-clause-memory c = (needs c.args.index c.requires.moves).memory

pub finish-requires-clause-place : goal.finish-requires-clause-place
finish-requires-clause-place c = (needs c.args.index c.requires.moves).operands.place

pub returns-clause-goes : goal.returns-clause-goes
returns-clause-goes c =
    change_follows c.args.program.now c.args.store.now c.args.stack.now (op.Memory (memory.Fill c.args.index)) three c.args.index Nowhere filling (fill_rule c.args.index) c.requires.moves
    (c.top_three-to.result.2 ∷ c.top_three-to.result.1 ∷ c.top_three-to.result.0 ∷ []) (drop 3 c.args.stack.now.operands) c.top_three-to.ensures refl
    c.memory_with-memory.result.0.now c.fill-done.new.self c.memory_with-memory.ensures.memory [] refl
    c.fill-done.result c.finish.result c.finish.new.stack
    (by_three (λ (a b n : ℕ). fill c.memory_with-memory.result.0.now a (b % 256) n) c.i32_of-2.ensures c.i32_of.ensures c.i32_of-3.ensures c.fill-done.ensures.outcome)
    c.fill-done.ensures.unchanged c.finish.ensures.did c.finish.ensures.after
