use Rattle.std.proofs.Common.{◌≡◌, ℕ, List, [], ◌∷◌, ◌++◌, Option, Some, None, true, length, drop, get_or, slice_get, refl, sym, subst}
use Rattle.std.proofs.lemmas.Option.{slice_get-get_or}
use Rattle.w_types.specs.declared.value.Value.{Value}
use Rattle.w_syntax.specs.declared.instructions.Op.TheVariants as op
use Rattle.w_syntax.specs.declared.instructions.Instr.TheVariants as flat
use Rattle.w_syntax.specs.declared.memory_instructions.MemoryOp.TheVariants as memory
use Rattle.w_syntax.specs.declared.module.Module.{Module}
use Rattle.w_memory.specs.Memory.{Memory, init}
use Rattle.w_segment.specs.Shape.{Shape}
use Rattle.w_segment.specs.Holds.{Holds}
use Rattle.w_tables.specs.Store as instances
use Rattle.w_stands.specs.declared.did.Did.{Did}
use Rattle.w_stands.specs.Steps.{MovesAt, Follows}
use Rattle.w_stands.specs.Taking.{taken_of}
use Rattle.w_memory_ops.specs.Changing.{InMemory, changing, did_of, finished}
use Rattle.w_memory_ops.proofs.Rules.{three, initialising, copy_rule}
use Rattle.w_memory_ops.proofs.Operands.{of_three}
use Rattle.w_memory_ops.proofs.Parts.{memory_lent}
use Rattle.w_memory_ops.proofs.Copies.{Copied, copied, copy_holds, finished_holds}
use Rattle.w_memory_ops.proofs.Changes.{ChangeNeeds, change_needs, change_follows}
use Rattle.w_memory_ops.proofs.bulk.copy.Goals as goal

-- what it needs
needs : {m : Module} {u : instances.Store} {s : Shape} (written read : ℕ) → MovesAt (flat.Plain (op.Memory (memory.Copy written read))) m u s → ChangeNeeds m u s three written (InMemory read) (changing written (InMemory read) initialising)
needs {m} {u} {s} written read k = change_needs m u s (op.Memory (memory.Copy written read)) three written (InMemory read) initialising (copy_rule written read) k

pub top_three-to-requires : goal.top_three-to-requires
top_three-to-requires c = (needs c.args.written c.args.read c.requires.moves).operands.some

pub i32_of-requires : goal.i32_of-requires
i32_of-requires c = ((needs c.args.written c.args.read c.requires.moves).operands.of (c.top_three-to.result.2 ∷ c.top_three-to.result.1 ∷ c.top_three-to.result.0 ∷ []) (drop 3 c.args.stack.now.operands) c.top_three-to.ensures refl).1.1.0

pub i32_of-requires-2 : goal.i32_of-requires-2
i32_of-requires-2 c = ((needs c.args.written c.args.read c.requires.moves).operands.of (c.top_three-to.result.2 ∷ c.top_three-to.result.1 ∷ c.top_three-to.result.0 ∷ []) (drop 3 c.args.stack.now.operands) c.top_three-to.ensures refl).1.0

pub i32_of-requires-3 : goal.i32_of-requires-3
i32_of-requires-3 c = ((needs c.args.written c.args.read c.requires.moves).operands.of (c.top_three-to.result.2 ∷ c.top_three-to.result.1 ∷ c.top_three-to.result.0 ∷ []) (drop 3 c.args.stack.now.operands) c.top_three-to.ensures refl).0

pub memory_copy-done-requires-clause-target : goal.memory_copy-done-requires-clause-target
memory_copy-done-requires-clause-target c = (needs c.args.written c.args.read c.requires.moves).memory

pub memory_copy-done-requires-clause-source : goal.memory_copy-done-requires-clause-source
memory_copy-done-requires-clause-source c = (needs c.args.written c.args.read c.requires.moves).source

pub finish-requires-clause-place : goal.finish-requires-clause-place
finish-requires-clause-place c = (needs c.args.written c.args.read c.requires.moves).operands.place

-- what it leaves at its address, and where it goes
goes : {m : Module} {u : instances.Store} {s : Shape} (x y : ℕ) (k : MovesAt (flat.Plain (op.Memory (memory.Copy x y))) m u s) (args rest : List Value) → s.operands ≡ args ++ rest → length args ≡ 3
    → (memory' : Memory) (v : instances.Store) (done : Option (Unit {0})) (d : Did) (s' : Shape) → d ≡ did_of done → s' ≡ finished done (length args) s
    → ((memory source : Memory) → slice_get u.memories x ≡ Some memory → slice_get u.memories y ≡ Some source
    → Copied u v x memory (initialising source.bytes (taken_of three args) memory) done) → Follows d m [] u s v s'
goes {m} {u} {s} x y k args rest is long memory' v done d s' told after left =
    let n = needs x y k in
    let there = slice_get-get_or u.memories x memory' n.memory in
    let from_there = slice_get-get_or u.memories y memory' n.source in
    let a = left (get_or u.memories x memory') (get_or u.memories y memory') there from_there in
    subst (λ (z : instances.Store). Follows d m [] u s z s') (sym a.store)
    (change_follows m u s (op.Memory (memory.Copy x y)) three x (InMemory y) initialising (copy_rule x y) k args rest is long (get_or u.memories x memory') a.memory' there
    (get_or u.memories y memory').bytes (memory_lent u y (get_or u.memories y memory') from_there) done d s' a.is_left a.unchanged told after)

pub returns-clause-goes : goal.returns-clause-goes
returns-clause-goes c =
    goes c.args.written c.args.read c.requires.moves (c.top_three-to.result.2 ∷ c.top_three-to.result.1 ∷ c.top_three-to.result.0 ∷ []) (drop 3 c.args.stack.now.operands) c.top_three-to.ensures refl
    (record { bytes = []; max = None }) c.memory_copy-done.new.self c.memory_copy-done.result c.finish.result c.finish.new.stack c.finish.ensures.did c.finish.ensures.after
    (λ memory source there from_there.
    of_three (λ (a b n : ℕ). Copied c.args.store.now c.memory_copy-done.new.self c.args.written memory (init memory source.bytes a b n) c.memory_copy-done.result)
    c.i32_of.ensures c.i32_of-2.ensures c.i32_of-3.ensures
    (copied c.args.store.now c.memory_copy-done.new.self c.args.written c.args.read c.i32_of.result c.i32_of-2.result c.i32_of-3.result memory source c.memory_copy-done.result there from_there
    c.memory_copy-done.ensures.outcome))

pub returns-clause-keeps : goal.returns-clause-keeps
returns-clause-keeps c = λ test plain h held. (
  copy_holds c.args.store.now c.memory_copy-done.new.self _ _ _ _ _ c.memory_copy-done.result test c.memory_copy-done.ensures.outcome h,
  subst (λ (s : Shape). Holds (λ a. test a ≡ true) s) (sym c.finish.ensures.after) (finished_holds test c.memory_copy-done.result 3 c.args.stack.now held),
)
