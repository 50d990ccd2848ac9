use Rattle.std.proofs.Common.{[], ◌∷◌, drop, refl, sym, ◌∙◌}
use Rattle.w_memory_ops.proofs.Addresses.{load_at}
use Rattle.w_memory_ops.proofs.Loads.{load_needs, load_follows, load_traps}
use Rattle.w_memory_ops.proofs.accesses.load.Goals as goal

pub memory-memory-requires : goal.memory-memory-requires
memory-memory-requires c = record { memory = (load_needs c.args.operation c.args.arg c.requires.moves).memory }

pub peek-requires : goal.peek-requires
peek-requires c = record { some = (load_needs c.args.operation c.args.arg c.requires.moves).operands.some }

pub i32_of-requires : goal.i32_of-requires
i32_of-requires c = ((load_needs c.args.operation c.args.arg c.requires.moves).operands.of (c.peek.result ∷ []) (drop 1 c.args.stack.now.operands) c.peek.ensures.value refl).0

pub replace-requires-clause-place : goal.replace-requires-clause-place
replace-requires-clause-place c = (load_needs c.args.operation c.args.arg c.requires.moves).operands.place

pub returns-in-Some-clause-goes : goal.returns-in-Some-clause-goes
returns-in-Some-clause-goes c =
    load_follows c.args.operation c.args.arg c.requires.moves c.peek.result (drop 1 c.args.stack.now.operands) c.peek.ensures.value c.memory-memory.result.now c.memory-memory.ensures.memory
    c.in-Some.number _ c.replace.new.stack
    (load_at c.memory-memory.result.now c.args.operation c.args.arg.offset c.address-at.result c.address-at.ensures c.i32_of.ensures c.loaded_size.ensures (sym c.in-Some.is ∙ c.load.ensures.outcome))
    c.extended.ensures c.replace.ensures.after

pub returns-in-None-clause-goes : goal.returns-in-None-clause-goes
returns-in-None-clause-goes c =
    load_traps c.args.operation c.args.arg c.requires.moves c.peek.result (drop 1 c.args.stack.now.operands) c.peek.ensures.value c.memory-memory.result.now c.memory-memory.ensures.memory
    (load_at c.memory-memory.result.now c.args.operation c.args.arg.offset c.address-at.result c.address-at.ensures c.i32_of.ensures c.loaded_size.ensures (sym c.in-None.is ∙ c.load.ensures.outcome))
