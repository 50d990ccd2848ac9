use Rattle.std.proofs.Common.{ap, ◌∙◌, get_or, arith}
use Rattle.std.specs.Prelude.{None}
use Rattle.w_memory.specs.Memory.{fresh}
use Rattle.w_syntax.specs.declared.module.Limits.{Limits}
use Rattle.w_stands.specs.Values.{store_of}
use Rattle.w_inst.specs.Adding.{with_memories}
use Rattle.w_inst.proofs.AddedItems.{added_more, memories_kind, memory_added}
use Rattle.w_inst.proofs.RoomInModules.{memory_fits}
use Rattle.w_inst.proofs.allocation.add_memories.Goals as goal

pub overflow_cast-limits : goal.overflow_cast-limits
overflow_cast-limits c =
    let fits = memory_fits c.args.program.now c.as_slice-limits-items.result.now c.loop-limits.limits-index (record { min = 0; max = None }) c.requires.sound c.requires.within c.as_slice-limits-items.ensures c.loop-limits-test.true in
    omega (arith, fits.min)

pub narrowed-requires : goal.narrowed-requires
narrowed-requires c =
    (memory_fits c.args.program.now c.as_slice-limits-items.result.now c.loop-limits.limits-index (record { min = 0; max = None }) c.requires.sound c.requires.within c.as_slice-limits-items.ensures c.loop-limits-test.true).max

pub new-requires : goal.new-requires
new-requires c =
    (memory_fits c.args.program.now c.as_slice-limits-items.result.now c.loop-limits.limits-index (record { min = 0; max = None }) c.requires.sound c.requires.within c.as_slice-limits-items.ensures c.loop-limits-test.true).min

pub loop-limits-preserved : goal.loop-limits-preserved
loop-limits-preserved c =
    let l = get_or c.as_slice-limits-items.result.now c.loop-limits.limits-index (record { min = 0; max = None }) in
    let made = c.in_ok-memory.ensures ∙ ap (fresh l.min) c.narrowed.ensures in
    added_more with_memories memories_kind (λ (m : Limits). fresh m.min m.max) (store_of c.loop-limits.store) (store_of c.add_memory.new.self) _ c.as_slice-limits-items.result.now c.loop-limits.limits-index
    (record { min = 0; max = None }) c.in_ok-memory.memory
    c.loop-limits-test.true made (memory_added c.loop-limits.store c.add_memory.new.self _ c.in_ok-add_memory.field-0 c.in_ok-add_memory.ensures.added) c.loop-limits.invariant
