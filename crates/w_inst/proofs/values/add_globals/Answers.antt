use Rattle.std.proofs.Common.{refl}
use Rattle.w_types.specs.declared.value.Value.TheVariants as value
use Rattle.w_reduce.specs.Values.{val}
use Rattle.w_stands.specs.Values.{store_of}
use Rattle.w_inst.specs.Adding.{with_globals}
use Rattle.w_inst.proofs.AddedItems.{added_more, globals_kind, global_added}
use Rattle.w_inst.proofs.values.add_globals.Goals as goal

pub loop-value-preserved : goal.loop-value-preserved
loop-value-preserved c =
    added_more with_globals globals_kind val (store_of c.loop-value.store) (store_of c.add_global.new.self) _ c.args.values.now c.loop-value.value-index (value.I32 0) _
    c.loop-value-test.true refl (global_added c.loop-value.store c.add_global.new.self _ c.in_ok-add_global.field-0 c.in_ok-add_global.ensures.added) c.loop-value.invariant
