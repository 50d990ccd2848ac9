use Rattle.std.proofs.Common.{ap, ◌∙◌}
use Rattle.w_syntax.specs.declared.module.Data.{Data}
use Rattle.w_stands.specs.Values.{store_of}
use Rattle.w_inst.specs.Adding.{with_datas}
use Rattle.w_inst.proofs.AddedItems.{added_more, datas_kind, bytes_added}
use Rattle.w_inst.proofs.allocation.add_datas.Goals as goal

pub loop-data-preserved : goal.loop-data-preserved
loop-data-preserved c =
    let bytes = c.in_ok-bytes.ensures.items ∙ c.as_slice.ensures ∙ ap (λ (d : Data). d.bytes) c.data-item.is in
    added_more with_datas datas_kind (λ (d : Data). d.bytes) (store_of c.loop-data.store) (store_of c.add_bytes.new.self) _ c.args.datas.now c.loop-data.data-index c.data-item.result c.in_ok-bytes.bytes.items
    c.loop-data-test.true bytes (bytes_added c.loop-data.store c.add_bytes.new.self _ c.in_ok-add_bytes.field-0 c.in_ok-add_bytes.ensures.added) c.loop-data.invariant
