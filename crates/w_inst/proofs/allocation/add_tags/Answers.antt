use Rattle.std.proofs.Common.{refl}
use Rattle.w_syntax.specs.declared.module.Tag.{Tag}
use Rattle.w_stands.specs.Values.{store_of}
use Rattle.w_inst.specs.Adding.{with_tags}
use Rattle.w_inst.proofs.AddedItems.{added_more, tags_kind, tag_added}
use Rattle.w_inst.proofs.allocation.add_tags.Goals as goal

pub loop-tag-preserved : goal.loop-tag-preserved
loop-tag-preserved c =
    added_more with_tags tags_kind (λ (t : Tag). t.type_index) (store_of c.loop-tag.store) (store_of c.add_tag.new.self) _ c.args.tags.now c.loop-tag.tag-index (record { type_index = 0 }) _
    c.loop-tag-test.true refl (tag_added c.loop-tag.store c.add_tag.new.self _ c.in_ok-add_tag.field-0 c.in_ok-add_tag.ensures.added) c.loop-tag.invariant
