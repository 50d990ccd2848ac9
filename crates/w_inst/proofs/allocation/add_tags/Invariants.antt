use Rattle.std.proofs.Common.{◌≡◌, drop, map}
use Rattle.w_syntax.specs.declared.module.Tag.{Tag}
use Rattle.w_stands.specs.Values.{store_of}
use Rattle.w_inst.specs.Adding.{with_tags}
use Rattle.w_inst.proofs.allocation.add_tags.Given as goal

-- those so far are added
abbrev pub invariant-loop-tag : goal.invariant-loop-tag
invariant-loop-tag l = with_tags (store_of l.store) (map (λ (t : Tag). t.type_index) (drop l.tag-index l.tags)) ≡ with_tags (store_of l.fn.store) (map (λ (t : Tag). t.type_index) l.tags)
