use Rattle.std.proofs.Common.{sym, ap, ◌∙◌, arith, map, List}
use Rattle.std.proofs.lemmas.List.{drop_all}
use Rattle.w_syntax.specs.declared.module.Elem.{Elem}
use Rattle.w_reduce.specs.Constants.{value_of}
use Rattle.w_stands.specs.Values.{store_of}
use Rattle.w_inst.specs.Adding.{with_elements}
use Rattle.w_inst.proofs.AddedItems.{added_more, added_all, elements_kind, elements_added}
use Rattle.w_inst.proofs.RoomInModules.{element_constant_at}
use Rattle.w_inst.proofs.values.add_elements.Goals as goal

pub loop-segment-init : goal.loop-segment-init
loop-segment-init c = λ p s w. ap (λ (l : List Elem). with_elements (store_of c.args.store.now) (map (λ (e : Elem). map (value_of p s) e.items) l)) c.as_slice-segment-items.ensures

pub item_values-requires : goal.item_values-requires
item_values-requires c = record {
  constant = (element_constant_at c.args.program.now c.as_slice-segment-items.result.now c.loop-segment.segment-index c.segment-item.result c.requires.sound c.as_slice-segment-items.ensures c.loop-segment-test.true c.segment-item.is).items;
}

pub loop-segment-preserved : goal.loop-segment-preserved
loop-segment-preserved c = λ p s w.
    added_more with_elements elements_kind (λ (e : Elem). map (value_of p s) e.items) (store_of c.loop-segment.store) (store_of c.add_elem.new.self) _ c.as_slice-segment-items.result.now c.loop-segment.segment-index
    c.segment-item.result _
    c.loop-segment-test.true (sym (c.in_ok-values.ensures.values p s w) ∙ ap (λ (e : Elem). map (value_of p s) e.items) c.segment-item.is)
    (elements_added c.loop-segment.store c.add_elem.new.self c.in_ok-values.values.items c.in_ok-add_elem.field-0 c.in_ok-add_elem.ensures.added) (c.loop-segment.invariant p s w)

pub returns : goal.returns
returns c = record {
  added = λ p s w. added_all with_elements elements_kind (λ (e : Elem). map (value_of p s) e.items) (store_of c.loop-segment.store) _ c.as_slice-segment-items.result.now c.loop-segment.segment-index
      (drop_all c.loop-segment.segment-index c.as_slice-segment-items.result.now (omega arith)) (c.loop-segment.invariant p s w);
}
