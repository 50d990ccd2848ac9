use Rattle.std.specs.List.{flat_map}
use Rattle.w_syntax.specs.declared.module.Elem.{Elem}
use Rattle.w_rules.specs.Spaces.{named_in}
use Rattle.w_rules.proofs.Marks.{marked_more}
use Rattle.w_rules.proofs.named_functions.mark_elements.Goals as goal

pub loop-element-preserved : goal.loop-element-preserved
loop-element-preserved c =
    marked_more (λ (e : Elem). flat_map named_in e.items) c.args.declared.now c.loop-element.declared _ c.args.elements.now c.loop-element.element-index c.element-item.result c.loop-element-test.true c.element-item.is c.loop-element.invariant c.mark_items.ensures
