use Rattle.w_syntax.specs.Items.{code_of}
use Rattle.w_rules.specs.Spaces.{named_in}
use Rattle.w_rules.proofs.Marks.{marked_at}
use Rattle.w_rules.proofs.named_functions.mark_items.Goals as goal

pub loop-place-preserved : goal.loop-place-preserved
loop-place-preserved c =
    marked_at named_in c.args.declared.now c.loop-place.declared _ c.args.items.now c.loop-place.place (code_of c.at.result) c.at.ensures c.loop-place.invariant c.mark_item.ensures
