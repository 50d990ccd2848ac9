use Rattle.w_syntax.specs.Items.{code_of}
use Rattle.w_encode.specs.FieldsWritten.{function_written}
use Rattle.w_encode.proofs.ItemsWritten.{item_more}
use Rattle.w_encode.proofs.segments.put_functions.Goals as goal

pub loop-place-preserved : goal.loop-place-preserved
loop-place-preserved c =
    item_more function_written c.args.items.now c.loop-place.place (code_of c.at.result) c.loop-place.out.items _ _ c.at.ensures c.in_ok-put_function.ensures c.loop-place.invariant
