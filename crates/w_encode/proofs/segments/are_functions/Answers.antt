use Rattle.w_syntax.specs.Items.{code_of}
use Rattle.std.proofs.Common.{◌∙◌, ap}
use Rattle.std.specs.Prelude.{not}
use Rattle.w_encode.proofs.ItemsWritten.{not_functions, functions_behind}
use Rattle.w_encode.proofs.segments.are_functions.Goals as goal

pub returns-then-is_none : goal.returns-then-is_none
returns-then-is_none c =
    not_functions c.args.items.now c.loop-place.place (code_of c.at.result) c.function_of.result c.at.ensures c.function_of.ensures c.if-is_none.ensures c.loop-place.invariant

pub loop-place-preserved : goal.loop-place-preserved
loop-place-preserved c =
    functions_behind c.args.items.now c.loop-place.place (code_of c.at.result) c.function_of.result c.at.ensures c.function_of.ensures (c.is_none.ensures ∙ ap not c.if-is_none.false) c.loop-place.invariant
