use Rattle.std.proofs.Common.{◌∙◌, ◌∷◌, ◌++◌, [], List, ap}
use Rattle.w_types.specs.declared.types.ValType.{ValType}
use Rattle.w_types.specs.declared.types.ValType.TheVariants.{I64}
use Rattle.s_index.proofs.Lengths.{numbers_more}
use Rattle.s_index.proofs.types.numbers.Goals as goal

pub loop-index-preserved : goal.loop-index-preserved
loop-index-preserved c = c.in_ok-push.ensures.items ∙ ap (λ (ts : List ValType). ts ++ I64 ∷ []) c.loop-index.invariant ∙ numbers_more c.loop-index.index
