use Rattle.std.proofs.Common.{ℕ, List, reverse, take, get_or, ap, ◌∙◌, arith, add-one}
use Rattle.w_types.specs.declared.value.Value.{Value}
use Rattle.w_types.specs.declared.value.Value.TheVariants.{I32}
use Rattle.w_call_ops.proofs.HostCalls.{lowest}
use Rattle.w_call_ops.proofs.printers.argument.Goals as goal

pub overflow_add-popped : goal.overflow_add-popped
overflow_add-popped c = omega (arith, c.requires, c.count-count.ensures.value, c.count-count.type_inv)

pub returns : goal.returns
returns c =
    ap (λ (l : List Value). get_or l 0 (I32 0)) c.tops-tops.ensures.value
    ∙ ap (λ (n : ℕ). get_or (reverse (take n c.args.stack.now.operands)) 0 (I32 0)) (add-one c.args.popped)
    ∙ lowest c.args.popped c.args.stack.now.operands (I32 0) c.requires
