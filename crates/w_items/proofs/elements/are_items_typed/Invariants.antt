use Rattle.std.proofs.Common.{ℕ, ◌<◌, get_or}
use Rattle.w_types.specs.declared.types.ValType.TheVariants.{Ref}
use Rattle.w_syntax.specs.Code.{Code}
use Rattle.w_rules.specs.Bodies.{ConstTyped}
use Rattle.w_rules.specs.Spaces.{context_of}
use Rattle.w_items.proofs.elements.are_items_typed.Given as goal

-- each item so far is constant and of the type
abbrev pub invariant-loop-place : goal.invariant-loop-place
invariant-loop-place l = (k : ℕ) → k < l.place → (d : Code) → ConstTyped (context_of l.cx.candidate.now) (get_or l.items k d) (Ref l.kind)
