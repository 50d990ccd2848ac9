use Rattle.std.proofs.Common.{inl, inr, sym, ◌∙◌}
use Rattle.w_types.specs.declared.types.ValType.TheVariants.{I32, I64, Ref}
use Rattle.w_switching.proofs.LastTypes.{by_last}
use Rattle.w_switching.proofs.module_types.last_index.Goals as goal

pub returns-in-Ref : goal.returns-in-Ref
returns-in-Ref c = record {
  index = c.index_in.ensures.index ∙ sym (by_last c.args.types.now c.in_ok-top._beneath.now c.in_ok-top.top.now (Ref c.in-Ref.reference) c.in_ok-top.ensures.cases.0 (sym c.whole.ensures ∙ c.in-Ref.is));
}

pub returns-in-I32 : goal.returns-in-I32
returns-in-I32 c = elim c.in-I32.is [
  | inl e ↦ record { index = sym (by_last c.args.types.now c.in_ok-top._beneath.now c.in_ok-top.top.now I32 c.in_ok-top.ensures.cases.0 (sym c.whole.ensures ∙ e)) }
  | inr e ↦ record { index = sym (by_last c.args.types.now c.in_ok-top._beneath.now c.in_ok-top.top.now I64 c.in_ok-top.ensures.cases.0 (sym c.whole.ensures ∙ e)) }
]
