use Rattle.std.proofs.Common.{inl, inr, sym, ◌∙◌}
use Rattle.w_types.specs.declared.types.ValType.TheVariants.{I32, I64, Ref}
use Rattle.w_vswitch.proofs.LastTypes.{by_last, beneath_last, in_option}
use Rattle.w_vswitch.proofs.continuations.last_index.Goals as goal

pub returns-in-Ref-clause-index : goal.returns-in-Ref-clause-index
returns-in-Ref-clause-index c =
    by_last c.args.types.now c.in_ok-top.beneath.now c.in_ok-top.top.now (Ref c.in-Ref.reference) c.in_ok-top.ensures.cases.0 (sym c.whole.ensures ∙ c.in-Ref.is) ∙ c.indexed.ensures.index

pub returns-in-Ref-clause-beneath : goal.returns-in-Ref-clause-beneath
returns-in-Ref-clause-beneath c =
    in_option c.indexed.result _ _ c.indexed.ensures.beneath (λ p e. e ∙ sym (beneath_last c.args.types.now c.in_ok-top.beneath.now c.in_ok-top.top.now c.in_ok-top.ensures.cases.0))

pub returns-in-I32 : goal.returns-in-I32
returns-in-I32 c = record {
  index = elim c.in-I32.is [
    | inl e ↦ by_last c.args.types.now c.in_ok-top.beneath.now c.in_ok-top.top.now I32 c.in_ok-top.ensures.cases.0 (sym c.whole.ensures ∙ e)
    | inr e ↦ by_last c.args.types.now c.in_ok-top.beneath.now c.in_ok-top.top.now I64 c.in_ok-top.ensures.cases.0 (sym c.whole.ensures ∙ e)
  ];
  beneath = tt;
}
