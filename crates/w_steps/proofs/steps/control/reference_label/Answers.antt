use Rattle.w_types.specs.declared.types.ValType.{ValType}
use Rattle.w_types.specs.declared.types.ValType.TheVariants.{I32, I64, Ref}
use Rattle.std.proofs.Common.{true, refl, List, inl, inr, sym, ap, ◌∙◌}
use Rattle.lists.specs.Rows.{row_of, ◌▹◌}
use Rattle.w_rules.specs.InstructionTypes.{fixed}
use Rattle.w_steps.proofs.TablesTaken.{top_taken, beneath_last}
use Rattle.w_steps.proofs.steps.control.reference_label.Goals as goal

pub returns-in-Ref-clause-kind : goal.returns-in-Ref-clause-kind
returns-in-Ref-clause-kind c =
    top_taken c.args.label.types.now c.in_ok-top.beneath.now c.in_ok-top.top.now (Ref c.in-Ref.reference) c.in_ok-top.ensures.cases.0 (sym c.whole.ensures ∙ c.in-Ref.is)
    ∙ ap (λ (ts : List ValType). fixed (row_of ts ▹ Ref (record { nullable = true; heap = c.in-Ref.reference.heap })) (row_of ts))
    (sym (c.split_at.ensures.front ∙ beneath_last c.args.label.types.now c.in_ok-top.beneath.now c.in_ok-top.top.now _ c.in_ok-top.ensures.cases.0 refl))

pub returns-in-I32 : goal.returns-in-I32
returns-in-I32 c = record {
  kind = elim c.in-I32.is [
    | inl e ↦ top_taken c.args.label.types.now c.in_ok-top.beneath.now c.in_ok-top.top.now I32 c.in_ok-top.ensures.cases.0 (sym c.whole.ensures ∙ e)
    | inr e ↦ top_taken c.args.label.types.now c.in_ok-top.beneath.now c.in_ok-top.top.now I64 c.in_ok-top.ensures.cases.0 (sym c.whole.ensures ∙ e)
  ];
  ready = tt;
}
