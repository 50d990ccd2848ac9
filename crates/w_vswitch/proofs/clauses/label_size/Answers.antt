use Rattle.std.proofs.Common.{[], ◌∷◌, ap, ◌∙◌}
use Rattle.w_syntax.specs.declared.instructions.Clause.{Clause}
use Rattle.w_rules.specs.Peak.{clause_tops}
use Rattle.w_vplain.specs.Row.{labels_in}
use Rattle.w_vplain.specs.Standing.{context_for}
use Rattle.w_vswitch.proofs.LabelSizes.{one_label}
use Rattle.w_vswitch.proofs.clauses.label_size.Goals as goal

pub returns-in-Some : goal.returns-in-Some
returns-in-Some c = λ s w k g h.
    let labels = labels_in (context_for c.args.checker.now) w in
    ap (λ (x : Clause). clause_tops labels h (x ∷ [])) c.in-Label.is
    ∙ one_label labels h c.in-Label.field-0 c.in-Label.label c.in-Some.row.types.now (c.in-Some.ensures.label s w k g)
