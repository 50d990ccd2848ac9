use Rattle.std.proofs.Common.{ℕ, max, drop, ◌+◌, ap, sym, ◌∙◌}
use Rattle.w_syntax.specs.declared.instructions.Clause.TheVariants as clause
use Rattle.w_rules.specs.Peak.{clause_tops}
use Rattle.w_vplain.specs.Row.{above, labels_in}
use Rattle.w_vplain.specs.Standing.{context_for}
use Rattle.w_vswitch.proofs.LabelSizes.{next_top, no_more, longer}
use Rattle.w_vswitch.proofs.clauses.longest_label.Goals as goal

pub loop-clause-preserved : goal.loop-clause-preserved
loop-clause-preserved c = λ s w k g h.
    let labels = labels_in (context_for c.args.checker.now) w in
    let left = clause_tops labels h (drop (c.loop-clause.clause-index + 1) c.args.clauses.now) in
    next_top labels h c.args.clauses.now c.loop-clause.clause-index (clause.Label 0 0) (above 0 c.loop-clause.longest h) (above 0 c.label_size.result h) _ c.loop-clause-test.true
    (c.loop-clause.invariant s w k g h) (c.label_size.ensures s w k g h)
    ∙ ap (λ (n : ℕ). max n left) (sym (ap (λ o. above 0 o h) c.max-longest.ensures ∙ longer h c.loop-clause.longest c.label_size.result))

pub returns : goal.returns
returns c = λ s w k g h.
    let labels = labels_in (context_for c.args.checker.now) w in
    no_more labels h c.args.clauses.now c.loop-clause.clause-index (above 0 c.loop-clause.longest h) _ c.loop-clause-test.false (c.loop-clause.invariant s w k g h)
