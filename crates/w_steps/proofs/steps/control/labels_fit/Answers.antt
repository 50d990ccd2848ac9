use Rattle.std.proofs.Common.{◌≡◌, ℕ, ◌+◌, ◌%◌, Bool, true, ◌&&◌, Option, Some, drop, length-set, slice_index_or, sym, ap, ◌∙◌, arith}
use Rattle.std.specs.Prelude.{IfSome, slice_get}
use Rattle.std.proofs.lemmas.List.Elements.{All-set}
use Rattle.w_flow.specs.Flow.{fits_one, fit_each}
use Rattle.w_flow.specs.View.{flow_view}
use Rattle.w_steps.specs.View.{context_at}
use Rattle.w_steps.proofs.TablesTaken.{label_next}
use Rattle.w_steps.proofs.steps.control.labels_fit.Goals as goal

pub loop-i-preserved : goal.loop-i-preserved
loop-i-preserved c =
    let es = c.args.body.now.setting.now.cx.now.classes.now in
    let labels = (context_at c.args.body.now).labels in
    let flow = flow_view c.args.flow.now in
    let index = slice_index_or c.args.labels.now c.loop-i.i 0 in
    let fits : fits_one es flow.any flow.operands c.args.count (slice_get labels index) ≡ true = sym c.label_fits_again.ensures ∙ c.if-not-label_fits_again.false in
    record {
      left = c.loop-i.invariant.left ∙ label_next es labels flow.any flow.operands c.args.count c.args.labels.now c.loop-i.i 0 (omega arith)
          ∙ ap (λ (b : Bool). b && fit_each es labels flow.any flow.operands c.args.count (drop (c.loop-i.i + 1) c.args.labels.now)) fits;
      places = length-set c.loop-i.fitting (index % 128) (Some index) ∙ c.loop-i.invariant.places;
      fitting = All-set (λ (o : Option ℕ). IfSome o (λ (x : ℕ). fits_one es flow.any flow.operands c.args.count (slice_get labels x) ≡ true)) c.loop-i.fitting (index % 128) (Some index) fits c.loop-i.invariant.fitting;
    }
