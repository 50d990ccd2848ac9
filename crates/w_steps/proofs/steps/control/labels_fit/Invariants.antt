use Rattle.std.proofs.Common.{◌≡◌, ℕ, Option, drop, length, true}
use Rattle.std.specs.Prelude.{All, IfSome, slice_get}
use Rattle.w_flow.specs.Flow.{fits_one, fit_each}
use Rattle.w_flow.specs.View.{flow_view}
use Rattle.w_steps.specs.View.{context_at}
use Rattle.w_steps.proofs.steps.control.labels_fit.Given as goal

-- whether all labels fit is whether those from here on do, and each that is kept as judged fits
abbrev pub invariant-loop-i : goal.invariant-loop-i
invariant-loop-i l = record {
  left : fit_each l.body.setting.now.cx.now.classes.now (context_at l.body).labels (flow_view l.flow).any (flow_view l.flow).operands l.count l.labels
      ≡ fit_each l.body.setting.now.cx.now.classes.now (context_at l.body).labels (flow_view l.flow).any (flow_view l.flow).operands l.count (drop l.i l.labels);
  places : length l.fitting ≡ 128;
  fitting : All (λ (o : Option ℕ). IfSome o (λ (x : ℕ). fits_one l.body.setting.now.cx.now.classes.now (flow_view l.flow).any (flow_view l.flow).operands l.count (slice_get (context_at l.body).labels x) ≡ true)) l.fitting;
}
