use Rattle.std.proofs.Common.{ℕ, subst, sym, ap, ◌∙◌}
use Rattle.w_reduce.specs.Run.{Run}
use Rattle.w_machine.specs.Position.{StopsWith}
use Rattle.replies.specs.Answer.{stats_line}
use Rattle.runs.proofs.Runs.{run_after, counts_are}
use Rattle.runs.proofs.Statistics.{more_same, more_unwritten}
use Rattle.runs.proofs.running.with_stats.Goals as goal

pub returns-in_err-line-clause-asked : goal.returns-in_err-line-clause-asked
returns-in_err-line-clause-asked c = λ _ p s t steps begins after. more_unwritten (stats_line (Run p s t steps)) c.args.answer c.from_residual.result c.from_residual.ensures.1

pub returns-clause-asked : goal.returns-clause-asked
returns-clause-asked c = λ _ p s t steps begins after.
    let q = c.args.machine.now in
    more_same c.in_ok-line.line.items (stats_line (Run p s t steps)) c.args.answer c.with_err.result
    (λ reply. c.in_ok-line.ensures
    ∙ counts_are (Run p s t q.taken) c.taken.result c.made.result c.consumed.result c.live.result
    (ap (λ (n : ℕ). (Run p s t n).taken) (sym c.taken.ensures.value) ∙ c.taken.ensures.counts p s t begins)
    (c.made.ensures.value p s t begins) (c.consumed.ensures.value p s t begins) (c.live.ensures.value p s t begins)
    ∙ ap stats_line (run_after q p s t steps (after reply)
    (λ k stops. subst (λ (n : ℕ). StopsWith k (Run p s t n).outcome) c.taken.ensures.value (c.taken.ensures.stopped p s t begins k stops))))
    c.with_err.ensures
