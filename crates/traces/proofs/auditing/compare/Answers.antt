use Rattle.std.proofs.Common.{Ok, inl, inr, ◌∙◌, sym, ap, subst}
use Rattle.w_reduce.specs.Run.{Run}
use Rattle.w_trace.specs.Traces.{trace_of}
use Rattle.w_machine.specs.Beginning.{Origin, Begins}
use Rattle.replies.proofs.Refusals.{refuses_as}
use Rattle.replies.specs.Answer.{ComparedGives}
use Rattle.replies.specs.Pieces.{joined}
use Rattle.traces.specs.Auditing.{IsDifference}
use Rattle.traces.proofs.AuditReplies.{counts_told}
use Rattle.traces.proofs.auditing.compare.Goals as goal

pub returns-in-Some : goal.returns-in-Some
returns-in-Some c = λ p s t begins.
    let y = trace_of p s t c.args.steps in
    let differ = subst (IsDifference c.args.trace.now y) c.in-Some.is (c.in_ok-number.ensures.line p s t begins) in
    refuses_as {Due' = ComparedGives y (Run p s t c.args.steps).store c.args.trace.now} (λ r h. inl (c.in-Some.number, differ, h)) c.differs_refusal.result c.differs_refusal.ensures

pub returns-in_ok-of_piece-in-None : goal.returns-in_ok-of_piece-in-None
returns-in_ok-of_piece-in-None c = λ p s t begins.
    let same = subst (IsDifference c.args.trace.now (trace_of p s t c.args.steps)) c.in-None.is (c.in_ok-number.ensures.line p s t begins) in
    let run = c.in_ok-number.ensures.after (ap Ok c.in-None.is) p s t begins in
    let begun = subst (λ (o : Origin). Begins o p s t) (sym c.in_ok-number.ensures.origin) begins in
    let output = c.in_ok-of_piece-in-None in
    inr (
      same,
      counts_told (Run p s t c.difference.new.machine.taken) (Run p s t c.args.steps) c.made.result c.consumed.result c.live.result (joined output.field-0.pieces.items) (joined output.field-0.err.items) run
          (c.made.ensures.value p s t begun) (c.consumed.ensures.value p s t begun) (c.live.ensures.value p s t begun) (output.ensures.piece ∙ c.in_ok-line-in-None.ensures) output.ensures.err,
    )
