use Rattle.std.proofs.Common.{◌⊎◌, ◌∙◌, ap, inl, inr, refl, Err}
use Rattle.w_outside.specs.Outside.{Rose}
use Rattle.w_outside.proofs.Growth.{grew_nothing}
use Rattle.runs.proofs.Replies.{fault_replies, wrote_front, output_delivered, refusal_delivered, output_is, refusal_is, refusal_ends}
use Rattle.runs.proofs.delivery.deliver.Goals as goal

pub returns-in_err-write_pieces-in-Ok-clause-delivers : goal.returns-in_err-write_pieces-in-Ok-clause-delivers
returns-in_err-write_pieces-in-Ok-clause-delivers g c =
    let failed = c.in_err-write_pieces-in-Ok in
    output_delivered _ _ _ _ c.from_residual.result c.in-Ok.output c.in-Ok.is
    (fault_replies {rose = Rose (g.O.Sink.faults c.args.out.now) (g.O.Sink.faults c.write_pieces.new.out) ⊎ Rose (g.E.Sink.faults c.args.err.now) (g.E.Sink.faults c.args.err.now)} c.from_residual.result failed.field-0.0 c.from_residual.ensures.1
    (_, output_is c.in-Ok.output _ _ c.as_slice.ensures.value refl, inl (wrote_front _ _ _ failed.ensures.err, grew_nothing _))
    (λ e. inl (failed.ensures.cause.failed (ap Err e))))

pub returns-in_err-write_pieces-in-Err-Refused-clause-delivers : goal.returns-in_err-write_pieces-in-Err-Refused-clause-delivers
returns-in_err-write_pieces-in-Err-Refused-clause-delivers g c =
    let failed = c.in_err-write_pieces-in-Err-Refused in
    let refused = c.in-Err-Refused in
    refusal_delivered _ _ _ _ c.from_residual-in_err-write_pieces-in-Err-Refused.result refused.refusal (refused.is ∙ ap Err refused.field-0-is)
    (fault_replies {rose = Rose (g.O.Sink.faults c.args.out.now) (g.O.Sink.faults c.args.out.now) ⊎ Rose (g.E.Sink.faults c.args.err.now) (g.E.Sink.faults c.write_pieces-in-Err-Refused.new.out)} c.from_residual-in_err-write_pieces-in-Err-Refused.result failed.field-0.0 c.from_residual-in_err-write_pieces-in-Err-Refused.ensures.1
    (_, refusal_is refused.refusal _ c.as_slice-in-Err-Refused.ensures.value, inr (grew_nothing _, wrote_front _ _ _ failed.ensures.err))
    (λ e. inr (failed.ensures.cause.failed (ap Err e))))

pub returns-in_err-write_pieces-in-Ok-2-clause-delivers : goal.returns-in_err-write_pieces-in-Ok-2-clause-delivers
returns-in_err-write_pieces-in-Ok-2-clause-delivers g c =
    let failed = c.in_err-write_pieces-in-Ok-2 in
    output_delivered _ _ _ _ c.from_residual-in_err-write_pieces-in-Ok-2.result c.in-Ok.output c.in-Ok.is
    (fault_replies {rose = Rose (g.O.Sink.faults c.args.out.now) (g.O.Sink.faults c.write_pieces.new.out) ⊎ Rose (g.E.Sink.faults c.args.err.now) (g.E.Sink.faults c.write_pieces-in-Ok.new.out)} c.from_residual-in_err-write_pieces-in-Ok-2.result failed.field-0.0 c.from_residual-in_err-write_pieces-in-Ok-2.ensures.1
    (_, output_is c.in-Ok.output _ _ c.as_slice.ensures.value c.as_slice-in-Ok.ensures.value, inr (c.in_ok-write_pieces-in-Ok.ensures.ok, wrote_front _ _ _ failed.ensures.err))
    (λ e. inr (failed.ensures.cause.failed (ap Err e))))

pub returns-in_ok-write_pieces-in-Ok-2-clause-delivers : goal.returns-in_ok-write_pieces-in-Ok-2-clause-delivers
returns-in_ok-write_pieces-in-Ok-2-clause-delivers g c =
    output_delivered _ _ _ _ _ c.in-Ok.output c.in-Ok.is
    (tt, (_, output_is c.in-Ok.output _ _ c.as_slice.ensures.value c.as_slice-in-Ok.ensures.value, (c.in_ok-write_pieces-in-Ok.ensures.ok, c.in_ok-write_pieces-in-Ok-2.ensures.ok), refl))

pub returns-in_ok-write_pieces-in-Err-Refused-clause-delivers : goal.returns-in_ok-write_pieces-in-Err-Refused-clause-delivers
returns-in_ok-write_pieces-in-Err-Refused-clause-delivers g c =
    let refused = c.in-Err-Refused in
    let is = refused.is ∙ ap Err refused.field-0-is in
    refusal_delivered _ _ _ _ _ refused.refusal is
    (refusal_ends _ refused.refusal is c.requires, (_, refusal_is refused.refusal _ c.as_slice-in-Err-Refused.ensures.value, (grew_nothing _, c.in_ok-write_pieces-in-Err-Refused.ensures.ok), refl))
