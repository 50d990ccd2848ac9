use Rattle.std.proofs.Common.{Some, None, ◌∙◌, refl, ap}
use Rattle.w_outside.specs.Outside.{Rose}
use Rattle.w_reduce.specs.Run.{Running, Traps, Limit}
use Rattle.w_stands.specs.Values.{vals}
use Rattle.w_configuration.specs.declared.stop.RunStop.TheVariants.{Ended, Limit as RunStopLimit, Trapped as RunStopTrapped, WriteFault as RunStopWriteFault, OutOfMemory as RunStopOutOfMemory}
use Rattle.w_machine.specs.Position.{Position}
use Rattle.replies.specs.Pieces.{joined}
use Rattle.replies.specs.Origin.{trap_reply_of}
use Rattle.runs.proofs.Runs.{from_first, first_ended, first_after, first_origin, lines_of_vals, run_refused, run_ended, run_unlisted, run_failed, run_out}
use Rattle.runs.proofs.Statistics.{not_reply}
use Rattle.runs.proofs.running.run_machine.Goals as goal

pub returns-in_err-pieces-in-Ended-clause-leaves : goal.returns-in_err-pieces-in-Ended-clause-leaves
returns-in_err-pieces-in-Ended-clause-leaves g c = λ p s t begins.
    let h = from_first _ p s t c.args.steps c.args.machine.now c.run.new.self _ (g.O.Sink.held c.args.out.now) (g.O.Sink.held c.run.new.out) c.requires.first begins c.in-Ended.ensures.runs in
    run_unlisted (trap_reply_of c.args.origin) p s t c.args.steps (g.O.Sink.held c.args.out.now) (g.O.Sink.held c.run.new.out) (Rose (g.O.Sink.faults c.args.out.now) (g.O.Sink.faults c.run.new.out)) c.from_residual.result h.1 c.from_residual.ensures.1

pub returns-in_ok-pieces-in-Ended-clause-leaves : goal.returns-in_ok-pieces-in-Ended-clause-leaves
returns-in_ok-pieces-in-Ended-clause-leaves g c = λ p s t begins.
    let h = from_first _ p s t c.args.steps c.args.machine.now c.run.new.self _ (g.O.Sink.held c.args.out.now) (g.O.Sink.held c.run.new.out) c.requires.first begins c.in-Ended.ensures.runs in
    let done = first_ended _ p s t c.args.steps c.args.machine.now c.run.new.self (g.O.Sink.held c.args.out.now) (g.O.Sink.held c.run.new.out) c.requires.first begins c.in-Ended.ensures.runs in
    run_ended (trap_reply_of c.args.origin) p s t c.args.steps (g.O.Sink.held c.args.out.now) (g.O.Sink.held c.run.new.out) (Rose (g.O.Sink.faults c.args.out.now) (g.O.Sink.faults c.run.new.out)) (record { pieces = c.in_ok-pieces-in-Ended.pieces; err = c.new.result }) (vals c.results.result.now) h.1
    (c.results.ensures.ended done.stop p s t done.begins c.args.steps done.within) (c.in_ok-pieces-in-Ended.ensures ∙ lines_of_vals c.results.result.now) (ap joined c.new.ensures.items)

pub returns-in-Running-clause-leaves : goal.returns-in-Running-clause-leaves
returns-in-Running-clause-leaves g c = λ p s t begins.
    let h = from_first _ p s t c.args.steps c.args.machine.now c.run.new.self _ (g.O.Sink.held c.args.out.now) (g.O.Sink.held c.run.new.out) c.requires.first begins c.in-Running.ensures.runs in
    run_refused (trap_reply_of c.args.origin) p s t c.args.steps (g.O.Sink.held c.args.out.now) (g.O.Sink.held c.run.new.out) (Rose (g.O.Sink.faults c.args.out.now) (g.O.Sink.faults c.run.new.out)) Running c.refuse.result h.1 h.0 c.refuse.ensures

pub returns-in-Limit-clause-leaves : goal.returns-in-Limit-clause-leaves
returns-in-Limit-clause-leaves g c = λ p s t begins.
    let h = from_first _ p s t c.args.steps c.args.machine.now c.run.new.self _ (g.O.Sink.held c.args.out.now) (g.O.Sink.held c.run.new.out) c.requires.first begins c.in-Limit.ensures.runs in
    run_refused (trap_reply_of c.args.origin) p s t c.args.steps (g.O.Sink.held c.args.out.now) (g.O.Sink.held c.run.new.out) (Rose (g.O.Sink.faults c.args.out.now) (g.O.Sink.faults c.run.new.out)) (Limit c.in-Limit.name) c.limit_refusal.result h.1 h.0 c.limit_refusal.ensures

pub returns-in-Trapped-clause-leaves : goal.returns-in-Trapped-clause-leaves
returns-in-Trapped-clause-leaves g c = λ p s t begins.
    let h = from_first _ p s t c.args.steps c.args.machine.now c.run.new.self _ (g.O.Sink.held c.args.out.now) (g.O.Sink.held c.run.new.out) c.requires.first begins c.in-Trapped.ensures.runs in
    run_refused (trap_reply_of c.args.origin) p s t c.args.steps (g.O.Sink.held c.args.out.now) (g.O.Sink.held c.run.new.out) (Rose (g.O.Sink.faults c.args.out.now) (g.O.Sink.faults c.run.new.out)) (Traps c.in-Trapped.trap) c.trap_refusal.result h.1 h.0 c.trap_refusal.ensures

pub returns-in-WriteFault-clause-leaves : goal.returns-in-WriteFault-clause-leaves
returns-in-WriteFault-clause-leaves g c = λ p s t begins.
    let h = from_first _ p s t c.args.steps c.args.machine.now c.run.new.self _ (g.O.Sink.held c.args.out.now) (g.O.Sink.held c.run.new.out) c.requires.first begins c.in-WriteFault.ensures.runs in
    run_failed (trap_reply_of c.args.origin) p s t c.args.steps (g.O.Sink.held c.args.out.now) (g.O.Sink.held c.run.new.out) (Rose (g.O.Sink.faults c.args.out.now) (g.O.Sink.faults c.run.new.out)) h.1
    (c.in-WriteFault.ensures.cause (ap (λ (q : Position). q.stop) c.requires.first) refl)

pub returns-in-OutOfMemory-clause-leaves : goal.returns-in-OutOfMemory-clause-leaves
returns-in-OutOfMemory-clause-leaves g c = λ p s t begins.
    let h = from_first _ p s t c.args.steps c.args.machine.now c.run.new.self _ (g.O.Sink.held c.args.out.now) (g.O.Sink.held c.run.new.out) c.requires.first begins c.in-OutOfMemory.ensures.runs in
    run_out (trap_reply_of c.args.origin) p s t c.args.steps (g.O.Sink.held c.args.out.now) (g.O.Sink.held c.run.new.out) (Rose (g.O.Sink.faults c.args.out.now) (g.O.Sink.faults c.run.new.out)) h.1

pub returns-in_err-pieces-in-Ended-clause-after : goal.returns-in_err-pieces-in-Ended-clause-after
returns-in_err-pieces-in-Ended-clause-after g c = λ reply. absurd (not_reply c.from_residual.result c.from_residual.ensures.1 reply)

pub returns-in_ok-pieces-in-Ended-clause-after : goal.returns-in_ok-pieces-in-Ended-clause-after
returns-in_ok-pieces-in-Ended-clause-after g c =
    λ _. first_after _ c.args.steps c.args.machine.now c.run.new.self (Some Ended) (g.O.Sink.held c.args.out.now) (g.O.Sink.held c.run.new.out) c.requires.first c.in-Ended.ensures.runs refl

pub returns-in-Running-clause-after : goal.returns-in-Running-clause-after
returns-in-Running-clause-after g c =
    λ _. first_after _ c.args.steps c.args.machine.now c.run.new.self None (g.O.Sink.held c.args.out.now) (g.O.Sink.held c.run.new.out) c.requires.first c.in-Running.ensures.runs tt

pub returns-in-Limit-clause-after : goal.returns-in-Limit-clause-after
returns-in-Limit-clause-after g c =
    λ _. first_after _ c.args.steps c.args.machine.now c.run.new.self (Some (RunStopLimit c.in-Limit.name)) (g.O.Sink.held c.args.out.now) (g.O.Sink.held c.run.new.out) c.requires.first c.in-Limit.ensures.runs refl

pub returns-in-Trapped-clause-after : goal.returns-in-Trapped-clause-after
returns-in-Trapped-clause-after g c =
    λ _. first_after _ c.args.steps c.args.machine.now c.run.new.self (Some (RunStopTrapped c.in-Trapped.trap)) (g.O.Sink.held c.args.out.now) (g.O.Sink.held c.run.new.out) c.requires.first c.in-Trapped.ensures.runs refl

pub returns-in_err-pieces-in-Ended-clause-origin : goal.returns-in_err-pieces-in-Ended-clause-origin
returns-in_err-pieces-in-Ended-clause-origin g c =
    first_origin _ c.args.steps c.args.machine.now c.run.new.self (Some Ended) (g.O.Sink.held c.args.out.now) (g.O.Sink.held c.run.new.out) c.requires.first c.in-Ended.ensures.runs

pub returns-in_ok-pieces-in-Ended-clause-origin : goal.returns-in_ok-pieces-in-Ended-clause-origin
returns-in_ok-pieces-in-Ended-clause-origin g c =
    first_origin _ c.args.steps c.args.machine.now c.run.new.self (Some Ended) (g.O.Sink.held c.args.out.now) (g.O.Sink.held c.run.new.out) c.requires.first c.in-Ended.ensures.runs

pub returns-in-Running-clause-origin : goal.returns-in-Running-clause-origin
returns-in-Running-clause-origin g c =
    first_origin _ c.args.steps c.args.machine.now c.run.new.self (None) (g.O.Sink.held c.args.out.now) (g.O.Sink.held c.run.new.out) c.requires.first c.in-Running.ensures.runs

pub returns-in-Limit-clause-origin : goal.returns-in-Limit-clause-origin
returns-in-Limit-clause-origin g c =
    first_origin _ c.args.steps c.args.machine.now c.run.new.self (Some (RunStopLimit c.in-Limit.name)) (g.O.Sink.held c.args.out.now) (g.O.Sink.held c.run.new.out) c.requires.first c.in-Limit.ensures.runs

pub returns-in-Trapped-clause-origin : goal.returns-in-Trapped-clause-origin
returns-in-Trapped-clause-origin g c =
    first_origin _ c.args.steps c.args.machine.now c.run.new.self (Some (RunStopTrapped c.in-Trapped.trap)) (g.O.Sink.held c.args.out.now) (g.O.Sink.held c.run.new.out) c.requires.first c.in-Trapped.ensures.runs

pub returns-in-WriteFault-clause-origin : goal.returns-in-WriteFault-clause-origin
returns-in-WriteFault-clause-origin g c =
    first_origin _ c.args.steps c.args.machine.now c.run.new.self (Some RunStopWriteFault) (g.O.Sink.held c.args.out.now) (g.O.Sink.held c.run.new.out) c.requires.first c.in-WriteFault.ensures.runs

pub returns-in-OutOfMemory-clause-origin : goal.returns-in-OutOfMemory-clause-origin
returns-in-OutOfMemory-clause-origin g c =
    first_origin _ c.args.steps c.args.machine.now c.run.new.self (Some RunStopOutOfMemory) (g.O.Sink.held c.args.out.now) (g.O.Sink.held c.run.new.out) c.requires.first c.in-OutOfMemory.ensures.runs
