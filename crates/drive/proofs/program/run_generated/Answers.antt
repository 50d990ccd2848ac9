use Rattle.std.proofs.Common.{ℕ, List, false, subst}
use Rattle.w_outside.specs.Outside.{Grew, Rose}
use Rattle.words.specs.declared.request.Takes.{Takes}
use Rattle.words.specs.declared.request.Action.TheVariants.{Run as RunFor}
use Rattle.replies.specs.Answer.{ActionGives, generated_steps}
use Rattle.intake.specs.Intake.{IsInputOf}
use Rattle.runs.specs.Leaving.{Leaves}
use Rattle.drive.proofs.program.run_generated.Goals as goal

pub returns-clause-leaves : goal.returns-clause-leaves
returns-clause-leaves g c =
    subst (λ (bytes : List ℕ). Leaves (ActionGives (RunFor generated_steps false) bytes) c.act.result
    (Grew (g.O.Sink.held c.args.out.now) (g.O.Sink.held c.act.new.out)) (Rose (g.O.Sink.faults c.args.out.now) (g.O.Sink.faults c.act.new.out)))
    c.in_ok-bytes.ensures.value (c.act.ensures.leaves c.in_ok-bytes.bytes.items (subst (λ (t : Takes). IsInputOf t c.in_ok-input.input c.in_ok-bytes.bytes.items) c.takes.ensures c.in_ok-input.ensures))
