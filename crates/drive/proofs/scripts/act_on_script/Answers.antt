use Rattle.std.proofs.Common.{sym, subst}
use Rattle.w_outside.specs.Outside.{Grew, Rose}
use Rattle.words.specs.declared.request.Action.{Action}
use Rattle.replies.specs.Answer.{ScriptGives, script_gives}
use Rattle.runs.specs.Leaving.{Leaves}
use Rattle.drive.proofs.scripts.act_on_script.Goals as goal

pub returns-in-Run-clause-leaves : goal.returns-in-Run-clause-leaves
returns-in-Run-clause-leaves g c =
    subst (λ (a : Action). Leaves (ScriptGives (script_gives a) c.args.bytes.now) c.run_script.result
    (Grew (g.O.Sink.held c.args.out.now) (g.O.Sink.held c.run_script.new.out)) (Rose (g.O.Sink.faults c.args.out.now) (g.O.Sink.faults c.run_script.new.out)))
    (sym c.in-Run.is) c.run_script.ensures.leaves
