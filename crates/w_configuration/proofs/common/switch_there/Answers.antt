use Rattle.std.proofs.Common.{Option, refl, subst}
use Rattle.w_configuration.specs.declared.stop.RunStop.{RunStop}
use Rattle.w_configuration.specs.Reducing.{PartsReduce}
use Rattle.w_configuration.proofs.CommonReductions.{in_run_in_body}
use Rattle.w_configuration.proofs.common.switch_there.Goals as goal

pub returns-in-None : goal.returns-in-None
returns-in-None c = (
  refl,
  record {
    inside = in_run_in_body c.args.configuration.now.chain c.requires.body;
    quietly = λ e. absurd (cc);
    no_fault = λ e. absurd (cc);
    reduces = λ held. subst (λ (o : Option RunStop). PartsReduce o c.args.program.source.now c.args.configuration.now c.switching_at.new.configuration held held) c.in-None.is (c.switching_at.ensures.reduces held);
  },
)
