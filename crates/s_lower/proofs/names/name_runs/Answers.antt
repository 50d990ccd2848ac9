use Rattle.s_lower.proofs.NamesBehindOthers.{run_pushed}
use Rattle.s_lower.proofs.names.name_runs.Goals as goal

pub loop-binding-preserved : goal.loop-binding-preserved
loop-binding-preserved c =
    run_pushed c.args.names.now c.loop-binding.binding-index c.binding-item.result c.loop-binding.runs.items c.push.new.self.items c.local_type.result _ c.loop-binding-test.true c.binding-item.is
    c.in_ok-push.ensures.items c.local_type.ensures.value c.loop-binding.invariant
