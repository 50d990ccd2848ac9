use Rattle.std.proofs.Common.{None, Some, sym, ap}
use Rattle.w_trace.specs.Traces.{ending_of as the_ending}
use Rattle.w_configuration.specs.declared.stop.RunStop.TheVariants as run_stop
use Rattle.traces.proofs.SettledRuns.{came_to}
use Rattle.traces.proofs.stepping.ending_of.Goals as goal

pub returns-in-Running-clause-ending : goal.returns-in-Running-clause-ending
returns-in-Running-clause-ending c = λ p s t begins settled.
    sym (ap the_ending (came_to p s t c.args.machine.now c.run.new.self None None None begins settled c.in-Running.ensures.runs))

pub returns-in-Ended-clause-ending : goal.returns-in-Ended-clause-ending
returns-in-Ended-clause-ending c = λ p s t begins settled.
    let h = came_to p s t c.args.machine.now c.run.new.self None None (Some run_stop.Ended) begins settled c.in-Ended.ensures.runs in
    sym (ap the_ending h.1)

pub returns-in-Limit-clause-ending : goal.returns-in-Limit-clause-ending
returns-in-Limit-clause-ending c = λ p s t begins settled.
    sym (ap the_ending (came_to p s t c.args.machine.now c.run.new.self None None (Some (run_stop.Limit c.in-Limit.name)) begins settled c.in-Limit.ensures.runs))

pub returns-in-Trapped-clause-ending : goal.returns-in-Trapped-clause-ending
returns-in-Trapped-clause-ending c = λ p s t begins settled.
    sym (ap the_ending (came_to p s t c.args.machine.now c.run.new.self None None (Some (run_stop.Trapped c.in-Trapped.trap)) begins settled c.in-Trapped.ensures.runs))
