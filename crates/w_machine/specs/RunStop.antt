-- What a step and a run answer by what stopped them, if anything did.
use Rattle.std.specs.Prelude.{Bool, true, false, Option, Some, None}
use Rattle.w_configuration.specs.declared.stop.RunStop.{RunStop}
use Rattle.w_configuration.specs.declared.stop.RunStop.TheVariants as run_stop
use Rattle.w_machine.specs.declared.outcome.Stepped.{Stepped}
use Rattle.w_machine.specs.declared.outcome.Stepped.TheVariants as stepped
use Rattle.w_machine.specs.declared.outcome.Outcome.{Outcome}
use Rattle.w_machine.specs.declared.outcome.Outcome.TheVariants as outcome

abbrev pub stepped_of : Option RunStop → Stepped
stepped_of None = stepped.Went
stepped_of (Some run_stop.Ended) = stepped.Ended
stepped_of (Some (run_stop.Limit name)) = stepped.Limit name
stepped_of (Some (run_stop.Trapped t)) = stepped.Trapped t
stepped_of (Some run_stop.WriteFault) = stepped.WriteFault
stepped_of (Some run_stop.OutOfMemory) = stepped.OutOfMemory

abbrev pub outcome_of : Option RunStop → Outcome
outcome_of None = outcome.Running
outcome_of (Some run_stop.Ended) = outcome.Ended
outcome_of (Some (run_stop.Limit name)) = outcome.Limit name
outcome_of (Some (run_stop.Trapped t)) = outcome.Trapped t
outcome_of (Some run_stop.WriteFault) = outcome.WriteFault
outcome_of (Some run_stop.OutOfMemory) = outcome.OutOfMemory

-- what stopped a step and a run that answer so
abbrev pub stopped_at : Stepped → Option RunStop
stopped_at stepped.Went = None
stopped_at stepped.Ended = Some run_stop.Ended
stopped_at (stepped.Limit name) = Some (run_stop.Limit name)
stopped_at (stepped.Trapped t) = Some (run_stop.Trapped t)
stopped_at stepped.WriteFault = Some run_stop.WriteFault
stopped_at stepped.OutOfMemory = Some run_stop.OutOfMemory

abbrev pub stopped_in : Outcome → Option RunStop
stopped_in outcome.Running = None
stopped_in outcome.Ended = Some run_stop.Ended
stopped_in (outcome.Limit name) = Some (run_stop.Limit name)
stopped_in (outcome.Trapped t) = Some (run_stop.Trapped t)
stopped_in outcome.WriteFault = Some run_stop.WriteFault
stopped_in outcome.OutOfMemory = Some run_stop.OutOfMemory

abbrev pub is_ended : Option RunStop → Bool
is_ended (Some run_stop.Ended) = true
is_ended o = false
