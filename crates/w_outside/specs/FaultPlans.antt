-- The forms over memory of which chosen calls fail: the numbers of those calls, and how many calls were made.
use Rattle.std.specs.Prelude.{ℕ, List}
use Rattle.w_outside.specs.declared.memory.MemInputs.{MemInputs}
use Rattle.w_outside.specs.declared.memory.MemSink.{MemSink}

abbrev pub input_failing : MemInputs → List ℕ
input_failing s = s.plan.fails.items

abbrev pub input_calls : MemInputs → ℕ
input_calls s = s.plan.calls

abbrev pub sink_failing : MemSink → List ℕ
sink_failing s = s.plan.fails.items

abbrev pub sink_calls : MemSink → ℕ
sink_calls s = s.plan.calls
