-- What the trace of a run leaves to write.
use Rattle.std.proofs.Common.{◌≡◌, inr, ℕ, List, [], ◌++◌, Option, Result, Ok, Err, refl, sym, ap, subst, ◌∙◌, append-nil}
use Rattle.std.specs.Prelude.{IsErrAnd}
use Rattle.w_outside.specs.Outside.{Grew}
use Rattle.w_reduce.specs.Program.{Program}
use Rattle.w_reduce.specs.Run.{RunState, Run}
use Rattle.w_reduce.specs.Store.{Store}
use Rattle.w_reduce.specs.Terms.{Term}
use Rattle.w_trace.specs.declared.event.Event.{Event}
use Rattle.w_trace.specs.declared.line.Line.TheVariants as line
use Rattle.w_trace.specs.declared.trace.Ending.{Ending}
use Rattle.w_trace.specs.Events.{Events}
use Rattle.w_trace.specs.Lines.{line_bytes, text_of}
use Rattle.w_trace.specs.Traces.{trace_of, ending_of}
use Rattle.w_machine.specs.Position.{Position}
use Rattle.replies.specs.declared.output.Output.{Output}
use Rattle.replies.specs.declared.stop.Stop.{Stop}
use Rattle.replies.specs.declared.stop.Stop.TheVariants.{Refused, WriteFault, OutOfMemory}
use Rattle.replies.specs.Answer.{Reply, behind, traced}
use Rattle.replies.specs.Pieces.{joined}
use Rattle.runs.specs.Leaving.{IsBegun, Leaves}
use Rattle.runs.specs.Running.{IsAfter}
use Rattle.traces.specs.Stepping.{IsSettled}
use Rattle.traces.specs.Tracing.{event_lines, IsBegunTrace, StopsTrace}
use Rattle.runs.proofs.Replies.{wrote_front}
use Rattle.runs.proofs.Runs.{run_after}
use Rattle.traces.proofs.SettledRuns.{events_after}
use Rattle.traces.proofs.TracesWritten.{text_is}

module _ (p : Program) (s : Store) (t : Term) (steps : ℕ) where
  -- ## All of it

  -- the lines of a run that was gone through, and the last line, are its trace
  pub trace_whole : (q : Position) (taken : ℕ) (ending : Ending) → IsAfter q steps → IsSettled p s t q → taken ≡ q.taken → (Run p s t taken).taken ≡ taken
      → ending ≡ ending_of (Run p s t q.taken).outcome → event_lines (Events p s t q.taken) ++ line_bytes (line.End taken ending) ≡ text_of (trace_of p s t steps)
  trace_whole q taken ending after settled is counts told =
      let run = run_after q p s t steps after settled.stopped in
      let count : taken ≡ (Run p s t steps).taken = sym counts ∙ (ap (λ (n : ℕ). (Run p s t n).taken) is ∙ ap (λ (r : RunState). r.taken) run) in
      let ends : ending ≡ ending_of (Run p s t steps).outcome = told ∙ ap (λ (r : RunState). ending_of r.outcome) run in
      ap (λ (es : List Event). event_lines es ++ line_bytes (line.End taken ending)) (events_after p s t q steps after settled)
      ∙ (ap (λ (n : ℕ). event_lines (Events p s t steps) ++ line_bytes (line.End n ending)) count
      ∙ (ap (λ (e : Ending). event_lines (Events p s t steps) ++ line_bytes (line.End (Run p s t steps).taken e)) ends ∙ sym (text_is p s t steps)))

  module _ (before now : Option (List ℕ)) (rose : Type 0) where
    abbrev IsDue : Reply → Type 0
    IsDue reply = reply ≡ traced (trace_of p s t steps)

    -- nothing is left behind it
    pub trace_left : (output : Output) → joined output.pieces.items ≡ [] → joined output.err.items ≡ [] → Grew before now (text_of (trace_of p s t steps)) → Leaves IsDue (Ok output) (Grew before now) rose
    trace_left output none no_err grew =
        let text = text_of (trace_of p s t steps) in (
          text,
          grew,
          ap (λ (l : List ℕ). behind text (reply_by l (joined output.err.items))) none ∙ (ap (λ (l : List ℕ). behind text (reply_by [] l)) no_err ∙ ap (λ (l : List ℕ). reply_by l []) (append-nil text)),
        )
      where
        reply_by : List ℕ → List ℕ → Reply
        reply_by out err = record { out = out; err = err; status = 0 }

    -- ## A first part of it

    begun_left : IsBegunTrace p s t steps before now → IsBegun IsDue (Grew before now)
    begun_left h = (traced (trace_of p s t steps), refl, wrote_front before now (text_of (trace_of p s t steps)) h)

    pub stopped_left : (stop : Stop) → StopsTrace stop rose (IsBegunTrace p s t steps before now) → Leaves IsDue (Err stop) (Grew before now) rose
    stopped_left (Refused refusal) h = absurd h
    stopped_left WriteFault h = (begun_left h.1, h.0)
    stopped_left OutOfMemory h = inr (begun_left h)

    -- a call stops where a part of it does
    pub stops_left : (answer : Result Output Stop) (stop : Stop) → IsErrAnd answer (λ e. e ≡ stop) → StopsTrace stop rose (IsBegunTrace p s t steps before now)
        → Leaves IsDue answer (Grew before now) rose
    stops_left (Ok output) stop is h = absurd is
    stops_left (Err e) stop is h = subst (λ (z : Stop). Leaves IsDue (Err z) (Grew before now) rose) (sym is) (stopped_left stop h)
