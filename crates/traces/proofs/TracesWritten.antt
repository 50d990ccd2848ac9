-- What of a trace is written, and what is kept.
use Rattle.std.proofs.Common.{◌≡◌, ◌≤◌, ◌+◌, ◌-◌, ℕ, List, [], ◌∷◌, ◌++◌, map, Option, Some, Result, Ok, Err, option_to_list, refl, sym, ap, subst, ◌∙◌, append-nil, append_assoc, flat_map, arith}
use Rattle.std.specs.Prelude.{IsErrAnd, IfErr, OnErr, OnOk}
use Rattle.std.specs.Io.KnownBytes.{append_known}
use Rattle.w_outside.specs.declared.traits.Fault.{Fault}
use Rattle.w_outside.specs.declared.traits.Fault.TheVariants as fault
use Rattle.w_outside.specs.Outside.{Grew, GrewByFront, Rose}
use Rattle.w_outside.proofs.Growth.{grew_more, grew_nothing}
use Rattle.w_reduce.specs.Program.{Program}
use Rattle.w_reduce.specs.Store.{Store}
use Rattle.w_reduce.specs.Terms.{Term}
use Rattle.w_trace.specs.declared.event.Event.{Event}
use Rattle.w_trace.specs.declared.line.Line.{Line}
use Rattle.w_trace.specs.declared.line.Line.TheVariants as line
use Rattle.w_trace.specs.Events.{Events}
use Rattle.w_trace.specs.Lines.{line_bytes, text_of}
use Rattle.w_trace.specs.Traces.{trace_of}
use Rattle.w_trace.proofs.Runs.{events_go_on}
use Rattle.w_machine.specs.Position.{Position}
use Rattle.replies.specs.declared.stop.Stop.{Stop}
use Rattle.replies.specs.declared.stop.Stop.TheVariants.{Refused, WriteFault, OutOfMemory}
use Rattle.runs.specs.Running.{IsFirst}
use Rattle.traces.specs.Stepping.{GoesToEvent}
use Rattle.traces.specs.Tracing.{event_lines, IsWritten, IsTraced, IsBegunTrace, StopsTrace}
use Rattle.traces.proofs.SettledRuns.{first_settled}

-- ## What is kept, and written

module _ (text : List ℕ) (before now after kept : Option (List ℕ)) where
  -- what was kept is written
  pub all_written : (piece : List ℕ) → kept ≡ Some piece → IsWritten text before now kept → Grew now after piece → Grew before after text
  all_written piece is h grew =
      let both : Some piece ≡ Some h.rest = sym is ∙ h.is_kept in
      let same : piece ≡ h.rest = cc in
      subst (λ (l : List ℕ). Grew before after l) (ap (λ (l : List ℕ). h.part ++ l) same ∙ h.joined) (grew_more before now after h.part piece h.grew grew)

  -- or a first part of it
  pub front_written : (piece : List ℕ) → kept ≡ Some piece → IsWritten text before now kept → GrewByFront now after piece → GrewByFront before after text
  front_written piece is h g =
      let both : Some piece ≡ Some h.rest = sym is ∙ h.is_kept in
      let same : piece ≡ h.rest = cc in
      record {
        part = h.part ++ g.part;
        front = record {
          rest = g.front.rest;
          joined = append_assoc h.part g.part g.front.rest ∙ (ap (λ (l : List ℕ). h.part ++ l) (g.front.joined ∙ same) ∙ h.joined);
        };
        grew = grew_more before now after h.part g.part h.grew g.grew;
      }

module _ (text : List ℕ) (before now : Option (List ℕ)) where
  -- nothing is kept
  pub none_kept : (kept : Option (List ℕ)) → kept ≡ Some [] → Grew before now text → IsWritten text before now kept
  none_kept kept none grew = record { part = text; rest = []; joined = append-nil text; grew = grew; is_kept = none }

  -- what isn't kept is a first part
  pub part_written : (kept : Option (List ℕ)) → IsWritten text before now kept → GrewByFront before now text
  part_written kept h = record { part = h.part; front = record { rest = h.rest; joined = h.joined }; grew = h.grew }

  -- more is kept
  pub more_kept : (kept kept' : Option (List ℕ)) (added : List ℕ) → IsWritten text before now kept → Grew kept kept' added → IsWritten (text ++ added) before now kept'
  more_kept kept kept' added h grew = record {
    part = h.part;
    rest = h.rest ++ added;
    joined = sym (append_assoc h.part h.rest added) ∙ ap (λ (l : List ℕ). l ++ added) h.joined;
    grew = h.grew;
    is_kept = grew ∙ ap (λ (k : Option (List ℕ)). append_known k added) h.is_kept;
  }

  -- a first part of a text is that of a longer one
  pub front_longer : (more : List ℕ) → GrewByFront before now text → GrewByFront before now (text ++ more)
  front_longer more h = record {
    part = h.part;
    front = record {
      rest = h.front.rest ++ more;
      joined = sym (append_assoc h.part h.front.rest more) ∙ ap (λ (l : List ℕ). l ++ more) h.front.joined;
    };
    grew = h.grew;
  }

-- ## By what a call of the sink came to

pub ok_so : {T E : Type 0} {P Q : Type 0} (r : Result T E) → OnOk r P → (P → Q) → OnOk r Q
ok_so (Ok x) p f = f p
ok_so (Err e) p f = tt

pub err_so : {T E : Type 0} {P Q : Type 0} (r : Result T E) → OnErr r P → (P → Q) → OnErr r Q
err_so (Ok x) p f = tt
err_so (Err e) p f = f p

-- why a trace stops
pub stops_so : {rose begun : Type 0} (f : Fault) (stop : Stop) → (f ≡ fault.Failed → stop ≡ WriteFault) → (f ≡ fault.OutOfMemory → stop ≡ OutOfMemory) → (f ≡ fault.Failed → rose) → begun
    → StopsTrace stop rose begun
stops_so {rose = rose} {begun = begun} fault.Failed stop failed memory cause h = subst (λ (z : Stop). StopsTrace z rose begun) (sym (failed refl)) (cause refl, h)
stops_so {rose = rose} {begun = begun} fault.OutOfMemory stop failed memory cause h = subst (λ (z : Stop). StopsTrace z rose begun) (sym (memory refl)) h

-- memory ran out
pub stops_out : {T : Type 0} (rose begun : Type 0) (r : Result T Stop) → IsErrAnd r (λ e. e ≡ OutOfMemory) → begun → IfErr r (λ stop. StopsTrace stop rose begun)
stops_out rose begun (Ok x) is h = absurd is
stops_out rose begun (Err e) is h = subst (λ (z : Stop). StopsTrace z rose begun) (sym is) h

-- a call stops where a part of it does
pub stops_map : {rose rose' begun begun' : Type 0} (stop : Stop) → StopsTrace stop rose begun → (rose → rose') → (begun → begun') → StopsTrace stop rose' begun'
stops_map (Refused refusal) h f g = absurd h
stops_map WriteFault h f g = (f h.0, g h.1)
stops_map OutOfMemory h f g = g h

pub stops_on : {T : Type 0} {rose begun : Type 0} (rose' begun' : Type 0) (r : Result T Stop) (stop : Stop) → IsErrAnd r (λ e. e ≡ stop) → StopsTrace stop rose begun → (rose → rose') → (begun → begun')
    → IfErr r (λ z. StopsTrace z rose' begun')
stops_on rose' begun' (Ok x) stop is h f g = absurd is
stops_on rose' begun' (Err e) stop is h f g = subst (λ (z : Stop). StopsTrace z rose' begun') (sym is) (stops_map stop h f g)

-- ## The lines of events

pub lines_append : (es fs : List Event) → event_lines (es ++ fs) ≡ event_lines es ++ event_lines fs
lines_append [] fs = refl
lines_append (e ∷ es) fs =
    ap (λ (l : List ℕ). line_bytes (line.Event e) ++ l) (lines_append es fs) ∙ sym (append_assoc (line_bytes (line.Event e)) (event_lines es) (event_lines fs))

lines_then : (es : List Event) (l : Line) → flat_map line_bytes (map line.Event es ++ l ∷ []) ≡ event_lines es ++ line_bytes l
lines_then [] l = append-nil (line_bytes l)
lines_then (e ∷ es) l =
    ap (λ (bs : List ℕ). line_bytes (line.Event e) ++ bs) (lines_then es l) ∙ sym (append_assoc (line_bytes (line.Event e)) (event_lines es) (line_bytes l))

-- the line of one event, or of none
pub line_of_one : (e : Event) → event_lines (option_to_list (Some e)) ≡ line_bytes (line.Event e)
line_of_one e = append-nil (line_bytes (line.Event e))

module _ (p : Program) (s : Store) (t : Term) where
  -- the lines of more reductions begin with those of fewer
  pub lines_go_on : (before now : Option (List ℕ)) (m n : ℕ) → m ≤ n → GrewByFront before now (event_lines (Events p s t m)) → GrewByFront before now (event_lines (Events p s t n))
  lines_go_on before now m n le h =
      let more = events_go_on p s t m (n - m) in
      let there : m + (n - m) ≡ n = omega (arith, le) in
      let same : event_lines (Events p s t m) ++ event_lines more.0 ≡ event_lines (Events p s t n) =
      sym (lines_append (Events p s t m) more.0) ∙ ap event_lines (sym more.1 ∙ ap (Events p s t) there) in
      subst (λ (l : List ℕ). GrewByFront before now l) same (front_longer (event_lines (Events p s t m)) before now (event_lines more.0) h)

  -- the text of a trace is that of its events, and the last line
  pub text_is : (n : ℕ) → text_of (trace_of p s t n) ≡ event_lines (Events p s t n) ++ line_bytes (line.End (trace_of p s t n).taken (trace_of p s t n).ending)
  text_is n = lines_then (Events p s t n) (line.End (trace_of p s t n).taken (trace_of p s t n).ending)

  -- so the lines of fewer reductions are a first part of it
  pub trace_begun : (before now : Option (List ℕ)) (m n : ℕ) → m ≤ n → GrewByFront before now (event_lines (Events p s t m)) → IsBegunTrace p s t n before now
  trace_begun before now m n le h =
      subst (λ (l : List ℕ). GrewByFront before now l) (sym (text_is n))
      (front_longer (event_lines (Events p s t n)) before now (line_bytes (line.End (trace_of p s t n).taken (trace_of p s t n).ending)) (lines_go_on before now m n le h))

  -- ## Up to an event

  module _ (q new : Position) (event : Option Event) (step : GoesToEvent p s t event q new) (before now : Option (List ℕ)) where
    step_lines : event_lines (Events p s t q.taken) ++ event_lines (option_to_list event) ≡ event_lines (Events p s t new.taken)
    step_lines = sym (lines_append (Events p s t q.taken) (option_to_list event)) ∙ ap event_lines (sym step.events)

    -- its event is written behind the others
    pub traced_more : (kept : Option (List ℕ)) → IsWritten (event_lines (Events p s t q.taken) ++ event_lines (option_to_list event)) before now kept → IsTraced p s t new before now kept
    traced_more kept h = record { settled = step.settled; written = subst (λ (l : List ℕ). IsWritten l before now kept) step_lines h }

    -- or a first part of it
    pub begun_more : (steps : ℕ) → new.taken ≤ steps → GrewByFront before now (event_lines (Events p s t q.taken) ++ event_lines (option_to_list event)) → GrewByFront before now (event_lines (Events p s t steps))
    begun_more steps le h = lines_go_on before now new.taken steps le (subst (λ (l : List ℕ). GrewByFront before now l) step_lines h)

  -- where none comes for want of memory, what was written stays
  pub begun_yet : (q : Position) (steps : ℕ) (before now kept : Option (List ℕ)) → q.taken ≤ steps → IsTraced p s t q before now kept → GrewByFront before now (event_lines (Events p s t steps))
  begun_yet q steps before now kept le h = lines_go_on before now q.taken steps le (part_written (event_lines (Events p s t q.taken)) before now kept h.written)

  -- nothing is written of a run from its first reduction on
  pub traced_first : (q : Position) (now kept : Option (List ℕ)) → IsFirst q → kept ≡ Some [] → IsTraced p s t q now now kept
  traced_first q now kept first none = record {
    settled = first_settled p s t q first;
    written = subst (λ (n : ℕ). IsWritten (event_lines (Events p s t n)) now now kept) (sym (ap (λ (z : Position). z.taken) first))
        (none_kept [] now now kept none (grew_nothing now));
  }

-- ## Counts of faults

pub rose_later : (a b c : ℕ) → a ≤ b → Rose b c → Rose a c
rose_later a b c le h = omega (arith, le, h)
