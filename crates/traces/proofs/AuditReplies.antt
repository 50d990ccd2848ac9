-- What audits give, from what their parts give.
use Rattle.std.proofs.Common.{◌≡◌, ◌≤◌, ◌∙◌, ℕ, List, [], inl, inr, refl, ap, arith}
use Rattle.w_outside.specs.Outside.{Known, Rose}
use Rattle.w_syntax.specs.declared.module.Module.{Module}
use Rattle.w_syntax.specs.Spells.{Spells}
use Rattle.w_rules.specs.Limits.{Within}
use Rattle.w_rules.specs.Valid.{Valid}
use Rattle.w_reduce.specs.Program.{Program}
use Rattle.w_reduce.specs.Run.{RunState, Run}
use Rattle.w_reduce.specs.Store.{Store, made, consumed, live}
use Rattle.w_reduce.specs.Terms.{Term}
use Rattle.w_trace.specs.declared.trace.Trace.{Trace}
use Rattle.w_trace.specs.Traces.{trace_of}
use Rattle.w_machine.specs.Position.{Position}
use Rattle.replies.specs.Answer.{Reply, AuditGives, AuditedGives, BytesGive, BytesRefusal, ComparedGives, OnFile, audit_line, limit_input, ok_trace, trapped}
use Rattle.traces.specs.Auditing.{FileRefused, IsSoundTrace, MayGive, TraceRefusal}
use Rattle.runs.specs.Delivery.{MayFail}
use Rattle.runs.specs.Running.{BeginsRunOf, HasNoRun}
use Rattle.traces.proofs.ReadFiles.{on_file, refusal_on_file}
use Rattle.runs.proofs.Runs.{no_run_gives, run_gives}

-- ## The line of an audit that found nothing

abbrev pub ok_reply : List ℕ → List ℕ → Reply
ok_reply text more = record { out = text; err = more; status = 0 }

-- its counts are those of the run's last store
pub counts_told : (r r' : RunState) (a b c : ℕ) (text more : List ℕ) → r ≡ r' → made r.store ≡ a → consumed r.store ≡ b → live r.store ≡ c → text ≡ audit_line a b c → more ≡ []
    → ok_reply text more ≡ ok_trace r'.store
counts_told r r' a b c text more same ea eb ec told none =
    let here : ok_reply (audit_line a b c) [] ≡ ok_trace r.store = rw (← ea, ← eb, ← ec) refl in
    ap (ok_reply text) none ∙ ap (λ (l : List ℕ). ok_reply l []) told ∙ here ∙ ap (λ (q : RunState). ok_trace q.store) same

-- ## Files

module _ (Refused : List ℕ → Reply → Type 0) (Gives : List ℕ → Reply → Type 0) (known : Known) (failed : Type 0) where
  -- a file that is refused gives that
  pub file_refused : ((bytes : List ℕ) (r : Reply) → Refused bytes r → Gives bytes r) → (r : Reply) → FileRefused known failed Refused r → MayFail failed (OnFile known Gives) r
  file_refused due r (inl h) = refusal_on_file limit_input Gives known failed r h
  file_refused due r (inr h) = inl (on_file limit_input Gives known h.0 r h.1 h.2 (due h.0 r h.3))

-- and one of whose bytes something holds, what such bytes give
pub file_given : (Is : List ℕ → Type 0) (Gives : List ℕ → Reply → Type 0) (known : Known) (r : Reply) → MayGive known Is → ((bytes : List ℕ) → Is bytes → Gives bytes r) → OnFile known Gives r
file_given Is Gives known r h due = on_file limit_input Gives known h.0 r h.1 h.2 (due h.0 h.3)

-- a fault of a later call is one of all
pub rose_later : (before between now : ℕ) → before ≤ between → Rose between now → Rose before now
rose_later before between now later rose = omega (arith, later, rose)

-- ## The file of a trace

module _ (p : Program) (s : Store) (t : Term) (steps : ℕ) where
  -- bytes that are refused
  pub trace_refused : (bytes : List ℕ) (r : Reply) → TraceRefusal bytes r → AuditGives steps p s t bytes r
  trace_refused bytes r (inl h) = inl h
  trace_refused bytes r (inr h) = inr (h.0, h.1, inl h.2)

  -- a trace that is compared
  pub trace_compared : (x : Trace) (known : Known) (failed : Type 0) → MayGive known (IsSoundTrace x) → (r : Reply) → ComparedGives (trace_of p s t steps) (Run p s t steps).store x r
      → MayFail failed (OnFile known (AuditGives steps p s t)) r
  trace_compared x known failed may r h = inl (file_given (IsSoundTrace x) (AuditGives steps p s t) known r may (λ bytes is. inr (x, is.0, inr (is.1, h))))

-- ## The file of a module

module _ (steps : ℕ) (trace : Known) where
  -- bytes that are refused
  pub module_refused : (bytes : List ℕ) (r : Reply) → BytesRefusal bytes r → BytesGive (AuditedGives steps trace) bytes r
  module_refused bytes r h = inr h

  module _ (m : Module) (known : Known) (may : MayGive known (λ bytes. Spells bytes m)) (within : Within m) (valid : Valid m) where
    accepted : (r : Reply) → AuditedGives steps trace m r → OnFile known (BytesGive (AuditedGives steps trace)) r
    accepted r h = file_given (λ bytes. Spells bytes m) (BytesGive (AuditedGives steps trace)) known r may (λ bytes is. inl (m, is, within, valid, h))

    -- one that has no run
    pub module_not_run : (failed : Type 0) (r : Reply) → HasNoRun trapped m r → MayFail failed (OnFile known (BytesGive (AuditedGives steps trace))) r
    module_not_run failed r h = inl (accepted r (no_run_gives trapped (λ p s t. OnFile trace (AuditGives steps p s t)) m r h))

    -- one whose run a trace is compared with
    pub module_run : (q : Position) (b : BeginsRunOf m q) (failed failed' : Type 0) → (failed → failed') → (r : Reply) → MayFail failed (OnFile trace (AuditGives steps b.program b.store b.term)) r
        → MayFail failed' (OnFile known (BytesGive (AuditedGives steps trace))) r
    module_run q b failed failed' later r (inl h) = inl (accepted r (run_gives trapped (λ p s t. OnFile trace (AuditGives steps p s t)) m q b r h))
    module_run q b failed failed' later r (inr h) = inr (later h.0, h.1)
