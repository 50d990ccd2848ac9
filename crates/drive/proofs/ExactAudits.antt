-- An audit says that bytes are the trace of a run just where they are what `trace` writes of it.
use Rattle.std.proofs.Common.{◌≡◌, ◌≤◌, ◌^◌, ℕ, List, [], ◌∷◌, ◌++◌, length, Bool, true, false, Option, Some, None, inl, inr, refl, sym, ap, subst, ◌∙◌, arith}
use Rattle.std.specs.Prelude.{◌↔◌, if◌then◌else◌, codes, flat_map}
use Rattle.std.specs.Str.{bytes_eq}
use Rattle.w_outside.specs.Outside.{Known}
use Rattle.w_syntax.specs.declared.module.ExternType.{ExternType}
use Rattle.w_syntax.specs.declared.module.ExternType.TheVariants as imported
use Rattle.w_syntax.specs.declared.module.Import.{Import}
use Rattle.w_syntax.specs.declared.module.Module.{Module}
use Rattle.w_syntax.specs.declared.module.Tag.{Tag}
use Rattle.w_syntax.specs.Spells.{Spells}
use Rattle.w_rules.specs.Limits.{Within}
use Rattle.w_rules.specs.Sound.{Sound}
use Rattle.w_rules.specs.Spaces.{as_tag, tags_of}
use Rattle.w_rules.specs.Valid.{Valid, MemoryItem}
use Rattle.w_tables.specs.declared.entries.Printer.{Printer}
use Rattle.w_reduce.specs.Imports.{printer_as, printer_of, printers_of, and_first, Found, All, Missing}
use Rattle.w_reduce.specs.Program.{Program, IsProgram}
use Rattle.w_reduce.specs.Run.{Run}
use Rattle.w_reduce.specs.Start.{Started, Ready, NoPrinter, NoEntry, Exceeds, StartTraps, Start, with_imports}
use Rattle.w_reduce.specs.Store.{Store}
use Rattle.w_reduce.specs.Terms.{Term}
use Rattle.w_trace.specs.Fitting.{RunsAreOneShot, TracesFit}
use Rattle.w_trace.specs.Lines.{text_of, IsTextOf}
use Rattle.w_trace.specs.Once.{IsOneShot, uses_of}
use Rattle.w_trace.specs.Traces.{trace_of}
use Rattle.words.specs.Line.{most_steps}
use Rattle.words.specs.declared.request.Action.TheVariants.{Trace}
use Rattle.replies.specs.Answer.{Reply, OnFile, OnBytes, BytesGive, ActionGives, StartGives, AuditGives, AuditedGives, gives, traced, ok_trace, no_trace, unsound, differs, trapped, limit, no_printer, no_entry, start_limit_text, malformed, invalid, input_limit, limit_input}
use Rattle.w_spelled.specs.Tags.{TagsAreFew}
use Rattle.drive.specs.Audited.{AuditsAreExact}
use Rattle.drive.proofs.AuditAnswers.{audited_once}
use Rattle.drive.proofs.BuiltFiles.{refused, malformed_status, invalid_status}
use Rattle.drive.proofs.FilesOfModules.{only_gives}
use Rattle.drive.proofs.Programs.{one_program}
use Rattle.runs.proofs.Runs.{given_ready}

-- ## What `trace` writes with status 0

-- the trace of a run of a valid module that the bytes spell
record IsTracedRun (bytes : List ℕ) (steps : ℕ) (written : Reply) : Type 0 where
  source : Module
  spelled : Spells bytes source
  within : Within source
  valid : Valid source
  program : Program
  is_of : program.source ≡ source
  known : IsProgram program
  store : Store
  term : Term
  start : Start program ≡ Ready store term
  short : length bytes ≤ input_limit
  is : written ≡ traced (trace_of program store term steps)

module _ (bytes : List ℕ) (steps : ℕ) (written : Reply) (done : written.status ≡ 0) where
  of_start : length bytes ≤ input_limit → (m : Module) → Spells bytes m → Within m → Valid m → (p : Program) → p.source ≡ m → IsProgram p → (o : Started) → Start p ≡ o
      → StartGives trapped (λ s t reply. reply ≡ traced (trace_of p s t steps)) o written → IsTracedRun bytes steps written
  of_start short m spelled within valid p is known (Ready s t) start h =
      record { source = m; spelled = spelled; within = within; valid = valid; program = p; is_of = is; known = known; store = s; term = t; start = start; short = short; is = h }
  of_start short m spelled within valid p is known (NoPrinter i) start h = absurd (refused written (no_printer i) 3 h refl done)
  of_start short m spelled within valid p is known NoEntry start h = absurd (refused written no_entry 3 h refl done)
  of_start short m spelled within valid p is known (Exceeds name) start h = absurd (refused written (limit (start_limit_text name)) 8 h refl done)
  of_start short m spelled within valid p is known (StartTraps t) start h = absurd (refused written (trapped t) 0 h refl done)

  of_module : length bytes ≤ input_limit → BytesGive (gives (Trace steps)) bytes written → IsTracedRun bytes steps written
  of_module short (inl h) = let g = h.4 in of_start short h.0 h.1 h.2 h.3 g.0 g.1 g.2 (Start g.0) refl g.3
  of_module short (inr (inl h)) = let s = invalid_status h.2.0 in absurd (refused written (invalid h.2.0) s.0 h.2.2 s.1 done)
  of_module short (inr (inr h)) = absurd (refused written (malformed h.0) 2 h.2 (malformed_status h.0) done)

  of_bytes : OnBytes (ActionGives (Trace steps)) bytes written → IsTracedRun bytes steps written
  of_bytes (inl h) = of_module h.0 h.1
  of_bytes (inr h) = absurd (refused written limit_input 8 h.1 refl done)

-- ## What an audit gives

module _ (steps : ℕ) (p : Program) (s : Store) (t : Term) (bytes : List ℕ) where
  -- with status 0 they are the text of the run's trace
  ok_same : (reply : Reply) → AuditGives steps p s t bytes reply → reply.status ≡ 0 → bytes ≡ text_of (trace_of p s t steps)
  ok_same reply (inl h) done = absurd (refused reply (no_trace h.0) 12 h.2 refl done)
  ok_same reply (inr (x, is, inl h)) done = absurd (refused reply (unsound h.0) 12 h.2 refl done)
  ok_same reply (inr (x, is, inr (sound, inl h))) done = absurd (refused reply (differs h.0) 12 h.2 refl done)
  ok_same reply (inr (x, is, inr (sound, inr h))) done = is.same ∙ ap text_of h.0

  -- and that text gives status 0
  same_ok : IsTextOf (trace_of p s t steps) bytes → IsOneShot (uses_of (trace_of p s t steps).events) → (reply : Reply) → AuditGives steps p s t bytes reply → reply.status ≡ 0
  same_ok is sound reply h =
      ap (λ (r : Reply). r.status) (audited_once steps p s t bytes reply (ok_trace (Run p s t steps).store) h (inr (trace_of p s t steps, is, inr (sound, inr (refl, refl)))))

on_short : (Gives : List ℕ → Reply → Type 0) (bytes : List ℕ) (reply : Reply) → length bytes ≤ input_limit → OnBytes Gives bytes reply → Gives bytes reply
on_short Gives bytes reply short (inl h) = h.1
on_short Gives bytes reply short (inr h) = absurd (omega (arith, short, h.0))

-- ## Tags

-- what names a printer is a function
printer_no_tag : (m : Module) (name : List ℕ) (kind : ExternType) (p : Printer) → printer_as m name kind ≡ Some p → as_tag kind ≡ []
printer_no_tag m name (imported.Func x) p is = refl
printer_no_tag m name (imported.Table t) p is = refl
printer_no_tag m name (imported.Memory l) p is = refl
printer_no_tag m name (imported.Global g) p is = refl
printer_no_tag m name (imported.Tag t) p is = absurd (cc)

import_no_tag : (m : Module) (i : Import) (host : Bool) (p : Printer) → (if host then printer_as m i.item_name i.kind else None) ≡ Some p → as_tag i.kind ≡ []
import_no_tag m i true p is = printer_no_tag m i.item_name i.kind p is
import_no_tag m i false p is = absurd (cc)

one_no_tag : (m : Module) (i : Import) (is : List Import) (ps : List Printer) → ((qs : List Printer) → printers_of m is ≡ All qs → flat_map (λ (j : Import). as_tag j.kind) is ≡ [])
    → (o : Option Printer) (found : Found) → printer_of m i ≡ o → printers_of m is ≡ found → and_first o found ≡ All ps → flat_map (λ (j : Import). as_tag j.kind) (i ∷ is) ≡ []
one_no_tag m i is ps others (Some p) (All qs) one rest e =
    ap (λ (ts : List Tag). ts ++ flat_map (λ (j : Import). as_tag j.kind) is) (import_no_tag m i (bytes_eq i.module_name (codes "host")) p one) ∙ others qs rest
one_no_tag m i is ps others (Some p) (Missing k) one rest e = absurd (cc)
one_no_tag m i is ps others None found one rest e = absurd (cc)

no_tags : (m : Module) (is : List Import) (ps : List Printer) → printers_of m is ≡ All ps → flat_map (λ (i : Import). as_tag i.kind) is ≡ []
no_tags m [] ps h = refl
no_tags m (i ∷ is) ps h = one_no_tag m i is ps (λ qs e. no_tags m is qs e) (printer_of m i) (printers_of m is) refl refl h

-- a run that begins imports no tag
found_no_tags : (p : Program) (s : Store) (t : Term) (found : Found) → printers_of p.source p.source.imports ≡ found → with_imports p found ≡ Ready s t → tags_of p.source ≡ p.source.tags
found_no_tags p s t (All ps) is h = ap (λ (ts : List Tag). ts ++ p.source.tags) (no_tags p.source p.source.imports ps is)
found_no_tags p s t (Missing i) is h = absurd (cc)

-- ## Both together

-- a valid module is sound
valid_is_sound : (m : Module) → Valid m → Sound m
valid_is_sound m valid = record { items = λ x asked is. valid x is; memories = (valid MemoryItem tt).limits }

module _ (fit : TracesFit) (one_shot : RunsAreOneShot) (few : TagsAreFew) (steps : ℕ) (within : steps ≤ most_steps) (bytes : List ℕ) (written : Reply) (run : IsTracedRun bytes steps written) where
  sound : Sound run.program.source
  sound = subst Sound (sym run.is_of) (valid_is_sound run.source run.valid)

  out_is : written.out ≡ text_of (trace_of run.program run.store run.term steps)
  out_is = ap (λ (r : Reply). r.out) run.is

  few_tags : length (tags_of run.program.source) ≤ 2 ^ 32
  few_tags =
      let own = ap length (found_no_tags run.program run.store run.term (printers_of run.program.source run.program.source.imports) refl run.start) in
      let same = ap (λ (m : Module). length m.tags) run.is_of in
      let less = few bytes run.source run.spelled in
      omega (arith, own, same, less)

  is_text : (told : List ℕ) → told ≡ written.out → IsTextOf (trace_of run.program run.store run.term steps) told
  is_text told same = record { fits = fit run.program run.store run.term run.known sound run.start few_tags steps (omega (arith, within)); same = same ∙ out_is }

  exactly : (told : List ℕ) (reply : Reply) → AuditGives steps run.program run.store run.term told reply → (reply.status ≡ 0) ↔ (told ≡ written.out)
  exactly told reply h = (
    λ done. ok_same steps run.program run.store run.term told reply h done ∙ sym out_is,
    λ same. same_ok steps run.program run.store run.term told (is_text told same) (one_shot run.program run.store run.term run.known sound run.start steps) reply h,
  )

  -- of the same program
  of_program : (known : Known) (reply : Reply) → AuditedGives steps known run.source reply → OnFile known (AuditGives steps run.program run.store run.term) reply
  of_program known reply h =
      let same = one_program run.source h.0 run.program h.1 run.is_of h.2 run.known in
      given_ready trapped (λ s t. OnFile known (AuditGives steps run.program s t)) run.program run.store run.term reply run.start
      (subst (λ (p : Program). StartGives trapped (λ s t. OnFile known (AuditGives steps p s t)) (Start p) reply) same h.3)

  of_answer : (known : Known) (reply : Reply) → OnBytes (BytesGive (AuditedGives steps known)) bytes reply → OnFile known (AuditGives steps run.program run.store run.term) reply
  of_answer known reply h =
      of_program known reply (only_gives run.source run.within run.valid (AuditedGives steps known) reply bytes run.spelled (on_short (BytesGive (AuditedGives steps known)) bytes reply run.short h))

pub audits_exact : TracesFit → RunsAreOneShot → TagsAreFew → AuditsAreExact
audits_exact fit one_shot few files sources name other source steps written within h named told is short reply answer =
    let run = of_bytes h.bytes steps written h.done (subst (λ (k : Known). OnFile k (ActionGives (Trace steps)) written) h.told h.answer) in
    let audit = of_answer fit one_shot few steps within h.bytes written run (files other) reply
    (subst (λ (k : Known). OnFile k (BytesGive (AuditedGives steps (files other))) reply) named answer) in
    exactly fit one_shot few steps within h.bytes written run told reply
    (on_short (AuditGives steps run.program run.store run.term) told reply short (subst (λ (k : Known). OnFile k (AuditGives steps run.program run.store run.term) reply) is audit))
