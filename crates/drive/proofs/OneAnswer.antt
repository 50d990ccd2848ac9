-- What is told of a file leaves one answer.
use Rattle.std.proofs.Common.{◌≡◌, ℕ, List, [], ◌∷◌, ◌++◌, length, Bool, false, inl, inr, Result, Ok, Err, refl, sym, ap, subst, ◌∙◌, arith}
use Rattle.std.specs.Prelude.{◌≢◌}
use Rattle.words.specs.Request.{taken_by}
use Rattle.w_outside.specs.Outside.{Known, untold, missing, holds}
use Rattle.w_syntax.specs.declared.module.Module.{Module}
use Rattle.w_syntax.specs.Spells.{Spells}
use Rattle.w_decode.specs.Faults.{HasFault}
use Rattle.w_decode.specs.declared.fault.DecodeFault.{DecodeFault}
use Rattle.w_decode.proofs.ReadingExact.{spelled_exactly, fault_exactly, one_module}
use Rattle.w_items.specs.declared.fault.ValidFault.{ValidFault}
use Rattle.w_items.proofs.Faults.{one_fault as one_fault_of, no_fault as no_fault_of}
use Rattle.s_judge.proofs.OneJudgement.{one_judgement}
use Rattle.s_judge.specs.declared.fault.ScriptFault.{ScriptFault}
use Rattle.s_syntax.specs.declared.script.Script.{Script}
use Rattle.words.specs.declared.request.Action.{Action}
use Rattle.words.specs.declared.request.Action.TheVariants.{Check, Run as RunFor, Build, Dump, Assemble, Trace}
use Rattle.s_code.specs.Lowered.{lowered}
use Rattle.s_generate.specs.Generated.{generated as generated_script}
use Rattle.words.specs.Line.{on_file as line_on_file, on_files, audited, generated, bad}
use Rattle.w_words.proofs.Pieces.{text_is_right, least_is_one}
use Rattle.w_text.specs.Text.{Text, IsText}
use Rattle.w_text.proofs.Least.{one_module as one_text_module}
use Rattle.replies.specs.declared.file_kind.FileKind.{FileKind}
use Rattle.replies.specs.declared.file_kind.FileKind.TheVariants as file
use Rattle.replies.specs.Answer.{Reply, HasModuleFault, OnFileOr, OnBytesOr, FileGives, FilesGive, NamesGive, LinkGives, linked_reply, in_file, limit_input, BytesRefusal, GivenOf, BytesGive, TextGives, NotSpelled, NoText, ScriptGives, GivenAs, kind_of, wrong_text, ActionGives, TrapReply, gives, script_gives, StartGives, ProgramGives, AuditGives, AuditedGives, RunGives, Compiled, trapped, faulted, built, malformed, invalid, bad_script, generated_steps, ok_script}
use Rattle.drive.specs.Laws.{OneAnswer}
use Rattle.w_reduce.specs.Program.{Program}
use Rattle.w_reduce.specs.Start.{Started, Ready, NoPrinter, NoEntry, Exceeds, StartTraps, Start}
use Rattle.w_reduce.specs.Store.{Store}
use Rattle.w_reduce.specs.Terms.{Term}
use Rattle.w_linked.specs.Definitions.{definitions}
use Rattle.w_linked.specs.Imports.{TypeTests}
use Rattle.w_linked.specs.Starting.{StartL}
use Rattle.w_rules.specs.Limits.{Within}
use Rattle.w_rules.specs.Valid.{Valid}
use Rattle.drive.proofs.Programs.{one_program, one_tests}
use Rattle.drive.proofs.AuditAnswers.{audited_once}

-- ## A module has one fault

one_module_fault : (m : Module) (f g : ValidFault) → HasModuleFault m f → HasModuleFault m g → f ≡ g
one_module_fault m f g h k = one_fault_of m f g h.0 k.0 h.1 k.1

-- ## What a file has, a module or a fault

-- what a module gives is one
abbrev IsOne : (Reply → Type 0) → Type 0
IsOne Due = (r s : Reply) → Due r → Due s → r ≡ s

accepted_once : (Accepted : Module → Reply → Type 0) → ((m : Module) → IsOne (Accepted m)) → (m n : Module) (r s : Reply) → m ≡ n → Accepted m r → Accepted n s → r ≡ s
accepted_once Accepted one m n r s e h k = one m r s h (subst (λ (x : Module). Accepted x s) (sym e) k)

module _ (Reads : Module → Type 0) (NoModule : Reply → Type 0) (one_read : (m n : Module) → Reads m → Reads n → m ≡ n) (not_both : (m : Module) (r : Reply) → Reads m → NoModule r → ⊥) (one_none : IsOne NoModule) where
  moved : (m n : Module) (f : ValidFault) → Reads m → Reads n → HasModuleFault n f → HasModuleFault m f
  moved m n f s t h = subst (λ (k : Module). HasModuleFault k f) (one_read n m t s) h

  one_reply : (Accepted : Module → Reply → Type 0) → ((m : Module) → IsOne (Accepted m)) → IsOne (GivenOf Reads NoModule Accepted)
  one_reply Accepted one r s (inl h) (inl k) = accepted_once Accepted one h.0 k.0 r s (one_read h.0 k.0 h.1 k.1) h.4 k.4
  one_reply Accepted one r s (inl h) (inr (inl k)) = let f = moved h.0 k.0 k.2.0 h.1 k.1 k.2.1 in absurd (no_fault_of h.0 k.2.0 h.2 h.3 f.0 f.1)
  one_reply Accepted one r s (inl h) (inr (inr k)) = absurd (not_both h.0 s h.1 k)
  one_reply Accepted one r s (inr (inl h)) (inl k) = let f = moved k.0 h.0 h.2.0 k.1 h.1 h.2.1 in absurd (no_fault_of k.0 h.2.0 k.2 k.3 f.0 f.1)
  one_reply Accepted one r s (inr (inl h)) (inr (inl k)) = h.2.2 ∙ ap invalid (one_module_fault h.0 h.2.0 k.2.0 h.2.1 (moved h.0 k.0 k.2.0 h.1 k.1 k.2.1)) ∙ sym k.2.2
  one_reply Accepted one r s (inr (inl h)) (inr (inr k)) = absurd (not_both h.0 s h.1 k)
  one_reply Accepted one r s (inr (inr h)) (inl k) = absurd (not_both k.0 r k.1 h)
  one_reply Accepted one r s (inr (inr h)) (inr (inl k)) = absurd (not_both k.0 r k.1 h)
  one_reply Accepted one r s (inr (inr h)) (inr (inr k)) = one_none r s h k

module _ (say : TrapReply) (OfRun : Store → Term → Reply → Type 0) (one : (s : Store) (t : Term) → IsOne (OfRun s t)) where
  start_once : (o : Started) → IsOne (StartGives say OfRun o)
  start_once (Ready s t) q r h k = one s t q r h k
  start_once (NoPrinter i) q r h k = h ∙ sym k
  start_once NoEntry q r h k = h ∙ sym k
  start_once (Exceeds name) q r h k = h ∙ sym k
  start_once (StartTraps t) q r h k = h ∙ sym k

one_program_gives : (say : TrapReply) (OfRun : Program → Store → Term → Reply → Type 0) → ((p : Program) (s : Store) (t : Term) → IsOne (OfRun p s t)) → (m : Module) → IsOne (ProgramGives say OfRun m)
one_program_gives say OfRun one m q r h k =
    let same = one_program m k.0 h.0 k.1 h.1 k.2 h.2 in
    start_once say (OfRun h.0) (one h.0) (Start h.0) q r h.3 (subst (λ (p : Program). StartGives say (OfRun p) (Start p) r) same k.3)

one_run : (say : TrapReply) (steps : ℕ) (stats : Bool) (m : Module) → IsOne (RunGives say steps stats m)
one_run say steps stats m = one_program_gives say _ (λ p s t q r h k. h ∙ sym k) m

one_given : (action : Action) (m : Module) → IsOne (gives action m)
one_given Check m r s h k = h ∙ sym k
one_given (RunFor steps stats) m r s h k = one_run trapped steps stats m r s h k
one_given Build m r s h k = h ∙ sym k
one_given Dump m r s h k = h ∙ sym k
one_given Assemble m r s h k = h ∙ sym k
one_given (Trace steps) m r s h k = one_program_gives trapped _ (λ p s t q r h k. h ∙ sym k) m r s h k

-- ## Bytes

one_fault : (b : List ℕ) (f g : DecodeFault) → HasFault b f → HasFault b g → f ≡ g
one_fault b f g h k = let e : ◌≡◌ {A = Result Module DecodeFault} (Err f) (Err g) = sym ((fault_exactly b f).1 h) ∙ (fault_exactly b g).1 k in cc

spelled_or_not : (b : List ℕ) (m : Module) (r : Reply) → Spells b m → NotSpelled b r → ⊥
spelled_or_not b m r s h = let e : ◌≡◌ {A = Result Module DecodeFault} (Ok m) (Err h.0) = sym ((spelled_exactly b m).1 s) ∙ (fault_exactly b h.0).1 h.1 in absurd cc

one_malformed : (b : List ℕ) → IsOne (NotSpelled b)
one_malformed b r s h k = h.2 ∙ ap malformed (one_fault b h.0 k.0 h.1 k.1) ∙ sym k.2

bytes_once : (Accepted : Module → Reply → Type 0) → ((m : Module) → IsOne (Accepted m)) → (b : List ℕ) → IsOne (BytesGive Accepted b)
bytes_once Accepted one b = one_reply (Spells b) (NotSpelled b) (one_module b) (spelled_or_not b) (one_malformed b) Accepted one

-- ## Texts

one_wrong : (t : List ℕ) → IsOne (NoText t)
one_wrong t r s h k = h.2 ∙ ap wrong_text (least_is_one IsText t h.0 k.0 h.1 k.1) ∙ sym k.2

text_once : (action : Action) (t : List ℕ) → IsOne (TextGives (gives action) t)
text_once action t = one_reply (Text t) (NoText t) (one_text_module t) (λ m r h k. text_is_right IsText t k.0 (m, h) k.1) (one_wrong t) (gives action) (one_given action)

-- ## Scripts

compiled_once : (Accepted : Module → Reply → Type 0) → ((m : Module) → IsOne (Accepted m)) → (p : Script) → IsOne (Compiled Accepted p)
compiled_once Accepted one p r s (inl h) (inl k) = one (lowered p) r s h.1 k.1
compiled_once Accepted one p r s (inl h) (inr k) = absurd (omega (arith, h.0, k.0))
compiled_once Accepted one p r s (inr h) (inl k) = absurd (omega (arith, h.0, k.0))
compiled_once Accepted one p r s (inr h) (inr k) = h.1 ∙ sym k.1

script_given_once : (action : Action) (p : Script) → IsOne (script_gives action p)
script_given_once Check p r s h k = compiled_once (λ m reply. reply ≡ ok_script) (λ m r s h k. h ∙ sym k) p r s h k
script_given_once (RunFor steps stats) p r s h k = compiled_once (RunGives (faulted p) steps false) (one_run (faulted p) steps false) p r s h k
script_given_once Build p r s h k = compiled_once (λ m reply. reply ≡ built m) (λ m r s h k. h ∙ sym k) p r s h k
script_given_once Dump p r s h k = absurd h
script_given_once Assemble p r s h k = absurd h
script_given_once (Trace steps) p r s h k = absurd h

script_once : (Accepted : Script → Reply → Type 0) → ((p : Script) → IsOne (Accepted p)) → (b : List ℕ) → IsOne (ScriptGives Accepted b)
script_once Accepted one b r s (inl h) (inl k) =
    let e : ◌≡◌ {A = Result Script ScriptFault} (Ok h.0) (Ok k.0) = one_judgement b (Ok h.0) (Ok k.0) h.1 k.1 in
    let same : h.0 ≡ k.0 = cc in
    one h.0 r s h.2 (subst (λ (p : Script). Accepted p s) (sym same) k.2)
script_once Accepted one b r s (inl h) (inr k) = let e : ◌≡◌ {A = Result Script ScriptFault} (Ok h.0) (Err k.0) = one_judgement b (Ok h.0) (Err k.0) h.1 k.1 in absurd (cc)
script_once Accepted one b r s (inr h) (inl k) = let e : ◌≡◌ {A = Result Script ScriptFault} (Ok k.0) (Err h.0) = one_judgement b (Ok k.0) (Err h.0) k.1 h.1 in absurd (cc)
script_once Accepted one b r s (inr h) (inr k) =
    let e : ◌≡◌ {A = Result Script ScriptFault} (Err h.0) (Err k.0) = one_judgement b (Err h.0) (Err k.0) h.1 k.1 in
    let same : h.0 ≡ k.0 = cc in
    h.2 ∙ ap bad_script same ∙ sym k.2

-- ## What a file is

one_as : (kind : FileKind) (action : Action) (b : List ℕ) → IsOne (GivenAs kind action b)
one_as file.Module action b = bytes_once (gives action) (one_given action) b
one_as file.Script action b = script_once (script_gives action) (script_given_once action) b
one_as file.Text action b = text_once action b

one_done : (action : Action) (b : List ℕ) → IsOne (ActionGives action b)
one_done action b = one_as (kind_of (taken_by action) b) action b

-- ## Files

-- where a file that is too long gives this
module _ (too_long : Reply) (Gives : List ℕ → Reply → Type 0) where
  on_bytes : (b : List ℕ) → IsOne (Gives b) → IsOne (OnBytesOr too_long Gives b)
  on_bytes b one r s (inl h) (inl k) = one r s h.1 k.1
  on_bytes b one r s (inl h) (inr k) = absurd (omega (arith, h.0, k.0))
  on_bytes b one r s (inr h) (inl k) = absurd (omega (arith, h.0, k.0))
  on_bytes b one r s (inr h) (inr k) = h.1 ∙ sym k.1

  on_file : (known : Known) → known ≢ untold → ((b : List ℕ) → IsOne (Gives b)) → IsOne (OnFileOr too_long known Gives)
  on_file untold told one r s h k = absurd (told refl)
  on_file missing told one r s h k = h ∙ sym k
  on_file (holds b) told one r s h k = on_bytes b (one b) r s h k

-- ## Several files

linked_once : (steps : ℕ) (stats : Bool) (ms : List Module) → IsOne (LinkGives steps stats ms)
linked_once steps stats ms r s h k =
    h.2 ∙ ap (λ (t : TypeTests). linked_reply steps stats (StartL t ms)) (one_tests (definitions ms).types h.0 k.0 h.1 k.1) ∙ sym k.2

module _ (b : List ℕ) where
  not_refused : (m : Module) (r : Reply) → Spells b m → Within m → Valid m → BytesRefusal b r → ⊥
  not_refused m r s w v (inl k) =
      let f = subst (λ (n : Module). HasModuleFault n k.2.0) (one_module b k.0 m k.1 s) k.2.1 in
      no_fault_of m k.2.0 w v f.0 f.1
  not_refused m r s w v (inr k) = spelled_or_not b m r s k

  refused_once : IsOne (BytesRefusal b)
  refused_once r s h k = one_reply (Spells b) (NotSpelled b) (one_module b) (spelled_or_not b) (one_malformed b) (λ m reply. ⊥) (λ m r s h k. absurd h) r s (inr h) (inr k)

  file_once : (f : ℕ) (Next : Module → Reply → Type 0) → ((m : Module) → IsOne (Next m)) → IsOne (FileGives f Next b)
  file_once f Next one r s (inl h) (inl k) = accepted_once Next one h.0 k.0 r s (one_module b h.0 k.0 h.1 k.1) h.4 k.4
  file_once f Next one r s (inl h) (inr k) = absurd (not_refused h.0 k.0 h.1 h.2 h.3 k.1)
  file_once f Next one r s (inr h) (inl k) = absurd (not_refused k.0 h.0 k.1 k.2 k.3 h.1)
  file_once f Next one r s (inr h) (inr k) = h.2 ∙ ap (in_file f) (refused_once h.0 k.0 h.1 k.1) ∙ sym k.2

module _ (steps : ℕ) (stats : Bool) (files : List ℕ → Known) (told : (name : List ℕ) → files name ≢ untold) where
  files_once : (names : List (List ℕ)) (ms : List Module) → IsOne (FilesGive steps stats ms names files)
  files_once [] ms r s h k = linked_once steps stats ms r s h k
  files_once (name ∷ names) ms r s h k =
      on_file (in_file (length ms) limit_input) (FileGives (length ms) (λ m. FilesGive steps stats (ms ++ m ∷ []) names files)) (files name) (told name)
      (λ b. file_once b (length ms) (λ m. FilesGive steps stats (ms ++ m ∷ []) names files) (λ m. files_once names (ms ++ m ∷ []))) r s h k

  names_once : (names : List (List ℕ)) → IsOne (NamesGive steps stats names files)
  names_once names r s (inl h) (inl k) = files_once names [] r s h.1 k.1
  names_once names r s (inl h) (inr k) = absurd (omega (arith, h.0, k.0))
  names_once names r s (inr h) (inl k) = absurd (omega (arith, h.0, k.0))
  names_once names r s (inr h) (inr k) = h.1 ∙ sym k.1

-- ## Audits

audit_once : (steps : ℕ) (trace : Known) → trace ≢ untold → (m : Module) → IsOne (AuditedGives steps trace m)
audit_once steps trace told = one_program_gives trapped _ (λ p s t. on_file limit_input (AuditGives steps p s t) trace told (audited_once steps p s t))

-- ## Lines

pub one_answer : OneAnswer
one_answer (line_on_file name action) files told r s h k =
    on_file limit_input (ActionGives action) (files name) (told name) (one_done action) r s h k
one_answer (on_files names steps stats) files told r s h k = names_once steps stats files told names r s h k
one_answer (audited name trace steps) files told r s h k =
    on_file limit_input (BytesGive (AuditedGives steps (files trace))) (files name) (told name) (bytes_once (AuditedGives steps (files trace)) (audit_once steps (files trace) (told trace))) r s h k
one_answer (generated n) files told r s h k = one_done (RunFor generated_steps false) (generated_script n) r s h k
one_answer bad files told r s h k = h ∙ sym k
