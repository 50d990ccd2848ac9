-- What `build` writes is the canonical spelling of a module that is valid and within its limits; so the program takes a file of it.
use Rattle.std.proofs.Common.{◌≡◌, ◌≤◌, ℕ, suc, Bool, true, false, List, [], length, inl, inr, refl, sym, ap, subst, ◌∙◌, arith}
use Rattle.std.specs.Prelude.{◌↔◌}
use Rattle.w_outside.specs.Outside.{Known, untold, missing, holds}
use Rattle.w_syntax.specs.declared.module.Module.{Module}
use Rattle.w_syntax.specs.Spells.{Spells}
use Rattle.w_decode.specs.declared.fault.DecodeFault.{DecodeFault}
use Rattle.w_decode.specs.declared.fault.DecodeFault.TheVariants as decode
use Rattle.w_rules.specs.Limits.{Within}
use Rattle.w_rules.specs.Valid.{Valid}
use Rattle.w_items.specs.declared.fault.ValidFault.{ValidFault}
use Rattle.w_items.specs.declared.fault.ValidFault.TheVariants as valid
use Rattle.w_encode.specs.Canon.{Canon}
use Rattle.w_encode.proofs.Canonical.{canon_spells}
use Rattle.words.specs.declared.request.Action.TheVariants.{Check, Build}
use Rattle.s_syntax.specs.declared.script.Script.{Script}
use Rattle.s_check.specs.Refusal.{Good}
use Rattle.s_judge.specs.declared.fault.ScriptFault.{ScriptFault}
use Rattle.s_judge.specs.declared.fault.ScriptFault.TheVariants as script
use Rattle.s_code.specs.Lowered.{lowered}
use Rattle.s_agrees.proofs.SpelledScripts.{scripts_agree}
use Rattle.replies.specs.declared.file_kind.FileKind.TheVariants as file
use Rattle.replies.specs.Answer.{Reply, OnFile, OnBytes, BytesGive, ScriptGives, ActionGives, GivenAs, module_or_script, script_gives, gives, built, malformed, invalid, bad_script, ok_module, is_module, input_limit, limit_input, limit_size, read_fault}
use Rattle.drive.specs.Built.{HoldsBuilt, BuildIsIdempotent, BuiltFilesAreAccepted, BuiltScriptsAreShort}
use Rattle.drive.proofs.FilesOfModules.{file_gives}
use Rattle.drive.proofs.WhatActionsGive.{is_then_script, given_of}

-- ## Refusals have a status of their own

pub refused : (written reply : Reply) (n : ℕ) → written ≡ reply → reply.status ≡ suc n → written.status ≡ 0 → ⊥
refused written reply n is status done = let e = ap (λ (r : Reply). r.status) is in absurd (omega (arith, e, status, done))

pub malformed_status : (f : DecodeFault) → (malformed f).status ≡ suc 2
malformed_status decode.Header = refl
malformed_status (decode.Frame i) = refl
malformed_status (decode.Content i) = refl
malformed_status decode.Counts = refl
malformed_status decode.OutOfMemory = refl

pub invalid_status : (f : ValidFault) → (n : ℕ) × ((invalid f).status ≡ suc n)
invalid_status (valid.Limit name) = (8, refl)
invalid_status (valid.TypeAt i) = (3, refl)
invalid_status (valid.Import i) = (3, refl)
invalid_status (valid.Table i) = (3, refl)
invalid_status valid.Memory = (3, refl)
invalid_status (valid.Tag i) = (3, refl)
invalid_status (valid.Global i) = (3, refl)
invalid_status (valid.Element i) = (3, refl)
invalid_status (valid.Data i) = (3, refl)
invalid_status valid.Start = (3, refl)
invalid_status (valid.Export i) = (3, refl)
invalid_status (valid.Function i) = (3, refl)
invalid_status valid.OutOfMemory = (3, refl)

script_status : (f : ScriptFault) → (n : ℕ) × ((bad_script f).status ≡ suc n)
script_status script.TooLong = (8, refl)
script_status (script.Lex i) = (4, refl)
script_status (script.Parse i) = (4, refl)
script_status script.Deep = (4, refl)
script_status (script.Rule d r) = (4, refl)
script_status script.OutOfMemory = (4, refl)

-- ## What was written

-- a module was
record IsModule (written : Reply) : Type 0 where
  source : Module
  spelled : Spells (Canon source) source
  within : Within source
  valid : Valid source
  is : written ≡ built source

module _ (written : Reply) (done : written.status ≡ 0) where
  of_module : (bytes : List ℕ) → length bytes ≤ input_limit → BytesGive (gives Build) bytes written → IsModule written
  of_module bytes short (inl h) = record { source = h.0; spelled = canon_spells bytes h.0 h.1 (omega (arith, short)); within = h.2; valid = h.3; is = h.4 }
  of_module bytes short (inr (inl h)) = let s = invalid_status h.2.0 in absurd (refused written (invalid h.2.0) s.0 h.2.2 s.1 done)
  of_module bytes short (inr (inr h)) = absurd (refused written (malformed h.0) 2 h.2 (malformed_status h.0) done)

  of_good : (p : Script) → Good p → script_gives Build p written → IsModule written
  of_good p good (inl h) =
      let agrees = scripts_agree p good h.0 in
      record { source = lowered p; spelled = agrees.spelled; within = agrees.within; valid = agrees.valid; is = h.1 }
  of_good p good (inr h) = absurd (refused written limit_size 8 h.1 refl done)

  of_script : (bytes : List ℕ) → ScriptGives (script_gives Build) bytes written → IsModule written
  of_script bytes (inl h) = of_good h.0 h.1.good h.2
  of_script bytes (inr h) = let s = script_status h.0 in absurd (refused written (bad_script h.0) s.0 h.2 s.1 done)

  of_either : (bytes : List ℕ) → length bytes ≤ input_limit → (begins : Bool) → GivenAs (module_or_script begins) Build bytes written → IsModule written
  of_either bytes short true h = of_module bytes short h
  of_either bytes short false h = of_script bytes h

  of_bytes : (bytes : List ℕ) → OnBytes (ActionGives Build) bytes written → IsModule written
  of_bytes bytes (inl h) = of_either bytes h.0 (is_module bytes) h.1
  of_bytes bytes (inr h) = absurd (refused written limit_input 8 h.1 refl done)

  of_file : (known : Known) → OnFile known (ActionGives Build) written → IsModule written
  of_file untold h = of_bytes h.0 h.1
  of_file missing h = absurd (refused written read_fault 5 h refl done)
  of_file (holds bytes) h = of_bytes bytes h

-- ## What a file of it gives

module _ (files : List ℕ → Known) (name : List ℕ) (written : Reply) (h : HoldsBuilt files name written) (short : length written.out ≤ input_limit) where
  made : IsModule written
  made = of_file written h.done (h.sources h.source) h.answer

  out_is : written.out ≡ Canon made.source
  out_is = ap (λ (r : Reply). r.out) made.is

  held : files name ≡ holds (Canon made.source)
  held = h.held ∙ ap holds out_is

  fits : length (Canon made.source) ≤ input_limit
  fits = subst (λ (l : List ℕ). length l ≤ input_limit) out_is short

  again : (reply : Reply) → OnFile (files name) (ActionGives Build) reply ↔ (reply ≡ written)
  again reply =
      let g = file_gives made.source made.within made.valid Build reply (Canon made.source) made.spelled refl fits in (
        λ a. g.0 (subst (λ (k : Known). OnFile k (ActionGives Build) reply) held a) ∙ sym made.is,
        λ e. subst (λ (k : Known). OnFile k (ActionGives Build) reply) (sym held) (g.1 (e ∙ made.is)),
      )

  accepted : (reply : Reply) → OnFile (files name) (ActionGives Check) reply ↔ (reply ≡ ok_module)
  accepted reply =
      let g = file_gives made.source made.within made.valid Check reply (Canon made.source) made.spelled refl fits in (
        λ a. g.0 (subst (λ (k : Known). OnFile k (ActionGives Check) reply) held a),
        λ e. subst (λ (k : Known). OnFile k (ActionGives Check) reply) (sym held) (g.1 e),
      )

pub build_is_idempotent : BuildIsIdempotent
build_is_idempotent = again

pub built_files_are_accepted : BuiltFilesAreAccepted
built_files_are_accepted = accepted

-- ## Of a script

nothing_written : (written reply : Reply) → written ≡ reply → reply.out ≡ [] → length written.out ≤ input_limit
nothing_written written reply is none = let e : length written.out ≡ 0 = ap length (ap (λ (r : Reply). r.out) is ∙ none) in omega (arith, e)

script_writes_nothing : (f : ScriptFault) → (bad_script f).out ≡ []
script_writes_nothing script.TooLong = refl
script_writes_nothing (script.Lex i) = refl
script_writes_nothing (script.Parse i) = refl
script_writes_nothing script.Deep = refl
script_writes_nothing (script.Rule d r) = refl
script_writes_nothing script.OutOfMemory = refl

module _ (bytes : List ℕ) (written : Reply) where
  short_good : (p : Script) → Good p → script_gives Build p written → length written.out ≤ input_limit
  short_good p good (inl h) = subst (λ (r : Reply). length r.out ≤ input_limit) (sym h.1) (scripts_agree p good h.0).short
  short_good p good (inr h) = nothing_written written limit_size h.1 refl

  short_script : ScriptGives (script_gives Build) bytes written → length written.out ≤ input_limit
  short_script (inl h) = short_good h.0 h.1.good h.2
  short_script (inr h) = nothing_written written (bad_script h.0) h.2 (script_writes_nothing h.0)

  short_bytes : is_module bytes ≡ false → OnBytes (ActionGives Build) bytes written → length written.out ≤ input_limit
  short_bytes script (inl h) = short_script (given_of Build bytes file.Script (is_then_script Build bytes refl script) written h.1)
  short_bytes script (inr h) = nothing_written written limit_input h.1 refl

pub built_scripts_are_short : BuiltScriptsAreShort
built_scripts_are_short files name bytes written told script a =
    short_bytes bytes written script (subst (λ (k : Known). OnFile k (ActionGives Build) written) told a)
