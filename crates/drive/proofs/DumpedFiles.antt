-- What `dump` writes of a module is its text; so `asm` answers of a file of it what `build` answers of the module's file.
use Rattle.std.proofs.Common.{◌≡◌, ◌≤◌, ℕ, true, List, length, inl, inr, refl, sym, ap, subst, ◌∙◌}
use Rattle.std.specs.Prelude.{◌↔◌}
use Rattle.w_outside.specs.Outside.{Known, holds}
use Rattle.w_syntax.specs.declared.module.Module.{Module}
use Rattle.w_syntax.specs.Spells.{Spells}
use Rattle.w_rules.specs.Limits.{Within}
use Rattle.w_rules.specs.Valid.{Valid}
use Rattle.w_text.specs.Text.{Text, text_of}
use Rattle.w_spelled.proofs.ModulesGiven.{spelled_fits}
use Rattle.words.specs.Request.{taken_by}
use Rattle.words.specs.declared.request.Action.TheVariants.{Build, Dump, Assemble}
use Rattle.replies.specs.declared.file_kind.FileKind.TheVariants as file
use Rattle.replies.specs.Answer.{Reply, OnFile, OnBytes, BytesGive, ActionGives, gives, dumped, malformed, invalid, is_module, kind_of, module_or_script, input_limit, limit_input}
use Rattle.drive.specs.Dumped.{HoldsDumped, DumpedFilesAreBuilt}
use Rattle.drive.proofs.BuiltFiles.{refused, malformed_status, invalid_status}
use Rattle.drive.proofs.FilesOfModules.{file_gives, text_file_gives}

-- what was written is the text of a valid module that the bytes spell
record IsDumped (bytes : List ℕ) (written : Reply) : Type 0 where
  source : Module
  spelled : Spells bytes source
  within : Within source
  valid : Valid source
  is : written ≡ dumped source
  short : length bytes ≤ input_limit

module _ (bytes : List ℕ) (written : Reply) (done : written.status ≡ 0) where
  of_module : length bytes ≤ input_limit → BytesGive (gives Dump) bytes written → IsDumped bytes written
  of_module short (inl h) = record { source = h.0; spelled = h.1; within = h.2; valid = h.3; is = h.4; short = short }
  of_module short (inr (inl h)) = let s = invalid_status h.2.0 in absurd (refused written (invalid h.2.0) s.0 h.2.2 s.1 done)
  of_module short (inr (inr h)) = absurd (refused written (malformed h.0) 2 h.2 (malformed_status h.0) done)

  of_bytes : OnBytes (ActionGives Dump) bytes written → IsDumped bytes written
  of_bytes (inl h) = of_module h.0 h.1
  of_bytes (inr h) = absurd (refused written limit_input 8 h.1 refl done)

-- bytes that spell a module begin as modules do
begins : (bytes : List ℕ) (m : Module) → Spells bytes m → is_module bytes ≡ true
begins bytes m h = ap is_module h.2.parts

module _ (files sources : List ℕ → Known) (name source : List ℕ) (written : Reply) (h : HoldsDumped files name source sources written) (short : length written.out ≤ input_limit) where
  made : IsDumped h.bytes written
  made = of_bytes h.bytes written h.done (subst (λ (k : Known). OnFile k (ActionGives Dump) written) h.told h.answer)

  out_is : written.out ≡ text_of made.source
  out_is = ap (λ (r : Reply). r.out) made.is

  held : files name ≡ holds (text_of made.source)
  held = h.held ∙ ap holds out_is

  fits : length (text_of made.source) ≤ input_limit
  fits = subst (λ (l : List ℕ). length l ≤ input_limit) out_is short

  text : Text (text_of made.source) made.source
  text = spelled_fits h.bytes made.source h.small made.spelled

  kind : kind_of (taken_by Build) h.bytes ≡ file.Module
  kind = ap module_or_script (begins h.bytes made.source made.spelled)

  as_built : (reply : Reply) → OnFile (files name) (ActionGives Assemble) reply ↔ OnFile (sources source) (ActionGives Build) reply
  as_built reply =
      let assembled = text_file_gives made.source made.within made.valid Assemble reply (text_of made.source) text refl fits in
      let again = file_gives made.source made.within made.valid Build reply h.bytes made.spelled kind made.short in (
        λ a. subst (λ (k : Known). OnFile k (ActionGives Build) reply) (sym h.told) (again.1 (assembled.0 (subst (λ (k : Known). OnFile k (ActionGives Assemble) reply) held a))),
        λ b. subst (λ (k : Known). OnFile k (ActionGives Assemble) reply) (sym held) (assembled.1 (again.0 (subst (λ (k : Known). OnFile k (ActionGives Build) reply) h.told b))),
      )

pub dumped_files_are_built : DumpedFilesAreBuilt
dumped_files_are_built = as_built
