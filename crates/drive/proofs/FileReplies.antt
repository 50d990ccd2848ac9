-- From what was read and judged, or generated, to what is due of a line.
use Rattle.std.proofs.Common.{◌≡◌, ◌≤◌, Bool, false, inl, inr, sym, subst, List, ℕ, length}
use Rattle.w_outside.specs.Outside.{Known}
use Rattle.words.specs.declared.request.Action.{Action}
use Rattle.words.specs.declared.request.Action.TheVariants.{Run as RunFor}
use Rattle.words.specs.Line.{Line, on_file as line_on_file, on_files, audited, generated}
use Rattle.s_generate.specs.Generated.{generated as generated_script}
use Rattle.replies.specs.Answer.{Answer, OnFile, ActionGives, AuditedGives, BytesGive, NamesGive, Reply, generated_steps, input_limit, limit_input}
use Rattle.runs.specs.Delivery.{MayFail}
use Rattle.intake.specs.Reading.{FileRefusal, MayHold}
use Rattle.traces.proofs.ReadFiles.{on_file, refusal_on_file}

-- what a file gives is the answer to its line
module _ (line : Line) (name : List ℕ) (action : Action) (files : List ℕ → Known) (failed : Type 0) (asks : line ≡ line_on_file name action) where
  of_line : (r : Reply) → MayFail failed (OnFile (files name) (ActionGives action)) r → MayFail failed (Answer line files) r
  of_line r (inl h) = inl (subst (λ (l : Line). Answer l files r) (sym asks) h)
  of_line r (inr h) = inr h

  pub unread : (r : Reply) → FileRefusal (files name) failed r → MayFail failed (Answer line files) r
  unread r h = of_line r (refusal_on_file limit_input (ActionGives action) (files name) failed r h)

  module _ (slice bytes : List ℕ) (same : slice ≡ bytes) (may : MayHold (files name) bytes) (short : length bytes ≤ input_limit) where
    -- what bytes give that were read
    pub acted : (r : Reply) → ActionGives action slice r → MayFail failed (Answer line files) r
    acted r h =
        of_line r (inl (on_file limit_input (ActionGives action) (files name) bytes r may short (subst (λ (l : List ℕ). ActionGives action l r) same h)))

-- what the run of a generated script gives is the answer to its line
pub generated_run : (line : Line) (number : ℕ) (files : List ℕ → Known) (failed : Type 0) → line ≡ generated number
    → (r : Reply) → ActionGives (RunFor generated_steps false) (generated_script number) r → MayFail failed (Answer line files) r
generated_run line number files failed asks r h = inl (subst (λ (l : Line). Answer l files r) (sym asks) h)

-- what names give is the answer to a line of them
pub named : (line : Line) (names : List (List ℕ)) (steps : ℕ) (stats : Bool) (files : List ℕ → Known) (failed : Type 0) → line ≡ on_files names steps stats
    → (r : Reply) → MayFail failed (NamesGive steps stats names files) r → MayFail failed (Answer line files) r
named line names steps stats files failed asks r (inl h) = inl (subst (λ (l : Line). Answer l files r) (sym asks) h)
named line names steps stats files failed asks r (inr h) = inr h

-- what a file gives with a second one that is to be its trace is the answer to the line that audits it
pub audited_file : (line : Line) (name trace : List ℕ) (steps : ℕ) (files : List ℕ → Known) (failed : Type 0) → line ≡ audited name trace steps
    → (r : Reply) → MayFail failed (OnFile (files name) (BytesGive (AuditedGives steps (files trace)))) r → MayFail failed (Answer line files) r
audited_file line name trace steps files failed asks r (inl h) = inl (subst (λ (l : Line). Answer l files r) (sym asks) h)
audited_file line name trace steps files failed asks r (inr h) = inr h
