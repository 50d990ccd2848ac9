-- What the run of a script writes to out begins what the script prints, with the line of its value.
use Rattle.std.proofs.Common.{◌≡◌, ℕ, List, [], ◌++◌, Option, Bool, inl, inr, codes, refl, sym, ap, ◌∙◌, subst, append_assoc, append-nil}
use Rattle.std.specs.Fmt.{signed_decimal}
use Rattle.following.specs.Follows.{Going, Value, Fault as Faulty, Is, Limit, IsPrefix}
use Rattle.w_outside.specs.Outside.{Known, Grew, Rose}
use Rattle.words.specs.declared.request.Action.TheVariants.{Run as RunFor}
use Rattle.words.specs.Line.{on_file as line_on_file}
use Rattle.s_syntax.specs.declared.script.Script.{Script}
use Rattle.s_meaning.specs.Eval.{Ended, Eval, Follows}
use Rattle.replies.specs.declared.status.Status.{Status}
use Rattle.replies.specs.declared.status.Status.TheVariants as status
use Rattle.replies.specs.Answer.{Reply, Answer, line}
use Rattle.runs.specs.Delivery.{MayFail, WroteFront, WrotePart, Begins, BeginsAtMost, Stopped}
use Rattle.replies.specs.Stop.{Ends}
use Rattle.drive.specs.Meaning.{meaning_reply, result_of, MeansRun, HoldsScript, BeginsMeaning, StoppedRunsMean}
use Rattle.drive.proofs.AnswersMeant.{answers_mean}

-- what begins a text begins it with more behind it
begins_more : (part out printed more : List ℕ) → out ≡ printed → IsPrefix part (out ++ []) → IsPrefix part (printed ++ more)
begins_more part out printed more same h =
    (h.0 ++ more, ap (λ (l : List ℕ). l ++ more) (sym same ∙ sym (append-nil out) ∙ h.1) ∙ append_assoc part h.0 more)

module _ (p : Script) (N : ℕ) (out part : List ℕ) where
  -- where no value is last
  printed_only : (end : Ended) → Follows p N out end → IsPrefix part (out ++ []) → BeginsMeaning p part
  printed_only end f h = let q = f.prints in (q.0, begins_more part out (Eval p q.0).printed (result_of (Eval p q.0).outcome) q.1 h)

  begins : (end : Ended) → Follows p N out end → IsPrefix part (out ++ (meaning_reply end).out) → BeginsMeaning p part
  begins (Is Going) f h = printed_only (Is Going) f h
  begins (Is (Value z)) f h =
      let q = f.ends (Value z) (λ e. cc e) refl in
      let last = line (codes "= " ++ signed_decimal z) in (
        q.0,
        subst (λ (l : List ℕ). IsPrefix part l)
            (ap (λ (l : List ℕ). l ++ last) q.2 ∙ ap (λ (l : List ℕ). (Eval p q.0).printed ++ l) (sym (ap result_of q.1))) h,
      )
  begins (Is (Faulty x)) f h = printed_only (Is (Faulty x)) f h
  begins (Limit l) f h = printed_only (Limit l) f h

-- a first part of what is due begins so
part_means : (p : Script) (N : ℕ) (reply : Reply) (part : List ℕ) → MeansRun p N reply → IsPrefix part reply.out → BeginsMeaning p part
part_means p N reply part m h = begins p N m.0 part m.1 m.2 (subst (λ (r : Reply). IsPrefix part r.out) m.3 h)

-- and so does nothing
none_means : (p : Script) → BeginsMeaning p []
none_means p = (0, ((Eval p 0).printed ++ result_of (Eval p 0).outcome, refl))

module _ (files : List ℕ → Known) (name : List ℕ) (p : Script) (there : HoldsScript files name p) (steps : ℕ) (stats : Bool) (before now : ℕ)
    (a b c d : Option (List ℕ)) where
  abbrev Due : Reply → Type 0
  Due = MayFail (Rose before now) (Answer (line_on_file name (RunFor steps stats)) files)

  abbrev Wrote : Type 0
  Wrote = (text : List ℕ) × Grew a b text × BeginsMeaning p text

  of_due : (reply : Reply) → Due reply → (part : List ℕ) → IsPrefix part reply.out → BeginsMeaning p part
  of_due reply (inl h) part is = part_means p steps reply part (answers_mean files name p there steps stats reply h) is
  of_due reply (inr h) part is = (0, begins_more part [] [] _ refl (subst (λ (r : Reply). IsPrefix part r.out) h.1 is))

  of_front : (reply : Reply) → Due reply → WroteFront reply.out (Grew a b) → Wrote
  of_front reply due h = (h.0, h.2, of_due reply due h.0 (h.1.rest, sym h.1.joined))

  of_part : (reply : Reply) → Due reply → WrotePart reply (Grew a b) (Grew c d) → Wrote
  of_part reply due (inl h) = of_front reply due h.0
  of_part reply due (inr h) = (reply.out, h.0, of_due reply due reply.out ([], sym (append-nil reply.out)))

  of_begun : Begins Due (Grew a b) (Grew c d) → Wrote
  of_begun h = of_part h.0 h.1 h.2

  of_most : BeginsAtMost Due (Grew a b) (Grew c d) → Wrote
  of_most (inl h) = ([], h.0, none_means p)
  of_most (inr h) = of_begun h

  of_stopped : (s : Status) → (Ends s → ⊥) → Stopped s Due (Grew a b) (Grew c d) → Wrote
  of_stopped status.Done fault h = absurd (fault tt)
  of_stopped status.WriteFault fault h = of_begun h
  of_stopped status.OutOfMemory fault h = of_most h
  of_stopped _ fault h = absurd (fault tt)

pub stopped_runs_mean : StoppedRunsMean
stopped_runs_mean files name p there steps stats s fault before now a b c d h = of_stopped files name p there steps stats before now a b c d s fault h
