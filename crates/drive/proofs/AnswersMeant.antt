-- An answer to `run` on a file of a script is told by the script's meaning.
use Rattle.std.proofs.Common.{◌≡◌, ◌≤◌, ℕ, Bool, false, List, inl, inr, Result, Ok, Err, refl, subst, arith}
use Rattle.w_outside.specs.Outside.{Known, holds}
use Rattle.words.specs.declared.request.Action.TheVariants.{Run as RunFor}
use Rattle.s_syntax.specs.declared.script.Script.{Script}
use Rattle.s_check.specs.Size.{Size, size_limit}
use Rattle.s_judge.specs.Judgements.{IsGood}
use Rattle.s_judge.specs.declared.fault.ScriptFault.{ScriptFault}
use Rattle.s_judge.proofs.OneJudgement.{one_judgement}
use Rattle.replies.specs.declared.file_kind.FileKind.TheVariants as file
use Rattle.replies.specs.Answer.{Reply, OnFile, ScriptGives, ActionGives, script_gives, is_module}
use Rattle.drive.specs.Meaning.{MeansRun, AnswersMean}
use Rattle.drive.proofs.MeaningsOfRuns.{runs_mean}
use Rattle.drive.proofs.WhatActionsGive.{is_then_script, given_of}

module _ (bytes : List ℕ) (p : Script) (good : IsGood bytes p) (small : Size p ≤ size_limit) (steps : ℕ) (stats : Bool) (reply : Reply) where
  of_script : ScriptGives (script_gives (RunFor steps stats)) bytes reply → MeansRun p steps reply
  of_script (inl k) =
      let e : ◌≡◌ {A = Result Script ScriptFault} (Ok k.0) (Ok p) = one_judgement bytes (Ok k.0) (Ok p) k.1 good in
      let same : k.0 ≡ p = cc in
      runs_mean p good.good small steps stats reply (subst (λ (q : Script). script_gives (RunFor steps stats) q reply) same k.2)
  of_script (inr k) =
      let e : ◌≡◌ {A = Result Script ScriptFault} (Ok p) (Err k.0) = one_judgement bytes (Ok p) (Err k.0) good k.1 in absurd (cc)

  of_bytes : is_module bytes ≡ false → ActionGives (RunFor steps stats) bytes reply → MeansRun p steps reply
  of_bytes script h = of_script (given_of (RunFor steps stats) bytes file.Script (is_then_script (RunFor steps stats) bytes refl script) reply h)

  of_file : is_module bytes ≡ false → OnFile (holds bytes) (ActionGives (RunFor steps stats)) reply → MeansRun p steps reply
  of_file script (inl h) = of_bytes script h.1
  of_file script (inr h) = let short = good.short in absurd (omega (arith, short, h.0))

pub answers_mean : AnswersMean
answers_mean files name p there steps stats reply a =
    of_file there.bytes p there.good there.small steps stats reply there.no_module
    (subst (λ (k : Known). OnFile k (ActionGives (RunFor steps stats)) reply) there.held a)
