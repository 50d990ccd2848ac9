-- What the run of a script gives, told by the meaning of the script alone (Plotkin and Pretnar; `s_meaning`), and by the run of its module.
use Rattle.std.specs.Prelude.{◌≡◌, ◌≤◌, ℕ, ℤ, List, [], ◌++◌, codes, Bool, false, Option}
use Rattle.std.specs.Fmt.{signed_decimal}
use Rattle.following.specs.Follows.{Outcome, Going, Value, Fault as Faulty, Is, Limit, IsPrefix}
use Rattle.w_outside.specs.Outside.{Known, holds, Grew, Rose}
use Rattle.w_encode.specs.Canon.{Canon}
use Rattle.words.specs.declared.request.Action.TheVariants.{Run as RunFor}
use Rattle.words.specs.Line.{on_file}
use Rattle.s_syntax.specs.declared.script.Script.{Script}
use Rattle.s_check.specs.Refusal.{Good}
use Rattle.s_check.specs.Size.{Size, size_limit}
use Rattle.s_judge.specs.Judgements.{IsGood}
use Rattle.s_meaning.specs.Numbers.{Fault, DivZero, Overflow, Failed, Reused, Empty, Unhandled}
use Rattle.s_meaning.specs.Eval.{Ended, RunLimit, Frames, Handles, Conts, Eval, Follows}
use Rattle.s_code.specs.Lowered.{lowered}
use Rattle.replies.specs.Answer.{Reply, line, refusal, limit, running, behind, script_gives, is_module, ActionGives, Answer}
use Rattle.replies.specs.declared.status.Status.{Status}
use Rattle.runs.specs.Delivery.{MayFail, Stopped}
use Rattle.replies.specs.Stop.{Ends}

abbrev pub fault_name : Fault → List ℕ
fault_name DivZero = codes "divzero"
fault_name Overflow = codes "overflow"
fault_name Failed = codes "failed"
fault_name Reused = codes "reused"
fault_name Empty = codes "empty"
fault_name (Unhandled op) = codes "unhandled " ++ op

abbrev pub limit_name : RunLimit → List ℕ
limit_name Frames = codes "frames"
limit_name Handles = codes "handles"
limit_name Conts = codes "conts"

-- what the end of a script gives
abbrev pub meaning_reply : Ended → Reply
meaning_reply (Is Going) = running
meaning_reply (Is (Value z)) = record { out = line (codes "= " ++ signed_decimal z); err = []; status = 0 }
meaning_reply (Is (Faulty f)) = refusal (codes "fault " ++ fault_name f) 1
meaning_reply (Limit l) = limit (codes "limit " ++ limit_name l)

-- a run of so many reductions gives this: what it printed and how it ended follow the script
abbrev pub MeansRun : Script → ℕ → Reply → Type 0
MeansRun p N reply = (out : List ℕ) × (end : Ended) × Follows p N out end × (reply ≡ behind out (meaning_reply end))

-- so it is of each script that breaks no rule and isn't too large
abbrev pub RunsMean : Type 0
RunsMean = (p : Script) → Good p → Size p ≤ size_limit → (steps : ℕ) (stats : Bool) (reply : Reply) → script_gives (RunFor steps stats) p reply → MeansRun p steps reply

-- a run of a file of what `build` writes of a script prints the same and ends with the same status, whatever statistics are asked for
abbrev pub BuiltRunsAreAlike : Type 0
BuiltRunsAreAlike =
    (p : Script) → Good p → Size p ≤ size_limit → (steps : ℕ) (stats other_stats : Bool) (reply other : Reply)
    → script_gives (RunFor steps stats) p reply → ActionGives (RunFor steps other_stats) (Canon (lowered p)) other
    → (other.out ≡ reply.out) × (other.status ≡ reply.status)

-- the result line of a script that has ended with a value
abbrev pub result_of : Outcome ℤ Fault → List ℕ
result_of Going = []
result_of (Value z) = line (codes "= " ++ signed_decimal z)
result_of (Faulty f) = []

-- ## Files of scripts

-- the file of this name holds a script that breaks no rule and isn't too large
pub record HoldsScript (files : List ℕ → Known) (name : List ℕ) (p : Script) : Type 0 where
  pub bytes : List ℕ
  pub held : files name ≡ holds bytes
  pub no_module : is_module bytes ≡ false
  pub good : IsGood bytes p
  pub small : Size p ≤ size_limit

-- each answer to `run` on it is told by the meaning of the script
abbrev pub AnswersMean : Type 0
AnswersMean =
    (files : List ℕ → Known) (name : List ℕ) (p : Script) → HoldsScript files name p → (steps : ℕ) (stats : Bool) (reply : Reply)
    → Answer (on_file name (RunFor steps stats)) files reply → MeansRun p steps reply

-- the text begins what the script has printed after some number of steps, with the line of its value behind it
abbrev pub BeginsMeaning : Script → List ℕ → Type 0
BeginsMeaning p text = (n : ℕ) × IsPrefix text ((Eval p n).printed ++ result_of (Eval p n).outcome)

-- where a write fault or want of memory stops the call, what was written to out begins so; whether reading failed is told by two counts
abbrev pub StoppedRunsMean : Type 0
StoppedRunsMean =
    (files : List ℕ → Known) (name : List ℕ) (p : Script) → HoldsScript files name p → (steps : ℕ) (stats : Bool) (status : Status) → (Ends status → ⊥)
    → (faults_before faults_now : ℕ) (out_before out_now err_before err_now : Option (List ℕ))
    → Stopped status (MayFail (Rose faults_before faults_now) (Answer (on_file name (RunFor steps stats)) files)) (Grew out_before out_now) (Grew err_before err_now)
    → (text : List ℕ) × Grew out_before out_now text × BeginsMeaning p text
