-- A run of what `build` writes of a script is alike the run of the script.
use Rattle.std.proofs.Common.{◌≡◌, ℕ, Bool, true, false, List, ◌++◌, inl, inr, refl, ap, subst, arith}
use Rattle.w_encode.specs.Canon.{Canon}
use Rattle.w_reduce.specs.Program.{Program}
use Rattle.w_reduce.specs.Start.{Start}
use Rattle.w_reduce.specs.Run.{Outcome, Running, Values, Traps, Limit, NoRule, RunState, Run}
use Rattle.words.specs.declared.request.Action.TheVariants.{Run as RunFor}
use Rattle.s_syntax.specs.declared.script.Script.{Script}
use Rattle.s_check.specs.Refusal.{Good}
use Rattle.s_code.specs.Lowered.{lowered}
use Rattle.s_valid.specs.Beginning.{first_store, first_term}
use Rattle.s_valid.proofs.Starts.{starts}
use Rattle.s_agrees.proofs.SpelledScripts.{scripts_agree}
use Rattle.replies.specs.Answer.{Reply, RunGives, StartGives, run_reply, with_stats, behind, end_reply, faulted, trapped, gives}
use Rattle.drive.specs.Meaning.{BuiltRunsAreAlike}
use Rattle.drive.proofs.FilesOfModules.{only_gives}
use Rattle.drive.proofs.Programs.{one_program}
use Rattle.runs.proofs.Runs.{given_ready}

-- the second writes the same to out as the first and ends with the same status
abbrev Alike : Reply → Reply → Type 0
Alike reply other = (other.out ≡ reply.out) × (other.status ≡ reply.status)

-- however traps are told
end_alike : (p : Script) (o : Outcome) → Alike (end_reply (faulted p) o) (end_reply trapped o)
end_alike p Running = (refl, refl)
end_alike p (Values vs) = (refl, refl)
end_alike p (Traps t) = (refl, refl)
end_alike p (Limit name) = (refl, refl)
end_alike p NoRule = (refl, refl)

-- behind the same text
behind_alike : (printed : List ℕ) (reply other : Reply) → Alike reply other → Alike (behind printed reply) (behind printed other)
behind_alike printed reply other h = (ap (λ (l : List ℕ). printed ++ l) h.0, h.1)

-- with statistics, which go to err
stats_alike : (stats : Bool) (r : RunState) (reply other : Reply) → Alike reply other → Alike reply (with_stats stats r other)
stats_alike true r reply other h = h
stats_alike false r reply other h = h

run_alike : (p : Script) (stats : Bool) (r : RunState) → Alike (run_reply (faulted p) false r) (run_reply trapped stats r)
run_alike p stats r =
    let reply = behind r.output (end_reply (faulted p) r.outcome) in
    let other = behind r.output (end_reply trapped r.outcome) in
    stats_alike stats r reply other (behind_alike r.output (end_reply (faulted p) r.outcome) (end_reply trapped r.outcome) (end_alike p r.outcome))

-- two runs of the module
runs_alike : (p : Script) → Good p → (steps : ℕ) (stats : Bool) (reply other : Reply) → RunGives (faulted p) steps false (lowered p) reply → RunGives trapped steps stats (lowered p) other → Alike reply other
runs_alike p good steps stats reply other h g =
    let q = h.0 in
    let same : g.0 ≡ q = one_program (lowered p) g.0 q g.1 h.1 g.2 h.2 in
    let begun = starts p good q h.1 in
    let r = Run q (first_store p.declarations) (first_term p.declarations) steps in
    let first : reply ≡ run_reply (faulted p) false r = given_ready (faulted p) _ q _ _ reply begun h.3 in
    let second : other ≡ run_reply trapped stats r = given_ready trapped _ q _ _ other begun (subst (λ (x : Program). StartGives trapped (λ s t o. o ≡ run_reply trapped stats (Run x s t steps)) (Start x) other) same g.3) in
    rw (first, second) (run_alike p stats r)

-- and so is a run of its file, whose bytes give what the module gives
pub built_runs : BuiltRunsAreAlike
built_runs p good small steps stats more reply other (inr h) a = absurd (omega (arith, h.0, small))
built_runs p good small steps stats more reply other (inl h) a =
    let agrees = scripts_agree p good small in
    runs_alike p good steps more reply other h.1 (only_gives (lowered p) agrees.within agrees.valid (gives (RunFor steps more)) other (Canon (lowered p)) agrees.spelled a)
