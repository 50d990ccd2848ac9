-- The runs of a script's module, for each number of reductions: they follow the script, if each of its steps is matched.
use Rattle.std.proofs.Common.{◌≡◌, ℕ, ℤ, zero, suc, ◌+◌, ◌≤◌, Bool, List, [], ◌++◌, Option, Some, None, refl, sym, ap, ◌∙◌, subst, append-nil}
use Rattle.std.specs.Prelude.{◌≢◌}
use Rattle.following.specs.Follows.{Going, End, Is, Limit, IsPrefix, after, Follows}
use Rattle.following.specs.Simulation.{Machine}
use Rattle.following.specs.Steps as steps
use Rattle.following.specs.Steps.{Stops, Over, Reducing, Reductions, StepSimulation, ending_before}
use Rattle.following.proofs.StepsOfTerms.{follows_term}
use Rattle.lists.specs.Rows.{Row, ε, ◌▹◌}
use Rattle.w_reduce.specs.Program.{Program}
use Rattle.w_reduce.specs.Reduce as machine
use Rattle.w_reduce.specs.Reduced as reduced
use Rattle.w_reduce.specs.Reduced.{Went, Trapped, Limited, Ended, Stuck}
use Rattle.w_reduce.specs.Run.{Outcome, Running, Values, Traps, Limit as LimitMet, NoRule, RunState, Run, continued, outcome_by, state_at, after_reduction}
use Rattle.w_reduce.specs.Store.{Store}
use Rattle.w_reduce.specs.Terms.{Term}
use Rattle.w_reduce.specs.Values.{Val, I32, I64, Null, Func, Cont}
use Rattle.s_syntax.specs.declared.script.Declaration.{Declaration}
use Rattle.s_syntax.specs.declared.script.Script.{Script}
use Rattle.s_meaning.specs.Numbers.{Fault}
use Rattle.s_meaning.specs.Terms.{Configuration}
use Rattle.s_meaning.specs.Steps.{step}
use Rattle.s_meaning.specs.Eval as eval
use Rattle.s_meaning.specs.Eval.{Ended as ScriptEnd, Passes}
use Rattle.s_agrees.specs.Agrees.{limit_of, end_of, end_of_values, end_of_fault, fault_of}
use Rattle.s_agrees.proofs.Paths.{program_of}
use Rattle.s_agrees.proofs.WithinLimits.{Config, at, reduced_to, reduce}

-- no values and no trap end as a run that goes on
values_end : (vs : Row Val) → end_of_values vs ≢ Some (Is Going)
values_end ε e = cc e
values_end (ε ▹ I64 n) e = cc e
values_end (ε ▹ I32 n) e = cc e
values_end (ε ▹ Null) e = cc e
values_end (ε ▹ Func a) e = cc e
values_end (ε ▹ Cont a) e = cc e
values_end ((vs ▹ u) ▹ I64 n) e = cc e
values_end ((vs ▹ u) ▹ I32 n) e = cc e
values_end ((vs ▹ u) ▹ Null) e = cc e
values_end ((vs ▹ u) ▹ Func a) e = cc e
values_end ((vs ▹ u) ▹ Cont a) e = cc e

fault_end : (f : Option Fault) → end_of_fault f ≢ Some (Is Going)
fault_end None e = cc e
fault_end (Some f) e = cc e

only_running : (ds : List Declaration) (o : Outcome) → end_of ds o ≡ Some (Is Going) → o ≡ Running
only_running ds Running e = refl
only_running ds (Values vs) e = absurd (values_end vs e)
only_running ds (Traps t) e = absurd (fault_end (fault_of ds t) e)
only_running ds (LimitMet name) e = absurd (cc)
only_running ds NoRule e = absurd (cc)

module _ (p : Script) (matches : ℕ → ℕ → Bool) where
  abbrev P : Program
  P = program_of p matches

  -- what a configuration has come to without a further reduction
  ending_is : (x : reduced.Reduced) → end_of p.declarations (outcome_by x) ≡ ending_before (reduced_to p.declarations x)
  ending_is (Went o s t) = refl
  ending_is (Trapped t) = refl
  ending_is (Limited name) = refl
  ending_is (Ended vs) = refl
  ending_is Stuck = refl

  abbrev runs : Machine ℤ Fault eval.RunLimit
  runs = record {
    State = RunState;
    next = λ r. continued P r r.outcome;
    out = λ r. r.output;
    ending = λ r. end_of p.declarations r.outcome;
  }

  went_by : (r : RunState) (o : List ℕ) (y : Config) (x : reduced.Reduced) → reduced_to p.declarations x ≡ steps.Went o y
      → let m = after_reduction P r x in (at m.store m.term ≡ y) × (m.output ≡ r.output ++ o) × (end_of p.declarations m.outcome ≡ ending_before (reduce p matches y))
  went_by r o y (Went o' s t) e =
      let is : at s t ≡ y = cc in let printed : o' ≡ o = cc in
      (is, ap (λ (l : List ℕ). r.output ++ l) printed, ending_is (machine.reduce P s t) ∙ ap (λ (z : Config). ending_before (reduce p matches z)) is)
  went_by r o y (Trapped t) e = absurd (cc)
  went_by r o y (Limited name) e = absurd (cc)
  went_by r o y (Ended vs) e = absurd (cc)
  went_by r o y Stuck e = absurd (cc)

  stopped_by : (r : RunState) (e : Option (End ℤ Fault eval.RunLimit)) (x : reduced.Reduced) → reduced_to p.declarations x ≡ Stops e
      → let m = after_reduction P r x in (m.output ≡ r.output) × (end_of p.declarations m.outcome ≡ e)
  stopped_by r e (Went o s t) q = absurd (cc)
  stopped_by r e (Trapped t) q = let same' : end_of_fault (fault_of p.declarations t) ≡ e = cc in (refl, same')
  stopped_by r e (Limited name) q = let same' : Some (Limit (limit_of name)) ≡ e = cc in (refl, same')
  stopped_by r e (Ended vs) q = absurd (cc)
  stopped_by r e Stuck q = absurd (cc)

  next_is : (r : RunState) → end_of p.declarations r.outcome ≡ Some (Is Going) → continued P r r.outcome ≡ after_reduction P r (machine.reduce P r.store r.term)
  next_is r ending = ap (continued P r) (only_running p.declarations r.outcome ending)

  rests_by : (r : RunState) (e : End ℤ Fault eval.RunLimit) (o : Outcome) → end_of p.declarations o ≡ Some e → e ≢ Is Going → continued P r o ≡ r
  rests_by r e Running ending never = absurd (never (let same' : Is Going ≡ e = cc in sym same'))
  rests_by r e (Values vs) ending never = refl
  rests_by r e (Traps t) ending never = refl
  rests_by r e (LimitMet name) ending never = refl
  rests_by r e NoRule ending never = refl

  keeps_reduction : (r : RunState) (x : reduced.Reduced) → IsPrefix r.output (after_reduction P r x).output
  keeps_reduction r (Went o s t) = (o, refl)
  keeps_reduction r (Trapped t) = ([], sym (append-nil r.output))
  keeps_reduction r (Limited name) = ([], sym (append-nil r.output))
  keeps_reduction r (Ended vs) = ([], sym (append-nil r.output))
  keeps_reduction r Stuck = ([], sym (append-nil r.output))

  keeps_by : (r : RunState) (o : Outcome) → IsPrefix r.output (continued P r o).output
  keeps_by r Running = keeps_reduction r (machine.reduce P r.store r.term)
  keeps_by r (Values vs) = ([], sym (append-nil r.output))
  keeps_by r (Traps t) = ([], sym (append-nil r.output))
  keeps_by r (LimitMet name) = ([], sym (append-nil r.output))
  keeps_by r NoRule = ([], sym (append-nil r.output))

  reducing : Reducing runs Config (reduce p matches)
  reducing = record {
    term = λ r. at r.store r.term;
    went = λ r o y ending e. subst (λ (m : RunState). (at m.store m.term ≡ y) × (m.output ≡ r.output ++ o) × (end_of p.declarations m.outcome ≡ ending_before (reduce p matches y)))
        (sym (next_is r ending)) (went_by r o y (machine.reduce P r.store r.term) e);
    stopped = λ r e ending never f. subst (λ (m : RunState). (m.output ≡ r.output) × (end_of p.declarations m.outcome ≡ e)) (sym (next_is r ending)) (stopped_by r e (machine.reduce P r.store r.term) f);
    rests = λ r e ending never. rests_by r e r.outcome ending never;
    keeps = λ r. keeps_by r r.outcome;
  }

  -- a run is what so many turns of the machine come to
  run_after : (s : Store) (t : Term) (N : ℕ) → after runs.next (state_at P 0 [] s t) N ≡ Run P s t N
  run_after s t zero = refl
  run_after s t (suc N) = ap (λ (r : RunState). continued P r r.outcome) (run_after s t N)

  -- the runs from a configuration that comes to stand for one of the script
  pub follows_by : (r : StepSimulation {V = ℤ} {F = Fault} {L = eval.RunLimit} (step p) Passes (reduce p matches)) (σ : Configuration) (s : Store) (t : Term) (k : ℕ) (y : Config)
      → Reductions (reduce p matches) (at s t) [] k y → r.Related σ y → k + r.potential σ y ≤ 64 → (N : ℕ)
      → (e : ScriptEnd) × (end_of p.declarations (Run P s t N).outcome ≡ Some e)
      × Follows ℤ Fault eval.RunLimit eval.Evaluated (after (steps.step_on (step p)) (steps.evaluated σ)) (λ q. q.printed) (λ q. q.outcome) (λ l q. Passes l q.term) N (Run P s t N).output e
  unfolding reducing
  follows_by r σ s t k y path related cost N =
      let m0 : RunState = state_at P 0 [] s t in
      let all = follows_term ℤ Fault eval.RunLimit Configuration Config (step p) Passes (reduce p matches) runs reducing r σ m0 k y refl (ending_is (machine.reduce P s t)) path related cost N in
      subst (λ (q : RunState). (e : ScriptEnd) × (end_of p.declarations q.outcome ≡ Some e)
      × Follows ℤ Fault eval.RunLimit eval.Evaluated (after (steps.step_on (step p)) (steps.evaluated σ)) (λ q. q.printed) (λ q. q.outcome) (λ l q. Passes l q.term) N q.output e) (run_after s t N) all
