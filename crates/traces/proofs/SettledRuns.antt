-- A machine's run told step by step.
use Rattle.std.proofs.Common.{◌≡◌, ◌≤◌, ◌+◌, ◌-◌, ℕ, List, Option, Some, None, refl, sym, ap, subst, ◌∙◌, arith}
use Rattle.w_reduce.specs.Program.{Program}
use Rattle.w_reduce.specs.Run.{Running, Run}
use Rattle.w_reduce.specs.Store.{Store}
use Rattle.w_reduce.specs.Terms.{Term}
use Rattle.w_trace.specs.Events.{Events}
use Rattle.w_trace.proofs.Runs.{no_more_events}
use Rattle.w_configuration.specs.declared.stop.RunStop.{RunStop}
use Rattle.w_machine.specs.Beginning.{Begins}
use Rattle.w_machine.specs.Position.{Position, StopsWith, IsNoFault, IsStoppedBy, RunsOn, RunsFrom, Runs}
use Rattle.runs.specs.Running.{IsFirst, IsAfter, IsAfterBy}
use Rattle.traces.specs.Stepping.{IsSettled}
use Rattle.runs.proofs.Runs.{not_running}

-- ## Where nothing stopped it

-- nothing did yet
settled_yet : (p : Program) (s : Store) (t : Term) (q : Position) → q.stop ≡ None → IsSettled p s t q
settled_yet p s t q stop = record {
  no_fault = subst (λ (o : Option RunStop). IsNoFault o) (sym stop) tt;
  stopped = λ k e. let both : None ≡ Some k = sym stop ∙ e in absurd (cc);
}

-- ## How a run has ended

module _ (p : Program) (s : Store) (t : Term) (q new : Position) (a b : Option (List ℕ)) (o : Option RunStop) (begins : Begins q.origin p s t) (settled : IsSettled p s t q) where
  told_here : (k : Option RunStop) (n : ℕ) → RunsOn (Run p s t) q.taken n 0 k a b → IsStoppedBy (Run p s t q.taken) k
  told_here None n h = let here : q.taken + 0 ≡ q.taken = omega arith in subst (λ (m : ℕ). (Run p s t m).outcome ≡ Running) here h.0
  told_here (Some k) n h = let here : q.taken + 0 ≡ q.taken = omega arith in subst (λ (m : ℕ). StopsWith k (Run p s t m).outcome) here h.0

  told_by : (k : Option RunStop) → q.stop ≡ k → RunsFrom k q 0 o new a b → IsStoppedBy (Run p s t q.taken) o
  told_by None e h = told_here o h.0 (h.3 p s t begins)
  told_by (Some k) e h = subst (λ (x : Option RunStop). IsStoppedBy (Run p s t q.taken) x) (sym h.0) (settled.stopped k e)

  -- where no reduction is taken, what is told is what the run came to
  pub came_to : Runs q 0 o new a b → IsStoppedBy (Run p s t q.taken) o
  came_to runs = told_by q.stop refl runs

-- ## The first position

-- nothing stopped it
pub first_settled : (p : Program) (s : Store) (t : Term) (q : Position) → IsFirst q → IsSettled p s t q
first_settled p s t q first = settled_yet p s t q (ap (λ (z : Position). z.stop) first)

-- ## The run of so many steps at most

-- no fault stopped it, and no more were taken
pub after_fine : (q : Position) (steps : ℕ) → IsAfter q steps → IsNoFault q.stop
after_fine q steps after = by q.stop after
  where
    by : (o : Option RunStop) → IsAfterBy o q.taken steps → IsNoFault o
    by None h = tt
    by (Some k) h = h.1

pub after_within : (q : Position) (steps : ℕ) → IsAfter q steps → q.taken ≤ steps
after_within q steps after = by q.stop after
  where
    by : (o : Option RunStop) → IsAfterBy o q.taken steps → q.taken ≤ steps
    by None h = omega (arith, h)
    by (Some k) h = h.0

-- its events are those of so many
pub events_after : (p : Program) (s : Store) (t : Term) (q : Position) (steps : ℕ) → IsAfter q steps → IsSettled p s t q → Events p s t q.taken ≡ Events p s t steps
events_after p s t q steps after settled = by q.stop refl after
  where
    by : (o : Option RunStop) → q.stop ≡ o → IsAfterBy o q.taken steps → Events p s t q.taken ≡ Events p s t steps
    by None e h = ap (Events p s t) h
    by (Some k) e h =
        let le = h.0 in
        let there : q.taken + (steps - q.taken) ≡ steps = omega (arith, le) in
        sym (ap (Events p s t) (sym there) ∙ no_more_events p s t q.taken (steps - q.taken) (not_running k (Run p s t q.taken).outcome h.1 (settled.stopped k e)))
