-- The event of a step is that of the run's next reduction.
use Rattle.std.proofs.Common.{◌≡◌, ◌≢◌, ℕ, suc, ◌+◌, List, Option, Some, None, refl, sym, ap, subst, ◌∙◌, arith}
use Rattle.std.specs.Prelude.{Box}
use Rattle.std.specs.declared.alloc.Global.{Global}
use Rattle.lists.specs.Rows.{Row}
use Rattle.w_syntax.specs.declared.module.Module.{Module}
use Rattle.w_segment.specs.declared.segment.Segment.{Segment}
use Rattle.w_reduce.specs.declared.limit.RunLimit.{RunLimit}
use Rattle.w_reduce.specs.declared.trap.Trap.{Trap}
use Rattle.w_reduce.specs.Values.{Val}
use Rattle.w_reduce.specs.Store.{Store}
use Rattle.w_reduce.specs.Terms.{Term}
use Rattle.w_reduce.specs.Program.{Program}
use Rattle.w_reduce.specs.Reduced.{Reduced, Went, Trapped, Limited, Ended, Stuck}
use Rattle.w_reduce.specs.Reduce.{reduce}
use Rattle.w_reduce.specs.Run.{Outcome, Running, Values, Traps, Limit, NoRule, RunState, outcome_by, after_reduction, continued, Run}
use Rattle.w_trace.specs.declared.event.EventKind.{EventKind}
use Rattle.w_trace.specs.Events.{event_of, where_went, with_step, while_running, event_after}
use Rattle.w_configuration.specs.declared.stop.RunStop.{RunStop}
use Rattle.w_configuration.specs.declared.stop.RunStop.TheVariants as run_stop
use Rattle.w_configuration.specs.declared.configuration.Configuration.{Configuration as Parts}
use Rattle.w_configuration.specs.Parts.{whole}
use Rattle.w_configuration.specs.NextEvents.{TellsEvent}
use Rattle.w_machine.specs.Beginning.{Origin, Begins}
use Rattle.w_configuration.specs.Standing.{Stands}
use Rattle.w_machine.specs.Position.{Position, StopsWith, counted, after_step, IsNoFault, StepsFrom, Steps}
use Rattle.w_machine.specs.Reached.{waiting_of, IsReachedAt, IsReachedBy, IsReached}
use Rattle.w_machine.proofs.OneMoreReduction.{next_run}
use Rattle.w_machine.proofs.StoppedMachines.{outcome_here, taken_is}

-- ## By what the run comes to

-- no reduction tells of a trap or a limit before it is taken
told_no_trap : (d : Reduced) (t : Trap) → outcome_by d ≢ Traps t
told_no_trap (Went out s u) t e = absurd (cc)
told_no_trap (Trapped u) t e = absurd (cc)
told_no_trap (Limited l) t e = absurd (cc)
told_no_trap (Ended vs) t e = absurd (cc)
told_no_trap Stuck t e = absurd (cc)

told_no_limit : (d : Reduced) (l : RunLimit) → outcome_by d ≢ Limit l
told_no_limit (Went out s u) l e = absurd (cc)
told_no_limit (Trapped u) l e = absurd (cc)
told_no_limit (Limited m) l e = absurd (cc)
told_no_limit (Ended vs) l e = absurd (cc)
told_no_limit Stuck l e = absurd (cc)

module _ (p : Program) (r : RunState) (event : Option EventKind) where
  -- one more was taken, and it neither trapped nor passed a limit: it went on
  went_by : (d d' : Reduced) → (after_reduction p r d).taken ≡ suc r.taken → (after_reduction p r d).outcome ≡ outcome_by d' → where_went d event ≡ event
  went_by (Went out s t) d' more told = refl
  went_by (Trapped t) d' more told = absurd (told_no_trap d' t (sym told))
  went_by (Limited l) d' more told = absurd (told_no_limit d' l (sym told))
  went_by (Ended vs) d' more told = absurd (omega (arith, more))
  went_by Stuck d' more told = absurd (omega (arith, more))

  -- so it has its event
  went_on : (o : Outcome) (d' : Reduced) → (continued p r o).taken ≡ suc r.taken → (continued p r o).outcome ≡ outcome_by d'
      → while_running o (with_step (suc r.taken) (where_went (reduce p r.store r.term) event)) ≡ with_step (suc r.taken) event
  went_on Running d' more told = ap (with_step (suc r.taken)) (went_by (reduce p r.store r.term) d' more told)
  went_on (Values vs) d' more told = absurd (omega (arith, more))
  went_on (Traps t) d' more told = absurd (omega (arith, more))
  went_on (Limit l) d' more told = absurd (omega (arith, more))
  went_on NoRule d' more told = absurd (omega (arith, more))

  -- where it trapped, or passed a limit, it didn't go on
  no_event_by : (o : Outcome) → ((d : Reduced) → outcome_by d ≢ o) → (d : Reduced) → (after_reduction p r d).outcome ≡ o → where_went d event ≡ None
  no_event_by o never (Went out s t) is = absurd (never (reduce p s t) is)
  no_event_by o never (Trapped t) is = refl
  no_event_by o never (Limited l) is = refl
  no_event_by o never (Ended vs) is = refl
  no_event_by o never Stuck is = refl

  -- so it has no event
  no_event : (o : Outcome) → ((d : Reduced) → outcome_by d ≢ o) → (now : Outcome) → (continued p r now).outcome ≡ o
      → while_running now (with_step (suc r.taken) (where_went (reduce p r.store r.term) event)) ≡ None
  no_event o never Running is = ap (with_step (suc r.taken)) (no_event_by o never (reduce p r.store r.term) is)
  no_event o never (Values vs) is = refl
  no_event o never (Traps t) is = refl
  no_event o never (Limit l) is = refl
  no_event o never NoRule is = refl

-- ## The next reduction of a run

module _ (p : Program) (s₀ : Store) (t₀ : Term) (n : ℕ) where
  -- where the run goes on to another configuration, the event is that of its redex
  run_went : (d' : Reduced) → (Run p s₀ t₀ (n + 1)).taken ≡ suc (Run p s₀ t₀ n).taken → (Run p s₀ t₀ (n + 1)).outcome ≡ outcome_by d'
      → event_after p (Run p s₀ t₀ n) ≡ with_step (suc (Run p s₀ t₀ n).taken) (event_of (Run p s₀ t₀ n).store (Run p s₀ t₀ n).term)
  run_went d' more told =
      let r = Run p s₀ t₀ n in
      let next = next_run p s₀ t₀ n in
      went_on p r (event_of r.store r.term) r.outcome d' (sym (ap (λ (q : RunState). q.taken) next) ∙ more) (sym (ap (λ (q : RunState). q.outcome) next) ∙ told)

  -- where it came to an outcome that only a reduction that was taken tells of, there is none
  run_stopped : (o : Outcome) → ((d : Reduced) → outcome_by d ≢ o) → (Run p s₀ t₀ (n + 1)).outcome ≡ o → event_after p (Run p s₀ t₀ n) ≡ None
  run_stopped o never is =
      let r = Run p s₀ t₀ n in
      no_event p r (event_of r.store r.term) o never r.outcome (sym (ap (λ (q : RunState). q.outcome) (next_run p s₀ t₀ n)) ∙ is)

  -- where it has ended there is none
  run_ended : (vs : Row Val) → (Run p s₀ t₀ (n + 0)).outcome ≡ Values vs → event_after p (Run p s₀ t₀ n) ≡ None
  run_ended vs is =
      let r = Run p s₀ t₀ n in
      let here : n + 0 ≡ n = omega arith in
      ap (λ (o : Outcome). while_running o (with_step (suc r.taken) (where_went (reduce p r.store r.term) (event_of r.store r.term)))) (sym (ap (λ (k : ℕ). (Run p s₀ t₀ k).outcome) here) ∙ is)

  -- by what stopped it
  pub stopped_none : (k : RunStop) → IsNoFault (Some k) → StopsWith k (Run p s₀ t₀ (n + counted k)).outcome → event_after p (Run p s₀ t₀ n) ≡ None
  stopped_none run_stop.Ended fine (vs, is) = run_ended vs is
  stopped_none (run_stop.Limit l) fine is = run_stopped (Limit l) (λ d. told_no_limit d l) is
  stopped_none (run_stop.Trapped t) fine is = run_stopped (Traps t) (λ d. told_no_trap d t) is
  stopped_none run_stop.WriteFault fine is = absurd (cc)
  stopped_none run_stop.OutOfMemory fine is = absurd (cc)

-- ## A machine's step

-- one that nothing stopped counts one reduction more
went_to : (q q' : Position) (before now : Option (List ℕ)) (r : Option RunStop) → q.stop ≡ None → Steps q r q' before now → r ≡ None → q' ≡ after_step q None
went_to q q' before now r none steps e = (subst (λ (o : Option RunStop). StepsFrom o q r q' before now) none steps).0 ∙ ap (after_step q) e

module _ {from from' : Origin} {functions functions' : List ℕ} {x x' : Parts} {waiting waiting' : List (Box Segment Global)} {n n' a b a' b' : ℕ} {m' : Module} {q q' : Position}
    (before now : Option (List ℕ)) (k k' : Option RunStop) where
  -- a step that took a reduction has the event that the parts told before it
  pub went_event : m' ≡ from.source → (kind : Option EventKind) → TellsEvent kind m' x → IsReached from functions x waiting k n a b → record { origin = from; taken = n; stop = k } ≡ q
      → IsReached from' functions' x' waiting' k' n' a' b' → record { origin = from'; taken = n'; stop = k' } ≡ q' → q.stop ≡ None → q'.stop ≡ None → Steps q q'.stop q' before now
      → (p : Program) (s₀ : Store) (t₀ : Term) → Begins q.origin p s₀ t₀ → with_step (n + 1) kind ≡ event_after p (Run p s₀ t₀ q.taken)
  went_event program kind tells h view h' view' none none' steps p s₀ t₀ begins =
      let after = went_to q q' before now q'.stop none steps none' in
      let first : from ≡ q.origin = ap (λ (y : Position). y.origin) view in
      let count : n ≡ q.taken = ap (λ (y : Position). y.taken) view in
      let first' : from' ≡ q.origin = ap (λ (y : Position). y.origin) (view' ∙ after) in
      let count' : n' ≡ q.taken + 1 = ap (λ (y : Position). y.taken) (view' ∙ after) in
      let more : n' ≡ n + 1 = omega (arith, count, count') in
      let was : k ≡ None = ap (λ (y : Position). y.stop) view ∙ none in
      let is : k' ≡ None = ap (λ (y : Position). y.stop) view' ∙ none' in
      let at : IsReachedAt from.source (waiting_of waiting) x n p (Run p s₀ t₀ n) =
      subst (λ (o : Option RunStop). IsReachedBy o from.source (waiting_of waiting) x n a b p (Run p s₀ t₀ n)) was (h.reached p s₀ t₀ (subst (λ (o : Origin). Begins o p s₀ t₀) (sym first) begins)) in
      let at' : IsReachedAt from'.source (waiting_of waiting') x' n' p (Run p s₀ t₀ n') =
      subst (λ (o : Option RunStop). IsReachedBy o from'.source (waiting_of waiting') x' n' a' b' p (Run p s₀ t₀ n')) is (h'.reached p s₀ t₀ (subst (λ (o : Origin). Begins o p s₀ t₀) (sym first') begins)) in
      let taken = taken_is p at.is in
      let taken' : (Run p s₀ t₀ (n + 1)).taken ≡ n' = ap (λ (i : ℕ). (Run p s₀ t₀ i).taken) (sym more) ∙ taken_is p at'.is in
      let outcome : (Run p s₀ t₀ (n + 1)).outcome ≡ outcome_by (reduce p (whole x'.store at'.ks) at'.t) = ap (λ (i : ℕ). (Run p s₀ t₀ i).outcome) (sym more) ∙ outcome_here p at'.is in
      let told : kind ≡ event_of (whole x.store at.ks) at.t =
      tells (waiting_of waiting) p at.ks at.t (subst (λ (y : Module). Stands y (waiting_of waiting) x p at.ks at.t) (sym program) at.stands) in
      let event : event_of (Run p s₀ t₀ n).store (Run p s₀ t₀ n).term ≡ event_of (whole x.store at.ks) at.t = ap (λ (r : RunState). event_of r.store r.term) at.is in
      let number : n + 1 ≡ suc (Run p s₀ t₀ n).taken = omega (arith, taken) in
      ap (λ (i : ℕ). with_step i kind) number
      ∙ ap (with_step (suc (Run p s₀ t₀ n).taken)) (told ∙ sym event)
      ∙ sym (run_went p s₀ t₀ n (reduce p (whole x'.store at'.ks) at'.t) (omega (arith, taken', more, taken)) outcome)
      ∙ ap (λ (i : ℕ). event_after p (Run p s₀ t₀ i)) count
