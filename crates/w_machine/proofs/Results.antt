-- The results of a run that ended.
use Rattle.std.proofs.Common.{◌≡◌, ◌≤◌, ◌<◌, ◌+◌, ℕ, true, false, is_some, length, arith, List, [], ◌∷◌, ◌++◌, reverse, Option, Some, None, refl, sym, ap, subst, ◌∙◌}
use Rattle.std.proofs.lemmas.List.{reverse-append}
use Rattle.std.specs.Prelude.{Box}
use Rattle.std.specs.declared.alloc.Global.{Global}
use Rattle.w_types.specs.declared.value.Value.{Value}
use Rattle.lists.specs.Rows.{listed}
use Rattle.w_syntax.specs.declared.module.Module.{Module}
use Rattle.w_segment.specs.declared.segment.Segment.{Segment}
use Rattle.w_segment.specs.Link.{top}
use Rattle.w_segment.specs.Shape.{Shape}
use Rattle.w_reduce.specs.Values.{Val, val}
use Rattle.w_reduce.specs.Store.{Store, live_in, consumed_in, consumed}
use Rattle.w_reduce.specs.Terms.{Term, Continuation}
use Rattle.w_reduce.specs.Program.{Program}
use Rattle.w_reduce.specs.Run.{RunState, Run}
use Rattle.w_stands.specs.Values.{stack, vals}
use Rattle.w_configuration.specs.declared.stop.RunStop.{RunStop}
use Rattle.w_configuration.specs.declared.stop.RunStop.TheVariants as run_stop
use Rattle.w_machine.specs.Beginning.{Origin, Begins}
use Rattle.w_machine.specs.Position.{Position, StopsWith}
use Rattle.w_machine.specs.Reached.{waiting_of, Counts, IsReached, IsReachedBy}
use Rattle.w_machine.specs.Results.{HasResults}
use Rattle.w_machine.proofs.RunsOfMany.{settled_at}
use Rattle.w_machine.specs.RunStop.{is_ended}
use Rattle.w_configuration.specs.declared.configuration.Configuration.{Configuration as Parts}
use Rattle.w_conts.specs.Conts.{live_of}
use Rattle.w_machine.proofs.StoppedMachines.{counts_here, stops_so}

map_end : (xs : List Value) (x : Value) → vals (xs ++ x ∷ []) ≡ vals xs ++ val x ∷ []
map_end [] x = refl
map_end (y ∷ xs) x = ap (λ (l : List Val). val y ∷ l) (map_end xs x)

-- the operands from the lowest on
listed_stack : (vs : List Value) → vals (reverse vs) ≡ listed (stack vs)
listed_stack [] = refl
listed_stack (v ∷ vs) = ap vals (reverse-append (v ∷ []) vs) ∙ map_end (reverse vs) v ∙ ap (λ (l : List Val). l ++ val v ∷ []) (listed_stack vs)

-- they are the run's, and stay so however long it is
pub machine_results : {from : Origin} {functions : List ℕ} {x : Parts} {waiting : List (Box Segment Global)} {n a b : ℕ} {k : Option RunStop}
    (q : Position) (s : Shape) (values : List Value) → IsReached from functions x waiting k n a b → record { origin = from; taken = n; stop = k } ≡ q
    → s ≡ (top x.chain).shape → values ≡ reverse s.operands → q.stop ≡ Some run_stop.Ended
    → (p : Program) (s₀ : Store) (t₀ : Term) → Begins q.origin p s₀ t₀ → (l : ℕ) → q.taken ≤ l → HasResults (Run p s₀ t₀ l).outcome (vals values)
machine_results {from = from} {functions = functions} {x = x} {waiting = waiting} {n = n} {a = a} {b = b} {k = k} q s values h view here are ended =
    let kept_is : k ≡ Some run_stop.Ended = ap (λ (x : Position). x.stop) view ∙ ended in
    let done = subst (λ (o : Option RunStop). IsReached from functions x waiting o n a b) kept_is h in
    subst (λ (y : Position). (p : Program) (s₀ : Store) (t₀ : Term) → Begins y.origin p s₀ t₀ → (l : ℕ) → y.taken ≤ l → HasResults (Run p s₀ t₀ l).outcome (vals values)) view
    (λ p s₀ t₀ begins l le.
    let is = (done.reached p s₀ t₀ begins).0 in
    let last = settled_at p s₀ t₀ n l le (λ runs. let e = is in absurd (cc)) in (
      stack (top x.chain).shape.operands,
      ap (λ (r : RunState). r.outcome) last ∙ is,
      ap vals are ∙ listed_stack s.operands ∙ ap (λ (y : Shape). listed (stack y.operands)) here,
    ))

-- a machine whose run ended has a segment
pub ended_long : {from : Origin} {functions : List ℕ} {x : Parts} {waiting : List (Box Segment Global)} {n a b : ℕ} (k : Option RunStop) → true ≡ is_ended k
    → IsReached from functions x waiting k n a b → 0 < length x.chain
ended_long (Some run_stop.Ended) e h = h.usable
ended_long None e h = absurd (cc)
ended_long (Some (run_stop.Limit name)) e h = absurd (cc)
ended_long (Some (run_stop.Trapped t)) e h = absurd (cc)
ended_long (Some run_stop.WriteFault) e h = absurd (cc)
ended_long (Some run_stop.OutOfMemory) e h = absurd (cc)

-- ## The run's own counts

counted_by : (m : Module) (waiting : List ℕ) (x : Parts) (n a b : ℕ) (k : Option RunStop) (p : Program) (r : RunState) → IsReachedBy k m waiting x n a b p r → r.taken ≡ n
counted_by m waiting x n a b None p r h = ap (λ (y : RunState). y.taken) h.is
counted_by m waiting x n a b (Some k) p r h = h.1

module _ {from : Origin} {functions : List ℕ} {x : Parts} {waiting : List (Box Segment Global)} {n a b : ℕ} {k : Option RunStop} (q : Position)
    (h : IsReached from functions x waiting k n a b) (view : record { origin = from; taken = n; stop = k } ≡ q) where
  here : (p : Program) (s₀ : Store) (t₀ : Term) → Begins q.origin p s₀ t₀ → IsReachedBy k from.source (waiting_of waiting) x n a b p (Run p s₀ t₀ n)
  here p s₀ t₀ begins = h.reached p s₀ t₀ (subst (λ (o : Origin). Begins o p s₀ t₀) (sym (ap (λ (x : Position). x.origin) view)) begins)

  -- of reductions
  pub machine_counts : (p : Program) (s₀ : Store) (t₀ : Term) → Begins q.origin p s₀ t₀ → (Run p s₀ t₀ n).taken ≡ n
  machine_counts p s₀ t₀ begins = counted_by _ _ _ n a b k p (Run p s₀ t₀ n) (here p s₀ t₀ begins)

  -- what stopped it is what the run came to
  pub machine_stops_with : (p : Program) (s₀ : Store) (t₀ : Term) → Begins q.origin p s₀ t₀ → (j : RunStop) → q.stop ≡ Some j → StopsWith j (Run p s₀ t₀ n).outcome
  machine_stops_with p s₀ t₀ begins j is =
      stops_so j x.chain (Run p s₀ t₀ n).outcome
      (subst (λ (o : Option RunStop). IsReachedBy o from.source (waiting_of waiting) x n a b p (Run p s₀ t₀ n)) (ap (λ (x : Position). x.stop) view ∙ is) (here p s₀ t₀ begins)).0

  -- of continuations, by whether an outcome is kept
  pub counts_kept : true ≡ is_some k → (p : Program) (s₀ : Store) (t₀ : Term) → Begins q.origin p s₀ t₀ → Counts (Run p s₀ t₀ q.taken) a b
  counts_kept some p s₀ t₀ begins =
      subst (λ (y : Position). Counts (Run p s₀ t₀ y.taken) a b) view (by k some (here p s₀ t₀ begins))
    where
      by : (o : Option RunStop) → true ≡ is_some o → IsReachedBy o from.source (waiting_of waiting) x n a b p (Run p s₀ t₀ n) → Counts (Run p s₀ t₀ n) a b
      by None e g = absurd (cc)
      by (Some y) e g = g.2

  pub counts_going : false ≡ is_some k → (p : Program) (s₀ : Store) (t₀ : Term) → Begins q.origin p s₀ t₀ → Counts (Run p s₀ t₀ q.taken) (length x.conts.entries) (live_of x.conts)
  counts_going none p s₀ t₀ begins =
      subst (λ (y : Position). Counts (Run p s₀ t₀ y.taken) (length x.conts.entries) (live_of x.conts)) view (by k none (here p s₀ t₀ begins))
    where
      by : (o : Option RunStop) → false ≡ is_some o → IsReachedBy o from.source (waiting_of waiting) x n a b p (Run p s₀ t₀ n) → Counts (Run p s₀ t₀ n) (length x.conts.entries) (live_of x.conts)
      by None e g = counts_here p s₀ t₀ g refl
      by (Some y) e g = absurd (cc)

-- what isn't consumed and what is are all that was made
all_made : (ks : List (Option Continuation)) → consumed_in ks + live_in ks ≡ length ks
all_made [] = refl
all_made (None ∷ ks) = let i = all_made ks in omega (arith, i)
all_made (Some k ∷ ks) = let i = all_made ks in omega (arith, i)

-- so many are consumed
pub counts_consumed : {r : RunState} {a b : ℕ} (c : ℕ) → Counts r a b → c + b ≡ a → consumed r.store ≡ c
counts_consumed {r = r} {a = a} {b = b} c h is =
    let all = all_made r.store.conts in
    let one = h.made in
    let two = h.live in
    omega (arith, all, one, two, is)
