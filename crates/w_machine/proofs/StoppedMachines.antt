-- A machine that is stopped keeps what stopped it, and stands for the run.
use Rattle.std.proofs.Common.{◌≡◌, inl, inr, ℕ, suc, ◌+◌, ◌<◌, ◌≤◌, List, [], ◌++◌, Option, Some, None, refl, sym, ap, subst, ◌∙◌, arith, append-nil, length, subst₂}
use Rattle.std.specs.Prelude.{Box}
use Rattle.std.specs.declared.alloc.Global.{Global}
use Rattle.w_outside.proofs.Growth.{grew_nothing}
use Rattle.w_syntax.specs.declared.module.Module.{Module}
use Rattle.w_segment.specs.declared.segment.Segment.{Segment}
use Rattle.w_segment.specs.Link.{Link, top}
use Rattle.lists.specs.Rows.{Row}
use Rattle.w_reduce.specs.declared.limit.RunLimit.{RunLimit}
use Rattle.w_reduce.specs.declared.trap.Trap.{Trap}
use Rattle.w_reduce.specs.Values.{Val}
use Rattle.w_reduce.specs.Store.{Store, made, live}
use Rattle.w_reduce.specs.Terms.{Rest, Term}
use Rattle.w_reduce.specs.Program.{Program}
use Rattle.w_reduce.specs.Reduced.{Reduced, Went, Trapped, Limited, Ended, Stuck}
use Rattle.w_reduce.specs.Reduce.{reduce}
use Rattle.w_reduce.specs.Room.{may_take_memory}
use Rattle.w_reduce.specs.Run.{Outcome, Running, Values, Traps, Limit, NoRule, RunState, outcome_by, state_at, after_reduction, continued, Run}
use Rattle.w_stands.specs.Values.{stack}
use Rattle.w_configuration.specs.declared.stop.RunStop.{RunStop}
use Rattle.w_configuration.specs.declared.stop.RunStop.TheVariants as run_stop
use Rattle.w_configuration.specs.Reducing.{Fails, ComesTo, PartsReduce}
use Rattle.w_machine.specs.Position.{Position, StopsWith, counted, PrintedBetween, PrintedAtMost, PrintedBy, MayStopAt, StepsFrom, most_reductions}
use Rattle.w_configuration.specs.Standing.{StandsSomewhere}
use Rattle.w_machine.specs.Beginning.{Origin}
use Rattle.w_machine.specs.Reached.{waiting_of, IsReachedAt, EndsAt, Counts, IsUsable, IsReached}
use Rattle.w_machine.proofs.OneMoreReduction.{state_went, next_run}
use Rattle.w_configuration.specs.declared.configuration.Configuration.{Configuration as Parts}
use Rattle.w_configuration.specs.Parts.{whole}
use Rattle.w_conts.specs.Conts.{live_of}
use Rattle.w_configuration.proofs.ConfigurationCounts.{made_kept, live_kept, live_made}

-- ## The state of the run

-- what the next reduction makes of a run, by what it comes to
module _ (p : Program) {n : ℕ} {r : RunState} {v : Store} {t : Term} (at : r ≡ state_at p n r.output v t) where
  pub outcome_here : r.outcome ≡ outcome_by (reduce p v t)
  outcome_here = ap (λ (q : RunState). q.outcome) at

  pub taken_is : r.taken ≡ n
  taken_is = ap (λ (q : RunState). q.taken) at

  next_by : (o : Outcome) (d : Reduced) → outcome_by d ≡ o → reduce p v t ≡ d → continued p r r.outcome ≡ continued p r o
  next_by o d e is = ap (continued p r) (outcome_here ∙ ap outcome_by is ∙ e)

  reduced_next : (d : Reduced) → reduce p v t ≡ d → reduce p r.store r.term ≡ d
  reduced_next d is =
      ap (λ (s : Store). reduce p s r.term) (ap (λ (q : RunState). q.store) at) ∙ ap (λ (u : Term). reduce p v u) (ap (λ (q : RunState). q.term) at) ∙ is

  -- a trap, and a limit that is passed, count
  pub trapped_next : (x : Trap) → reduce p v t ≡ Trapped x → continued p r r.outcome ≡ record r { taken = suc r.taken; outcome = Traps x }
  trapped_next x is = next_by Running (Trapped x) refl is ∙ ap (after_reduction p r) (reduced_next (Trapped x) is)

  pub limited_next : (l : RunLimit) → reduce p v t ≡ Limited l → continued p r r.outcome ≡ record r { taken = suc r.taken; outcome = Limit l }
  limited_next l is = next_by Running (Limited l) refl is ∙ ap (after_reduction p r) (reduced_next (Limited l) is)

  -- where none is taken the run stays
  pub ended_next : (vs : Row Val) → reduce p v t ≡ Ended vs → continued p r r.outcome ≡ r
  ended_next vs is = next_by (Values vs) (Ended vs) refl is

-- what is printed next, whatever comes of it
next_text : (p : Program) (r : RunState) (d : Reduced) → (text : List ℕ) × ((after_reduction p r d).output ≡ r.output ++ text)
next_text p r (Went text s t) = (text, refl)
next_text p r (Trapped x) = ([], sym (append-nil r.output))
next_text p r (Limited l) = ([], sym (append-nil r.output))
next_text p r (Ended vs) = ([], sym (append-nil r.output))
next_text p r Stuck = ([], sym (append-nil r.output))

goes_text : (p : Program) (r : RunState) (o : Outcome) → (text : List ℕ) × ((continued p r o).output ≡ r.output ++ text)
goes_text p r Running = next_text p r (reduce p r.store r.term)
goes_text p r (Values vs) = ([], sym (append-nil r.output))
goes_text p r (Traps x) = ([], sym (append-nil r.output))
goes_text p r (Limit l) = ([], sym (append-nil r.output))
goes_text p r NoRule = ([], sym (append-nil r.output))

-- a run's output grows
pub output_grows : (p : Program) (s₀ : Store) (t₀ : Term) (n : ℕ) → (text : List ℕ) × ((Run p s₀ t₀ (n + 1)).output ≡ (Run p s₀ t₀ n).output ++ text)
output_grows p s₀ t₀ n =
    let g = goes_text p (Run p s₀ t₀ n) (Run p s₀ t₀ n).outcome in
    (g.0, ap (λ (q : RunState). q.output) (next_run p s₀ t₀ n) ∙ g.1)

-- ## What stops it

module _ {m : Module} {waiting : List ℕ} {x : Parts} {n : ℕ} (p : Program) (s₀ : Store) (t₀ : Term) (at : IsReachedAt m waiting x n p (Run p s₀ t₀ n)) where
  still_there : Run p s₀ t₀ (n + 0) ≡ Run p s₀ t₀ n
  still_there = ap (Run p s₀ t₀) (let e : n + 0 ≡ n = omega arith in e)

  taken_still : (Run p s₀ t₀ (n + 0)).taken ≡ n + 0
  taken_still = ap (λ (q : RunState). q.taken) still_there ∙ taken_is p at.is ∙ (let e : n ≡ n + 0 = omega arith in e)

  one_more : (Run p s₀ t₀ n).taken ≡ n → suc (Run p s₀ t₀ n).taken ≡ n + 1
  one_more e = omega (arith, e)

  -- the continuations of the run are those that are kept
  pub counts_here : {r : RunState} → r.store ≡ (Run p s₀ t₀ n).store → Counts r (length x.conts.entries) (live_of x.conts)
  counts_here {r = r} same =
      let store : r.store ≡ whole x.store at.ks = same ∙ ap (λ (q : RunState). q.store) at.is in
      record { made = ap made store ∙ made_kept at.stands.stand.store; live = ap live store ∙ live_kept at.stands.stand.store }

  -- the run has come to what stopped the machine
  pub ends_at : (k : RunStop) (x' : Parts) (before now : Option (List ℕ)) → ComesTo (Some k) m waiting p (reduce p (whole x.store at.ks) at.t) at.t.rest x x' before now
      → EndsAt k x'.chain (Run p s₀ t₀ (n + counted k)).outcome × ((Run p s₀ t₀ (n + counted k)).taken ≡ n + counted k)
      × Counts (Run p s₀ t₀ (n + counted k)) (length x.conts.entries) (live_of x.conts)
  ends_at run_stop.Ended x' before now (is, same) = (
    ap (λ (q : RunState). q.outcome) still_there ∙ outcome_here p at.is ∙ ap outcome_by is ∙ ap (λ (y : Parts). Values (stack (top y.chain).shape.operands)) (sym same.same),
    taken_still,
    counts_here (ap (λ (q : RunState). q.store) still_there),
  )
  ends_at (run_stop.Limit name) x' before now (is, same) =
      let next = next_run p s₀ t₀ n ∙ limited_next p at.is name is in
      (ap (λ (q : RunState). q.outcome) next, ap (λ (q : RunState). q.taken) next ∙ one_more (taken_is p at.is), counts_here (ap (λ (q : RunState). q.store) next))
  ends_at (run_stop.Trapped t) x' before now (is, same) =
      let next = next_run p s₀ t₀ n ∙ trapped_next p at.is t is in
      (ap (λ (q : RunState). q.outcome) next, ap (λ (q : RunState). q.taken) next ∙ one_more (taken_is p at.is), counts_here (ap (λ (q : RunState). q.store) next))
  ends_at run_stop.WriteFault x' before now h = (tt, taken_still, counts_here (ap (λ (q : RunState). q.store) still_there))
  ends_at run_stop.OutOfMemory x' before now h = (tt, taken_still, counts_here (ap (λ (q : RunState). q.store) still_there))

  nothing_more : {before now : Option (List ℕ)} → (Run p s₀ t₀ (n + 1)).output ≡ (Run p s₀ t₀ n).output → now ≡ before → PrintedBetween (Run p s₀ t₀ n) (Run p s₀ t₀ (n + 1)) before now
  nothing_more {before = before} e same = record { text = []; is = e ∙ sym (append-nil (Run p s₀ t₀ n).output); grew = same ∙ grew_nothing before }

  at_most : {x' : Parts} {before now : Option (List ℕ)} → Fails (reduce p (whole x.store at.ks) at.t) x x' before now
      → PrintedAtMost (Run p s₀ t₀ n) (Run p s₀ t₀ (n + 1)) before now
  at_most {before = before} h = elim h.sink [
    | inl same ↦ (
        let g = output_grows p s₀ t₀ n in
        record { text = g.0; is = g.1; grew = record { part = []; front = record { rest = g.0; joined = refl }; grew = same ∙ grew_nothing before } }
        )
    | inr begun ↦ record { text = begun.text; is = ap (λ (q : RunState). q.output) (next_run p s₀ t₀ n ∙ (state_went p at.is begun.is).1); grew = begun.grew }
  ]

  -- what was printed
  pub printed_by : (k : RunStop) (x' : Parts) (before now : Option (List ℕ)) → ComesTo (Some k) m waiting p (reduce p (whole x.store at.ks) at.t) at.t.rest x x' before now
      → PrintedBy k (Run p s₀ t₀ n) (Run p s₀ t₀ (n + 1)) before now
  printed_by run_stop.Ended x' before now (is, same) =
      nothing_more (ap (λ (q : RunState). q.output) (next_run p s₀ t₀ n ∙ ended_next p at.is (stack (top x.chain).shape.operands) is)) same.sink
  printed_by (run_stop.Limit name) x' before now (is, same) = nothing_more (ap (λ (q : RunState). q.output) (next_run p s₀ t₀ n ∙ limited_next p at.is name is)) same
  printed_by (run_stop.Trapped t) x' before now (is, same) = nothing_more (ap (λ (q : RunState). q.output) (next_run p s₀ t₀ n ∙ trapped_next p at.is t is)) same
  printed_by run_stop.WriteFault x' before now h = at_most h
  printed_by run_stop.OutOfMemory x' before now h = at_most h.0

  -- for want of memory it stopped only where what comes next may take some
  pub may_stop : (k : RunStop) (x' : Parts) (before now : Option (List ℕ)) → ComesTo (Some k) m waiting p (reduce p (whole x.store at.ks) at.t) at.t.rest x x' before now
      → MayStopAt k (Run p s₀ t₀ n).term
  may_stop run_stop.Ended x' before now h = tt
  may_stop (run_stop.Limit name) x' before now h = tt
  may_stop (run_stop.Trapped t) x' before now h = tt
  may_stop run_stop.WriteFault x' before now h = tt
  may_stop run_stop.OutOfMemory x' before now h = ap (λ (q : RunState). may_take_memory q.term.rest.ahead q.term.rest.code) at.is ∙ h.1

-- what stopped it there is what the run came to
pub stops_so : (k : RunStop) (xs : List Link) (o : Outcome) → EndsAt k xs o → StopsWith k o
stops_so run_stop.Ended xs o h = (stack (top xs).shape.operands, h)
stops_so (run_stop.Limit name) xs o h = h
stops_so (run_stop.Trapped t) xs o h = h
stops_so run_stop.WriteFault xs o h = h
stops_so run_stop.OutOfMemory xs o h = h

pub counts_one : (k : RunStop) → counted k ≤ 1
counts_one run_stop.Ended = omega arith
counts_one (run_stop.Limit name) = omega arith
counts_one (run_stop.Trapped t) = omega arith
counts_one run_stop.WriteFault = omega arith
counts_one run_stop.OutOfMemory = omega arith

-- where the run ended there is a segment
usable_after : (m : Module) (waiting : List ℕ) (p : Program) (d : Reduced) (r : Rest) (x x' : Parts) (before now : Option (List ℕ)) (k : RunStop) (n : ℕ) → 0 < length x.chain
    → ComesTo (Some k) m waiting p d r x x' before now → IsUsable (Some k) x' n
usable_after m waiting p d r x x' before now run_stop.Ended n some (is, same) = subst (λ (y : Parts). 0 < length y.chain) (sym same.same) some
usable_after m waiting p d r x x' before now (run_stop.Limit name) n some h = tt
usable_after m waiting p d r x x' before now (run_stop.Trapped t) n some h = tt
usable_after m waiting p d r x x' before now run_stop.WriteFault n some h = tt
usable_after m waiting p d r x x' before now run_stop.OutOfMemory n some h = tt

-- the machine keeps it, with how many continuations there were before
pub stopped : {from : Origin} {functions : List ℕ} {x : Parts} {waiting : List (Box Segment Global)} {n a b made_then live_then : ℕ} (x' : Parts)
    (before now : Option (List ℕ)) (k : RunStop) (c : ℕ) → c ≡ counted k → made_then ≡ length x.conts.entries → live_then ≡ live_of x.conts
    → StandsSomewhere from.source x → IsReached from functions x waiting None n a b → n < most_reductions
    → PartsReduce (Some k) from.source x x' before now → IsReached from functions x' waiting (Some k) (n + c) made_then live_then
stopped {from = from} {functions = functions} {x = x} {waiting = waiting} {n = n} {made_then = made_then} {live_then = live_then} x' before now k c count made_is live_is here h lt goes =
    let one = counts_one k in
    record {
      functions_are = h.functions_are;
      fresh = h.fresh;
      bound = omega (arith, lt, one, count);
      usable = usable_after from.source here.waiting here.p _ here.t.rest x x' before now k (n + c) h.usable.0 (goes here.waiting here.p here.ks here.t here.stands);
      started = h.started;
      fewer = (let l = live_made x.conts.entries in omega (arith, l, made_is, live_is));
      reached = λ p s₀ t₀ begins.
          let at = h.reached p s₀ t₀ begins in
          let ended = ends_at p s₀ t₀ at k x' before now (goes (waiting_of waiting) p at.ks at.t at.stands) in
          subst (λ (y : ℕ). EndsAt k x'.chain (Run p s₀ t₀ (n + y)).outcome × ((Run p s₀ t₀ (n + y)).taken ≡ n + y) × Counts (Run p s₀ t₀ (n + y)) made_then live_then) (sym count)
          (subst₂ (λ (u v : ℕ). EndsAt k x'.chain (Run p s₀ t₀ (n + counted k)).outcome × ((Run p s₀ t₀ (n + counted k)).taken ≡ n + counted k) × Counts (Run p s₀ t₀ (n + counted k)) u v)
          (sym made_is) (sym live_is) ended);
    }

-- and so its step stopped
pub step_stopped : {functions : List ℕ} {x : Parts} {waiting : List (Box Segment Global)} {a b : ℕ} (x' : Parts)
    (before now : Option (List ℕ)) (old : Position) (k : RunStop) (c : ℕ) → c ≡ counted k → IsReached old.origin functions x waiting None old.taken a b
    → PartsReduce (Some k) old.origin.source x x' before now → StepsFrom None old (Some k) (record old { taken = old.taken + c; stop = Some k }) before now
step_stopped {waiting = waiting} x' before now old k c count h goes = (
  ap (λ (x : ℕ). let q : Position = record old { taken = old.taken + x; stop = Some k } in q) count,
  λ p s₀ t₀ begins.
      let at = h.reached p s₀ t₀ begins in
      let came = goes (waiting_of waiting) p at.ks at.t at.stands in
      (stops_so k x'.chain _ (ends_at p s₀ t₀ at k x' before now came).0, printed_by p s₀ t₀ at k x' before now came, may_stop p s₀ t₀ at k x' before now came),
)
