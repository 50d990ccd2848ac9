-- Whether a run has ended, with no reduction taken.
use Rattle.std.proofs.Common.{◌≡◌, ℕ, Bool, true, false, is_some, List, [], ◌∷◌, length, Option, Some, None, refl, sym, ap, subst, ◌∙◌}
use Rattle.std.specs.Prelude.{Box}
use Rattle.std.specs.declared.alloc.Global.{Global}
use Rattle.lists.specs.Rows.{Row}
use Rattle.w_syntax.specs.Code.{Code, Done, Plain, Block, If, IfElse}
use Rattle.w_syntax.specs.declared.instructions.Op.TheVariants as op
use Rattle.w_syntax.specs.declared.module.Module.{Module}
use Rattle.w_rules.specs.Operands.{Operand}
use Rattle.w_rules.specs.Sound.{Sound}
use Rattle.w_segment.specs.declared.segment.Segment.{Segment}
use Rattle.w_segment.specs.declared.entry.Stage.{Stage}
use Rattle.w_segment.specs.declared.entry.Stage.TheVariants as stage
use Rattle.w_segment.specs.Link.{Link, top}
use Rattle.w_segment.specs.Shape.{Shape, Level}
use Rattle.w_conts.specs.Conts.{live_of}
use Rattle.w_reduce.specs.Values.{Val}
use Rattle.w_reduce.specs.Store.{Store}
use Rattle.w_reduce.specs.Terms.{Administrative, Rest, Context, Layer, Term, Continuation}
use Rattle.w_reduce.specs.declared.limit.RunLimit.{RunLimit}
use Rattle.w_reduce.specs.Limits.{passed}
use Rattle.w_reduce.specs.Program.{Program}
use Rattle.w_reduce.specs.Reduced.{Reduced, Went, Trapped, Limited, Ended, Stuck}
use Rattle.w_reduce.specs.Reduce.{next, reduce, limited, unless_passed}
use Rattle.w_reduce.specs.Apart.{switches}
use Rattle.w_reduce.specs.Run.{Running, outcome_by, Run}
use Rattle.w_stands.specs.Values.{stack}
use Rattle.w_stands.specs.Stands.{LevelsAre, label, frame, outermost, StackIs, body, left, fresh, values}
use Rattle.w_switching.specs.Standing.{Chained, only, around}
use Rattle.w_typed.specs.Values.{Arrows}
use Rattle.w_typed.specs.Configurations.{IsSafe, goes, traps, is_limited, ends}
use Rattle.w_reduce.proofs.Plainly.{Plainly, silent, stays, leaves_frame, silent_trap, silent_limit, silent_end, silent_stuck, is_last as is_end, plainly_next}
use Rattle.w_configuration.specs.declared.stop.RunStop.{RunStop}
use Rattle.w_configuration.specs.declared.stop.RunStop.TheVariants as run_stop
use Rattle.w_configuration.specs.declared.configuration.Configuration.{Configuration as Parts}
use Rattle.w_configuration.specs.Parts.{whole}
use Rattle.w_configuration.specs.Standing.{behind_of, IsLast, Stands}
use Rattle.w_configuration.specs.Reducing.{end_by, end_at}
use Rattle.w_machine.specs.Beginning.{Origin, Begins}
use Rattle.w_machine.specs.Position.{Position, is_fault, with_stop, IsStoppedBy, IsNoFault, StopsIfEnded}
use Rattle.w_machine.specs.Reached.{waiting_of, EndsAt, Counts, IsReached}
use Rattle.w_machine.proofs.OneMoreReduction.{last_there, is_last_true}
use Rattle.w_configuration.proofs.ConfigurationCounts.{live_made}
use Rattle.w_machine.proofs.StoppedMachines.{outcome_here, taken_is, counts_here, stops_so}
use Rattle.w_configuration.proofs.PartsOfRuns.{reduces_safely}
use Rattle.w_configuration.proofs.MadeConts.{MakesOne, one_goes, one_traps, one_stuck, makes_one}

-- ## Where the run has ended

-- it has ended exactly where one segment is left that is values
ended_last : (g : Stage) (xs : List Link) (k : RunStop) → (top xs).shape.stage ≡ g → Some k ≡ end_by g xs → IsLast xs × (k ≡ run_stop.Ended)
ended_last stage.Values (x ∷ []) k at e = ((refl, at), (let same : k ≡ run_stop.Ended = cc in same))
ended_last stage.Values [] k at e = absurd (cc)
ended_last stage.Values (x ∷ y ∷ ys) k at e = absurd (cc)
ended_last stage.Body xs k at e = absurd (cc)
ended_last stage.Fresh xs k at e = absurd (cc)
ended_last (stage.Branch l) xs k at e = absurd (cc)

none_last : (g : Stage) (xs : List Link) → (top xs).shape.stage ≡ g → None ≡ end_by g xs → IsLast xs → ⊥
none_last stage.Values (x ∷ []) at e h = absurd (cc)
none_last stage.Values [] at e h = let l = h.0 in absurd (cc)
none_last stage.Values (x ∷ y ∷ ys) at e h = let l = h.0 in absurd (cc)
none_last stage.Body xs at e h = let s = h.1 in absurd (cc)
none_last stage.Fresh xs at e h = let s = h.1 in absurd (cc)
none_last (stage.Branch l) xs at e h = let s = h.1 in absurd (cc)

nothing_left : (p : Program) (u : Store) (t : Term) (waiting : List ℕ) → t.around ≡ [] → t.rest ≡ behind_of waiting → waiting ≡ [] → reduce p u t ≡ Ended t.operands
nothing_left p u t waiting outer behind none =
    ap (λ (e : Context). limited (next p u e t.operands t.rest.ahead t.rest.code)) outer
    ∙ ap (λ (r : Rest). limited (next p u [] t.operands r.ahead r.code)) (behind ∙ ap behind_of none)

top_operands : {m : Module} {outer : Context} {behind : Rest} {xs : List Link} {e : Context} {vs : Row Val} {r : Rest} → Chained m outer behind xs e vs r → vs ≡ stack (top xs).shape.operands
top_operands (only i v) = v
top_operands (around i v c g k) = v

-- ## The run goes on

limited_end : (d : Reduced) (vs : Row Val) → limited d ≡ Ended vs → d ≡ Ended vs
limited_end (Went text v t) vs is = either (passed v t.around) is
  where
    either : (o : Option RunLimit) → unless_passed o (Went text v t) ≡ Ended vs → Went text v t ≡ Ended vs
    either None e = e
    either (Some name) e = absurd (cc)
limited_end (Trapped t) vs is = absurd (cc)
limited_end (Limited l) vs is = absurd (cc)
limited_end (Ended ws) vs is = is
limited_end Stuck vs is = absurd (cc)

plain_end : {ks : List (Option Continuation)} {e : Context} {last : Bool} {most : ℕ} {d d' : Reduced} (vs : Row Val) → Plainly ks e last most d d' → d ≡ Ended vs → last ≡ true
plain_end vs (silent few) is = absurd (cc)
plain_end vs (stays h) is = absurd (cc)
plain_end vs (leaves_frame h) is = absurd (cc)
plain_end vs (silent_trap handled) is = absurd (cc)
plain_end vs silent_limit is = absurd (cc)
plain_end vs (silent_end h) is = h
plain_end vs silent_stuck is = absurd (cc)

switched_end : {n : ℕ} {d : Reduced} (vs : Row Val) → MakesOne n d → d ≡ Ended vs → ⊥
switched_end vs (one_goes h) is = absurd (cc)
switched_end vs one_traps is = absurd (cc)
switched_end vs one_stuck is = absurd (cc)

-- the end comes only where nothing is left
end_reached_by : (p : Program) (s : Store) (e : Context) (vs ws : Row Val) (ahead : List Administrative) (k : Code) (b : Bool) → switches ahead k ≡ b → next p s e vs ahead k ≡ Ended ws
    → is_end e ahead k ≡ true
end_reached_by p s e vs ws ahead k false plain is = plain_end ws (plainly_next [] p s e vs ahead k plain) is
end_reached_by p s e vs ws [] (Plain (op.Switching o) k) true switch is = absurd (switched_end ws (makes_one o p s e vs k) is)
end_reached_by p s e vs ws [] (Plain (op.Control o) k) true switch is = absurd (cc)
end_reached_by p s e vs ws [] (Plain (op.Parametric o) k) true switch is = absurd (cc)
end_reached_by p s e vs ws [] (Plain (op.Variable o) k) true switch is = absurd (cc)
end_reached_by p s e vs ws [] (Plain (op.Table o) k) true switch is = absurd (cc)
end_reached_by p s e vs ws [] (Plain (op.Memory o) k) true switch is = absurd (cc)
end_reached_by p s e vs ws [] (Plain (op.Numeric o) k) true switch is = absurd (cc)
end_reached_by p s e vs ws [] (Plain (op.Reference o) k) true switch is = absurd (cc)
end_reached_by p s e vs ws [] Done true switch is = absurd (cc)
end_reached_by p s e vs ws [] (Block b t x k) true switch is = absurd (cc)
end_reached_by p s e vs ws [] (If t x k) true switch is = absurd (cc)
end_reached_by p s e vs ws [] (IfElse t x y k) true switch is = absurd (cc)
end_reached_by p s e vs ws (a ∷ ahead) k true switch is = absurd (cc)

around_more : {m : Module} {outer : Context} {behind : Rest} {f q : ℕ} {ls : List Level} {e : Context} (r : Rest) → LevelsAre m outer behind f q ls e → is_end e r.ahead r.code ≡ false
around_more r (label h k j w) = refl
around_more r (frame h k w) = refl
around_more r (outermost h) = refl

-- inside a handle something is left
inside_more : {m : Module} {h : Layer} {outer : Context} {behind : Rest} {s : Shape} {e : Context} {r : Rest} → StackIs m (h ∷ outer) behind s e r → is_end e r.ahead r.code ≡ false
inside_more {r = r} (body h k w) = around_more r w
inside_more {r = r} (left h k w) = around_more r w
inside_more (fresh h k) = refl
inside_more (values h k) = refl

alone_more : {m : Module} (waiting : List ℕ) {s : Shape} {e : Context} {r : Rest} → StackIs m [] (behind_of waiting) s e r → (s.stage ≡ stage.Values → ⊥) → is_end e r.ahead r.code ≡ false
alone_more waiting {r = r} (body h k w) not = around_more r w
alone_more waiting {r = r} (left h k w) not = around_more r w
alone_more waiting (fresh h k) not = refl
alone_more waiting (values h k) not = absurd (not h)

-- where more than one segment is left, or one that isn't values, something is left
more_left : {m : Module} (waiting : List ℕ) {xs : List Link} {e : Context} {vs : Row Val} {r : Rest} → Chained m [] (behind_of waiting) xs e vs r → (IsLast xs → ⊥)
    → is_end e r.ahead r.code ≡ false
more_left waiting (only i v) not = alone_more waiting i (λ h. not (refl, h))
more_left waiting (around i v c g k) not = inside_more i

safe_running : {m : Module} {K : Arrows} {us : Row Operand} {d : Reduced} → IsSafe m K us d → ((vs : Row Val) → d ≡ Ended vs → ⊥) → outcome_by d ≡ Running
safe_running (goes g h) never = refl
safe_running traps never = refl
safe_running is_limited never = refl
safe_running (ends {vs = vs} h) never = absurd (never vs refl)

-- a rule applies
still_running : {m : Module} {waiting : List ℕ} {x : Parts} {p : Program} {ks : List (Option Continuation)} {t : Term} → Sound m → Stands m waiting x p ks t → (IsLast x.chain → ⊥)
    → outcome_by (reduce p (whole x.store ks) t) ≡ Running
still_running {waiting = waiting} {x = x} {p = p} {ks = ks} {t = t} sound h not =
    safe_running (reduces_safely sound h) (λ vs is.
    let last = end_reached_by p (whole x.store ks) t.around t.operands vs t.rest.ahead t.rest.code (switches t.rest.ahead t.rest.code) refl (limited_end _ vs is) in
    let more = more_left waiting h.stand.term not in
    absurd (cc))

-- ## Of a machine

module _ {from : Origin} {functions : List ℕ} {x : Parts} {waiting : List (Box Segment Global)} {n a b : ℕ} (h : IsReached from functions x waiting None n a b) where
  stop_outcome : (p : Program) (s₀ : Store) (t₀ : Term) → Begins from p s₀ t₀ → IsLast x.chain
      → EndsAt run_stop.Ended x.chain (Run p s₀ t₀ n).outcome × ((Run p s₀ t₀ n).taken ≡ n) × Counts (Run p s₀ t₀ n) (length x.conts.entries) (live_of x.conts)
  stop_outcome p s₀ t₀ begins last =
      let at = h.reached p s₀ t₀ begins in
      let there = last_there at.stands.stand.term (is_last_true x.chain last) in
      let ended = nothing_left p (whole x.store at.ks) at.t (waiting_of waiting) there.0 there.1 (at.stands.done last) in
      (outcome_here p at.is ∙ ap outcome_by (ended ∙ ap Ended (top_operands at.stands.stand.term)), taken_is p at.is, counts_here p s₀ t₀ at refl)

  -- where it stops it keeps that
  end_reached : IsLast x.chain → IsReached from functions x waiting (Some run_stop.Ended) n (length x.conts.entries) (live_of x.conts)
  end_reached last = record {
    functions_are = h.functions_are;
    fresh = h.fresh;
    bound = h.bound;
    usable = h.usable.0;
    started = h.started;
    fewer = live_made x.conts.entries;
    reached = λ p s₀ t₀ begins. stop_outcome p s₀ t₀ begins last;
  }

  -- and so it keeps that it has
  pub some_reached : (k : RunStop) → Some k ≡ end_at x.chain → IsReached from functions x waiting (Some k) n (length x.conts.entries) (live_of x.conts)
  some_reached k e =
      let l = ended_last (top x.chain).shape.stage x.chain k refl e in
      subst (λ (y : RunStop). IsReached from functions x waiting (Some y) n (length x.conts.entries) (live_of x.conts)) (sym l.1) (end_reached l.0)

  stops_there : Sound from.source → (r : Option RunStop) → r ≡ end_at x.chain → (p : Program) (s₀ : Store) (t₀ : Term) → Begins from p s₀ t₀ → IsStoppedBy (Run p s₀ t₀ n) r
  stops_there sound None e p s₀ t₀ begins =
      let at = h.reached p s₀ t₀ begins in
      outcome_here p at.is ∙ still_running sound at.stands (none_last (top x.chain).shape.stage x.chain refl e)
  stops_there sound (Some k) e p s₀ t₀ begins = stops_so k x.chain _ ((some_reached k e).reached p s₀ t₀ begins).0

-- none of this is a fault
no_fault : (r : Option RunStop) (xs : List Link) → r ≡ end_at xs → IsNoFault r
no_fault None xs e = tt
no_fault (Some k) xs e = let l = ended_last (top xs).shape.stage xs k refl e in subst (λ (x : RunStop). is_fault x ≡ false) (sym l.1) refl

-- with a machine's own fields
module _ {from : Origin} {functions : List ℕ} {x : Parts} {waiting : List (Box Segment Global)} {n a b : ℕ} (k : Option RunStop) (r : Option RunStop) (q : Position)
    (view : record { origin = from; taken = n; stop = k } ≡ q) (none : q.stop ≡ None) (result_is : r ≡ end_at x.chain) (h : IsReached from functions x waiting k n a b) where
  was_none : k ≡ None
  was_none = ap (λ (x : Position). x.stop) view ∙ none

  none_reached : IsReached from functions x waiting None n a b
  none_reached = subst (λ (o : Option RunStop). IsReached from functions x waiting o n a b) was_none h

  -- it keeps whether it has, with how many continuations there are
  pub stop_reached : (c d : ℕ) → true ≡ is_some r → c ≡ length x.conts.entries → d ≡ live_of x.conts → IsReached from functions x waiting r n c d
  stop_reached c d some made live = by r some result_is
    where
      by : (o : Option RunStop) → true ≡ is_some o → o ≡ end_at x.chain → IsReached from functions x waiting o n c d
      by None e t = absurd (cc)
      by (Some y) e t =
          subst (λ (u : ℕ). IsReached from functions x waiting (Some y) n u d) (sym made)
          (subst (λ (v : ℕ). IsReached from functions x waiting (Some y) n (length x.conts.entries) v) (sym live) (some_reached none_reached y t))

  stops_all : Sound from.source → (p : Program) (s₀ : Store) (t₀ : Term) → Begins q.origin p s₀ t₀ → IsStoppedBy (Run p s₀ t₀ q.taken) r
  stops_all sound = subst (λ (x : Position). (p : Program) (s₀ : Store) (t₀ : Term) → Begins x.origin p s₀ t₀ → IsStoppedBy (Run p s₀ t₀ x.taken) r) view (stops_there none_reached sound r result_is)

  -- it has ended
  pub stops_some : Sound from.source → true ≡ is_some r → StopsIfEnded q r (record { origin = from; taken = n; stop = r })
  stops_some sound some = (subst (λ (x : Position). record { origin = from; taken = n; stop = r } ≡ with_stop x r) view (after_some r some), no_fault r x.chain result_is, stops_all sound)
    where
      after_some : (o : Option RunStop) → true ≡ is_some o → record { origin = from; taken = n; stop = o } ≡ with_stop (record { origin = from; taken = n; stop = k }) o
      after_some (Some x) e = refl
      after_some None e = absurd (cc)

  -- nothing is
  pub stops_none : Sound from.source → false ≡ is_some r → StopsIfEnded q r q
  stops_none sound e = (after_none r e, no_fault r x.chain result_is, stops_all sound)
    where
      after_none : (o : Option RunStop) → false ≡ is_some o → q ≡ with_stop q o
      after_none None e = refl
      after_none (Some x) e = absurd (cc)
