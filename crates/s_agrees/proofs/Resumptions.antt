-- resume k(..) with (..): the continuation of the resumption is consumed, and runs on in the function of its handler, entered with these parameters.
use Rattle.std.proofs.Common.{◌≡◌, ℕ, suc, ◌+◌, ◌-◌, ◌≤◌, Bool, List, [], ◌∷◌, ◌++◌, length, Option, Some, None, refl, sym, ap, ◌∙◌, subst, arith}
use Rattle.std.specs.Prelude.{slice_get, slice_set}
use Rattle.lists.specs.Rows.{Row, ε, ◌▹◌, ◌⧺◌}
use Rattle.w_types.specs.declared.types.CompType.{CompType}
use Rattle.w_types.specs.declared.types.ValType.TheVariants.{I64}
use Rattle.w_syntax.specs.Code.{Code, Done, Plain}
use Rattle.w_rules.specs.Context.{cont_of, func_at, index_in_cont}
use Rattle.w_rules.specs.Spaces.{context_of}
use Rattle.w_reduce.specs.declared.trap.Trap.TheVariants as trap
use Rattle.w_reduce.specs.Values.{Val, Cont}
use Rattle.w_reduce.specs.Store.{Store, live, live_in, next_cont, with_cont, without_cont}
use Rattle.w_reduce.specs.Terms.{Administrative, rest_of, Label, Frame, Context, Term, Continuation, filled, frames, handles, locals_of}
use Rattle.w_reduce.specs.Reduced.{Went, Trapped}
use Rattle.s_syntax.specs.declared.name.Name.{Name}
use Rattle.s_syntax.specs.declared.script.VariableType.TheVariants.{Resumption}
use Rattle.s_syntax.specs.declared.script.Handler.{Handler}
use Rattle.s_syntax.specs.declared.script.Declaration.{Declaration}
use Rattle.s_syntax.specs.declared.script.Script.{Script}
use Rattle.s_check.specs.Definitions.{handler_of}
use Rattle.s_index.specs.Numbers.{handler_index}
use Rattle.s_index.specs.Types.{computation_type, resumption_type}
use Rattle.s_code.specs.Instructions.{call, local_get, bind_continuation}
use Rattle.s_code.specs.Layouts.{Local, Layout, number_in, local_number, handler_in, handler_in_type, handler_of_name}
use Rattle.s_code.specs.Expressions.{handler_index_of}
use Rattle.s_code.specs.Lowered.{lowered}
use Rattle.s_code.specs.Places.{placed_clauses}
use Rattle.s_valid.specs.Offers.{arrow}
use Rattle.s_valid.proofs.ModuleOffers.{offers_all}
use Rattle.s_meaning.specs.Numbers.{Reused}
use Rattle.s_meaning.specs.Terms.{Value, Reference, listed, Variable, Resuming, Work, Activation, Handle as Handled, Gives, Number_alone, captured}
use Rattle.s_meaning.specs.Terms as script
use Rattle.s_meaning.specs.Focus.{variable_of}
use Rattle.s_meaning.specs.Typed.{World, KeptTyped, takes_number, EntryTyped}
use Rattle.s_meaning.specs.Typed as typed
use Rattle.s_meaning.specs.Steps.{Step, or_fault, emptied, kept_at, goes, resumes, applies}
use Rattle.s_meaning.proofs.Lists.{get_last, length_set}
use Rattle.s_agrees.proofs.ScriptRows.{Values, no_values, ◌▸◌, ◌⧻◌, many, listed_both, listed_many}
use Rattle.s_agrees.proofs.StandsFor.{config, Same, reference, Sames, Locals, LocalIs, InLocal, Held, Active, resume_code, Works, handler_place, loop_code, in_loop, handler_room, handler_around, Base, Waits, activation, handle, Stands, gives, ResumptionAs, number_alone, number_and_coroutine, not_begun, Entry, consumed, keeps, Stores, At}
use Rattle.s_agrees.proofs.Contexts.{deep_locals, works_deep, base_locals, waits_join}
use Rattle.s_agrees.proofs.CountedContexts.{labels, stored, labels_plug, frames_plug, handles_plug, clauses_labels, clauses_frames, clauses_handles, live_more, live_none, live_less, stored_none, stored_less}
use Rattle.s_agrees.proofs.Paths.{program_of, step, Caps, Under, Path, stay, go, path_wider, takes, get_path}
use Rattle.s_agrees.proofs.Matches.{caps_of, Matches, went, faulted, under_first}
use Rattle.s_agrees.proofs.Facts.{Facts}
use Rattle.s_agrees.proofs.HandlerCalls.{handler_first, first_room, first_held, first_handled, handler_step}
use Rattle.s_agrees.proofs.EnteredBodies.{many_placed, enter_path}
use Rattle.s_agrees.proofs.BoundValues.{some_is}
use Rattle.s_agrees.proofs.StoresGrow.{sides}
use Rattle.s_agrees.proofs.StoresLeft.{set_last, stores_less}

-- ## The variable

reference_is : {ρ : List ℕ} {w : Val} (a : ℕ) → Same ρ (Reference a) w → (b : ℕ) × (slice_get ρ a ≡ Some b) × (w ≡ Cont b)
reference_is a (reference {b = b} e) = (b, e, refl)

-- the local of a name has the continuation of the resumption a, which goes on under the handler h
pub record ResumptionIn (ρ : List ℕ) (Γ : Layout) (L : Locals) (x h : Name) (a : ℕ) : Type 0 where
  pub continuation : ℕ
  pub there : slice_get ρ a ≡ Some continuation
  pub is : slice_get L (local_number Γ x) ≡ Some (Some (Cont continuation))
  pub handler : handler_of_name Γ x ≡ Some h

pub resumption_in : {ρ : List ℕ} {Γ : Layout} {L : Locals} {x h : Name} {a : ℕ} (v : Variable) → v.ty ≡ Resumption h → v.value ≡ Reference a → InLocal ρ Γ L x v → ResumptionIn ρ Γ L x h a
resumption_in {ρ} {Γ} {L} {x} {h} {a} v ty value i =
    let r = reference_is a (subst (λ (z : Value). Same ρ z i.held.value) value i.held.same) in record {
      continuation = r.0;
      there = r.1;
      is = ap (λ (o : Option Local). slice_get L (number_in o)) i.is ∙ i.held.is ∙ ap (λ (z : Val). Some (Some z)) r.2;
      handler = ap handler_in i.is ∙ ap handler_in_type (i.ty ∙ ty);
    }

-- ## cont.bind

-- a continuation that takes one value, with that value
abbrev pub bound : Continuation → Val → Continuation
bound k w = record { takes = 0; term = filled k.term (ε ▹ w) }

-- the store with it in place of the continuation b, and then without it
abbrev pub with_bound : Store → ℕ → Continuation → Val → Store
with_bound s b k w = with_cont (bound k w) (without_cont b s)

abbrev pub spent : Store → ℕ → Continuation → Val → Store
spent s b k w = without_cont (next_cont s) (with_bound s b k w)

-- computations take nothing
computation_arity : (p : Script) → cont_of (context_of (lowered p)) computation_type ≡ Some (arrow [] (I64 ∷ []))
computation_arity p =
    let o = offers_all p.declarations in
    ap (λ (t : Option CompType). func_at (context_of (lowered p)) (index_in_cont t)) o.computation ∙ o.computed

pub bind_step : (p : Script) (matches : ℕ → ℕ → Bool) (s : Store) (e : Context) (ops : Row Val) (w : Val) (c : Code) (b : ℕ) (k : Continuation) → slice_get s.conts b ≡ Some (Some k) → k.takes ≡ 1
    → step (program_of p matches) s (config e (ops ▹ w ▹ Cont b) (Plain (bind_continuation resumption_type computation_type) c)) ≡ Went [] (with_bound s b k w) (config e (ops ▹ Cont (next_cont s)) c)
bind_step p matches s e ops w c b k there one = rw (there, computation_arity p) (takes (k.takes - 0) ops (ε ▹ w) _ (omega (arith, one)))

-- and a trap where it was consumed
pub consumed_step : (p : Script) (matches : ℕ → ℕ → Bool) (s : Store) (e : Context) (ops : Row Val) (c : Code) (b : ℕ) → slice_get s.conts b ≡ Some None
    → step (program_of p matches) s (config e (ops ▹ Cont b) (Plain (bind_continuation resumption_type computation_type) c)) ≡ Trapped trap.ConsumedContinuation
consumed_step p matches s e ops c b there = rw there refl

module _ (s : Store) (b : ℕ) (k : Continuation) (w : Val) (there : slice_get s.conts b ≡ Some (Some k)) where
  pub spent_conts : (spent s b k w).conts ≡ slice_set s.conts b None ++ None ∷ []
  spent_conts =
      ap (λ (z : ℕ). slice_set (slice_set s.conts b None ++ Some (bound k w) ∷ []) z None) (sym (length_set s.conts b None)) ∙ set_last (slice_set s.conts b None) (Some (bound k w)) None

  pub bound_there : slice_get (with_bound s b k w).conts (next_cont s) ≡ Some (Some (bound k w))
  bound_there =
      ap (λ (z : ℕ). slice_get (slice_set s.conts b None ++ Some (bound k w) ∷ []) z) (sym (length_set s.conts b None)) ∙ get_last (slice_set s.conts b None) (Some (bound k w))

  pub bound_live : live (with_bound s b k w) ≡ live s
  bound_live = live_more (slice_set s.conts b None) (bound k w) ∙ live_less s.conts b k there

  pub spent_live : live (spent s b k w) ≡ live_in (slice_set s.conts b None)
  spent_live = ap (λ (z : List (Option Continuation)). live_in z) spent_conts ∙ live_none (slice_set s.conts b None)

  pub spent_stored : stored (spent s b k w).conts + labels k.term.around ≡ stored s.conts
  spent_stored =
      let x : stored (spent s b k w).conts ≡ stored (slice_set s.conts b None) = ap (λ (z : List (Option Continuation)). stored z) spent_conts ∙ stored_none (slice_set s.conts b None) in
      let y = stored_less s.conts b k there in omega (arith, x, y)

-- ## The handler's function

-- what a continuation keeps runs on under it, with this value
abbrev pub resumed : List Declaration → Name → Handler → Locals → Row Val → Code → Context → Continuation → Val → Term
resumed ds h i L below c e k w = record { around = k.term.around ++ handler_around ds h i L below c e; operands = k.term.operands ▹ w; rest = k.term.rest }

-- what the frames, handles and continuations on the way are below
abbrev pub resuming_caps : Store → Context → Continuation → Caps
resuming_caps s e k = record { frames = frames k.term.around + suc (frames e); handles = handles k.term.around + suc (handles e); conts = suc (live s) }

module _ (ds : List Declaration) (h : Name) (i : Handler) (L : Locals) (below : Row Val) (c : Code) (e : Context) (k : Continuation) (w : Val) where
  pub resumed_frames : frames (resumed ds h i L below c e k w).around ≡ frames k.term.around + suc (frames e)
  resumed_frames =
      let x = frames_plug k.term.around (handler_around ds h i L below c e) in let y = clauses_frames ds (placed_clauses ds h i) (in_loop ds h i L below c e) in omega (arith, x, y)

  pub resumed_handles : handles (resumed ds h i L below c e k w).around ≡ handles k.term.around + suc (handles e)
  resumed_handles =
      let x = handles_plug k.term.around (handler_around ds h i L below c e) in let y = clauses_handles ds (placed_clauses ds h i) (in_loop ds h i L below c e) in omega (arith, x, y)

  pub resumed_labels : labels (resumed ds h i L below c e k w).around ≡ labels k.term.around + (length i.clauses + (2 + labels e))
  resumed_labels =
      let x = labels_plug k.term.around (handler_around ds h i L below c e) in let y = clauses_labels ds (placed_clauses ds h i) (in_loop ds h i L below c e) in let z = many_placed ds h i in
      omega (arith, x, y, z)

module _ (p : Script) (matches : ℕ → ℕ → Bool) (s : Store) (b : ℕ) (k : Continuation) (w : Val) (there : slice_get s.conts b ≡ Some (Some k)) (h : Name) (i : Handler) (is : handler_of p.declarations h ≡ Some i)
    (L : Locals) (below : Row Val) (c : Code) (e : Context) (local : slice_get L (length i.parameters) ≡ Some (Some (Cont (next_cont s)))) where
  -- from the handler's function to the kept context
  pub resumed_path : Path (program_of p matches) (resuming_caps s e k) (3 + length i.clauses)
      (with_bound s b k w) (config (Label ε 1 Done Done ∷ Frame below 1 (handler_place p.declarations h) L (rest_of c) ∷ e) ε (loop_code p.declarations h i)) (spent s b k w) (resumed p.declarations h i L below c e k w)
  resumed_path =
      let f = resumed_frames p.declarations h i L below c e k w in let g = resumed_handles p.declarations h i L below c e k w in
      let x = bound_live s b k w there in let y = spent_live s b k w there in let z = live_less s.conts b k there in
      enter_path p matches h i is {k = resuming_caps s e k} {s = with_bound s b k w} {e = e} {below = below} {c = c} {L = L} (next_cont s) (bound k w) local
      (bound_there s b k w there) refl (record { frames = omega arith; handles = omega arith; conts = omega (arith, x) }) (record { frames = omega (arith, f); handles = omega (arith, g); conts = omega (arith, y, z) })

-- the kept context stands there, in the handle
pub resumed_at : {p : Script} {ρ : List ℕ} {σ : script.Store} {s : Store} (stores : Stores p.declarations ρ σ s) (h : Name) {i : Handler} (is : handler_of p.declarations h ≡ Some i)
    (a b : ℕ) {κ κ0 : script.Context} {k : Continuation} (there : slice_get ρ a ≡ Some b) (left_is : kept_at σ a ≡ Some (Some (captured κ))) (right_is : slice_get s.conts b ≡ Some (Some k)) (kept : ResumptionAs p.declarations ρ κ k)
    {u : Value} {w : Val} (value : Same ρ u w) {vs : List Value} {L : Locals} {below : Row Val} {c : Code} {e : Context}
    → handler_room p.declarations h i ≤ length L → length vs ≡ length i.parameters → Held ρ L vs → Waits p.declarations ρ κ0 below c e
    → At p.declarations ρ (record { store = emptied σ a; term = record { hole = Gives u; around = κ ++ Handled h vs ∷ κ0 } }) (spent s b k w) (resumed p.declarations h i L below c e k w)
resumed_at {p} {ρ} {σ} {s} stores h {i} is a b {κ} {κ0} {k} there left_is right_is kept {u} {w} value {vs} {L} {below} {c} {e} room number held outer =
    let tail : Context = handler_around p.declarations h i L below c e in record {
      stands = subst
          (λ (z : List Administrative). Stands p.declarations ρ (record { hole = Gives u; around = κ ++ Handled h vs ∷ κ0 })
          (record { around = k.term.around ++ tail; operands = k.term.operands ▹ w; rest = record { ahead = z; code = k.term.rest.code } })) (sym kept.ahead)
          (gives value (waits_join (Handled h vs ∷ κ0) tail (handle is room number held outer) kept.waits));
      stores = stores_less stores a b (captured κ) k there left_is right_is (None ∷ []) (spent_conts s b k w right_is) refl refl (spent_live s b k w right_is);
    }

-- ## What the script does

module _ (σ : script.Store) (vars : List Variable) {h : Name} (a : ℕ) {entry : Option script.Kept} (x : Name) (v : Variable) (is : variable_of x vars ≡ Some v) (ty : v.ty ≡ Resumption h)
    (value : v.value ≡ Reference a) (kept : kept_at σ a ≡ Some entry) (u : Value) (vs : Values) where
  pub resumes_is : (owner : Option Name) (w : List Work) (κ0 κ : script.Context)
      → resumes (record { store = σ; variables = vars; owner = owner; work = w; outer = κ0 }) x (listed ((no_values ▸ u) ⧻ vs)) κ
      ≡ or_fault Reused entry (λ (r : script.Kept). goes (emptied σ a) (Gives u) (r.around ++ Handled h (listed vs) ∷ κ))
  resumes_is owner w κ0 κ = rw (listed_both (no_values ▸ u) vs, is, ty, value, kept) refl

-- what is kept for a resumption takes a number alone
resumption_takes : {p : Script} {Ξ : World} {h : Name} {k : script.Kept} → KeptTyped p Ξ (Resumption h) k → k.takes ≡ Number_alone
resumption_takes (takes_number c) = refl

-- the continuation of a resumption, by what the script has of it
module _ {p : Script} (matches : ℕ → ℕ → Bool) {ρ : List ℕ} (σ : script.Store) {s : Store} (a b : ℕ) {B : ℕ} {t : Term} (on : script.Context → Step) where
  by_entry : {Ξ : World} {h : Name} {o : Option script.Kept} {q : Option Continuation} → Entry p.declarations ρ (Some o) (Some q) → EntryTyped p Ξ (Resumption h) o → kept_at σ a ≡ Some o → slice_get s.conts b ≡ Some q
      → (slice_get s.conts b ≡ Some None → Matches p matches B s t (or_fault Reused None on))
      → ((κ : script.Context) (k : Continuation) → kept_at σ a ≡ Some (Some (captured κ)) → slice_get s.conts b ≡ Some (Some k) → ResumptionAs p.declarations ρ κ k → Matches p matches B s t (on κ))
      → Matches p matches B s t (or_fault Reused o (λ (x : script.Kept). on x.around))
  by_entry consumed t l r faults goes_on = faults r
  by_entry (keeps (number_alone {κ = κ} {k = k} z)) t l r faults goes_on = goes_on κ k l r z
  by_entry (keeps (number_and_coroutine z)) (typed.EntryTyped.kept t) l r faults goes_on = absurd (let q = resumption_takes t in cc q)
  by_entry (keeps (not_begun i)) (typed.EntryTyped.kept t) l r faults goes_on = absurd (let q = resumption_takes t in cc q)

  pub by_kept : {Ξ : World} {h : Name} → Stores p.declarations ρ σ s → slice_get ρ a ≡ Some b → (entry : Option script.Kept) → EntryTyped p Ξ (Resumption h) entry → kept_at σ a ≡ Some entry
      → (slice_get s.conts b ≡ Some None → Matches p matches B s t (or_fault Reused None on))
      → ((κ : script.Context) (k : Continuation) → kept_at σ a ≡ Some (Some (captured κ)) → slice_get s.conts b ≡ Some (Some k) → ResumptionAs p.declarations ρ κ k → Matches p matches B s t (on κ))
      → Matches p matches B s t (or_fault Reused entry (λ (x : script.Kept). on x.around))
  by_kept {Ξ} {h} stores there entry typed is faults goes_on =
      let z = sides (stores.each a b there) in
      let same : z.left ≡ entry = some_is (sym z.left_is ∙ is) in
      subst (λ (o : Option script.Kept). Matches p matches B s t (or_fault Reused o (λ (x : script.Kept). on x.around))) same
      (by_entry z.entry (subst (λ (o : Option script.Kept). EntryTyped p Ξ (Resumption h) o) (sym same) typed) z.left_is z.right_is faults goes_on)

-- ## The step

module _ {p : Script} (matches : ℕ → ℕ → Bool) (facts : Facts p.declarations) {ρ : List ℕ} {σ : script.Store} {s : Store} (stores : Stores p.declarations ρ σ s) {Γ : Layout} {n D0 : ℕ} {L : Locals} {vars : List Variable} {owner : Option Name} {κ : script.Context} {below : Row Val} {c' : Code} {e' f : Context}
    (active : Active ρ Γ n L vars) (base : Base p.declarations Γ L below c' e' owner D0 f) (waits : Waits p.declarations ρ κ below c' e') where
  -- a resumption that isn't consumed, whose handler is known
  resuming_kept : {t y : ℕ} (h : Name) {i : Handler} {u : Value} {vs : Values} {ws : Row Val} {w : List Work} {ops : Row Val} {c : Code} {e : Context} (x : Name) (a : ℕ) (κ' : script.Context) (k : Continuation)
      → (r : ResumptionIn ρ Γ L x h a) → kept_at σ a ≡ Some (Some (captured κ')) → slice_get s.conts r.continuation ≡ Some (Some k) → ResumptionAs p.declarations ρ κ' k
      → handler_of p.declarations h ≡ Some i → many vs ≡ length i.parameters → LocalIs ρ L y u → Sames ρ vs ws → Works p.declarations ρ Γ n D0 f t L w ops c e
      → Matches p matches 52 s (config e (ops ⧺ ws) (Plain (local_get y) (Plain (local_get (local_number Γ x)) (Plain (bind_continuation resumption_type computation_type) (Plain (call (handler_index p.declarations h)) c)))))
      (goes (emptied σ a) (Gives u) (κ' ++ Handled h (listed vs) ∷ Activation vars owner w ∷ κ))
  resuming_kept {y = y} h {i} {u} {vs} {ws} {w} {ops} {c} {e} x a κ' k r left_is right_is kept is number local values works =
      let ds = p.declarations in let P = program_of p matches in let hf = facts.handlers h i is in let v = local.value in let b = r.continuation in
      let woken : Store = with_bound s b k v in
      let L' : Locals = handler_first p.declarations h i ws (next_cont s) in
      let caps : Caps = resuming_caps s e k in
      let locals : locals_of e ≡ L = deep_locals (works_deep works).1 ∙ base_locals base in
      let end : Term = resumed ds h i L' ops c e k v in
      let live_same = bound_live s b k v right_is in
      let there : Under caps s e = record { frames = omega arith; handles = omega arith; conts = omega arith } in
      let there' : Under caps woken e = record { frames = omega arith; handles = omega arith; conts = omega (arith, live_same) } in
      let inside : Under caps woken (Label ε 1 Done Done ∷ Frame ops 1 (handler_place ds h) L' (rest_of c) ∷ e) = record { frames = omega arith; handles = omega arith; conts = omega (arith, live_same) } in
      let path : Path P caps (4 + (3 + length i.clauses)) s
      (config e (ops ⧺ ws) (Plain (local_get y) (Plain (local_get (local_number Γ x)) (Plain (bind_continuation resumption_type computation_type) (Plain (call (handler_index ds h)) c)))))
      (spent s b k v) end =
      subst (λ (m : ℕ). Path P caps m s
      (config e (ops ⧺ ws) (Plain (local_get y) (Plain (local_get (local_number Γ x)) (Plain (bind_continuation resumption_type computation_type) (Plain (call (handler_index ds h)) c)))))
      (spent s b k v) end) (let z : suc (suc (suc (suc (3 + length i.clauses)))) ≡ 4 + (3 + length i.clauses) = omega arith in z)
      (get_path y v locals local.is there
      (get_path (local_number Γ x) (Cont b) locals r.is there
      (go (bind_step p matches s e (ops ⧺ ws) v (Plain (call (handler_index ds h)) c) b k right_is kept.takes) there'
      (go (handler_step p matches stores h is hf woken refl values number e ops c (next_cont s)) inside
      (resumed_path p matches s b k v right_is h i is L' ops c e (first_handled ds hf values number (next_cont s))))))) in
      let ef = resumed_frames ds h i L' ops c e k v in let eh = resumed_handles ds h i L' ops c e k v in let el = resumed_labels ds h i L' ops c e k v in
      let es = spent_stored s b k v right_is in let few = hf.few_clauses in let long = listed_many vs in
      went (path_wider (omega (arith, ef)) (omega (arith, eh)) (omega arith) path) (omega arith) (omega (arith, el, es, few))
      (resumed_at stores h is a b r.there left_is right_is kept local.same (first_room ds hf values number (next_cont s)) (omega (arith, long, number)) (first_held ds hf values number (next_cont s))
      (activation active works base waits))

  pub sim_resuming : {Ξ : World} {t y : ℕ} (h : Name) {i : Handler} {u : Value} {vs : Values} {ws : Row Val} {w : List Work} {ops : Row Val} {c : Code} {e : Context} (x : Name) (v : Variable) (a : ℕ) (entry : Option script.Kept)
      → variable_of x vars ≡ Some v → v.ty ≡ Resumption h → v.value ≡ Reference a → kept_at σ a ≡ Some entry → EntryTyped p Ξ (Resumption h) entry → handler_of p.declarations h ≡ Some i → many vs ≡ length i.parameters
      → LocalIs ρ L y u → Sames ρ vs ws → Works p.declarations ρ Γ n D0 f t L w ops c e
      → Matches p matches 52 s (config e (ops ⧺ ws) (resume_code p.declarations Γ x y c))
      (applies p (record { store = σ; variables = vars; owner = owner; work = w; outer = κ }) (Resuming x) (listed ((no_values ▸ u) ⧻ vs)))
  sim_resuming {y = y} h {i} {u} {vs} {ws} {w} {ops} {c} {e} x v a entry bound_is ty value kept typed is number local values works =
      let ds = p.declarations in
      let r : ResumptionIn ρ Γ L x h a = resumption_in v ty value (active.holds.each x v bound_is) in
      let locals : locals_of e ≡ L = deep_locals (works_deep works).1 ∙ base_locals base in
      let code : ℕ → Code = λ (m : ℕ). Plain (local_get y) (Plain (local_get (local_number Γ x)) (Plain (bind_continuation resumption_type computation_type) (Plain (call m) c))) in
      let on : script.Context → Step = λ (inner : script.Context). goes (emptied σ a) (Gives u) (inner ++ Handled h (listed vs) ∷ Activation vars owner w ∷ κ) in
      let there : Under (caps_of s (config e (ops ⧺ ws) (code (handler_index ds h))) (config e (ops ⧺ ws) (code (handler_index ds h)))) s e =
      under_first s (config e (ops ⧺ ws) (code (handler_index ds h))) (config e (ops ⧺ ws) (code (handler_index ds h))) in
      subst (λ (z : Step). Matches p matches 52 s (config e (ops ⧺ ws) (resume_code ds Γ x y c)) z) (sym (resumes_is σ vars a x v bound_is ty value kept u vs owner w κ (Activation vars owner w ∷ κ)))
      (subst (λ (o : Option Name). Matches p matches 52 s (config e (ops ⧺ ws) (code (handler_index_of ds o))) (or_fault Reused entry (λ (z : script.Kept). on z.around))) (sym r.handler)
      (by_kept matches σ a r.continuation on stores r.there entry typed kept
      (λ (z : slice_get s.conts r.continuation ≡ Some None).
      faulted (get_path y local.value locals local.is there (get_path (local_number Γ x) (Cont r.continuation) locals r.is there stay))
      (consumed_step p matches s e ((ops ⧺ ws) ▹ local.value) (Plain (call (handler_index ds h)) c) r.continuation z) refl (omega arith))
      (λ (κ' : script.Context) (k : Continuation) left_is right_is ka. resuming_kept h x a κ' k r left_is right_is ka is number local values works)))
