-- Handles: the function that is handled becomes a continuation, its arguments are bound, and the handler's function resumes it.
use Rattle.std.proofs.Common.{◌≡◌, ℕ, zero, suc, ◌+◌, ◌-◌, ◌≤◌, Bool, true, List, [], ◌∷◌, ◌++◌, length, take, drop, Option, Some, None, refl, sym, ap, ◌∙◌, subst, arith, length-append, append_assoc}
use Rattle.std.specs.Prelude.{slice_get, slice_set}
use Rattle.w_types.specs.declared.types.CompType.{CompType}
use Rattle.lists.specs.Rows.{Row, ε, ◌▹◌, ◌⧺◌, size}
use Rattle.w_types.specs.declared.types.ValType.TheVariants.{I64}
use Rattle.w_tables.specs.declared.entries.FuncEntry.{FuncEntry}
use Rattle.w_tables.specs.declared.entries.FuncEntry.TheVariants.{Own}
use Rattle.w_syntax.specs.Code.{Code, Done, Plain}
use Rattle.w_rules.specs.Context.{cont_of, func_at, index_in_cont}
use Rattle.w_rules.specs.Spaces.{context_of}
use Rattle.w_reduce.specs.Values.{Val, Func, Cont}
use Rattle.w_reduce.specs.Store.{Store, live, live_in, next_cont, with_cont, without_cont, with_conts}
use Rattle.w_reduce.specs.Terms.{rest_of, Label, Frame, Handle, Context, Term, Continuation, fresh_continuation, filled, locals_of, Invoke, frames, handles}
use Rattle.w_reduce.specs.Reduced.{Went}
use Rattle.s_syntax.specs.declared.name.Name.{Name}
use Rattle.s_syntax.specs.declared.script.Function.{Function}
use Rattle.s_syntax.specs.declared.script.Handler.{Handler}
use Rattle.s_syntax.specs.declared.script.Script.{Script}
use Rattle.s_check.specs.Definitions.{function_of, handler_of}
use Rattle.s_check.specs.Scopes.{is_among}
use Rattle.s_index.specs.Handled.{handled_names}
use Rattle.s_index.specs.Indices.{continuation_index}
use Rattle.s_index.specs.Numbers.{function_index, handler_index}
use Rattle.s_index.specs.Types.{val_types, computation_type}
use Rattle.s_code.specs.Instructions.{call, local_get, new_continuation, bind_continuation}
use Rattle.s_code.specs.Layouts.{Layout}
use Rattle.s_code.specs.Expressions.{begin}
use Rattle.s_code.specs.Handlers.{labels as clause_list, return_code}
use Rattle.s_code.specs.Lowered.{lowered, function_code}
use Rattle.s_code.specs.Places.{function_layout, function_locals, return_layout, placed_clauses}
use Rattle.s_code.specs.Statements.{body}
use Rattle.s_meaning.specs.Terms.{Value, Variable, Handling, Work}
use Rattle.s_meaning.specs.Terms as script
use Rattle.s_meaning.specs.Steps.{applies}
use Rattle.s_meaning.proofs.Lists.{get_last}
use Rattle.s_valid.specs.Offers.{arrow}
use Rattle.s_valid.proofs.ModuleOffers.{offers_all}
use Rattle.s_valid.proofs.FirstStores.{function_stored}
use Rattle.s_agrees.proofs.ScriptRows.{Values, ◌⧻◌, many, listed_both, listed_many}
use Rattle.s_agrees.proofs.StandsFor.{config, Sames, none, more, Locals, HeldAt, held_none, held_more, Active, gets, handle_code, Works, handler_place, clause_labels, in_loop, Base, function, Waits, activation, handle, runs, Stores}
use Rattle.s_agrees.proofs.Facts.{Facts}
use Rattle.s_agrees.proofs.Contexts.{deep_locals, works_deep, base_locals}
use Rattle.s_agrees.proofs.CountedContexts.{stored, clauses_labels, clauses_frames, clauses_handles, live_more, live_none, stored_none}
use Rattle.s_agrees.proofs.Paths.{program_of, step, Caps, Under, Path, stay, go, path_on, path_wider, takes, get_path}
use Rattle.s_agrees.proofs.Matches.{Matches, went}
use Rattle.s_agrees.proofs.BoundValues.{bind_known}
use Rattle.s_agrees.proofs.Bodies.{rest_body}
use Rattle.s_agrees.proofs.StoresLeft.{set_last, stores_spent}
use Rattle.s_agrees.proofs.EnteredBodies.{sames_many, entered, invoke_step, many_placed, enter_path}
use Rattle.s_agrees.proofs.HandlerCalls.{handler_first, first_room, first_held, first_handled, handler_step}
use Rattle.s_agrees.proofs.Calls.{types_many, entered_active}

-- ## Locals put on the stack

pub record Got (p : Script) (matches : ℕ → ℕ → Bool) (k : Caps) (ρ : List ℕ) (s : Store) (e : Context) (ops : Row Val) (ns : Row ℕ) (c : Code) (us : Values) : Type 0 where
  pub values : Row Val
  pub sames : Sames ρ us values
  pub path : Path (program_of p matches) k (size ns) s (config e ops (gets ns c)) s (config e (ops ⧺ values) c)

pub got : (p : Script) (matches : ℕ → ℕ → Bool) {k : Caps} {ρ : List ℕ} {s : Store} {e : Context} {L : Locals} {b : ℕ} (ops : Row Val) (c : Code) {ns : Row ℕ} {us : Values}
    → locals_of e ≡ L → Under k s e → HeldAt ρ L b ns us → Got p matches k ρ s e ops ns c us
got p matches ops c l u held_none = record { values = ε; sames = none; path = stay }
got p matches {k} {ρ} {s} {e} {L} ops c l u (held_more {ns = ns} {n = n} h below x) =
    let r = got p matches {k = k} {ρ = ρ} {s = s} {e = e} {L = L} ops (Plain (local_get n) c) l u h in record {
      values = r.values ▹ x.value;
      sames = more r.sames x.same;
      path = subst (λ (i : ℕ). Path (program_of p matches) k i s (config e ops (gets ns (Plain (local_get n) c))) s (config e ((ops ⧺ r.values) ▹ x.value) c))
          (let z : size ns + 1 ≡ suc (size ns) = omega arith in z)
          (path_on r.path (get_path n x.value l x.is u stay));
    }

pub held_many : {ρ : List ℕ} {L : Locals} {b : ℕ} {ns : Row ℕ} {us : Values} → HeldAt ρ L b ns us → size ns ≡ many us
held_many held_none = refl
held_many (held_more h lt l) = ap suc (held_many h)

-- ## A computation that is ready to run

-- what the module makes of a function and its arguments
abbrev pub computation : ℕ → Row Val → Continuation
computation a us = record { takes = 0; term = record { around = []; operands = ε ⧺ us; rest = record { ahead = Invoke a ∷ []; code = Done } } }

-- the store with a continuation that was made and consumed, and a computation behind it
abbrev pub with_computation : Store → Continuation → Store
with_computation s k = with_conts ((s.conts ++ None ∷ []) ++ Some k ∷ []) s

-- the type of computations
pub computes : (p : Script) → cont_of (context_of (lowered p)) computation_type ≡ Some (arrow [] (I64 ∷ []))
computes p =
    let C = context_of (lowered p) in let o = offers_all p.declarations in
    ap (λ (t : Option CompType). func_at C (index_in_cont t)) o.computation ∙ o.computed

-- and of the continuations of a function that is handled
pub continues : (p : Script) (g : Name) (fn : Function) → function_of p.declarations g ≡ Some fn → is_among (handled_names p.declarations) g ≡ true
    → cont_of (context_of (lowered p)) (continuation_index p.declarations g) ≡ Some (arrow (val_types fn.parameters) (I64 ∷ []))
continues p g fn is among =
    let C = context_of (lowered p) in let o = (offers_all p.declarations).handled g fn is among in
    ap (λ (t : Option CompType). func_at C (index_in_cont t)) o.continuation ∙ o.type

-- its arguments are bound
bind_step : (p : Script) (matches : ℕ → ℕ → Bool) (s : Store) (e : Context) (ops us : Row Val) (c : Code) (a n x : ℕ) → n ≡ size us
    → step (program_of p matches) (with_cont (fresh_continuation a n) s) (config e ((ops ⧺ us) ▹ Cont (next_cont s)) (Plain (bind_continuation x computation_type) c))
    ≡ Went [] (with_computation s (computation a us)) (config e (ops ▹ Cont (length (s.conts ++ None ∷ []))) c)
bind_step p matches s e ops us c a n x enough =
    let K = computation a us in
    let all : n - 0 ≡ size us = omega (arith, enough) in
    let next : length (s.conts ++ Some (fresh_continuation a n) ∷ []) ≡ length (s.conts ++ None ∷ []) = length-append s.conts (Some (fresh_continuation a n) ∷ []) ∙ sym (length-append s.conts (None ∷ [])) in
    let raw : step (program_of p matches) (with_cont (fresh_continuation a n) s) (config e ((ops ⧺ us) ▹ Cont (next_cont s)) (Plain (bind_continuation x computation_type) c))
    ≡ Went [] (with_conts (slice_set (s.conts ++ Some (fresh_continuation a n) ∷ []) (length s.conts) None ++ Some K ∷ []) s) (config e (ops ▹ Cont (length (s.conts ++ Some (fresh_continuation a n) ∷ []))) c) =
    rw (get_last s.conts (Some (fresh_continuation a n)), computes p)
    (takes (n - 0) ops us (λ q. Went [] (with_conts (slice_set (s.conts ++ Some (fresh_continuation a n) ∷ []) (length s.conts) None ++ Some (record { takes = 0; term = filled (fresh_continuation a n).term q.1 }) ∷ []) s)
    (config e (q.0 ▹ Cont (length (s.conts ++ Some (fresh_continuation a n) ∷ []))) c)) all) in
    raw ∙ ap (λ (l : List (Option Continuation)). Went [] (with_conts (l ++ Some K ∷ []) s) (config e (ops ▹ Cont (length (s.conts ++ Some (fresh_continuation a n) ∷ []))) c)) (set_last s.conts (Some (fresh_continuation a n)) None)
    ∙ ap (λ (j : ℕ). Went [] (with_computation s K) (config e (ops ▹ Cont j) c)) next

-- a function of the script becomes a computation
pub begin_path : (p : Script) (matches : ℕ → ℕ → Bool) (g : Name) (fn : Function) → function_of p.declarations g ≡ Some fn → is_among (handled_names p.declarations) g ≡ true
    → {k : Caps} {s : Store} {e : Context} (ops us : Row Val) (c : Code) (place : ℕ) → slice_get s.functions (function_index p.declarations g) ≡ Some (Own place) → length fn.parameters ≡ size us
    → Under k s e → suc (live s) ≤ k.conts
    → Path (program_of p matches) k 3 s (config e (ops ⧺ us) (begin p.declarations g c))
    (with_computation s (computation (function_index p.declarations g) us)) (config e (ops ▹ Cont (length (s.conts ++ None ∷ []))) c)
begin_path p matches g fn is among {k} {s} {e} ops us c place there enough u few =
    let a = function_index p.declarations g in
    let n = length (val_types fn.parameters) in
    let x = continuation_index p.declarations g in
    let K = computation a us in
    let c2 : Code = Plain (bind_continuation x computation_type) c in
    let c1 : Code = Plain (new_continuation x) c2 in
    let more_live : live (with_cont (fresh_continuation a n) s) ≡ suc (live s) = live_more s.conts (fresh_continuation a n) in
    let last_live : live (with_computation s K) ≡ suc (live s) = live_more (s.conts ++ None ∷ []) K ∙ ap suc (live_none s.conts) in
    let all : n ≡ size us = types_many fn.parameters ∙ enough in
    let first : step (program_of p matches) s (config e (ops ⧺ us) (begin p.declarations g c)) ≡ Went [] s (config e ((ops ⧺ us) ▹ Func a) c1) = rw there refl in
    let second : step (program_of p matches) s (config e ((ops ⧺ us) ▹ Func a) c1) ≡ Went [] (with_cont (fresh_continuation a n) s) (config e ((ops ⧺ us) ▹ Cont (next_cont s)) c2) = rw (continues p g fn is among) refl in
    go first u (go second (record { frames = u.frames; handles = u.handles; conts = omega (arith, more_live, few) })
    (go (bind_step p matches s e ops us c a n x all) (record { frames = u.frames; handles = u.handles; conts = omega (arith, last_live, few) }) stay))

-- ## A handle

pub take_front : {A : Type 0} (xs ys : List A) (n : ℕ) → n ≡ length xs → take n (xs ++ ys) ≡ xs
take_front [] ys zero e = refl
take_front [] ys (suc n) e = absurd (omega (arith, e))
take_front (x ∷ xs) ys zero e = absurd (omega (arith, e))
take_front {A} (x ∷ xs) ys (suc n) e = ap (λ (l : List A). x ∷ l) (take_front xs ys n (omega (arith, e)))

pub drop_front : {A : Type 0} (xs ys : List A) (n : ℕ) → n ≡ length xs → drop n (xs ++ ys) ≡ ys
drop_front [] ys zero e = refl
drop_front [] ys (suc n) e = absurd (omega (arith, e))
drop_front (x ∷ xs) ys zero e = absurd (omega (arith, e))
drop_front (x ∷ xs) ys (suc n) e = drop_front xs ys n (omega (arith, e))

module _ {p : Script} (matches : ℕ → ℕ → Bool) (facts : Facts p.declarations) {ρ : List ℕ} {σ : script.Store} {s : Store} (stores : Stores p.declarations ρ σ s) {Γ : Layout} {n D0 : ℕ} {L : Locals} {vars : List Variable} {owner : Option Name} {κ : script.Context} {below : Row Val} {c' : Code} {e' f : Context}
    (active : Active ρ Γ n L vars) (base : Base p.declarations Γ L below c' e' owner D0 f) (waits : Waits p.declarations ρ κ below c' e') where
  -- E[handle g(us) with h(vs)]
  pub sim_handling : {t m b : ℕ} {us vs : Values} {ws : Row Val} {w : List Work} {ops : Row Val} {c : Code} {e : Context} (g h : Name) (fn : Function) (i : Handler) (ns : Row ℕ)
      → function_of p.declarations g ≡ Some fn → handler_of p.declarations h ≡ Some i → is_among (handled_names p.declarations) g ≡ true → m ≡ many us → many us ≡ length fn.parameters → many vs ≡ length i.parameters
      → HeldAt ρ L b ns us → Sames ρ vs ws → Works p.declarations ρ Γ n D0 f t L w ops c e
      → Matches p matches 52 s (config e (ops ⧺ ws) (handle_code p.declarations g h ns c)) (applies p (record { store = σ; variables = vars; owner = owner; work = w; outer = κ }) (Handling g m h) (script.listed (us ⧻ vs)))
  sim_handling {m = m} {us = us} {vs = vs} {ws = ws} {w = w} {ops = ops} {c = c} {e = e} g h fn i ns is_g is_h among firsts enough_g enough_h held values works =
      let ds = p.declarations in
      let a = function_index ds g in
      let q = facts.functions g fn is_g in
      let hf = facts.handlers h i is_h in
      let ps = placed_clauses ds h i in
      let bound = bind_known fn.parameters (script.listed us) (sym enough_g ∙ sym (listed_many us)) in
      let k0 : Caps = record { frames = 2 + frames e; handles = suc (handles e); conts = suc (live s) } in
      let here : Under k0 s e = record { frames = omega arith; handles = omega arith; conts = omega arith } in
      let f_stored = function_stored ds g fn is_g in
      let f_there : slice_get s.functions a ≡ Some (Own f_stored.place) = ap (λ (l : List FuncEntry). slice_get l a) stores.functions ∙ f_stored.entry in
      let G = got p matches {k = k0} {ρ = ρ} {s = s} {e = e} {L = L} (ops ⧺ ws) (begin ds g (Plain (call (handler_index ds h)) c)) (deep_locals (works_deep works).1 ∙ base_locals base) here held in
      let us' = G.values in
      let K = computation a us' in
      let many_us : length fn.parameters ≡ size us' = let x = sames_many G.sames in omega (arith, x, enough_g) in
      let B = begin_path p matches g fn is_g among {k = k0} {s = s} {e = e} (ops ⧺ ws) us' (Plain (call (handler_index ds h)) c) f_stored.place f_there many_us here (let z : suc (live s) ≤ suc (live s) = omega arith in z) in
      let s1 : Store = with_computation s K in
      let b1 : ℕ = length (s.conts ++ None ∷ []) in
      let Lh : Locals = handler_first ds h i ws b1 in
      let live1 : live s1 ≡ suc (live s) = live_more (s.conts ++ None ∷ []) K ∙ ap suc (live_none s.conts) in
      let s2 : Store = without_cont b1 s1 in
      let conts2 : s2.conts ≡ s.conts ++ (None ∷ None ∷ []) = set_last (s.conts ++ None ∷ []) (Some K) None ∙ append_assoc s.conts (None ∷ []) (None ∷ []) in
      let live2 : live s2 ≡ live s = ap live_in (set_last (s.conts ++ None ∷ []) (Some K) None) ∙ live_none (s.conts ++ None ∷ []) ∙ live_none s.conts in
      let stored2 : stored s2.conts ≡ stored s.conts = ap stored (set_last (s.conts ++ None ∷ []) (Some K) None) ∙ stored_none (s.conts ++ None ∷ []) ∙ stored_none s.conts in
      let E : Context = Handle ε (clause_list ds 0 i.clauses) (return_code ds (return_layout ds h i) (length i.clauses) i) ∷ clause_labels ds ps (in_loop ds h i Lh ops c e) in
      let called = handler_step p matches stores h is_h hf s1 refl values enough_h e ops c b1 in
      let ec_frames = clauses_frames ds ps (in_loop ds h i Lh ops c e) in
      let ec_handles = clauses_handles ds ps (in_loop ds h i Lh ops c e) in
      let ec_labels = clauses_labels ds ps (in_loop ds h i Lh ops c e) in
      let entering : Under k0 s1 (Frame ops 1 (handler_place ds h) Lh (rest_of c) ∷ e) = record { frames = omega arith; handles = omega arith; conts = omega (arith, live1) } in
      let inside : Under k0 s1 (Label ε 1 Done Done ∷ Frame ops 1 (handler_place ds h) Lh (rest_of c) ∷ e) = record { frames = entering.frames; handles = entering.handles; conts = entering.conts } in
      let resumed : Under k0 s2 E = record { frames = omega (arith, ec_frames); handles = omega (arith, ec_handles); conts = omega (arith, live2) } in
      let N = enter_path p matches h i is_h {k = k0} {s = s1} {e = e} {below = ops} {c = c} {L = Lh} b1 K (first_handled ds hf values enough_h b1) (get_last (s.conts ++ None ∷ []) (Some K)) refl entering resumed in
      let t' : Term = config (entered (a - 1) ε us' (function_locals ds fn) (rest_of Done) E) ε (body ds (function_layout ds fn) 0 fn.body) in
      let invoked : step (program_of p matches) s2 (record { around = E; operands = ε ⧺ us'; rest = record { ahead = Invoke a ∷ []; code = Done } }) ≡ Went [] s2 t' =
      invoke_step p matches s2 E ε us' (rest_of Done) a (val_types fn.parameters) (function_code ds fn) stores.functions f_stored (types_many fn.parameters ∙ many_us) in
      let last : Under k0 s2 t'.around = record { frames = omega (arith, ec_frames); handles = omega (arith, ec_handles); conts = omega (arith, live2) } in
      let whole = path_on G.path (path_on B (go called inside (path_on N (go invoked last stay)))) in
      let many_ns = held_many held in
      let few_g = q.few in let few_h = hf.few in let few_c = hf.few_clauses in let many_ps = many_placed ds h i in
      rw (
        is_g,
        ap (λ (l : List Value). take m l) (listed_both us vs) ∙ take_front (script.listed us) (script.listed vs) m (firsts ∙ sym (listed_many us)),
        ap (λ (l : List Value). drop m l) (listed_both us vs) ∙ drop_front (script.listed us) (script.listed vs) m (firsts ∙ sym (listed_many us)),
        bound.1,
      )
      (went (path_wider (omega (arith, ec_frames)) (omega (arith, ec_handles)) (omega arith) whole) (omega arith) (omega (arith, ec_labels, many_ns, few_g, few_c, many_ps, enough_g, stored2))
      (record {
        stands = runs (entered_active facts g fn is_g bound.0 enough_g G.sames bound.1) (rest_body q.well) (function refl)
            (handle is_h (first_room ds hf values enough_h b1) (listed_many vs ∙ enough_h) (first_held ds hf values enough_h b1) (activation active works base waits));
        stores = stores_spent stores (None ∷ None ∷ []) conts2 refl refl live2;
      }))
