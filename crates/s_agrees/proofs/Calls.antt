-- Calls and tail calls of functions.
use Rattle.std.proofs.Common.{◌≡◌, ℕ, suc, ◌-◌, Bool, List, [], ◌∷◌, length, Option, Some, refl, sym, ap, ◌∙◌, arith}
use Rattle.std.specs.Prelude.{slice_get}
use Rattle.std.specs.Option.{option_map}
use Rattle.lists.specs.Rows.{Row, ε, ◌⧺◌, size}
use Rattle.w_types.specs.declared.types.FuncType.{FuncType}
use Rattle.w_types.specs.declared.types.ValType.{ValType}
use Rattle.w_types.specs.declared.types.ValType.TheVariants.{I64}
use Rattle.w_tables.specs.declared.entries.FuncEntry.{FuncEntry}
use Rattle.w_tables.specs.declared.entries.FuncEntry.TheVariants.{Own}
use Rattle.w_syntax.specs.Code.{Code, Plain}
use Rattle.w_syntax.specs.declared.module.Func.{Func as Body}
use Rattle.w_reduce.specs.Calls.{invoked, params_of, around_frame, return_invoke}
use Rattle.w_reduce.specs.Values.{Val}
use Rattle.w_reduce.specs.Store.{Store}
use Rattle.w_reduce.specs.Terms.{Rest, rest_of, Context, Term}
use Rattle.w_reduce.specs.Program.{Program}
use Rattle.w_reduce.specs.Reduced.{Reduced, Went, steps_to, or_stuck, take_values}
use Rattle.s_syntax.specs.declared.name.Name.{Name}
use Rattle.s_syntax.specs.declared.script.Declaration.{Declaration}
use Rattle.s_syntax.specs.declared.script.Function.{Function}
use Rattle.s_syntax.specs.declared.script.Parameter.{Parameter}
use Rattle.s_syntax.specs.declared.script.Script.{Script}
use Rattle.s_check.specs.Definitions.{function_of}
use Rattle.s_index.specs.Numbers.{function_index}
use Rattle.s_index.specs.Types.{val_types}
use Rattle.s_code.specs.Instructions.{call, return_call}
use Rattle.s_code.specs.Handlers.{Placed}
use Rattle.s_code.specs.Layouts.{Layout}
use Rattle.s_code.specs.Places.{function_layout, function_locals}
use Rattle.s_code.specs.Temporaries.{high_block}
use Rattle.s_code.specs.Statements.{body}
use Rattle.s_meaning.specs.Terms.{Variable, Calling, TailCalling, Work}
use Rattle.s_meaning.specs.Terms as script
use Rattle.s_meaning.specs.Steps.{bind, applies}
use Rattle.s_valid.specs.Beginning.{first_store}
use Rattle.s_valid.specs.Offers.{arrow}
use Rattle.s_valid.proofs.FirstStores.{Stored, function_stored}
use Rattle.s_agrees.proofs.ScriptRows.{Values, many, listed_many}
use Rattle.s_agrees.proofs.StandsFor.{config, Sames, Locals, Active, Deep, here, label, Works, clause_labels, in_loop, Base, function, clause, Waits, activation, runs, Stores}
use Rattle.s_agrees.proofs.Facts.{Facts}
use Rattle.s_agrees.proofs.CountedContexts.{deep_labels, base_labels}
use Rattle.s_agrees.proofs.Paths.{program_of, step, takes, stay, go}
use Rattle.s_agrees.proofs.Matches.{Matches, went, under_last}
use Rattle.s_agrees.proofs.BoundValues.{bind_known, holds_bound}
use Rattle.s_agrees.proofs.Bodies.{rest_body}
use Rattle.s_agrees.proofs.EnteredBodies.{first_locals, many_locals, held_first, sames_many, entered, invoke_step}

pub types_many : (ps : List Parameter) → length (val_types ps) ≡ length ps
types_many [] = refl
types_many (q ∷ ps) = ap suc (types_many ps)

-- the variables of a function that is entered
pub entered_active : {p : Script} (facts : Facts p.declarations) (g : Name) (fn : Function) → function_of p.declarations g ≡ Some fn → {ρ : List ℕ} {vs : Values} {ws : Row Val} (vars : List Variable)
    → many vs ≡ length fn.parameters → Sames ρ vs ws → bind fn.parameters (script.listed vs) ≡ Some vars
    → Active ρ (function_layout p.declarations fn) (high_block fn.body) (first_locals ws (function_locals p.declarations fn)) vars
entered_active {p} facts g fn is {vs = vs} {ws = ws} vars enough values bound =
    let q = facts.functions g fn is in
    let a = many_locals ws (function_locals p.declarations fn) in let b = sames_many values in let r = q.room in
    record { fine = q.fine; room = omega (arith, a, b, r, enough); holds = holds_bound q.parameters bound (held_first (function_locals p.declarations fn) values) }

-- ## The frame of a tail call

-- it is found past labels
around_deep : (on : Row Val × Rest × Context → Reduced) {f : Context} {d : ℕ} {e : Context} → Deep f d e → around_frame e on ≡ around_frame f on
around_deep on here = refl
around_deep on (label q) = around_deep on q

around_clauses : (on : Row Val × Rest × Context → Reduced) (ds : List Declaration) (ps : List Placed) (e : Context) → around_frame (clause_labels ds ps e) on ≡ around_frame e on
around_clauses on ds [] e = refl
around_clauses on ds (p ∷ ps) e = around_clauses on ds ps e

-- an activation's, and what stands around it
around_base : {ds : List Declaration} {Γ : Layout} {L : Locals} {below : Row Val} {c : Code} {e : Context} {owner : Option Name} {D0 : ℕ} {f : Context} (on : Row Val × Rest × Context → Reduced)
    → Base ds Γ L below c e owner D0 f → around_frame f on ≡ on (below, rest_of c, e)
around_base on (function o) = refl
around_base {ds} {L = L} {below = below} {c = c} {e = e} on (clause {h = h} {i = i} ps is o few room) = around_clauses on ds ps (in_loop ds h i L below c e)

-- from labels on the frame to the frame that takes its place
return_invoke_step : (p : Script) (matches : ℕ → ℕ → Bool) (s : Store) {Γ : Layout} {L : Locals} {below : Row Val} {c' : Code} {e' : Context} {owner : Option Name} {d D0 : ℕ} {f e : Context} (ws : Row Val) (a : ℕ) (ts : List ValType) (b : Body)
    → s.functions ≡ (first_store p.declarations).functions → Stored p.declarations a (arrow ts (I64 ∷ [])) b → length ts ≡ size ws → Deep f d e → Base p.declarations Γ L below c' e' owner D0 f
    → return_invoke (program_of p matches) s e (ε ⧺ ws) a ≡ steps_to s (entered (a - 1) below ws b.locals (rest_of c') e') ε (rest_of b.body)
return_invoke_step p matches s {below = below} {c' = c'} {e' = e'} {e = e} ws a ts b functions there enough deep base =
    let P : Program = program_of p matches in
    let entry : slice_get s.functions a ≡ Some (Own there.place) = ap (λ (l : List FuncEntry). slice_get l a) functions ∙ there.entry in
    let by : FuncEntry → Row Val → Row Val × Rest × Context → Reduced = λ h us q. invoked P s q.2 (q.0 ⧺ us) h q.1 in
    let taken : FuncEntry → ℕ → Reduced = λ h n. take_values n (ε ⧺ ws) (λ q. around_frame e (by h q.1)) in
    ap (λ (o : Option FuncEntry). or_stuck o (λ (h : FuncEntry). or_stuck (params_of P h) (taken h))) entry
    ∙ ap (λ (o : Option FuncType). or_stuck (option_map (λ (t : FuncType). length t.params) o) (taken (Own there.place))) there.type
    ∙ takes (length ts) ε ws (λ q. around_frame e (by (Own there.place) q.1)) enough
    ∙ around_deep (by (Own there.place) ws) deep ∙ around_base (by (Own there.place) ws) base
    ∙ sym (ap (λ (o : Option FuncEntry). or_stuck o (λ (h : FuncEntry). invoked P s e' (below ⧺ ws) h (rest_of c'))) entry)
    ∙ invoke_step p matches s e' below ws (rest_of c') a ts b functions there enough

-- ## The steps

module _ {p : Script} (matches : ℕ → ℕ → Bool) (facts : Facts p.declarations) {ρ : List ℕ} {σ : script.Store} {s : Store} (stores : Stores p.declarations ρ σ s) {Γ : Layout} {n D0 : ℕ} {L : Locals} {vars : List Variable} {owner : Option Name} {κ : script.Context} {below : Row Val} {c' : Code} {e' f : Context}
    (active : Active ρ Γ n L vars) (base : Base p.declarations Γ L below c' e' owner D0 f) (waits : Waits p.declarations ρ κ below c' e') where
  -- E[g(vs)]
  pub sim_call : {t : ℕ} {vs : Values} {ws : Row Val} {w : List Work} {ops : Row Val} {c : Code} {e : Context} (g : Name) (fn : Function) → function_of p.declarations g ≡ Some fn → many vs ≡ length fn.parameters
      → Sames ρ vs ws → Works p.declarations ρ Γ n D0 f t L w ops c e
      → Matches p matches 52 s (config e (ops ⧺ ws) (Plain (call (function_index p.declarations g)) c)) (applies p (record { store = σ; variables = vars; owner = owner; work = w; outer = κ }) (Calling g) (script.listed vs))
  sim_call {vs = vs} {ws = ws} {w = w} {ops = ops} {c = c} {e = e} g fn is enough values works =
      let ds = p.declarations in
      let q = facts.functions g fn is in
      let b = bind_known fn.parameters (script.listed vs) (sym enough ∙ sym (listed_many vs)) in
      let t : Term = config e (ops ⧺ ws) (Plain (call (function_index ds g)) c) in
      let t' : Term = config (entered (function_index ds g - 1) ops ws (function_locals ds fn) (rest_of c) e) ε (body ds (function_layout ds fn) 0 fn.body) in
      let called : step (program_of p matches) s t ≡ Went [] s t' =
      invoke_step p matches s e ops ws (rest_of c) (function_index ds g) (val_types fn.parameters) (record { locals = function_locals ds fn; body = body ds (function_layout ds fn) 0 fn.body }) stores.functions (function_stored ds g fn is)
      (types_many fn.parameters ∙ sym enough ∙ sames_many values) in
      rw (is, b.1)
      (went (go called (under_last s s t t' (omega arith)) stay) (omega arith) (omega arith)
      (record { stands = runs (entered_active facts g fn is b.0 enough values b.1) (rest_body q.well) (function refl) (activation active works base waits); stores = stores }))

  -- E[return g(vs)], where E's activation ends
  pub sim_tail_call : {d : ℕ} {vs : Values} {ws : Row Val} {e : Context} (g : Name) (fn : Function) → function_of p.declarations g ≡ Some fn → many vs ≡ length fn.parameters
      → Sames ρ vs ws → Deep f d e → (c : Code)
      → Matches p matches 52 s (config e (ε ⧺ ws) (Plain (return_call (function_index p.declarations g)) c)) (applies p (record { store = σ; variables = vars; owner = owner; work = []; outer = κ }) (TailCalling g) (script.listed vs))
  sim_tail_call {vs = vs} {ws = ws} {e = e} g fn is enough values deep c =
      let ds = p.declarations in
      let q = facts.functions g fn is in
      let b = bind_known fn.parameters (script.listed vs) (sym enough ∙ sym (listed_many vs)) in
      let t : Term = config e (ε ⧺ ws) (Plain (return_call (function_index ds g)) c) in
      let t' : Term = config (entered (function_index ds g - 1) below ws (function_locals ds fn) (rest_of c') e') ε (body ds (function_layout ds fn) 0 fn.body) in
      let called : step (program_of p matches) s t ≡ Went [] s t' =
      return_invoke_step p matches s ws (function_index ds g) (val_types fn.parameters) (record { locals = function_locals ds fn; body = body ds (function_layout ds fn) 0 fn.body }) stores.functions (function_stored ds g fn is)
      (types_many fn.parameters ∙ sym enough ∙ sames_many values) deep base in
      let x = deep_labels deep in let y = base_labels base in
      rw (is, b.1)
      (went (go called (under_last s s t t' (omega arith)) stay) (omega arith) (omega (arith, x, y))
      (record { stands = runs (entered_active facts g fn is b.0 enough values b.1) (rest_body q.well) (function refl) waits; stores = stores }))
