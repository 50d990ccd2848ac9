-- return resume k(..) with (..) in a clause of k's own handler: the frame of the handler's function goes back to its loop, with these parameters.
use Rattle.std.proofs.Common.{◌≡◌, ℕ, suc, ◌+◌, ◌<◌, ◌≤◌, Bool, true, false, List, [], ◌∷◌, ◌++◌, length, Option, Some, None, ◌⊎◌, inl, inr, refl, sym, ap, ◌∙◌, subst, arith}
use Rattle.std.specs.Prelude.{slice_get, slice_set}
use Rattle.std.specs.Str.{bytes_eq}
use Rattle.lists.specs.Rows.{Row, ε, ◌▹◌, ◌⧺◌}
use Rattle.w_syntax.specs.Code.{Code, Done, Plain, after}
use Rattle.w_reduce.specs.Values.{Val, Cont}
use Rattle.w_reduce.specs.Store.{Store, live, next_cont}
use Rattle.w_reduce.specs.Terms.{rest_of, Label, Frame, Context, Term, Continuation, frames, handles, locals_of, with_local}
use Rattle.w_reduce.specs.Program.{Program}
use Rattle.w_reduce.specs.Reduced.{steps_to, Went}
use Rattle.w_reduce.specs.Branches.{branch as branch_to}
use Rattle.s_syntax.specs.declared.name.Name.{Name}
use Rattle.s_syntax.specs.declared.script.VariableType.TheVariants.{Resumption}
use Rattle.s_syntax.specs.declared.script.Handler.{Handler}
use Rattle.s_syntax.specs.declared.script.Declaration.{Declaration}
use Rattle.s_syntax.specs.declared.script.Script.{Script}
use Rattle.s_check.specs.Definitions.{handler_of}
use Rattle.s_index.specs.Types.{computation_type, resumption_type}
use Rattle.s_code.specs.Instructions.{local_get, local_set, branch, bind_continuation}
use Rattle.s_code.specs.Layouts.{Owner, Layout, local_number, handler_of_name, is_same_handler, is_own, owner_parameters}
use Rattle.s_code.specs.Expressions.{set_parameters}
use Rattle.s_code.specs.Handlers.{Placed}
use Rattle.s_meaning.specs.Numbers.{Reused}
use Rattle.s_meaning.specs.Terms.{Value, Reference, listed, Variable, TailResuming, Handle as Handled, Gives, captured}
use Rattle.s_meaning.specs.Terms as script
use Rattle.s_meaning.specs.Focus.{variable_of}
use Rattle.s_meaning.specs.Typed.{World, EntryTyped}
use Rattle.s_meaning.specs.Steps.{Step, or_fault, emptied, kept_at, goes, applies}
use Rattle.s_meaning.proofs.Lists.{length_set}
use Rattle.s_meaning.proofs.Scopes.{same_is}
use Rattle.s_agrees.proofs.ScriptRows.{Values, no_values, ◌▸◌, ◌⧻◌, many, listed_more, listed_many}
use Rattle.s_agrees.proofs.StandsFor.{config, Sames, none, more, Locals, LocalIs, Held, Active, Deep, here, label, tail_code, clause_labels, handler_place, loop_code, in_loop, own, handler_room, Base, function, clause, Waits, ResumptionAs, Stores}
use Rattle.s_agrees.proofs.MoreResumptions.{get_set_same, get_set_other}
use Rattle.s_agrees.proofs.Contexts.{setting, deep_locals, clauses_beyond, clauses_locals, base_locals}
use Rattle.s_agrees.proofs.CountedContexts.{clauses_labels, clauses_frames, clauses_handles, deep_frames, deep_handles, deep_labels}
use Rattle.s_agrees.proofs.Paths.{program_of, step, Caps, Under, Path, stay, go, path_on, path_wider, get_path}
use Rattle.s_agrees.proofs.Matches.{caps_of, Matches, went, faulted, under_first}
use Rattle.s_agrees.proofs.Facts.{Facts}
use Rattle.s_agrees.proofs.BoundValues.{some_is}
use Rattle.s_agrees.proofs.StoresGrow.{old_or_new}
use Rattle.s_agrees.proofs.Captures.{in_range, Around, set_path}
use Rattle.s_agrees.proofs.Resumptions.{ResumptionIn, resumption_in, with_bound, spent, bind_step, consumed_step, bound_live, spent_stored, resumed, resuming_caps, resumed_frames, resumed_handles, resumed_labels, resumed_path, resumed_at, resumes_is, by_kept}

-- ## Labels on another context

pub rebase : {f : Context} {d : ℕ} {e : Context} → Deep f d e → Context → Context
rebase here f' = f'
rebase (label {m = m} {below = below} {again = again} {rest = rest} p) f' = Label below m again rest ∷ rebase p f'

pub rebase_same : {f : Context} {d : ℕ} {e : Context} (p : Deep f d e) → rebase p f ≡ e
unfolding rebase
rebase_same here = refl
rebase_same (label {m = m} {below = below} {again = again} {rest = rest} p) = ap (λ (z : Context). Label below m again rest ∷ z) (rebase_same p)

pub rebase_set : {f : Context} {d : ℕ} {e : Context} (y : ℕ) (w : Val) (f' : Context) (p : Deep f d e) → with_local y w (rebase p f') ≡ rebase p (with_local y w f')
unfolding rebase
rebase_set y w f' here = refl
rebase_set y w f' (label {m = m} {below = below} {again = again} {rest = rest} p) = ap (λ (z : Context). Label below m again rest ∷ z) (rebase_set y w f' p)

pub rebase_deep : {f : Context} {d : ℕ} {e : Context} (f' : Context) (p : Deep f d e) → Deep f' d (rebase p f')
unfolding rebase
rebase_deep f' here = here
rebase_deep f' (label p) = label (rebase_deep f' p)

-- ## Branches

-- out of the labels of an activation
branch_deep : (s : Store) (vs : Row Val) {f : Context} {d : ℕ} {e : Context} (j l : ℕ) → l ≡ d + j → Deep f d e → branch_to s l e vs ≡ branch_to s j f vs
branch_deep s vs {f} j l q here = ap (λ (z : ℕ). branch_to s z f vs) (q ∙ (let z : 0 + j ≡ j = omega arith in z))
branch_deep s vs {f} j l q (label {d = d} {m = m} {e = e} {below = below} {again = again} {rest = rest} p) =
    let one : suc (d + j) ≡ l = omega (arith, q) in
    subst (λ (z : ℕ). branch_to s z (Label below m again rest ∷ e) vs ≡ branch_to s j f vs) one (branch_deep s vs j (d + j) refl p)

-- out of the blocks of clauses
branch_clauses : (s : Store) (ds : List Declaration) (ps : List Placed) (e : Context) (vs : Row Val) → branch_to s (length ps) (clause_labels ds ps e) vs ≡ branch_to s 0 e vs
branch_clauses s ds [] e vs = refl
branch_clauses s ds (q ∷ ps) e vs = branch_clauses s ds ps e vs

-- to the loop of a handler's function
branch_loop : (s : Store) (ds : List Declaration) (h : Name) (i : Handler) (L : Locals) (below : Row Val) (c : Code) (e : Context)
    → branch_to s 0 (in_loop ds h i L below c e) ε ≡ steps_to s (Label ε 1 Done Done ∷ Frame below 1 (handler_place ds h) L (rest_of c) ∷ e) ε (rest_of (loop_code ds h i))
unfolding after
branch_loop s ds h i L below c e = refl

-- ## Parameters that are set from the stack

-- one value more
held_one : {ρ : List ℕ} {L : Locals} (vs : Values) {v : Value} → Held ρ L (listed vs) → LocalIs ρ L (many vs) v → Held ρ L (listed (vs ▸ v))
held_one {ρ} {L} vs {v} h l = record { each = λ j u e. by j u (old_or_new (listed vs) v j u (ap (λ (z : List Value). slice_get z j) (sym (listed_more vs v)) ∙ e)) }
  where
    by : (j : ℕ) (u : Value) → (slice_get (listed vs) j ≡ Some u) ⊎ ((j ≡ length (listed vs)) × (u ≡ v)) → LocalIs ρ L j u
    by j u (inl q) = h.each j u q
    by j u (inr q) = subst (λ (z : Value). LocalIs ρ L j z) (sym q.1) (subst (λ (z : ℕ). LocalIs ρ L z v) (sym (q.0 ∙ listed_many vs)) l)

module _ (P : Program) (k : Caps) (s : Store) (X : Locals → Context) (around : Around k s X) where
  -- the first locals have these values, the others are as before
  pub record ParametersSet (ρ : List ℕ) (L : Locals) (ops ws : Row Val) (c : Code) (vs : Values) : Type 0 where
    pub locals : Locals
    pub path : Path P k (many vs) s (config (X L) (ops ⧺ ws) (set_parameters (many vs) c)) s (config (X locals) ops c)
    pub held : Held ρ locals (listed vs)
    pub long : length locals ≡ length L
    pub still : (y : ℕ) → many vs ≤ y → slice_get locals y ≡ slice_get L y

  pub parameters_path : {ρ : List ℕ} {vs : Values} {ws : Row Val} (c : Code) (ops : Row Val) → Sames ρ vs ws → (L : Locals) → many vs ≤ length L → ParametersSet ρ L ops ws c vs
  parameters_path c ops none L le = record { locals = L; path = stay; held = record { each = λ j u e. absurd (cc) }; long = refl; still = λ y lt. refl }
  parameters_path {ρ} c ops (more {vs = vs} {ws = ws} {v = v} {w = w} ss h) L le =
      let L1 : Locals = slice_set L (many vs) (Some w) in
      let same_long = length_set L (many vs) (Some w) in
      let lt : many vs < length L = omega (arith, le) in
      let old = in_range L (many vs) lt in
      let q = parameters_path {ρ = ρ} c ops ss L1 (omega (arith, same_long, le)) in
      record {
        locals = q.locals;
        path = set_path P k s X around L (ops ⧺ ws) w (many vs) (set_parameters (many vs) c) lt q.path;
        held = held_one vs q.held (record { value = w; is = q.still (many vs) (omega arith) ∙ get_set_same L (many vs) (Some w) old.0 old.1; same = h });
        long = q.long ∙ same_long;
        still = λ y le'. q.still y (omega (arith, le')) ∙ get_set_other L (many vs) y (Some w) (λ (z : many vs ≡ y). omega (arith, z, le'));
      }

-- ## The clause's own handler

-- a frame of the function of the handler h, in these blocks of clauses
record InHandler (ds : List Declaration) (Γ : Layout) (L : Locals) (below : Row Val) (c : Code) (e : Context) (h : Name) (i : Handler) (D0 : ℕ) (f : Context) : Type 0 where
  placed : List Placed
  few : length placed ≤ 16
  room : handler_room ds h i ≤ length L
  parameters : owner_parameters Γ.owner ≡ length i.parameters
  depth : D0 ≡ length placed
  frame : f ≡ clause_labels ds placed (in_loop ds h i L below c e)

-- the frame's, where the resumption of a name is the clause's own
in_handler : {ds : List Declaration} {ρ : List ℕ} {Γ : Layout} {L : Locals} {below : Row Val} {c : Code} {e : Context} {owner : Option Name} {D0 : ℕ} {f : Context} {x h : Name} {a : ℕ} {i : Handler}
    → Base ds Γ L below c e owner D0 f → is_own Γ x ≡ true → ResumptionIn ρ Γ L x h a → handler_of ds h ≡ Some i → InHandler ds Γ L below c e h i D0 f
in_handler {Γ = Γ} {x = x} (function o) mine r is =
    let no_owner : is_own Γ x ≡ false = ap (λ (q : Option Owner). is_same_handler q (handler_of_name Γ x)) o in absurd (cc (sym mine ∙ no_owner))
in_handler {ds} {Γ = Γ} {L = L} {below = below} {c = c} {e = e} {D0 = D0} {f = f} {x = x} {h = h} {i = i} (clause {h = g} {i = j} ps known o few room) mine r is =
    let compared : is_own Γ x ≡ bytes_eq h g = ap (λ (q : Option Owner). is_same_handler q (handler_of_name Γ x)) o ∙ ap (λ (q : Option Name). is_same_handler (Some (own g j)) q) r.handler in
    let names : g ≡ h = same_is g h (sym compared ∙ mine) in
    let handlers : j ≡ i = some_is (sym known ∙ ap (λ (z : Name). handler_of ds z) names ∙ is) in
    let there : InHandler ds Γ L below c e g j (length ps) (clause_labels ds ps (in_loop ds g j L below c e)) = record {
      placed = ps;
      few = few;
      room = room;
      parameters = ap (λ (q : Option Owner). owner_parameters q) o;
      depth = refl;
      frame = refl;
    } in
    subst (λ (z : Name). InHandler ds Γ L below c e z i D0 f) names (subst (λ (z : Handler). InHandler ds Γ L below c e g z D0 f) handlers there)

-- labels on the frame of a handler's function, in blocks of clauses
abbrev in_clause : {f : Context} {d : ℕ} {e : Context} → Deep f d e → List Declaration → Name → Handler → List Placed → Row Val → Code → Context → Locals → Context
in_clause deep ds h i ps below c e L = rebase deep (clause_labels ds ps (in_loop ds h i L below c e))

-- a context with locals of its own
in_clause_around : {f : Context} {d : ℕ} {e0 : Context} {k : Caps} {s : Store} (deep : Deep f d e0) (ds : List Declaration) (h : Name) (i : Handler) (ps : List Placed) (below : Row Val) (c : Code) (e : Context)
    → suc (frames e) ≤ k.frames → handles e ≤ k.handles → live s ≤ k.conts → Around k s (in_clause deep ds h i ps below c e)
in_clause_around deep ds h i ps below c e lf lh lc = record {
  set = λ y w L. rebase_set y w (clause_labels ds ps (in_loop ds h i L below c e)) deep ∙ ap (λ (z : Context). rebase deep z) (clauses_beyond (setting y w) ds ps (in_loop ds h i L below c e));
  locals = λ L. deep_locals (rebase_deep (clause_labels ds ps (in_loop ds h i L below c e)) deep) ∙ clauses_locals ds ps (in_loop ds h i L below c e);
  under = λ L.
      let p = rebase_deep (clause_labels ds ps (in_loop ds h i L below c e)) deep in
      let fp = deep_frames p in let hp = deep_handles p in let fc = clauses_frames ds ps (in_loop ds h i L below c e) in let hc = clauses_handles ds ps (in_loop ds h i L below c e) in
      record { frames = omega (arith, fp, fc, lf); handles = omega (arith, hp, hc, lh); conts = lc };
}

-- ## The step

-- back to the loop, and into the kept context
tail_back : (p : Script) (matches : ℕ → ℕ → Bool) (s : Store) {f : Context} {d D : ℕ} {e : Context} (h : Name) (i : Handler) (ps : List Placed) (b : ℕ) (k : Continuation) (w : Val) (M : Locals) (below : Row Val) (c' : Code) (e' : Context) (c : Code)
    → handler_of p.declarations h ≡ Some i → slice_get s.conts b ≡ Some (Some k) → slice_get M (length i.parameters) ≡ Some (Some (Cont (next_cont s))) → (deep : Deep f d e) → D ≡ d + length ps
    → Path (program_of p matches) (resuming_caps s e' k) (suc (3 + length i.clauses)) (with_bound s b k w) (config (in_clause deep p.declarations h i ps below c' e' M) ε (Plain (branch D) c))
    (spent s b k w) (resumed p.declarations h i M below c' e' k w)
tail_back p matches s {d = d} {D = D} h i ps b k w M below c' e' c is there local deep inside =
    let live_same = bound_live s b k w there in let woken : Store = with_bound s b k w in let ds = p.declarations in
    let out : step (program_of p matches) woken (config (in_clause deep ds h i ps below c' e' M) ε (Plain (branch D) c))
    ≡ Went [] woken (config (Label ε 1 Done Done ∷ Frame below 1 (handler_place ds h) M (rest_of c') ∷ e') ε (loop_code ds h i)) =
    branch_deep woken ε (length ps) D inside (rebase_deep (clause_labels ds ps (in_loop ds h i M below c' e')) deep)
    ∙ branch_clauses woken ds ps (in_loop ds h i M below c' e') ε ∙ branch_loop woken ds h i M below c' e' in
    go out (record { frames = omega arith; handles = omega arith; conts = omega (arith, live_same) }) (resumed_path p matches s b k w there h i is M below c' e' local)

module _ {p : Script} (matches : ℕ → ℕ → Bool) (facts : Facts p.declarations) {ρ : List ℕ} {σ : script.Store} {s : Store} (stores : Stores p.declarations ρ σ s) {κ : script.Context} {below : Row Val} {c' : Code} {e' : Context}
    (waits : Waits p.declarations ρ κ below c' e') where
  -- a resumption that isn't consumed
  tail_kept : {Γ : Layout} {L : Locals} {d D y : ℕ} {e : Context} (h : Name) {i : Handler} {u : Value} {vs : Values} {ws : Row Val} (x : Name) (a : ℕ) (κ' : script.Context) (k : Continuation) (ps : List Placed) (c : Code)
      → length ps ≤ 16 → handler_room p.declarations h i ≤ length L → Deep (clause_labels p.declarations ps (in_loop p.declarations h i L below c' e')) d e → D ≡ d + length ps
      → (r : ResumptionIn ρ Γ L x h a) → kept_at σ a ≡ Some (Some (captured κ')) → slice_get s.conts r.continuation ≡ Some (Some k) → ResumptionAs p.declarations ρ κ' k
      → handler_of p.declarations h ≡ Some i → many vs ≡ length i.parameters → LocalIs ρ L y u → Sames ρ vs ws
      → Matches p matches 52 s (config e (ε ⧺ ws) (Plain (local_get y) (Plain (local_get (local_number Γ x)) (Plain (bind_continuation resumption_type computation_type)
      (Plain (local_set (many vs)) (set_parameters (many vs) (Plain (branch D) c)))))))
      (goes (emptied σ a) (Gives u) (κ' ++ Handled h (listed vs) ∷ κ))
  tail_kept {Γ} {L} {d} {D} {y} {e} h {i} {u} {vs} {ws} x a κ' k ps c few room deep inside r left_is right_is kept is number local values =
      let ds = p.declarations in let P = program_of p matches in let hf = facts.handlers h i is in let v = local.value in let b = r.continuation in
      let woken : Store = with_bound s b k v in
      let caps : Caps = resuming_caps s e' k in
      let X : Locals → Context = in_clause deep ds h i ps below c' e' in
      let live_same = bound_live s b k v right_is in
      let around : Around caps woken X = in_clause_around deep ds h i ps below c' e' (omega arith) (omega arith) (omega (arith, live_same)) in
      let df = deep_frames deep in let dh = deep_handles deep in let dl = deep_labels deep in
      let cf = clauses_frames ds ps (in_loop ds h i L below c' e') in let ch = clauses_handles ds ps (in_loop ds h i L below c' e') in let cl = clauses_labels ds ps (in_loop ds h i L below c' e') in
      let locals : locals_of e ≡ L = deep_locals deep ∙ clauses_locals ds ps (in_loop ds h i L below c' e') in
      let there : Under caps s e = record { frames = omega (arith, df, cf); handles = omega (arith, dh, ch); conts = omega arith } in
      let there' : Under caps woken e = record { frames = omega (arith, df, cf); handles = omega (arith, dh, ch); conts = omega (arith, live_same) } in
      let few_values = hf.few in let few_clauses = hf.few_clauses in let hr = hf.room in
      let lt : many vs < length L = omega (arith, number, room, hr) in
      let L1 : Locals = slice_set L (many vs) (Some (Cont (next_cont s))) in
      let long1 = length_set L (many vs) (Some (Cont (next_cont s))) in
      let old = in_range L (many vs) lt in
      let set = parameters_path P caps woken X around {ρ = ρ} (Plain (branch D) c) ε values L1 (omega (arith, lt, long1)) in
      let handled : slice_get set.locals (length i.parameters) ≡ Some (Some (Cont (next_cont s))) =
      ap (λ (z : ℕ). slice_get set.locals z) (sym number) ∙ set.still (many vs) (omega arith) ∙ get_set_same L (many vs) (Some (Cont (next_cont s))) old.0 old.1 in
      let end : Term = resumed ds h i set.locals below c' e' k v in
      let code : Code = Plain (local_set (many vs)) (set_parameters (many vs) (Plain (branch D) c)) in
      let steps : ℕ = suc (suc (suc (suc (many vs + suc (3 + length i.clauses))))) in
      let sets : Path P caps (suc (many vs + suc (3 + length i.clauses))) woken (config e ((ε ⧺ ws) ▹ Cont (next_cont s)) code) (spent s b k v) end =
      subst (λ (z : Context). Path P caps (suc (many vs + suc (3 + length i.clauses))) woken (config z ((ε ⧺ ws) ▹ Cont (next_cont s)) code) (spent s b k v) end) (rebase_same deep)
      (set_path P caps woken X around L (ε ⧺ ws) (Cont (next_cont s)) (many vs) (set_parameters (many vs) (Plain (branch D) c)) lt
      (path_on set.path (tail_back p matches s h i ps b k v set.locals below c' e' c is right_is handled deep inside))) in
      let path : Path P caps steps s (config e (ε ⧺ ws) (Plain (local_get y) (Plain (local_get (local_number Γ x)) (Plain (bind_continuation resumption_type computation_type) code)))) (spent s b k v) end =
      get_path y v locals local.is there
      (get_path (local_number Γ x) (Cont b) locals r.is there
      (go (bind_step p matches s e (ε ⧺ ws) v code b k right_is kept.takes) there' sets)) in
      let ef = resumed_frames ds h i set.locals below c' e' k v in let eh = resumed_handles ds h i set.locals below c' e' k v in let el = resumed_labels ds h i set.locals below c' e' k v in
      let es = spent_stored s b k v right_is in let long = listed_many vs in let long2 = set.long in
      went (path_wider (omega (arith, ef)) (omega (arith, eh)) (omega arith) path) (omega arith) (omega (arith, el, es, few_clauses, few_values, number, dl, cl))
      (resumed_at stores h is a b r.there left_is right_is kept local.same (omega (arith, room, long1, long2)) (omega (arith, long, number)) set.held waits)

module _ {p : Script} (matches : ℕ → ℕ → Bool) (facts : Facts p.declarations) {ρ : List ℕ} {σ : script.Store} {s : Store} (stores : Stores p.declarations ρ σ s) {Γ : Layout} {n D0 : ℕ} {L : Locals} {vars : List Variable} {owner : Option Name} {κ : script.Context} {below : Row Val} {c' : Code} {e' f : Context}
    (active : Active ρ Γ n L vars) (base : Base p.declarations Γ L below c' e' owner D0 f) (waits : Waits p.declarations ρ κ below c' e') where
  pub sim_tail : {Ξ : World} {y : ℕ} (h : Name) {i : Handler} {u : Value} {vs : Values} {ws : Row Val} {D d : ℕ} {e : Context} (x : Name) (v : Variable) (a : ℕ) (entry : Option script.Kept)
      → variable_of x vars ≡ Some v → v.ty ≡ Resumption h → v.value ≡ Reference a → kept_at σ a ≡ Some entry → EntryTyped p Ξ (Resumption h) entry → handler_of p.declarations h ≡ Some i → many vs ≡ length i.parameters
      → LocalIs ρ L y u → Sames ρ vs ws → is_own Γ x ≡ true → Deep f d e → D ≡ d + D0 → (c : Code)
      → Matches p matches 52 s (config e (ε ⧺ ws) (tail_code Γ D x y c))
      (applies p (record { store = σ; variables = vars; owner = owner; work = []; outer = κ }) (TailResuming x) (listed ((no_values ▸ u) ⧻ vs)))
  sim_tail {y = y} h {i} {u} {vs} {ws} {D} {d} {e} x v a entry bound_is ty value kept typed is number local values mine deep inside c =
      let r : ResumptionIn ρ Γ L x h a = resumption_in v ty value (active.holds.each x v bound_is) in
      let q : InHandler p.declarations Γ L below c' e' h i D0 f = in_handler base mine r is in
      let locals : locals_of e ≡ L = deep_locals deep ∙ base_locals base in
      let parameters = q.parameters in let depth = q.depth in
      let as_many : many vs ≡ owner_parameters Γ.owner = omega (arith, number, parameters) in
      let rest : ℕ → Code = λ (m : ℕ). Plain (local_set m) (set_parameters m (Plain (branch D) c)) in
      let code : ℕ → Code = λ (m : ℕ). Plain (local_get y) (Plain (local_get (local_number Γ x)) (Plain (bind_continuation resumption_type computation_type) (rest m))) in
      let on : script.Context → Step = λ (inner : script.Context). goes (emptied σ a) (Gives u) (inner ++ Handled h (listed vs) ∷ κ) in
      let there : Under (caps_of s (config e (ε ⧺ ws) (code (many vs))) (config e (ε ⧺ ws) (code (many vs)))) s e = under_first s (config e (ε ⧺ ws) (code (many vs))) (config e (ε ⧺ ws) (code (many vs))) in
      subst (λ (z : Step). Matches p matches 52 s (config e (ε ⧺ ws) (tail_code Γ D x y c)) z) (sym (resumes_is σ vars a x v bound_is ty value kept u vs owner [] κ κ))
      (subst (λ (m : ℕ). Matches p matches 52 s (config e (ε ⧺ ws) (code m)) (or_fault Reused entry (λ (z : script.Kept). on z.around))) as_many
      (by_kept matches σ a r.continuation on stores r.there entry typed kept
      (λ (z : slice_get s.conts r.continuation ≡ Some None).
      faulted (get_path y local.value locals local.is there (get_path (local_number Γ x) (Cont r.continuation) locals r.is there stay))
      (consumed_step p matches s e ((ε ⧺ ws) ▹ local.value) (rest (many vs)) r.continuation z) refl (omega arith))
      (λ (κ' : script.Context) (k : Continuation) left_is right_is ka.
      tail_kept matches facts stores waits h x a κ' k q.placed c q.few q.room (subst (λ (z : Context). Deep z d e) q.frame deep) (omega (arith, inside, depth)) r left_is right_is ka is number local values)))
