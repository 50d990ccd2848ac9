-- The reductions of coroutines: a function becomes a continuation, a group resumes one, a switch consumes one and keeps another, and a
-- continuation that was made of a function enters it.
use Rattle.std.proofs.Common.{◌≡◌, ℕ, suc, ◌-◌, ◌≤◌, Bool, List, [], ◌∷◌, length, Option, Some, None, refl, sym, ap, ◌∙◌, arith}
use Rattle.std.specs.Prelude.{slice_get}
use Rattle.lists.specs.Rows.{Row, ε, ◌▹◌, ◌⧺◌}
use Rattle.w_types.specs.declared.types.FuncType.{FuncType}
use Rattle.w_tables.specs.declared.entries.FuncEntry.{FuncEntry}
use Rattle.w_tables.specs.declared.entries.FuncEntry.TheVariants.{Own}
use Rattle.w_syntax.specs.Code.{Code, Done, Plain}
use Rattle.w_syntax.specs.declared.instructions.Clause.TheVariants.{Switch}
use Rattle.w_rules.specs.Context.{cont_of}
use Rattle.w_rules.specs.Spaces.{context_of}
use Rattle.w_reduce.specs.declared.trap.Trap.TheVariants as trap
use Rattle.w_reduce.specs.Values.{Val, Func, Cont}
use Rattle.w_reduce.specs.Store.{Store, live, next_cont, with_cont, without_cont}
use Rattle.w_reduce.specs.Terms.{rest_of, Handle, Context, Term, Continuation, fresh_continuation, filled, in_context, with_local}
use Rattle.w_reduce.specs.Program.{Program}
use Rattle.w_reduce.specs.Reduced.{Went, Trapped}
use Rattle.w_reduce.specs.Switching.{continuation_at}
use Rattle.w_reduce.specs.Handlers.{Handler, switch_clause, find}
use Rattle.s_syntax.specs.declared.name.Name.{Name}
use Rattle.s_syntax.specs.declared.script.VariableType.{VariableType}
use Rattle.s_syntax.specs.declared.script.Parameter.{Parameter}
use Rattle.s_syntax.specs.declared.script.Function.{Function}
use Rattle.s_syntax.specs.declared.script.Declaration.{Declaration}
use Rattle.s_syntax.specs.declared.script.Script.{Script}
use Rattle.s_check.specs.Definitions.{function_of}
use Rattle.s_index.specs.Numbers.{function_index}
use Rattle.s_index.specs.Types.{val_types, coroutine_type}
use Rattle.s_code.specs.Instructions.{local_set, function_reference, new_continuation, resume, switch}
use Rattle.s_code.specs.Layouts.{Layout, number_in, local_number}
use Rattle.s_code.specs.Lowered.{lowered, function_code}
use Rattle.s_code.specs.Places.{function_layout, function_locals}
use Rattle.s_code.specs.Statements.{body}
use Rattle.s_meaning.specs.Terms.{Variable, Activation, Runs}
use Rattle.s_meaning.specs.Terms as script
use Rattle.s_meaning.specs.Typing.{kinds}
use Rattle.s_meaning.specs.Steps.{bind}
use Rattle.s_valid.proofs.FirstStores.{function_stored}
use Rattle.s_valid.proofs.ModuleOffers.{coroutine_takes}
use Rattle.s_agrees.proofs.ScriptRows.{Values, many}
use Rattle.s_valid.proofs.LayoutTypes.{Placed as HasLocal}
use Rattle.s_agrees.proofs.StandsFor.{config, Sames, Locals, Active, Deep, Base, function, Waits, Stands, runs, Stores}
use Rattle.s_agrees.proofs.Facts.{Facts}
use Rattle.s_agrees.proofs.Contexts.{deep_locals, base_locals}
use Rattle.s_agrees.proofs.CountedContexts.{live_more}
use Rattle.s_agrees.proofs.Paths.{program_of, step, Caps, Under, Path, stay, go, takes, set_step}
use Rattle.s_agrees.proofs.Bodies.{rest_body}
use Rattle.s_agrees.proofs.EnteredBodies.{sames_many, entered, invoke_step}
use Rattle.s_agrees.proofs.Calls.{types_many, entered_active}
use Rattle.s_agrees.proofs.Captures.{in_range}

-- a function has as many parameters as kinds
pub kinds_many : (ps : List Parameter) {ks : List VariableType} → kinds ps ≡ ks → length ps ≡ length ks
kinds_many ps e = many_kinds ps ∙ ap (λ (ks : List VariableType). length ks) e
  where
    many_kinds : (ps : List Parameter) → length ps ≡ length (kinds ps)
    many_kinds [] = refl
    many_kinds (q ∷ ps) = ap suc (many_kinds ps)

-- ## Single instructions

module _ (P : Program) (s : Store) (e : Context) (ops : Row Val) (c : Code) where
  -- ref.func a
  pub function_step : (a : ℕ) (g : FuncEntry) → slice_get s.functions a ≡ Some g → step P s (config e ops (Plain (function_reference a) c)) ≡ Went [] s (config e (ops ▹ Func a) c)
  function_step a g there = rw there refl

  -- cont.new x, where x is of functions of this type
  pub new_step : (x a : ℕ) (t : FuncType) → cont_of (context_of P.source) x ≡ Some t
      → step P s (config e (ops ▹ Func a) (Plain (new_continuation x) c)) ≡ Went [] (with_cont (fresh_continuation a (length t.params)) s) (config e (ops ▹ Cont (next_cont s)) c)
  new_step x a t typed = rw typed refl

  -- the resume of a group: the function a will be invoked with the value, in a handle that stands where the group stands
  pub group_step : (x tag b a : ℕ) (w : Val) → slice_get s.conts b ≡ Some (Some (fresh_continuation a 1))
      → step P s (config e ((ops ▹ w) ▹ Cont b) (Plain (resume x (Switch tag ∷ [])) c))
      ≡ Went [] (without_cont b s) (record { around = Handle ops (Switch tag ∷ []) c ∷ e; operands = ε ▹ w; rest = (fresh_continuation a 1).term.rest })
  group_step x tag b a w there = rw there refl

module _ (p : Script) (matches : ℕ → ℕ → Bool) (s : Store) (e : Context) (ops : Row Val) (c : Code) (tag b : ℕ) (w : Val) where
  -- a switch to what wasn't consumed, where a handle around it has the clause: that continuation goes on in the handle, and what was inside
  -- is kept
  pub switch_step : (k : Continuation) (h : Handler (Unit {0})) → slice_get s.conts b ≡ Some (Some k) → k.takes ≡ 2 → find (switch_clause tag) e ≡ Some h
      → step (program_of p matches) s (config e ((ops ▹ w) ▹ Cont b) (Plain (switch coroutine_type tag) c))
      ≡ Went [] (with_cont (continuation_at 2 h.inner ops c) (without_cont b s))
      (in_context (Handle h.below h.clauses h.rest ∷ h.outer) (filled k.term ((ε ▹ w) ▹ Cont (next_cont s))))
  switch_step k h there two found =
      let typed = coroutine_takes p.declarations in
      rw (there, found, typed) (rw typed (takes (k.takes - 1) ops (ε ▹ w) _ (omega (arith, two))))

  -- the target was consumed: that is told first
  pub switch_consumed : slice_get s.conts b ≡ Some None → step (program_of p matches) s (config e ((ops ▹ w) ▹ Cont b) (Plain (switch coroutine_type tag) c)) ≡ Trapped trap.ConsumedContinuation
  switch_consumed there = rw there refl

  -- no handle has the clause
  pub switch_outside : (k : Continuation) → slice_get s.conts b ≡ Some (Some k) → find (switch_clause tag) e ≡ None
      → step (program_of p matches) s (config e ((ops ▹ w) ▹ Cont b) (Plain (switch coroutine_type tag) c)) ≡ Trapped (trap.Unhandled tag)
  switch_outside k there none = rw (there, none) refl

-- a name's local is set, in an activation
pub name_step : (P : Program) (s : Store) {ds : List Declaration} {ρ : List ℕ} {Γ : Layout} {n d D0 : ℕ} {L : Locals} {vars : List Variable} {owner : Option Name} {below : Row Val} {c' : Code} {e' f e : Context}
    → Active ρ Γ n L vars → Base ds Γ L below c' e' owner D0 f → Deep f d e → {x : Name} {t : VariableType} (h : HasLocal Γ x t) (ops : Row Val) (a : Val) (c : Code)
    → step P s (config e (ops ▹ a) (Plain (local_set (local_number Γ x)) c)) ≡ Went [] s (config (with_local h.local.number a e) ops c)
name_step P s {L = L} {e = e} active base deep h ops a c =
    let b = active.fine.below _ h.local h.is in let r = active.room in
    let old = in_range L h.local.number (omega (arith, b, r)) in
    ap (λ (y : ℕ). step P s (config e (ops ▹ a) (Plain (local_set y) c))) (ap number_in h.is)
    ∙ set_step P s e ops a c h.local.number old.0 (ap (λ (l : Locals). slice_get l h.local.number) (deep_locals deep ∙ base_locals base) ∙ old.1)

-- ## A function of the script

module _ (p : Script) (matches : ℕ → ℕ → Bool) {ρ : List ℕ} {σ : script.Store} {s : Store} (stores : Stores p.declarations ρ σ s) (g : Name) (fn : Function) (is : function_of p.declarations g ≡ Some fn) where
  -- it becomes a continuation that will call it
  pub fresh_path : {k : Caps} {e : Context} (ops : Row Val) (c : Code) (x : ℕ) (t : FuncType) → cont_of (context_of (lowered p)) x ≡ Some t → Under k s e → suc (live s) ≤ k.conts
      → Path (program_of p matches) k 2 s (config e ops (Plain (function_reference (function_index p.declarations g)) (Plain (new_continuation x) c)))
      (with_cont (fresh_continuation (function_index p.declarations g) (length t.params)) s) (config e (ops ▹ Cont (next_cont s)) c)
  fresh_path {e = e} ops c x t typed u room =
      let P = program_of p matches in let a = function_index p.declarations g in
      let f_stored = function_stored p.declarations g fn is in
      let there : slice_get s.functions a ≡ Some (Own f_stored.place) = ap (λ (l : List FuncEntry). slice_get l a) stores.functions ∙ f_stored.entry in
      let more = live_more s.conts (fresh_continuation a (length t.params)) in
      go (function_step P s e ops (Plain (new_continuation x) c) a (Own f_stored.place) there) u
      (go (new_step P s e ops c x a t typed) (record { frames = u.frames; handles = u.handles; conts = omega (arith, more, room) }) stay)

  -- the frame that such a continuation enters
  abbrev pub begun : Row Val → Context → Term
  begun ws e = config (entered (function_index p.declarations g - 1) ε ws (function_locals p.declarations fn) (rest_of Done) e) ε (body p.declarations (function_layout p.declarations fn) 0 fn.body)

  -- with arguments it enters it
  pub begun_step : (s' : Store) (e : Context) (n : ℕ) {ρ' : List ℕ} {vs : Values} {ws : Row Val} → s'.functions ≡ s.functions → many vs ≡ length fn.parameters → Sames ρ' vs ws
      → step (program_of p matches) s' (record { around = e; operands = ε ⧺ ws; rest = (fresh_continuation (function_index p.declarations g) n).term.rest }) ≡ Went [] s' (begun ws e)
  begun_step s' e n {ws = ws} same enough values =
      invoke_step p matches s' e ε ws (rest_of Done) (function_index p.declarations g) (val_types fn.parameters) (function_code p.declarations fn) (same ∙ stores.functions) (function_stored p.declarations g fn is)
      (types_many fn.parameters ∙ sym enough ∙ sames_many values)

  -- there the function's body runs
  pub begun_stands : Facts p.declarations → {ρ' : List ℕ} {vs : Values} {ws : Row Val} {κ : script.Context} {e : Context} (vars : List Variable) → many vs ≡ length fn.parameters → Sames ρ' vs ws
      → bind fn.parameters (script.listed vs) ≡ Some vars → Waits p.declarations ρ' κ ε Done e
      → Stands p.declarations ρ' (record { hole = Runs fn.body; around = Activation vars None [] ∷ κ }) (begun ws e)
  begun_stands facts vars enough values bound waits = runs (entered_active facts g fn is vars enough values bound) (rest_body (facts.functions g fn is).well) (function refl) waits
