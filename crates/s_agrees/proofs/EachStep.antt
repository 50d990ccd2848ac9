-- Each step of a script is matched: what is done next stands ready in the module's term, after a few reductions at most, and then its rule is matched.
use Rattle.std.proofs.Common.{◌≡◌, ℕ, suc, ◌+◌, ◌<◌, ◌≤◌, Bool, true, false, List, [], ◌∷◌, length, Option, Some, if◌then◌else◌, refl, sym, ap, ◌∙◌, subst, arith}
use Rattle.std.specs.Prelude.{slice_get, slice_set}
use Rattle.lists.specs.Rows.{Row, ε, ◌▹◌, ◌⧺◌}
use Rattle.w_syntax.specs.Code.{Code, Done, Plain, Block, after}
use Rattle.w_syntax.specs.declared.instructions.BlockKind.TheVariants as kind
use Rattle.w_syntax.specs.declared.instructions.BlockType.TheVariants as block_type
use Rattle.w_reduce.specs.Values.{Val}
use Rattle.w_reduce.specs.Store.{Store}
use Rattle.w_reduce.specs.Terms.{Label, Context, Term, locals_of, with_local}
use Rattle.w_reduce.specs.Program.{Program}
use Rattle.w_reduce.specs.Reduced.{Went}
use Rattle.s_syntax.specs.declared.name.Name.{Name}
use Rattle.s_syntax.specs.declared.script.VariableType.{VariableType}
use Rattle.s_syntax.specs.declared.script.VariableType.TheVariants.{Int, Resumption, Coroutine}
use Rattle.s_syntax.specs.declared.script.Handler.{Handler}
use Rattle.s_syntax.specs.declared.script.Declaration.{Declaration}
use Rattle.s_syntax.specs.declared.script.Script.{Script}
use Rattle.s_syntax.specs.declared.operators.BinaryOperator.TheVariants.{Connects, Compares, Computes}
use Rattle.s_syntax.specs.ExprTree.{ExprTree, Read, Call, Resume, Exprs}
use Rattle.s_syntax.specs.declared.statement.Use.TheVariants as use_for
use Rattle.s_syntax.specs.BlockTree.{StatementTree, BlockTree, Evaluate, If, While, Fail, Spawn, ◌⨟◌}
use Rattle.s_check.specs.Rules.{count}
use Rattle.s_check.specs.Scopes.{Scope, is_among}
use Rattle.s_index.specs.Handled.{handled_names}
use Rattle.s_index.specs.Numbers.{function_index, handler_index, tag_index}
use Rattle.s_code.specs.Expressions.{reload, begin, expr, args, set_aside, aside, tail_resume}
use Rattle.s_code.specs.Instructions.{branch, call, return_call, local_set, leave, nop, suspend}
use Rattle.s_code.specs.Layouts.{Local, Owner, Layout, local_number, handler_in, handler_in_type, stays, slot, is_same_handler}
use Rattle.s_code.specs.Layouts as layouts
use Rattle.s_code.specs.Statements.{statement, return}
use Rattle.s_meaning.specs.Terms as script
use Rattle.s_meaning.specs.Terms.{Value, Variable, Head, Calling, Doing, Handling, Resuming, TailResuming, TailCalling, Work, Among, Within, ToReturn, ToTurn, Gives}
use Rattle.s_meaning.specs.Focus.{Redex, Applies, Focused, at, followed_by, in_expr, in_args, variable_of, is_resumption_of, is_own, in_return, in_block, in_work}
use Rattle.s_meaning.specs.Steps.{Step, or_wrong, rule, step_at}
use Rattle.s_meaning.specs.Steps as meaning
use Rattle.s_meaning.specs.Typing.{ExprTyped, StatementTyped}
use Rattle.s_meaning.specs.Typing as typing
use Rattle.s_meaning.specs.Typed.{World, Covers, RestTyped, TermTyped, in_activation, in_handle, in_group, StoreTyped, Typed}
use Rattle.s_meaning.specs.Typed as typed
use Rattle.s_meaning.proofs.TypedFocus.{RedexTyped, NextTyped, rest_begun, next_typed}
use Rattle.s_meaning.proofs.Scopes.{bool_of}
use Rattle.s_agrees.proofs.ScriptRows.{Values, no_values, ◌▸◌, ◌⧻◌, many}
use Rattle.s_agrees.proofs.StandsFor as standing
use Rattle.s_agrees.proofs.StandsFor.{config, Same, Sames, Locals, LocalIs, HeldAt, held_more, Active, WellExpr, WellArgs, WellAsides, no_asides, aside_arg, WellStatement, Deep, while_turn, while_loop, WellBlock, Rest, Uses, handle_code, resume_code, tail_code, gets, asides_code, Asides, Works, own, Base, Waits, Stands, Stores, At}
use Rattle.s_agrees.proofs.MoreResumptions.{get_set_same, held_at_kept, held_at_wider, active_kept}
use Rattle.s_agrees.proofs.Contexts.{setting, deep_beyond, works_beyond, works_kept, deep_locals, rest_deep, works_deep, base_locals, base_set}
use Rattle.s_agrees.proofs.CountedContexts.{labels_set, frames_set, handles_set}
use Rattle.s_agrees.proofs.Paths.{program_of, step, set_step}
use Rattle.s_agrees.proofs.Matches.{Matches, more_room, before}
use Rattle.s_agrees.proofs.Ready.{Ready, aside_ready, unary_ready, comparison_ready, arithmetic_ready, truth_ready, decides_ready, call_ready, do_ready, handle_ready, resume_ready, group_ready, tail_ready, tail_call_ready, use_ready, fail_ready, spawn_ready, end_ready, constant_ready, lookup_ready}
use Rattle.s_agrees.proofs.Facts.{Facts}
use Rattle.s_agrees.proofs.StepsInPlace.{works_left}
use Rattle.s_agrees.proofs.BoundValues.{some_is}
use Rattle.s_agrees.proofs.Captures.{in_range}
use Rattle.s_agrees.proofs.ValuesAtHandles.{sim_return, sim_group_left}

-- each rule is matched, where its redex is ready and typed
pub record RulesMatched (p : Script) (matches : ℕ → ℕ → Bool) : Type 0 where
  pub matched : {ρ : List ℕ} {σ : script.Store} {s : Store} {Γ : Layout} {n D0 t : ℕ} {L : Locals} {vars : List Variable} {owner : Option Name} {κ : script.Context} {below : Row Val} {c' : Code} {e' f : Context}
      {w : List Work} {ops : Row Val} {c : Code} {e : Context} {Ξ : World} {scope : Scope} (r : Redex)
      → Stores p.declarations ρ σ s → Active ρ Γ n L vars → Base p.declarations Γ L below c' e' owner D0 f → Waits p.declarations ρ κ below c' e' → StoreTyped p Ξ σ → Covers Ξ scope vars
      → Ready p.declarations ρ Γ n D0 f r t L w ops c e → RedexTyped p Ξ scope r w
      → Matches p matches 52 s (config e ops c) (rule p (record { store = σ; variables = vars; owner = owner; work = w; outer = κ }) r)

-- ## What is done next stands ready

-- a redex with its pending work, where some temporaries are in use
record ReadyAt (ds : List Declaration) (ρ : List ℕ) (Γ : Layout) (n D0 : ℕ) (f : Context) (L : Locals) (r : Focused) (ops : Row Val) (c : Code) (e : Context) : Type 0 where
  used : ℕ
  ready : Ready ds ρ Γ n D0 f r.redex used L r.work ops c e

-- Arguments whose head is done by the code c, where t temporaries are in use; the row of all that are values is made of those that are on the stack.
record Arguments (ds : List Declaration) (ρ : List ℕ) (Γ : Layout) (n D0 : ℕ) (f : Context) (L : Locals) (t : ℕ) (head : Head) (row : Values → Values) (w : List Work) (ops : Row Val) (c : Code) (e : Context) : Type 0 where
  among : (vs : Values) (ws : Row Val) (es : Exprs) → WellArgs ds n t es → Sames ρ vs ws → Works ds ρ Γ n D0 f t L (Among head (row vs) es ∷ w) (ops ⧺ ws) (args ds Γ t es c) e
  applied : (vs : Values) (ws : Row Val) → Sames ρ vs ws → ReadyAt ds ρ Γ n D0 f L (at (Applies head (row vs)) w) (ops ⧺ ws) c e

-- only a name is read where it lies
read_only : (Γ : Layout) (x : ExprTree) → stays Γ x ≡ true → (y : Name) × (x ≡ Read y)
read_only Γ (Read y) q = (y, refl)
read_only Γ _ q = absurd (cc)

-- what isn't read where it lies lies in a temporary
slot_free : (Γ : Layout) (t : ℕ) (x : ExprTree) → stays Γ x ≡ false → slot Γ t x ≡ Γ.temporaries + t
slot_free Γ t (Read y) q = ap (λ (b : Bool). if b then local_number Γ y else (Γ.temporaries + t)) q
slot_free Γ t _ q = refl

module _ {ds : List Declaration} {ρ : List ℕ} {Γ : Layout} {n D0 : ℕ} {f : Context} {L : Locals} where
  calling_arguments : {t : ℕ} (g : Name) {w : List Work} {ops : Row Val} {c : Code} {e : Context} → Works ds ρ Γ n D0 f t L w ops c e
      → Arguments ds ρ Γ n D0 f L t (Calling g) (λ (vs : Values). vs) w ops (Plain (call (function_index ds g)) c) e
  calling_arguments g k = record {
    among = λ vs ws es a s. standing.Works.calling a s k;
    applied = λ vs ws s. record { used = _; ready = call_ready s k };
  }

  doing_arguments : {t : ℕ} (op : Name) {w : List Work} {ops : Row Val} {c : Code} {e : Context} → Works ds ρ Γ n D0 f t L w ops c e
      → Arguments ds ρ Γ n D0 f L t (Doing op) (λ (vs : Values). vs) w ops (Plain (suspend (tag_index ds op)) c) e
  doing_arguments op k = record {
    among = λ vs ws es a s. standing.Works.doing a s k;
    applied = λ vs ws s. record { used = _; ready = do_ready s k };
  }

  -- a handler's parameters
  handling_arguments : {t t0 m : ℕ} (g h : Name) {us : Values} {w : List Work} {ops : Row Val} {c : Code} {e : Context} (ns : Row ℕ) → t0 ≤ t → m ≡ many us → is_among (handled_names ds) g ≡ true
      → HeldAt ρ L (Γ.temporaries + t) ns us → Works ds ρ Γ n D0 f t0 L w ops c e
      → Arguments ds ρ Γ n D0 f L t (Handling g m h) (λ (vs : Values). us ⧻ vs) w ops (handle_code ds g h ns c) e
  handling_arguments g h ns le m i held k = record {
    among = λ vs ws es a s. standing.Works.handling_second ns le m i a held s k;
    applied = λ vs ws s. record { used = _; ready = handle_ready ns m i held s k };
  }

  -- those of a resumption's handler
  resuming_arguments : {t t0 y : ℕ} (x : Name) {u : Value} {w : List Work} {ops : Row Val} {c : Code} {e : Context} → t0 ≤ t → y < Γ.temporaries + t → LocalIs ρ L y u → Works ds ρ Γ n D0 f t0 L w ops c e
      → Arguments ds ρ Γ n D0 f L t (Resuming x) (λ (vs : Values). (no_values ▸ u) ⧻ vs) w ops (resume_code ds Γ x y c) e
  resuming_arguments x le lt l k = record {
    among = λ vs ws es a s. standing.Works.resuming_second le lt a l s k;
    applied = λ vs ws s. record { used = _; ready = resume_ready l s k };
  }

  -- and those of a tail resume
  tail_arguments : {t D d y : ℕ} {x : Name} {u : Value} {e : Context} (c : Code) → y < Γ.temporaries + t → layouts.is_own Γ x ≡ true → LocalIs ρ L y u → Deep f d e → D ≡ d + D0
      → Arguments ds ρ Γ n D0 f L t (TailResuming x) (λ (vs : Values). (no_values ▸ u) ⧻ vs) [] ε (tail_code Γ D x y c) e
  tail_arguments {t} c lt o l p q = record {
    among = λ vs ws es a s. standing.Works.tail_second c lt o a l s p q;
    applied = λ vs ws s. record { used = t; ready = tail_ready c o l s p q };
  }

  -- and those of a tail call
  tail_calling_arguments : {t d : ℕ} (g : Name) {e : Context} (c : Code) → Deep f d e
      → Arguments ds ρ Γ n D0 f L t (TailCalling g) (λ (vs : Values). vs) [] ε (Plain (return_call (function_index ds g)) c) e
  tail_calling_arguments {t} g c p = record {
    among = λ vs ws es a s. standing.Works.tail_calling c a s p;
    applied = λ vs ws s. record { used = t; ready = tail_call_ready c s p };
  }

  -- ## A first argument of a handle

  -- it is a name that is read where it lies
  ready_kept : {t t0 m u : ℕ} {g : Name} (h : Name) {us : Values} {es bs : Exprs} {w : List Work} {ops : Row Val} {c : Code} {e : Context} (ns : Row ℕ) (y : Name) → stays Γ (Read y) ≡ true → t0 ≤ t
      → Asides ds ρ Γ n L g m t u ns us es bs → Works ds ρ Γ n D0 f t0 L w ops c e
      → ReadyAt ds ρ Γ n D0 f L (in_expr (Read y) (Among (Handling g m h) us (followed_by es bs) ∷ w)) ops (Plain nop (asides_code ds Γ g h t u (ns ▹ slot Γ t (Read y)) es bs c)) e
  ready_kept {t} {m = m} {u = u} {g = g} h {us = us} {es = es} {bs = bs} {w = w} {ops = ops} {c = c} {e = e} ns y q le a k =
      subst (λ (j : ℕ). ReadyAt ds ρ Γ n D0 f L (in_expr (Read y) (Among (Handling g m h) us (followed_by es bs) ∷ w)) ops (Plain nop (asides_code ds Γ g h t u (ns ▹ j) es bs c)) e)
      (sym (ap (λ (b : Bool). if b then local_number Γ y else (Γ.temporaries + t)) q)) (record { used = t; ready = aside_ready ns q le a k })

  -- it is read where it lies, or else stands ready before it is put aside
  ready_aside : {t t0 m u : ℕ} {g : Name} (h : Name) {us : Values} {es bs : Exprs} {w : List Work} {ops : Row Val} {c : Code} {e : Context} (x : ExprTree) (ns : Row ℕ) → t0 ≤ t
      → Asides ds ρ Γ n L g m t u ns us es bs → Works ds ρ Γ n D0 f t0 L w ops c e
      → ReadyAt ds ρ Γ n D0 f L (in_expr x (Among (Handling g m h) us (followed_by es bs) ∷ w)) ops
      (expr ds Γ t x (Plain (local_set (Γ.temporaries + t)) (asides_code ds Γ g h t u (ns ▹ (Γ.temporaries + t)) es bs c))) e
      → ReadyAt ds ρ Γ n D0 f L (in_expr x (Among (Handling g m h) us (followed_by es bs) ∷ w)) ops
      (aside Γ t x (λ (k : Code). expr ds Γ t x k) (asides_code ds Γ g h t u (ns ▹ slot Γ t x) es bs c)) e
  ready_aside {t} {m = m} {u = u} {g = g} h {us = us} {es = es} {bs = bs} {w = w} {ops = ops} {c = c} {e = e} x ns le a k given =
      bool_of (stays Γ x) (λ (b : Bool). ReadyAt ds ρ Γ n D0 f L (in_expr x (Among (Handling g m h) us (followed_by es bs) ∷ w)) ops
      (if b then Plain nop (asides_code ds Γ g h t u (ns ▹ slot Γ t x) es bs c) else expr ds Γ t x (Plain (local_set (Γ.temporaries + t)) (asides_code ds Γ g h t u (ns ▹ slot Γ t x) es bs c))) e)
      (λ q. let y = read_only Γ x q in
      subst (λ (z : ExprTree). ReadyAt ds ρ Γ n D0 f L (in_expr z (Among (Handling g m h) us (followed_by es bs) ∷ w)) ops (Plain nop (asides_code ds Γ g h t u (ns ▹ slot Γ t z) es bs c)) e) (sym y.1)
      (ready_kept h ns y.0 (ap (λ (z : ExprTree). stays Γ z) (sym y.1) ∙ q) le a k))
      (λ q. subst (λ (j : ℕ). ReadyAt ds ρ Γ n D0 f L (in_expr x (Among (Handling g m h) us (followed_by es bs) ∷ w)) ops
      (expr ds Γ t x (Plain (local_set (Γ.temporaries + t)) (asides_code ds Γ g h t u (ns ▹ j) es bs c))) e) (sym (slot_free Γ t x q)) given)

  -- ## Expressions

  mutual
    ready_expr : {t : ℕ} {x : ExprTree} {w : List Work} {ops : Row Val} {c : Code} {e : Context} → WellExpr ds n t x → Works ds ρ Γ n D0 f t L w ops c e
        → ReadyAt ds ρ Γ n D0 f L (in_expr x w) ops (expr ds Γ t x c) e
    ready_expr standing.WellExpr.literal k = record { used = _; ready = constant_ready k }
    ready_expr standing.WellExpr.read k = record { used = _; ready = lookup_ready k }
    ready_expr (standing.WellExpr.unary v) k = ready_expr v (standing.Works.under k)
    ready_expr (standing.WellExpr.run v ps) k = ready_expr v (works_left ps k)
    ready_expr (standing.WellExpr.calls {f = g} vs) k = ready_args vs (calling_arguments g k) standing.Sames.none
    ready_expr (standing.WellExpr.does {op = op} vs) k = ready_args vs (doing_arguments op k) standing.Sames.none
    ready_expr {t} (standing.WellExpr.handles {f = g} {h = h} i no_asides vs) k = ready_args vs (handling_arguments {t = t + 0} g h {us = no_values} ε (omega arith) refl i standing.HeldAt.held_none k) standing.Sames.none
    ready_expr {t} (standing.WellExpr.handles {f = g} {h = h} {bs = bs} i (aside_arg {e = x} {es = es} lt v us) vs) k =
        let a : Asides ds ρ Γ n L g (suc (count es)) t (t + suc (count es)) ε no_values es bs = record {
          free = lt;
          firsts = omega arith;
          behind = omega arith;
          handled = i;
          asides = us;
          args = vs;
          held = standing.HeldAt.held_none;
        } in ready_aside h x ε (omega arith) a k (ready_expr v (standing.Works.handling_first ε (omega arith) a k))
    ready_expr (standing.WellExpr.resumes lt v vs) k = ready_expr v (standing.Works.resuming_first lt vs k)
    ready_expr (standing.WellExpr.groups i v) k = ready_expr v (standing.Works.grouping i k)

    -- arguments behind those that are values
    ready_args : {t : ℕ} {es : Exprs} {head : Head} {row : Values → Values} {w : List Work} {ops : Row Val} {c : Code} {e : Context} {vs : Values} {ws : Row Val} → WellArgs ds n t es
        → Arguments ds ρ Γ n D0 f L t head row w ops c e → Sames ρ vs ws → ReadyAt ds ρ Γ n D0 f L (in_args head (row vs) es w) (ops ⧺ ws) (args ds Γ t es c) e
    ready_args {vs = vs} {ws = ws} standing.WellArgs.no_args a s = a.applied vs ws s
    ready_args {vs = vs} {ws = ws} (standing.WellArgs.arg {es = es} v us) a s = ready_expr v (a.among vs ws es us s)

  -- first arguments of a handle, behind those that lie in the locals ns; where none is left the second ones come
  ready_first : {t t0 m u : ℕ} (g h : Name) {us : Values} {es bs : Exprs} {w : List Work} {ops : Row Val} {c : Code} {e : Context} (ns : Row ℕ) → t0 ≤ t → m ≡ many us + count es → u ≡ t + count es
      → is_among (handled_names ds) g ≡ true → WellAsides ds n t es → WellArgs ds n u bs → HeldAt ρ L (Γ.temporaries + t) ns us → Works ds ρ Γ n D0 f t0 L w ops c e
      → ReadyAt ds ρ Γ n D0 f L (in_args (Handling g m h) us (followed_by es bs) w) ops
      (set_aside ds Γ t es (args ds Γ u bs (gets ns (reload Γ t es (begin ds g (Plain (call (handler_index ds h)) c)))))) e
  ready_first {t} {u = u} g h ns le m b i no_asides vs held k =
      ready_args vs (handling_arguments {t = u} g h ns (omega (arith, le, b)) (omega (arith, m)) i (held_at_wider (omega (arith, b)) held) k) standing.Sames.none
  ready_first {t} {m = m} {u = u} g h {us = us} {bs = bs} ns le first b i (aside_arg {e = x} {es = es} lt v vs) rest held k =
      let a : Asides ds ρ Γ n L g m t u ns us es bs = record { free = lt; firsts = first; behind = omega (arith, b); handled = i; asides = vs; args = rest; held = held } in
      ready_aside h x ns le a k (ready_expr v (standing.Works.handling_first ns le a k))

  -- behind one that lies in the local y
  ready_behind : {t t0 m u y : ℕ} (g h : Name) {us : Values} {v : Value} {es bs : Exprs} {w : List Work} {ops : Row Val} {c : Code} {e : Context} (ns : Row ℕ) → t0 ≤ t
      → m ≡ many us + suc (count es) → u ≡ t + 1 + count es → is_among (handled_names ds) g ≡ true → WellAsides ds n (t + 1) es → WellArgs ds n u bs → HeldAt ρ L (Γ.temporaries + t) ns us
      → y < Γ.temporaries + (t + 1) → LocalIs ρ L y v → Works ds ρ Γ n D0 f t0 L w ops c e
      → ReadyAt ds ρ Γ n D0 f L (in_args (Handling g m h) (us ▸ v) (followed_by es bs) w) ops (asides_code ds Γ g h t u (ns ▹ y) es bs c) e
  ready_behind {t} {y = y} g h {us} {v} ns le first b i vs rest held lt l k =
      ready_first g h {us = us ▸ v} (ns ▹ y) (omega (arith, le)) (omega (arith, first)) b i vs rest (held_more (held_at_wider (omega arith) held) lt l) k

-- ## Returns

-- the code tells a tail resume as the script does
same_owner : (h : Name) (i : Handler) (t : VariableType) → is_resumption_of h t ≡ is_same_handler (Some (own h i)) (handler_in_type t)
same_owner h i Int = refl
same_owner h i (Resumption g) = refl
same_owner h i Coroutine = refl

-- the owner of an activation is its layout's
base_owner : {ds : List Declaration} {Γ : Layout} {L : Locals} {below : Row Val} {c : Code} {e : Context} {owner : Option Name} {D0 : ℕ} {f : Context} (v : Variable) → Base ds Γ L below c e owner D0 f
    → is_own owner (Some v) ≡ is_same_handler Γ.owner (handler_in_type v.ty)
base_owner v (standing.Base.function o) = sym (ap (λ (z : Option Owner). is_same_handler z (handler_in_type v.ty)) o)
base_owner v (standing.Base.clause {h = h} {i = i} ps is o few room) = same_owner h i v.ty ∙ sym (ap (λ (z : Option Owner). is_same_handler z (handler_in_type v.ty)) o)

module _ {ds : List Declaration} {ρ : List ℕ} {Γ : Layout} {n D0 : ℕ} {L : Locals} {vars : List Variable} {owner : Option Name} {below : Row Val} {c' : Code} {e' f : Context} (active : Active ρ Γ n L vars) (base : Base ds Γ L below c' e' owner D0 f) where
  -- where the name is a variable
  own_agrees : (k : Name) (v : Variable) → variable_of k vars ≡ Some v → layouts.is_own Γ k ≡ is_own owner (variable_of k vars)
  own_agrees k v there =
      let i = active.holds.each k v there in
      ap (λ (o : Option Local). is_same_handler Γ.owner (handler_in o)) i.is
      ∙ ap (λ (t : VariableType). is_same_handler Γ.owner (handler_in_type t)) i.ty
      ∙ sym (base_owner v base) ∙ sym (ap (λ (o : Option Variable). is_own owner o) there)

  -- return resume k(x) with (bs), which is a tail resume where t holds
  ready_resume : {D : ℕ} {k : Name} {x : ExprTree} {bs : Exprs} {rest : BlockTree} {c : Code} {e : Context} (t : Bool) → layouts.is_own Γ k ≡ t → WellExpr ds n 0 (Resume k x bs) → Rest ds Γ n D0 f D rest c e
      → ReadyAt ds ρ Γ n D0 f L (if t then in_expr x (Among (TailResuming k) no_values bs ∷ []) else in_expr x (Among (Resuming k) no_values bs ∷ Within ToReturn rest ∷ [])) ε
      (if t then tail_resume ds Γ D k x bs c else expr ds Γ 0 (Resume k x bs) (Plain leave c)) e
  ready_resume {c = c} true q (standing.WellExpr.resumes lt v vs) r = let d = rest_deep r in ready_expr v (standing.Works.tail_first c lt q vs d.deep d.inside)
  ready_resume false q w r = ready_expr w (standing.Works.within (standing.Uses.returns (rest_deep r).deep))

  -- return x
  ready_return : {p : Script} {Ξ : World} {scope : Scope} {D : ℕ} (x : ExprTree) {rest : BlockTree} {c : Code} {e : Context} → Covers Ξ scope vars → ExprTyped p scope x → WellExpr ds n 0 x → Rest ds Γ n D0 f D rest c e
      → ReadyAt ds ρ Γ n D0 f L (in_return vars owner x rest) ε (return ds Γ D x c) e
  ready_return {D = D} (Resume k x bs) {rest} {c} {e} covers (typing.ExprTyped.resume {h = h} q i t us) w r =
      let v = covers.covers k (Resumption h) q in
      subst (λ (b : Bool). ReadyAt ds ρ Γ n D0 f L (if b then in_expr x (Among (TailResuming k) no_values bs ∷ []) else in_expr x (Among (Resuming k) no_values bs ∷ Within ToReturn rest ∷ [])) ε
      (return ds Γ D (Resume k x bs) c) e) (own_agrees k v.variable v.there) (ready_resume (layouts.is_own Γ k) refl w r)
  ready_return (Call g es) {c = c} covers t (standing.WellExpr.calls vs) r = ready_args vs (tail_calling_arguments g c (rest_deep r).deep) standing.Sames.none
  ready_return _ covers t w r = ready_expr w (standing.Works.within (standing.Uses.returns (rest_deep r).deep))

-- ## Steps in an activation

-- what the rule of a redex gives
abbrev ruled : Script → script.Store → List Variable → Option Name → script.Context → Focused → Step
ruled p σ vars owner κ r = rule p (record { store = σ; variables = vars; owner = owner; work = r.work; outer = κ }) r.redex

-- a local is set first, from the stack
set_first : {p : Script} {matches : ℕ → ℕ → Bool} {s : Store} {L : Locals} {e : Context} {ops : Row Val} {c : Code} {r : Step} (y : ℕ) (a : Val) → locals_of e ≡ L → y < length L
    → Matches p matches 52 s (config (with_local y a e) ops c) r → Matches p matches 56 s (config e (ops ▹ a) (Plain (local_set y) c)) r
set_first {p} {matches} {s} {L} {e} {ops} {c} y a is lt m =
    let old = in_range L y lt in let l = labels_set y a e in
    more_room (omega arith) (before 1 (set_step (program_of p matches) s e ops a c y old.0 (ap (λ (z : Locals). slice_get z y) is ∙ old.1)) (frames_set y a e) (handles_set y a e) (omega (arith, l)) m)

-- a value that was set
local_is_set : {ρ : List ℕ} {v : Value} {a : Val} (L : Locals) (y : ℕ) → y < length L → Same ρ v a → LocalIs ρ (slice_set L y (Some a)) y v
local_is_set {a = a} L y lt v = let old = in_range L y lt in record { value = a; is = get_set_same L y (Some a) old.0 old.1; same = v }

module _ {p : Script} (matches : ℕ → ℕ → Bool) (rules : RulesMatched p matches) {ρ : List ℕ} {σ : script.Store} {s : Store} (stores : Stores p.declarations ρ σ s) {Ξ : World} (store_typed : StoreTyped p Ξ σ)
    {Γ : Layout} {n D0 : ℕ} {L : Locals} {vars : List Variable} {owner : Option Name} {κ : script.Context} {below : Row Val} {c' : Code} {e' f : Context}
    (active : Active ρ Γ n L vars) (base : Base p.declarations Γ L below c' e' owner D0 f) (waits : Waits p.declarations ρ κ below c' e') where
  -- a redex that stands ready, in its pending work
  sim_ready : {r : Focused} {ops : Row Val} {c : Code} {e : Context} → NextTyped p Ξ vars (Some r) → ReadyAt p.declarations ρ Γ n D0 f L r ops c e → Matches p matches 52 s (config e ops c) (ruled p σ vars owner κ r)
  sim_ready {r} q a = rules.matched r.redex stores active base waits store_typed q.covers a.ready (subst (λ (g : Focused). RedexTyped p Ξ q.scope g.redex g.work) (sym (some_is q.is)) q.typed)

-- ## Values that are put aside

module _ {p : Script} (matches : ℕ → ℕ → Bool) (rules : RulesMatched p matches) {ρ : List ℕ} {σ : script.Store} {s : Store} (stores : Stores p.declarations ρ σ s) {Ξ : World} (store_typed : StoreTyped p Ξ σ)
    {Γ : Layout} {n D0 : ℕ} {L : Locals} {vars : List Variable} {owner : Option Name} {κ : script.Context} {below : Row Val} {c' : Code} {e' f : Context}
    (active : Active ρ Γ n L vars) (base : Base p.declarations Γ L below c' e' owner D0 f) (waits : Waits p.declarations ρ κ below c' e') where
  -- a first argument of a handle is put aside
  sim_put_aside : {t t0 m u : ℕ} {g : Name} (h : Name) {us : Values} {v : Value} {a : Val} {es bs : Exprs} {w : List Work} {ops : Row Val} {c : Code} {e : Context} (ns : Row ℕ) → Same ρ v a → t0 ≤ t
      → Asides p.declarations ρ Γ n L g m t u ns us es bs → Works p.declarations ρ Γ n D0 f t0 L w ops c e → NextTyped p Ξ vars (Some (in_args (Handling g m h) (us ▸ v) (followed_by es bs) w))
      → Matches p matches 56 s (config e (ops ▹ a) (Plain (local_set (Γ.temporaries + t)) (asides_code p.declarations Γ g h t u (ns ▹ (Γ.temporaries + t)) es bs c)))
      (ruled p σ vars owner κ (in_args (Handling g m h) (us ▸ v) (followed_by es bs) w))
  sim_put_aside {t} {g = g} h {a = a} ns v le x k q =
      let y = Γ.temporaries + t in
      let room = active.room in let free = x.free in
      let lt : y < length L = omega (arith, room, free) in
      set_first y a (deep_locals (works_deep k).1 ∙ base_locals base) lt
      (sim_ready matches rules stores store_typed (active_kept y (Some a) (omega arith) active) (base_set y a base) waits q
      (ready_behind g h ns le x.firsts x.behind x.handled x.asides x.args (held_at_kept y (Some a) (omega arith) x.held) (omega arith) (local_is_set L y lt v)
      (works_beyond (setting y a) (works_kept y (Some a) (omega (arith, le)) k))))

  -- the number that a resumption gets is put aside
  sim_put_number : {t : ℕ} (x : Name) {v : Value} {a : Val} {bs : Exprs} {w : List Work} {ops : Row Val} {c : Code} {e : Context} → Same ρ v a → t < n → WellArgs p.declarations n (t + 1) bs
      → Works p.declarations ρ Γ n D0 f t L w ops c e → NextTyped p Ξ vars (Some (in_args (Resuming x) (no_values ▸ v) bs w))
      → Matches p matches 56 s (config e (ops ▹ a) (Plain (local_set (Γ.temporaries + t)) (args p.declarations Γ (t + 1) bs (resume_code p.declarations Γ x (Γ.temporaries + t) c))))
      (ruled p σ vars owner κ (in_args (Resuming x) (no_values ▸ v) bs w))
  sim_put_number {t} x {a = a} v free vs k q =
      let y = Γ.temporaries + t in
      let room = active.room in
      let lt : y < length L = omega (arith, room, free) in
      set_first y a (deep_locals (works_deep k).1 ∙ base_locals base) lt
      (sim_ready matches rules stores store_typed (active_kept y (Some a) (omega arith) active) (base_set y a base) waits q
      (ready_args vs (resuming_arguments x (omega arith) (omega arith) (local_is_set L y lt v) (works_beyond (setting y a) (works_kept y (Some a) (omega arith) k))) standing.Sames.none))

  -- and the one of a tail resume
  sim_put_tail : {D d : ℕ} (x : Name) {v : Value} {a : Val} {bs : Exprs} {e : Context} (c : Code) → Same ρ v a → 0 < n → layouts.is_own Γ x ≡ true → WellArgs p.declarations n 1 bs → Deep f d e → D ≡ d + D0
      → NextTyped p Ξ vars (Some (in_args (TailResuming x) (no_values ▸ v) bs []))
      → Matches p matches 56 s (config e (ε ▹ a) (Plain (local_set Γ.temporaries) (args p.declarations Γ 1 bs (tail_code Γ D x Γ.temporaries c)))) (ruled p σ vars owner κ (in_args (TailResuming x) (no_values ▸ v) bs []))
  sim_put_tail x {a = a} c v free o vs d inside q =
      let y = Γ.temporaries in
      let room = active.room in
      let lt : y < length L = omega (arith, room, free) in
      set_first y a (deep_locals d ∙ base_locals base) lt
      (sim_ready matches rules stores store_typed (active_kept y (Some a) (omega arith) active) (base_set y a base) waits q
      (ready_args vs (tail_arguments c (omega arith) o (local_is_set L y lt v) (deep_beyond (setting y a) d) inside) standing.Sames.none))

-- ## In an activation

-- a turn of a while ends: its loop comes again
again_step : (P : Program) (s : Store) (e : Context) (turn rest : Code) → step P s (config (Label ε 0 (Block kind.Loop block_type.Empty turn Done) Done ∷ e) ε (Plain (branch 0) rest)) ≡ Went [] s (config e ε (Block kind.Loop block_type.Empty turn Done))
unfolding after
again_step P s e turn rest = refl

module _ {p : Script} (matches : ℕ → ℕ → Bool) (rules : RulesMatched p matches) {ρ : List ℕ} {σ : script.Store} {s : Store} (stores : Stores p.declarations ρ σ s) {Ξ : World} (store_typed : StoreTyped p Ξ σ)
    {Γ : Layout} {n D0 : ℕ} {L : Locals} {vars : List Variable} {owner : Option Name} {κ : script.Context} {below : Row Val} {c' : Code} {e' f : Context}
    (active : Active ρ Γ n L vars) (base : Base p.declarations Γ L below c' e' owner D0 f) (waits : Waits p.declarations ρ κ below c' e') where
  -- no reduction comes before
  now : {r : Focused} {ops : Row Val} {c : Code} {e : Context} → NextTyped p Ξ vars (Some r) → ReadyAt p.declarations ρ Γ n D0 f L r ops c e → Matches p matches 56 s (config e ops c) (ruled p σ vars owner κ r)
  now q a = more_room (omega arith) (sim_ready matches rules stores store_typed active base waits q a)

  -- an expression
  sim_expr : {t : ℕ} {x : ExprTree} {w : List Work} {ops : Row Val} {c : Code} {e : Context} → WellExpr p.declarations n t x → Works p.declarations ρ Γ n D0 f t L w ops c e → NextTyped p Ξ vars (Some (in_expr x w))
      → Matches p matches 52 s (config e ops (expr p.declarations Γ t x c)) (ruled p σ vars owner κ (in_expr x w))
  sim_expr x w q = sim_ready matches rules stores store_typed active base waits q (ready_expr x w)

  -- a value in the pending work
  sim_work : {t : ℕ} {w : List Work} {ops : Row Val} {c : Code} {e : Context} {v : Value} {a : Val} → Same ρ v a → Works p.declarations ρ Γ n D0 f t L w ops c e → NextTyped p Ξ vars (in_work v w)
      → Matches p matches 56 s (config e (ops ▹ a) c) (or_wrong (in_work v w) (λ (r : Focused). ruled p σ vars owner κ r))
  sim_work v (standing.Works.under k) q = now q (record { used = _; ready = unary_ready v k })
  sim_work v (standing.Works.left {o = Connects o} x ps k) q = now q (record { used = _; ready = decides_ready v x ps k })
  sim_work v (standing.Works.left {o = Compares o} x ps k) q = now q (ready_expr x (standing.Works.compared v ps k))
  sim_work v (standing.Works.left {o = Computes o} x ps k) q = now q (ready_expr x (standing.Works.computed v ps k))
  sim_work v (standing.Works.compared u ps k) q = now q (record { used = _; ready = comparison_ready u v (works_left ps k) })
  sim_work v (standing.Works.computed u ps k) q = now q (record { used = _; ready = arithmetic_ready u v (works_left ps k) })
  sim_work v (standing.Works.connected d ps k) q = now q (record { used = _; ready = truth_ready d v (works_left ps k) })
  sim_work v (standing.Works.calling {g = g} us vs k) q = now q (ready_args us (calling_arguments g k) (standing.Sames.more vs v))
  sim_work v (standing.Works.doing {op = op} us vs k) q = now q (ready_args us (doing_arguments op k) (standing.Sames.more vs v))
  sim_work v (standing.Works.handling_first {h = h} ns le x k) q = sim_put_aside matches rules stores store_typed active base waits h ns v le x k q
  sim_work v (standing.Works.handling_second {g = g} {h = h} ns le m i us held vs k) q = now q (ready_args us (handling_arguments g h ns le m i held k) (standing.Sames.more vs v))
  sim_work v (standing.Works.resuming_first {x = x} lt us k) q = sim_put_number matches rules stores store_typed active base waits x v lt us k q
  sim_work v (standing.Works.resuming_second {x = x} le lt us l vs k) q = now q (ready_args us (resuming_arguments x le lt l k) (standing.Sames.more vs v))
  sim_work v (standing.Works.grouping i k) q = now q (record { used = _; ready = group_ready i v k })
  sim_work v (standing.Works.tail_first {x = x} c lt o us d inside) q = sim_put_tail matches rules stores store_typed active base waits x c v lt o us d inside q
  sim_work v (standing.Works.tail_second c lt o us l vs d inside) q = now q (ready_args us (tail_arguments c lt o l d inside) (standing.Sames.more vs v))
  sim_work v (standing.Works.tail_calling {g = g} c us vs d) q = now q (ready_args us (tail_calling_arguments g c d) (standing.Sames.more vs v))
  sim_work v (standing.Works.within u) q = now q (record { used = 0; ready = use_ready v u })

  -- a while, inside its block
  sim_loop : {D : ℕ} {x : ExprTree} {b rest : BlockTree} {c : Code} {e : Context} → WellExpr p.declarations n 0 x → WellBlock p.declarations Γ n b → Rest p.declarations Γ n D0 f D rest c e
      → NextTyped p Ξ vars (Some (in_expr x (Within (ToTurn x b) rest ∷ [])))
      → Matches p matches 54 s (config (Label ε 0 Done c ∷ e) ε (while_loop p.declarations Γ D x b)) (ruled p σ vars owner κ (in_expr x (Within (ToTurn x b) rest ∷ [])))
  sim_loop v w r q =
      before 2 refl refl refl (omega arith) (sim_expr v (standing.Works.within (standing.Uses.turns v w r)) q)

  -- a statement, before the rest of its body
  sim_statement : {scope scope' : Scope} {D : ℕ} (st : StatementTree) {rest : BlockTree} {c : Code} {e : Context} → Covers Ξ scope vars → StatementTyped p scope st scope' → WellStatement p.declarations Γ n st
      → Rest p.declarations Γ n D0 f D rest c e → NextTyped p Ξ vars (Some (in_block vars owner (st ⨟ rest)))
      → Matches p matches 56 s (config e ε (statement p.declarations Γ D st c)) (ruled p σ vars owner κ (in_block vars owner (st ⨟ rest)))
  sim_statement (Evaluate (use_for.Let x) y) covers t (standing.WellStatement.lets h w) r q = now q (ready_expr w (standing.Works.within (standing.Uses.sets h r)))
  sim_statement (Evaluate (use_for.Assign x) y) covers t (standing.WellStatement.assigns h w) r q = now q (ready_expr w (standing.Works.within (standing.Uses.sets h r)))
  sim_statement (If y a b) covers t (standing.WellStatement.ifs w u v) r q = now q (ready_expr w (standing.Works.within (standing.Uses.chooses u v r)))
  sim_statement (While y b) covers t (standing.WellStatement.whiles w v) r q = before 2 refl refl refl (omega arith) (sim_loop w v r q)
  sim_statement (Evaluate use_for.Print y) covers t (standing.WellStatement.print w) r q = now q (ready_expr w (standing.Works.within (standing.Uses.prints r)))
  sim_statement (Evaluate use_for.Return y) covers (typing.StatementTyped.evaluates t u) (standing.WellStatement.return w) r q = now q (ready_return active base y covers t w r)
  sim_statement (Evaluate (use_for.Store x k) y) covers t (standing.WellStatement.stores is h free w) r q = now q (ready_expr w (standing.Works.within (standing.Uses.puts is h free r)))
  sim_statement (Evaluate (use_for.Take k x) y) covers t (standing.WellStatement.takes is h free w) r q = now q (ready_expr w (standing.Works.within (standing.Uses.takes is h free r)))
  sim_statement (Evaluate (use_for.Switch x u k) y) covers t (standing.WellStatement.switches hx hu hk w) r q = now q (ready_expr w (standing.Works.within (standing.Uses.switches hx hu hk r)))
  sim_statement (Spawn k g) covers t (standing.WellStatement.spawns h i) r q = now q (record { used = 0; ready = spawn_ready h i r })
  sim_statement Fail {c = c} covers t standing.WellStatement.fail r q = now q (record { used = 0; ready = fail_ready c (rest_deep r).deep })
  sim_statement (Evaluate use_for.Drop y) covers t (standing.WellStatement.drop w) r q = now q (ready_expr w (standing.Works.within (standing.Uses.drops r)))

  -- the rest of a body
  sim_block : {scope : Scope} {D : ℕ} {b : BlockTree} {c : Code} {e : Context} → Covers Ξ scope vars → RestTyped p scope b → Rest p.declarations Γ n D0 f D b c e → NextTyped p Ξ vars (Some (in_block vars owner b))
      → Matches p matches 56 s (config e ε c) (ruled p σ vars owner κ (in_block vars owner b))
  sim_block covers t standing.Rest.ends q = now q (record { used = 0; ready = end_ready })
  sim_block covers t (standing.Rest.does {s = st} w r) q =
      let begun = rest_begun covers t in
      sim_statement st begun.covers begun.typed w r q
  sim_block covers t (standing.Rest.leaves r) q = before 0 refl refl refl (omega arith) (sim_block covers t r q)
  sim_block covers t (standing.Rest.turns {D = D} {x = x} {b = b} {c = c} {e = e} v w r) q =
      more_room (omega arith) (before 0 (again_step (program_of p matches) s (Label ε 0 Done c ∷ e) (while_turn p.declarations Γ D x b) Done) refl refl (omega arith) (sim_loop v w r q))

-- ## All steps

module _ {p : Script} (matches : ℕ → ℕ → Bool) (facts : Facts p.declarations) (rules : RulesMatched p matches) {ρ : List ℕ} {σ : script.Store} {s : Store} (stores : Stores p.declarations ρ σ s) {Ξ : World} (store_typed : StoreTyped p Ξ σ) where
  -- a value in its context
  sim_gives : {κ : script.Context} {ops : Row Val} {c : Code} {e : Context} {v : Value} {a : Val} → Same ρ v a → Waits p.declarations ρ κ ops c e → TermTyped p Ξ (Gives v) κ
      → Matches p matches 60 s (config e (ops ▹ a) c) (step_at p σ (Gives v) κ)
  sim_gives v standing.Waits.outside t = elim t [ ]
  sim_gives v (standing.Waits.activation {owner = owner} active w base waits) (in_activation t κ) = more_room (omega arith) (sim_work matches rules stores store_typed active base waits v w (next_typed owner t))
  sim_gives v (standing.Waits.handle {h = h} is room long held waits) (in_handle typed.HasKind.int i ps κ) = more_room (omega arith) (sim_return matches facts stores h is room long held waits v)
  sim_gives v (standing.Waits.group waits) (in_group typed.HasKind.int κ) = more_room (omega arith) (sim_group_left matches stores waits v)

  -- a term
  sim_stands : {T : script.Term} {t : Term} → Stands p.declarations ρ T t → TermTyped p Ξ T.hole T.around → Matches p matches 60 s t (step_at p σ T.hole T.around)
  sim_stands (standing.Stands.gives v w) t = sim_gives v w t
  sim_stands (standing.Stands.lies {owner = owner} {g = g} {h = h} ns active le x lt l k base waits) (in_activation t κ) =
      more_room (omega arith) (sim_ready matches rules stores store_typed active base waits (next_typed owner t) (ready_behind g h ns le x.firsts x.behind x.handled x.asides x.args x.held (omega (arith, lt)) l k))
  sim_stands (standing.Stands.finds {owner = owner} active x w base waits) (in_activation t κ) = more_room (omega arith) (sim_expr matches rules stores store_typed active base waits x w (next_typed owner t))
  sim_stands (standing.Stands.runs {owner = owner} active r base waits) (in_activation (typed.HoleTyped.runs covers b) κ) =
      more_room (omega arith) (sim_block matches rules stores store_typed active base waits covers b r (next_typed owner (typed.HoleTyped.runs covers b)))

-- each step of a script is matched
pub sim_step : {p : Script} (matches : ℕ → ℕ → Bool) {Ξ : World} {ρ : List ℕ} {σ : script.Store} {T : script.Term} {s : Store} {t : Term} → Facts p.declarations → RulesMatched p matches
    → Typed p Ξ (record { store = σ; term = T }) → At p.declarations ρ (record { store = σ; term = T }) s t → Matches p matches 60 s t (meaning.step p (record { store = σ; term = T }))
sim_step matches facts rules t a = sim_stands matches facts rules a.stores t.store a.stands t.term
