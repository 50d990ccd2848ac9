-- What suspend and switch capture, and what a store keeps (stack-switching explainer, execution; Core, appendix, soundness).
use Rattle.std.specs.Prelude.{◌≡◌, ◌+◌, ℕ, All, List, length, Some, slice_get}
use Rattle.w_types.specs.declared.types.FuncType.{FuncType}
use Rattle.w_types.specs.declared.types.ValType.{ValType}
use Rattle.lists.specs.Rows.{Row, ◌▹◌, ◌⧺◌, row_of, size}
use Rattle.w_syntax.specs.Code.{Code, Plain}
use Rattle.w_syntax.specs.declared.instructions.Op.TheVariants as op
use Rattle.w_syntax.specs.declared.instructions.SwitchingOp.TheVariants as switching
use Rattle.w_syntax.specs.declared.module.Module.{Module}
use Rattle.w_canon.specs.Supertypes.{KeepsKinds}
use Rattle.w_rules.specs.Conditions.{ClauseTyped}
use Rattle.w_rules.specs.Context.{cont_of, type_of_tag}
use Rattle.w_rules.specs.Matching.{known}
use Rattle.w_rules.specs.Operands.{Operand}
use Rattle.w_rules.specs.Spaces.{context_of}
use Rattle.w_reduce.specs.Values.{Val}
use Rattle.w_reduce.specs.Store.{Store}
use Rattle.w_reduce.specs.Terms.{rest_of, Context, Continuation, filled}
use Rattle.w_reduce.specs.Handlers.{Handler, label_clause, switch_clause, find}
use Rattle.w_reduce.specs.Switching.{continuation_at, back_type}
use Rattle.w_typed.specs.Values.{Arrows, ValuesTyped}
use Rattle.w_typed.specs.Contexts.{in_scope, HoleTyped, TermTyped, KeptTyped}
use Rattle.w_typed.specs.Stores.{StoreTyped}

-- What is captured up to a handle is a continuation that takes params and gives the handle's results: those that the handle's clauses
-- are typed for, and that the context around the handle takes.
pub record CaptureTyped (m : Module) (K : Arrows) (us : Row Operand) {A : Type 0} (h : Handler A) (params : List ValType) (k : Continuation) : Type 0 where
  pub results : List ValType
  pub kept : KeptTyped m K k (record { params = params; results = results })
  pub around : HoleTyped m K (known (row_of results)) us (record { around = h.outer; operands = h.below; rest = rest_of h.rest })
  pub clauses : All (ClauseTyped (in_scope m around.scope) results) h.clauses

-- ## Laws

-- Those of captures go by transitivity of matching, so each supertype is of its subtypes' kind, as in each sound module.

-- E[v* w^n (suspend x)], where x is [t1^n] to [t2*], and a handle of E has a label for x: what is captured with v* takes t2*
abbrev pub SuspendsCaptureTyped : Type 0
SuspendsCaptureTyped = (m : Module) (K : Arrows) (us : Row Operand) (e : Context) (vs ws : Row Val) (x : ℕ) (c : Code) (t : FuncType) (h : Handler ℕ)
    → KeepsKinds m.types → TermTyped m K us (record { around = e; operands = vs ⧺ ws; rest = rest_of (Plain (op.Switching (switching.Suspend x)) c) })
    → type_of_tag (context_of m) x ≡ Some t → size ws ≡ length t.params → find (label_clause x) e ≡ Some h
    → CaptureTyped m K us h t.results (continuation_at (length t.results) h.inner vs c)

-- E[v* w^n u (switch x y)], where x is cont [t1^n (ref null? z)] to [t2*], z is cont [t3*] to [t4*], and a handle of E switches for y:
-- what is captured with v* takes t3*
abbrev pub SwitchesCaptureTyped : Type 0
SwitchesCaptureTyped = (m : Module) (K : Arrows) (us : Row Operand) (e : Context) (vs ws : Row Val) (u : Val) (x y z : ℕ) (c : Code) (t back : FuncType) (h : Handler (Unit {0}))
    → KeepsKinds m.types → TermTyped m K us (record { around = e; operands = (vs ⧺ ws) ▹ u; rest = rest_of (Plain (op.Switching (switching.Switch x y)) c) })
    → cont_of (context_of m) x ≡ Some t → size ws + 1 ≡ length t.params → back_type (row_of t.params) ≡ Some z → cont_of (context_of m) z ≡ Some back
    → find (switch_clause y) e ≡ Some h → CaptureTyped m K us h back.params (continuation_at (length back.params) h.inner vs c)

-- a continuation of a typed store, filled with values of its parameters, is a term of its results
abbrev pub KeptContextsAreTerms : Type 0
KeptContextsAreTerms = (m : Module) (K : Arrows) (s : Store) → StoreTyped m K s → (a : ℕ) (k : Continuation) (t : FuncType) (vs : Row Val)
    → slice_get s.conts a ≡ Some (Some k) → slice_get K a ≡ Some t → ValuesTyped m K vs (known (row_of t.params))
    → TermTyped m K (known (row_of t.results)) (filled k.term vs)
