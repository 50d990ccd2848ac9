-- What suspend and switch capture is a continuation of the handle's results, and what a store keeps is a term once it is filled.
use Rattle.std.proofs.Common.{◌≡◌, ℕ, ◌+◌, Bool, List, length, Option, Some, None, slice_get, refl, sym, ap, subst, ◌∙◌, arith}
use Rattle.w_types.specs.declared.types.FuncType.{FuncType}
use Rattle.w_types.specs.declared.types.ValType.{ValType}
use Rattle.lists.specs.Rows.{Row, ε, ◌▹◌, ◌⧺◌, size, row_of}
use Rattle.lists.proofs.Rows.{size-row_of}
use Rattle.w_syntax.specs.Code.{Code, Plain}
use Rattle.w_syntax.specs.declared.instructions.Op.TheVariants as op
use Rattle.w_syntax.specs.declared.instructions.SwitchingOp.TheVariants as switching
use Rattle.w_syntax.specs.declared.module.Module.{Module}
use Rattle.w_canon.specs.Supertypes.{KeepsKinds}
use Rattle.w_rules.specs.Conditions.{SwitchTyped}
use Rattle.w_rules.specs.Context.{cont_of, type_of_tag}
use Rattle.w_rules.specs.InstructionTypes.{call_type, switched_type}
use Rattle.w_rules.specs.Matching.{known}
use Rattle.w_rules.specs.Operands.{Operand}
use Rattle.w_rules.specs.Spaces.{context_of}
use Rattle.w_rules.specs.Typing.{HasInstrType}
use Rattle.w_reduce.specs.Values.{Val}
use Rattle.w_reduce.specs.Store.{Store}
use Rattle.w_reduce.specs.Terms.{rest_of, Context, Continuation, filled}
use Rattle.w_reduce.specs.Handlers.{Handler, label_clause, switch_clause, find}
use Rattle.w_reduce.specs.Switching.{continuation_at, back_type}
use Rattle.w_reduce.proofs.InnermostHandle.{finding}
use Rattle.w_typed.specs.Values.{Arrows, ValuesTyped, values}
use Rattle.w_typed.specs.Contexts.{Scope, in_scope, CodeTyped, code_alone, Subset, TermTyped, KeptTyped}
use Rattle.w_typed.specs.Stores.{ContTyped, consumed, kept, StoreTyped}
use Rattle.w_typed.specs.Captures.{CaptureTyped, SuspendsCaptureTyped, SwitchesCaptureTyped, KeptContextsAreTerms}
use Rattle.w_typed.proofs.Behind.{code_behind, code_here}
use Rattle.w_typed.proofs.Low.{size_known}
use Rattle.w_typed.proofs.OneWay.{some_same}
use Rattle.w_typed.proofs.CutContexts.{HandleTyped, cut_found}
use Rattle.w_typed.proofs.FilledTerms.{hole_full}
use Rattle.w_typed.proofs.Holes.{code_left}
use Rattle.w_typed.proofs.Places.{instance_at}
use Rattle.w_typed.proofs.ResultRows.{size_types}
use Rattle.w_typed.proofs.Subsumption.{values_sub}
use Rattle.w_typed.proofs.Suspend.{captured_typed}

module _ (m : Module) (K : Arrows) where
  -- ## Captures

  -- the values below as many as there are types on top
  values_below : (vs ws : Row Val) (beneath ins : Row Operand) → size ws ≡ size ins → ValuesTyped m K (vs ⧺ ws) (beneath ⧺ ins) → ValuesTyped m K vs beneath
  values_below vs ε beneath ε e h = h
  values_below vs (ws ▹ w) beneath (ins ▹ t) e (values h v) = values_below vs ws beneath ins (cc) h
  values_below vs ε beneath (ins ▹ t) e h = absurd (cc)
  values_below vs (ws ▹ w) beneath ε e h = absurd (cc)

  one_below : {vs : Row Val} {v : Val} {ts : Row Operand} {t : Operand} → ValuesTyped m K (vs ▹ v) (ts ▹ t) → ValuesTyped m K vs ts
  one_below (values h v) = h

  module _ (us : Row Operand) where
    -- a context cut at its handle, with values and code that takes params above them
    capture_typed : {A : Type 0} (params : List ValType) (vs : Row Val) (k : Code) (f : Handler A) (beneath : Row Operand) {c : Scope} {set now : List Bool} {out : Row Operand}
        → HandleTyped m K us c now out f.inner f.below f.clauses f.rest f.outer → Subset set now → ValuesTyped m K vs beneath
        → CodeTyped m c set k (beneath ⧺ known (row_of params)) out → CaptureTyped m K us f params (continuation_at (length params) f.inner vs k)
    capture_typed params vs k f beneath cut still v d = record {
      results = cut.results;
      kept = captured_typed m K (record { params = params; results = cut.results }) beneath still v d cut.inside;
      around = record {
        scope = cut.scope;
        set = cut.set;
        now = cut.now_there;
        still = cut.still;
        before = cut.beneath;
        after = cut.out;
        operands = cut.values;
        rest = code_alone cut.behind;
        around = cut.around;
      };
      clauses = cut.clauses;
    }

  module _ (keeps : KeepsKinds m.types) (us : Row Operand) where
    -- by a suspend
    suspend_captures : (e : Context) (vs ws : Row Val) (x : ℕ) (k : Code) (t : FuncType) (f : Handler ℕ)
        → TermTyped m K us (record { around = e; operands = vs ⧺ ws; rest = rest_of (Plain (op.Switching (switching.Suspend x)) k) })
        → type_of_tag (context_of m) x ≡ Some t → size ws ≡ length t.params → find (label_clause x) e ≡ Some f
        → CaptureTyped m K us f t.results (continuation_at (length t.results) f.inner vs k)
    suspend_captures e vs ws x k t f h is many found =
        let d = code_here h.rest in
        let given = d.derives.1.0 in
        let inside : h.scope.results ≡ None → ⊥ = λ n. let q = d.none n in absurd (cc) in
        let q : HasInstrType m.types (call_type (Some t)) h.before given =
        subst (λ (o : Option FuncType). HasInstrType m.types (call_type o) h.before given) is d.derives.1.1 in
        let behind = code_left m keeps q.gives (code_behind m h.before given k (op.Switching (switching.Suspend x)) refl inside d.derives.1.1 d.derives.1.2 d.fits d.low) in
        let lower = values_below vs ws q.beneath (known (row_of t.params)) (many ∙ sym (size_types t.params)) (values_sub m keeps q.takes h.operands) in
        let cut = cut_found m (label_clause x) e f ((finding ℕ (label_clause x) e f).0 found) h.around in
        capture_typed us t.results vs k f q.beneath cut h.still lower behind

    -- by a switch, whose types are these
    switch_typed_captures : (e : Context) (vs ws : Row Val) (u : Val) (x y : ℕ) (k : Code) (f : Handler (Unit {0}))
        (h : TermTyped m K us (record { around = e; operands = (vs ⧺ ws) ▹ u; rest = rest_of (Plain (op.Switching (switching.Switch x y)) k) }))
        (c : SwitchTyped (in_scope m h.scope) x y) → size ws + 1 ≡ length c.one.params → find (switch_clause y) e ≡ Some f
        → CaptureTyped m K us f c.other.params (continuation_at (length c.other.params) f.inner vs k)
    switch_typed_captures e vs ws u x y k f h c many found =
        let d = code_here h.rest in
        let given = d.derives.1.0 in
        let inside : h.scope.results ≡ None → ⊥ = λ n. let q = d.none n in absurd (cc) in
        let q : HasInstrType m.types (switched_type x c.beneath (Some c.other)) h.before given = rw (c.has_one, c.params, c.has_other) at d.derives.1.1 in
        let behind = code_left m keeps q.gives (code_behind m h.before given k (op.Switching (switching.Switch x y)) refl inside d.derives.1.1 d.derives.1.2 d.fits d.low) in
        let last = one_below (values_sub m keeps q.takes h.operands) in
        let count : size ws ≡ size (known c.beneath) = omega (arith, size-row_of c.one.params, ap size c.params, size_known c.beneath) in
        let lower = values_below vs ws q.beneath (known c.beneath) count last in
        let cut = cut_found m (switch_clause y) e f ((finding (Unit {0}) (switch_clause y) e f).0 found) h.around in
        capture_typed us c.other.params vs k f q.beneath cut h.still lower behind

    switch_captures : (e : Context) (vs ws : Row Val) (u : Val) (x y z : ℕ) (k : Code) (t back : FuncType) (f : Handler (Unit {0}))
        → TermTyped m K us (record { around = e; operands = (vs ⧺ ws) ▹ u; rest = rest_of (Plain (op.Switching (switching.Switch x y)) k) })
        → cont_of (context_of m) x ≡ Some t → size ws + 1 ≡ length t.params → back_type (row_of t.params) ≡ Some z → cont_of (context_of m) z ≡ Some back
        → find (switch_clause y) e ≡ Some f → CaptureTyped m K us f back.params (continuation_at (length back.params) f.inner vs k)
    switch_captures e vs ws u x y z k t back f h is many at there found =
        let c : SwitchTyped (in_scope m h.scope) x y = (code_here h.rest).derives.0 in
        let one : t ≡ c.one = let p = c.has_one in cc in
        let as_many : size ws + 1 ≡ length c.one.params = many ∙ ap (λ (g : FuncType). length g.params) one in
        let same : z ≡ c.index = some_same (sym at ∙ ap (λ (g : FuncType). back_type (row_of g.params)) one ∙ ap back_type c.params) in
        let other : c.other ≡ back = some_same (sym c.has_other ∙ ap (cont_of (context_of m)) (sym same) ∙ there) in
        subst (λ (g : FuncType). CaptureTyped m K us f g.params (continuation_at (length g.params) f.inner vs k)) other
        (switch_typed_captures e vs ws u x y k f h c as_many found)

  -- ## What is kept

  kept_there : (o : Option Continuation) (k : Continuation) (t : FuncType) → ContTyped m K o t → o ≡ Some k → KeptTyped m K k t
  kept_there _ k t consumed is = absurd (cc)
  kept_there _ k t (kept h) is = subst (λ (x : Continuation). KeptTyped m K x t) (some_same is) h

  kept_filled : (s : Store) → StoreTyped m K s → (a : ℕ) (k : Continuation) (t : FuncType) (vs : Row Val) → slice_get s.conts a ≡ Some (Some k)
      → slice_get K a ≡ Some t → ValuesTyped m K vs (known (row_of t.params)) → TermTyped m K (known (row_of t.results)) (filled k.term vs)
  kept_filled s u a k t vs is at v =
      let f = instance_at a t u.conts at in
      let there : f.item ≡ Some k = some_same (sym f.is ∙ is) in
      hole_full m k.term (kept_there f.item k t f.holds there).term v

-- what a suspend captures is typed
pub suspends_typed : SuspendsCaptureTyped
suspends_typed m K us e vs ws x k t f keeps h is many found = suspend_captures m K keeps us e vs ws x k t f h is many found

-- and what a switch does
pub switches_typed : SwitchesCaptureTyped
switches_typed m K us e vs ws u x y z k t back f keeps h is many at there found = switch_captures m K keeps us e vs ws u x y z k t back f h is many at there found

-- what a store keeps is a term once it is filled
pub kept_contexts_are_terms : KeptContextsAreTerms
kept_contexts_are_terms m K s u a k t vs is at v = kept_filled m K s u a k t vs is at v
