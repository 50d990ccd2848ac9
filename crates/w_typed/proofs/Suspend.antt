-- suspend, of typed configurations.
use Rattle.std.proofs.Common.{◌≡◌, ℕ, false, Bool, List, [], ◌∷◌, ◌++◌, length, Option, Some, None, refl, sym, subst}
use Rattle.w_types.specs.declared.types.FuncType.{FuncType}
use Rattle.w_types.specs.declared.types.HeapType.TheVariants.{Index}
use Rattle.w_types.specs.declared.types.ValType.{ValType}
use Rattle.w_types.specs.declared.types.ValType.TheVariants.{Ref}
use Rattle.lists.specs.Rows.{Row, ◌▹◌, ◌⧺◌, row_of, listed}
use Rattle.w_syntax.specs.Code.{Code}
use Rattle.w_syntax.specs.declared.instructions.SwitchingOp.TheVariants as switching
use Rattle.w_syntax.specs.declared.module.Module.{Module}
use Rattle.w_canon.specs.Matching.{ResultMatches, FuncMatches}
use Rattle.w_canon.specs.Supertypes.{KeepsKinds}
use Rattle.w_rules.specs.Conditions.{LabelClauseTyped}
use Rattle.w_rules.specs.Context.{type_of_tag}
use Rattle.w_rules.specs.InstructionTypes.{call_type}
use Rattle.w_rules.specs.Matching.{RowMatches, known}
use Rattle.w_rules.specs.Operands.{Operand}
use Rattle.w_rules.specs.Spaces.{context_of}
use Rattle.w_rules.specs.Typing.{HasInstrType}
use Rattle.w_rules.proofs.Preorder.{row_refl}
use Rattle.w_reduce.specs.Values.{Val, Cont}
use Rattle.w_reduce.specs.Store.{Store, next_cont, with_cont}
use Rattle.w_reduce.specs.Terms.{Branch, Context}
use Rattle.w_reduce.specs.Program.{Program}
use Rattle.w_reduce.specs.Reduced.{steps_to}
use Rattle.w_reduce.specs.Handlers.{Handler, label_clause}
use Rattle.w_reduce.specs.Switching.{switching_op, continuation_at}
use Rattle.w_typed.specs.Values.{Arrows, a_value, a_continuation, ValuesTyped, values}
use Rattle.w_typed.specs.Contexts.{Scope, in_scope, CodeTyped, code_alone, branch_first, Subset, Within, KeptTyped}
use Rattle.w_typed.specs.Configurations.{IsSafe}
use Rattle.w_typed.proofs.Subsumption.{values_sub, values_beside}
use Rattle.w_typed.proofs.TypedOperands.{values_taken}
use Rattle.w_typed.proofs.MoreContinuations.{grows_more, values_grow, within_grows}
use Rattle.w_typed.proofs.SameTypes.{result_rows}
use Rattle.w_typed.proofs.ResultRows.{size_types, row_of-listed}
use Rattle.w_typed.proofs.Low.{low_held, label_held}
use Rattle.w_typed.proofs.CutContexts.{HandleTyped, cut_found}
use Rattle.w_typed.proofs.Clauses.{label_found, handle_found}
use Rattle.w_typed.proofs.Conts.{cont_made, made_reference, goes_with_more}
use Rattle.w_typed.proofs.Control.{Here, here_left}

-- the context up to a handle, with values of these types at its hole, gives what the handle gives
pub captured_typed : (m : Module) (K : Arrows) (t : FuncType) {inner : Context} {below : Row Val} {k : Code} {c : Scope} {set now : List Bool} {out : Row Operand}
    (beneath : Row Operand) → Subset set now → ValuesTyped m K below beneath → CodeTyped m c set k (beneath ⧺ known (row_of t.params)) out
    → Within m K (known (row_of t.results)) inner c now out → KeptTyped m K (continuation_at (length t.params) inner below k) t
captured_typed m K t {c = c} {set = set} {now = now} {out = out} beneath still v k w = record {
  takes = refl;
  term = record { scope = c; set = set; now = now; still = still; before = beneath; after = out; operands = v; rest = code_alone k; around = w };
}

module _ (p : Program) (keeps : KeepsKinds p.source.types) (K : Arrows) (us : Row Operand) {s : Store} {e : Context} {k : Code} where
  -- with its handle found
  suspended : {below args : Row Val} {beneath : Row Operand} (x : ℕ) (t : FuncType) (h : Here p K us s e k (beneath ⧺ known (row_of t.results))) (f : Handler ℕ) → h.leaving ≡ false
      → type_of_tag (context_of p.source) x ≡ Some t → label_clause x f.clauses ≡ Some f.answer
      → HandleTyped p.source K us h.scope h.now h.out f.inner f.below f.clauses f.rest f.outer
      → ValuesTyped p.source K below beneath → ValuesTyped p.source K args (known (row_of t.params))
      → IsSafe p.source K us (steps_to (with_cont (continuation_at (length t.results) f.inner below k) s) f.outer ((f.below ⧺ args) ▹ Cont (next_cont s))
      (record { ahead = Branch f.answer ∷ []; code = f.rest }))
  suspended {beneath = beneath} x t h f n is found cut lower taken =
      let m = p.source in
      let l : LabelClauseTyped (in_scope m cut.scope) cut.results x f.answer = label_found (in_scope m cut.scope) cut.results x f.answer f.clauses cut.clauses found in
      let same : l.tag ≡ t = let q = l.has_tag in cc in
      let new : FuncType = record { params = t.results; results = cut.results } in
      let g = grows_more K new in
      let cont = captured_typed m (K ++ new ∷ []) new beneath h.still (values_grow m g lower) (h.behind n) (within_grows m g cut.inside) in
      let arguments = subst (λ (z : FuncType). ResultMatches m.types z.params (listed l.beneath)) same l.arguments in
      let args : RowMatches m.types (known (row_of t.params)) (known l.beneath) =
      subst (λ (r : Row ValType). RowMatches m.types (known (row_of t.params)) (known r)) (row_of-listed l.beneath) (result_rows m.types arguments) in
      let matches : FuncMatches m.types new l.target = record {
        params = subst (λ (z : FuncType). ResultMatches m.types l.target.params z.results) same l.takes;
        results = l.gives;
      } in
      let taken_there : Row ValType = l.beneath ▹ Ref (record { nullable = l.is_null; heap = Index l.index }) in
      goes_with_more m g (cont_made m _ new s h.store cont) cut.still
      (values (values_grow m g (values_beside m cut.values (values_sub m keeps args taken)))
      (a_value (a_continuation (made_reference m new l.target l.index s h.store l.has_cont matches))))
      (branch_first {us = cut.out} cut.beneath l.has_label (row_refl m.types (cut.beneath ⧺ known taken_there))
      (label_held m cut.beneath x f.answer f.clauses taken_there found l.has_label cut.tops (λ i. low_held m (cut.behind.low i)))) cut.around

  -- with its type known
  suspend_here : {vs : Row Val} (x : ℕ) (t : FuncType) (beneath : Row Operand) (h : Here p K us s e k (beneath ⧺ known (row_of t.results))) → h.leaving ≡ false
      → type_of_tag (context_of p.source) x ≡ Some t → ValuesTyped p.source K vs (beneath ⧺ known (row_of t.params))
      → IsSafe p.source K us (switching_op p s e vs (switching.Suspend x) k)
  suspend_here {vs} x t beneath h n is v =
      let m = p.source in
      rw is (values_taken m us (length t.params) vs beneath (known (row_of t.params)) _ (sym (size_types t.params)) v (λ below args lower taken.
      handle_found m us x (label_clause x) e _ (λ f found.
      suspended x t h f n is found.answers (cut_found m (label_clause x) e f found h.around) lower taken)))

  -- by whether it has one
  suspend_by : {ts ws : Row Operand} {vs : Row Val} (x : ℕ) (o : Option FuncType) (h : Here p K us s e k ws) → h.leaving ≡ false → type_of_tag (context_of p.source) x ≡ o
      → HasInstrType p.source.types (call_type o) ts ws → ValuesTyped p.source K vs ts → IsSafe p.source K us (switching_op p s e vs (switching.Suspend x) k)
  suspend_by x None h n is t v = absurd t
  suspend_by x (Some f) h n is t v = suspend_here x f t.beneath (here_left p keeps K us t.gives h) n is (values_sub p.source keeps t.takes v)

  -- suspend makes a continuation of the context up to its handle, and branches there, or traps where there is none
  pub suspend_safe : {ts ws : Row Operand} {vs : Row Val} (x : ℕ) (h : Here p K us s e k ws) → h.leaving ≡ false
      → HasInstrType p.source.types (call_type (type_of_tag (context_of p.source) x)) ts ws → ValuesTyped p.source K vs ts
      → IsSafe p.source K us (switching_op p s e vs (switching.Suspend x) k)
  suspend_safe x h n t v = suspend_by x (type_of_tag (context_of p.source) x) h n refl t v
