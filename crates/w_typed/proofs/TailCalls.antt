-- Tail calls of typed configurations: what is called stands in the place of the innermost frame, whose results its own match.
use Rattle.std.proofs.Common.{◌≡◌, inl, ℕ, Bool, List, length, Option, Some, None, slice_get, refl, sym, ap, subst, ◌∙◌}
use Rattle.std.specs.Prelude.{option_map}
use Rattle.std.proofs.lemmas.Option.{slice_get_within}
use Rattle.w_types.specs.declared.types.FuncType.{FuncType}
use Rattle.w_types.specs.declared.types.ValType.{ValType}
use Rattle.lists.specs.Rows.{Row, ◌⧺◌, row_of, listed}
use Rattle.lists.proofs.Rows.{size-row_of}
use Rattle.w_syntax.specs.Code.{Code}
use Rattle.w_syntax.specs.Functions.{func_type, type_at}
use Rattle.w_syntax.specs.declared.instructions.ControlOp.TheVariants as control
use Rattle.w_syntax.specs.declared.module.Module.{Module}
use Rattle.w_syntax.specs.declared.module.TableType.{TableType}
use Rattle.w_canon.specs.Matching.{IndexMatches, RefMatches, ResultMatches}
use Rattle.w_canon.specs.Supertypes.{KeepsKinds}
use Rattle.w_rules.specs.Conditions.{Holds, funcref, ReturnsTyped}
use Rattle.w_rules.specs.Context.{type_of_func, func_at}
use Rattle.w_rules.specs.InstructionTypes.{tail_call_type, tail_call_indirect_type, tail_call_ref_type}
use Rattle.w_rules.specs.Matching.{RowMatches, known}
use Rattle.w_rules.specs.Operands.{Operand}
use Rattle.w_rules.specs.Sound.{Sound}
use Rattle.w_rules.specs.Spaces.{context_of, functions_of, tables_of}
use Rattle.w_rules.specs.Typing.{HasInstrType}
use Rattle.w_rules.specs.Valid.{FunctionItem, FunctionValid}
use Rattle.w_rules.proofs.Preorder.{row_refl, row_trans, row_beside}
use Rattle.w_tables.specs.declared.entries.FuncEntry.{FuncEntry}
use Rattle.w_reduce.specs.Values.{Val}
use Rattle.w_reduce.specs.Store.{Store}
use Rattle.w_reduce.specs.Terms.{Context}
use Rattle.w_reduce.specs.Program.{Program, IsProgram}
use Rattle.w_reduce.specs.Calls.{invoked, params_of, around_frame, return_invoke}
use Rattle.w_reduce.specs.Control.{control_op}
use Rattle.w_typed.specs.Values.{Arrows, ValuesTyped}
use Rattle.w_typed.specs.Stores.{StoreTyped}
use Rattle.w_typed.specs.Contexts.{Scope, returned, in_scope, Within, outside, label, frame, handle}
use Rattle.w_typed.specs.Configurations.{IsSafe}
use Rattle.w_typed.proofs.Subsumption.{values_sub, values_beside}
use Rattle.w_typed.proofs.TypedOperands.{values_taken}
use Rattle.w_typed.proofs.Holes.{rest_left}
use Rattle.w_typed.proofs.Low.{size_known}
use Rattle.w_typed.proofs.OneWay.{some_same}
use Rattle.w_typed.proofs.Functions.{EntryTyped, own, host, entries_typed}
use Rattle.w_typed.proofs.Places.{instance_at}
use Rattle.w_typed.proofs.Calls.{entry_invoked}
use Rattle.w_typed.proofs.Indirect.{in_table_safe, in_reference_safe}
use Rattle.w_typed.proofs.KeptComposites.{types_valid}
use Rattle.w_typed.proofs.SameTypes.{function_matches, result_rows}
use Rattle.w_typed.proofs.ResultRows.{row_of-listed}

-- what the condition says of the results of the frame
results_match : (m : Module) (t : FuncType) (o : Option (Row ValType)) (taken : Row ValType) → o ≡ Some taken → ResultMatches m.types t.results (listed (returned o))
    → RowMatches m.types (known (row_of t.results)) (known taken)
results_match m t None taken is h = absurd (cc)
results_match m t (Some us) taken is h =
    let same : us ≡ taken = cc in
    subst (λ (z : Row ValType). RowMatches m.types (known (row_of t.results)) (known z)) (row_of-listed us ∙ same) (result_rows m.types h)

-- a function takes as many arguments as its type says
as_many : (p : Program) {f : FuncEntry} {x : ℕ} (t : FuncType) → Sound p.source → EntryTyped p.source f x → func_type p.source x ≡ Some t → params_of p f ≡ Some (length t.params)
as_many p t valid (own {i = i} {x = x} there) is =
    let m = p.source in
    let f : FunctionValid m i = valid.items (FunctionItem i) refl (inl (slice_get_within m.functions i x there)) in
    let same : t ≡ f.type = some_same (sym is ∙ ap (type_at m) (sym there) ∙ f.has_type) in
    ap (option_map (λ (z : FuncType). length z.params)) f.has_type ∙ ap (λ (z : FuncType). Some (length z.params)) (sym same)
as_many p t valid (host {p = by} h) is =
    let same : t ≡ h.type = some_same (sym is ∙ h.has_type) in
    sym (ap (λ (ts : List ValType). Some (length ts)) (ap (λ (f : FuncType). f.params) same ∙ h.params))

module _ (p : Program) (keeps : KeepsKinds p.source.types) {K : Arrows} (us : Row Operand) where
  -- the frame is found, and what is called comes in its place
  frame_replaced : {s : Store} {e : Context} {c : Scope} {now : List Bool} {out : Row Operand} {args : Row Val} {f : FuncEntry} {x : ℕ} (t : FuncType) (taken : Row ValType)
      → Sound p.source → StoreTyped p.source K s → EntryTyped p.source f x → func_type p.source x ≡ Some t → c.results ≡ Some taken
      → RowMatches p.source.types (known (row_of t.results)) (known taken) → ValuesTyped p.source K args (known (row_of t.params)) → Within p.source K us e c now out
      → IsSafe p.source K us (around_frame e (λ q. invoked p s q.2 (q.0 ⧺ args) f q.1))
  frame_replaced t taken valid u g has is r v (outside q) = absurd (cc)
  frame_replaced t taken valid u g has is r v (label under q size_is h again k still w) = frame_replaced t taken valid u g has is r v w
  frame_replaced t taken valid u g has is r v (handle results under q hs tops h k still w) = absurd (cc)
  frame_replaced t taken valid u g has is r v (frame {results = kept} under f q size_is ls h k still w) =
      let m = p.source in
      let same : taken ≡ kept = cc in
      let gives : RowMatches m.types (known (row_of t.results)) (known kept) = subst (λ (z : Row ValType). RowMatches m.types (known (row_of t.results)) (known z)) same r in
      entry_invoked p us t under valid u g has (values_beside m h v)
      (rest_left m keeps (row_beside m.types under under (known (row_of t.results)) (known kept) (row_refl m.types under) gives) k) still w

  found_returned : {s : Store} {e : Context} {vs : Row Val} {c : Scope} {now : List Bool} {out : Row Operand} (a : ℕ) (x : Option ℕ) (t : FuncType) (beneath : Row Operand) (taken : Row ValType)
      → Sound p.source → StoreTyped p.source K s → slice_get (functions_of p.source) a ≡ x → func_at (context_of p.source) x ≡ Some t → c.results ≡ Some taken
      → RowMatches p.source.types (known (row_of t.results)) (known taken) → ValuesTyped p.source K vs (beneath ⧺ known (row_of t.params)) → Within p.source K us e c now out
      → IsSafe p.source K us (return_invoke p s e vs a)
  found_returned a None t beneath taken valid u there has is r v w = absurd (cc)
  found_returned {vs = vs} a (Some x) t beneath taken valid u there has is r v w =
      let m = p.source in
      let f = instance_at a x (entries_typed m u.functions) there in
      let n = as_many p t valid f.holds has in
      rw (f.is, n)
      (values_taken m us (length t.params) vs beneath (known (row_of t.params)) _ (sym (size_known (row_of t.params) ∙ size-row_of t.params)) v
      (λ below args b given. frame_replaced t taken valid u f.holds has is r given w))

  -- a function is invoked in the place of the innermost frame
  pub return_safe : {s : Store} {e : Context} {vs : Row Val} {c : Scope} {now : List Bool} {out : Row Operand} (a : ℕ) (t : FuncType) (beneath : Row Operand) (taken : Row ValType)
      → Sound p.source → StoreTyped p.source K s → type_of_func (context_of p.source) a ≡ Some t → c.results ≡ Some taken
      → RowMatches p.source.types (known (row_of t.results)) (known taken) → ValuesTyped p.source K vs (beneath ⧺ known (row_of t.params)) → Within p.source K us e c now out
      → IsSafe p.source K us (return_invoke p s e vs a)
  return_safe a t beneath taken valid u has is r v w = found_returned a (slice_get (functions_of p.source) a) t beneath taken valid u refl has is r v w

  -- a function of a type that matches one whose results are right
  matching_returned : {s : Store} {e : Context} {vs : Row Val} {c : Scope} {now : List Bool} {out : Row Operand} (a z y : ℕ) (t : FuncType) (beneath : Row Operand) (taken : Row ValType)
      → Sound p.source → StoreTyped p.source K s → slice_get (functions_of p.source) a ≡ Some z → IndexMatches p.source.types z y → func_type p.source y ≡ Some t → c.results ≡ Some taken
      → RowMatches p.source.types (known (row_of t.results)) (known taken) → ValuesTyped p.source K vs (beneath ⧺ known (row_of t.params)) → Within p.source K us e c now out
      → IsSafe p.source K us (return_invoke p s e vs a)
  matching_returned a z y t beneath taken valid u there fits has is r v w =
      let m = p.source in
      let f = function_matches m (types_valid m valid) fits t has in
      let takes = row_beside m.types beneath beneath (known (row_of t.params)) (known (row_of f.type.params)) (row_refl m.types beneath) (result_rows m.types f.params) in
      let gives = row_trans m.types keeps (known (row_of f.type.results)) (known (row_of t.results)) (known taken) (result_rows m.types f.results) r in
      return_safe a f.type beneath taken valid u (ap (func_at (context_of m)) there ∙ f.has_type) is gives (values_sub m keeps takes v) w

  -- ## By instruction

  module _ {s : Store} {e : Context} {vs : Row Val} {c : Scope} {now : List Bool} {ts : Row Operand} (ws : Row Operand) {out : Row Operand} where
    call_by : (x : ℕ) (f : Option FuncType) (o : Option (Row ValType)) → Sound p.source → StoreTyped p.source K s → (c.results ≡ None → ⊥) → type_of_func (context_of p.source) x ≡ f → c.results ≡ o
        → Holds f (λ (t : FuncType). ResultMatches p.source.types t.results (listed (returned o))) → HasInstrType p.source.types (tail_call_type f) ts ws → ValuesTyped p.source K vs ts
        → Within p.source K us e c now out → IsSafe p.source K us (return_invoke p s e vs x)
    call_by x None o valid u inside has is q t v w = absurd q
    call_by x (Some f) None valid u inside has is q t v w = absurd (inside is)
    call_by x (Some f) (Some taken) valid u inside has is q t v w =
        return_safe x f t.beneath taken valid u has is (results_match p.source f (Some taken) taken refl q) (values_sub p.source keeps t.takes v) w

    -- return_call
    pub return_call_safe : (x : ℕ) → Sound p.source → StoreTyped p.source K s → (c.results ≡ None → ⊥) → ReturnsTyped (in_scope p.source c) (type_of_func (context_of p.source) x)
        → HasInstrType p.source.types (tail_call_type (type_of_func (context_of p.source) x)) ts ws → ValuesTyped p.source K vs ts → Within p.source K us e c now out
        → IsSafe p.source K us (return_invoke p s e vs x)
    return_call_safe x valid u inside q t v w = call_by x (type_of_func (context_of p.source) x) c.results valid u inside refl refl q t v w

    indirect_by : (y x : ℕ) (k : Code) (g : Option TableType) (f : Option FuncType) (o : Option (Row ValType)) → IsProgram p → Sound p.source → StoreTyped p.source K s → (c.results ≡ None → ⊥)
        → slice_get (tables_of p.source) x ≡ g → func_type p.source y ≡ f → c.results ≡ o
        → Holds g (λ (t : TableType). RefMatches p.source.types t.element funcref) × Holds f (λ (t : FuncType). ResultMatches p.source.types t.results (listed (returned o)))
        → HasInstrType p.source.types (tail_call_indirect_type g f) ts ws → ValuesTyped p.source K vs ts → Within p.source K us e c now out
        → IsSafe p.source K us (control_op p s e vs (control.ReturnCallIndirect y x) k)
    indirect_by y x k None f o prog valid u inside there has is q t v w = absurd q.0
    indirect_by y x k (Some g) None o prog valid u inside there has is q t v w = absurd q.1
    indirect_by y x k (Some g) (Some f) None prog valid u inside there has is q t v w = absurd (inside is)
    indirect_by y x k (Some g) (Some f) (Some taken) prog valid u inside there has is q t v w =
        in_table_safe p keeps us (t.beneath ⧺ known (row_of f.params)) y x g (λ d. return_invoke p s e d.0 d.1) prog u there q.0 (values_sub p.source keeps t.takes v)
        (λ below a z at fits b. matching_returned a z y f t.beneath taken valid u at fits has is (results_match p.source f (Some taken) taken refl q.1) b w)

    -- return_call_indirect
    pub return_call_indirect_safe : (y x : ℕ) (k : Code) → IsProgram p → Sound p.source → StoreTyped p.source K s → (c.results ≡ None → ⊥)
        → Holds (slice_get (tables_of p.source) x) (λ (t : TableType). RefMatches p.source.types t.element funcref) × ReturnsTyped (in_scope p.source c) (func_type p.source y)
        → HasInstrType p.source.types (tail_call_indirect_type (slice_get (tables_of p.source) x) (func_type p.source y)) ts ws → ValuesTyped p.source K vs ts → Within p.source K us e c now out
        → IsSafe p.source K us (control_op p s e vs (control.ReturnCallIndirect y x) k)
    return_call_indirect_safe y x k prog valid u inside q t v w = indirect_by y x k (slice_get (tables_of p.source) x) (func_type p.source y) c.results prog valid u inside refl refl refl q t v w

    ref_by : (y : ℕ) (k : Code) (f : Option FuncType) (o : Option (Row ValType)) → Sound p.source → StoreTyped p.source K s → (c.results ≡ None → ⊥) → func_type p.source y ≡ f → c.results ≡ o
        → Holds f (λ (t : FuncType). ResultMatches p.source.types t.results (listed (returned o))) → HasInstrType p.source.types (tail_call_ref_type y f) ts ws → ValuesTyped p.source K vs ts
        → Within p.source K us e c now out → IsSafe p.source K us (control_op p s e vs (control.ReturnCallRef y) k)
    ref_by y k None o valid u inside has is q t v w = absurd q
    ref_by y k (Some f) None valid u inside has is q t v w = absurd (inside is)
    ref_by y k (Some f) (Some taken) valid u inside has is q t v w =
        in_reference_safe p keeps us (t.beneath ⧺ known (row_of f.params)) y f (λ d. return_invoke p s e d.0 d.1) has (values_sub p.source keeps t.takes v)
        (λ below a z at fits b. matching_returned a z y f t.beneath taken valid u at fits has is (results_match p.source f (Some taken) taken refl q) b w)

    -- return_call_ref
    pub return_call_ref_safe : (y : ℕ) (k : Code) → Sound p.source → StoreTyped p.source K s → (c.results ≡ None → ⊥) → ReturnsTyped (in_scope p.source c) (func_type p.source y)
        → HasInstrType p.source.types (tail_call_ref_type y (func_type p.source y)) ts ws → ValuesTyped p.source K vs ts → Within p.source K us e c now out
        → IsSafe p.source K us (control_op p s e vs (control.ReturnCallRef y) k)
    return_call_ref_safe y k valid u inside q t v w = ref_by y k (func_type p.source y) c.results valid u inside refl refl q t v w
