-- switch, of typed configurations.
use Rattle.std.proofs.Common.{◌≡◌, ℕ, false, ◌-◌, List, [], ◌∷◌, ◌++◌, length, Some, slice_get, refl, sym, ap, subst, arith}
use Rattle.w_types.specs.declared.types.FuncType.{FuncType}
use Rattle.w_types.specs.declared.types.HeapType.TheVariants.{Index}
use Rattle.w_types.specs.declared.types.RecGroup.{RecGroup}
use Rattle.w_types.specs.declared.types.ValType.{ValType}
use Rattle.w_types.specs.declared.types.ValType.TheVariants.{Ref}
use Rattle.lists.specs.Rows.{Row, ◌▹◌, ◌⧺◌, size, row_of}
use Rattle.w_syntax.specs.Code.{Code}
use Rattle.w_syntax.specs.declared.instructions.SwitchingOp.TheVariants as switching
use Rattle.w_canon.specs.Equality.{ResultEqual}
use Rattle.w_canon.specs.Matching.{ResultMatches, FuncMatches}
use Rattle.w_canon.specs.Supertypes.{KeepsKinds}
use Rattle.w_canon.proofs.EqualTypes.{result_equal_sym, result_equal_matches}
use Rattle.w_canon.proofs.Preorder.{result_refl, result_trans}
use Rattle.w_rules.specs.Conditions.{SwitchClauseTyped, SwitchTyped}
use Rattle.w_rules.specs.Context.{cont_of}
use Rattle.w_rules.specs.InstructionTypes.{switch_type, switched_type, params_of, nullable}
use Rattle.w_rules.specs.Matching.{OperandMatches, RowMatches, more, known}
use Rattle.w_rules.specs.Operands.{Operand, Known}
use Rattle.w_rules.specs.Sound.{Sound}
use Rattle.w_rules.specs.Spaces.{context_of}
use Rattle.w_rules.specs.Typing.{HasInstrType}
use Rattle.w_rules.proofs.Preorder.{row_refl, row_beside}
use Rattle.w_reduce.specs.Values.{Val, Cont}
use Rattle.w_reduce.specs.Store.{Store, next_cont, with_cont, without_cont}
use Rattle.w_reduce.specs.Terms.{Handle, Context, Continuation, filled, in_context}
use Rattle.w_reduce.specs.Program.{Program}
use Rattle.w_reduce.specs.Reduced.{Went}
use Rattle.w_reduce.specs.Handlers.{Handler, switch_clause}
use Rattle.w_reduce.specs.Switching.{switching_op, continuation_at}
use Rattle.w_typed.specs.Values.{Arrows, OperandTyped, a_value, a_continuation, ValuesTyped, values}
use Rattle.w_typed.specs.Contexts.{in_scope, CodeTyped, handle, KeptTyped}
use Rattle.w_typed.specs.Configurations.{IsSafe, goes}
use Rattle.w_typed.proofs.Subsumption.{operand_sub, values_sub}
use Rattle.w_typed.proofs.TypedOperands.{values_taken}
use Rattle.w_typed.proofs.MoreContinuations.{grows_more, values_grow, within_grows, hole_grows}
use Rattle.w_typed.proofs.SameTypes.{result_rows}
use Rattle.w_typed.proofs.ResultRows.{size_types}
use Rattle.w_typed.proofs.FilledTerms.{hole_full, hole_within}
use Rattle.w_typed.proofs.CutContexts.{HandleTyped, cut_found}
use Rattle.w_typed.proofs.Clauses.{switch_found, handle_found}
use Rattle.w_typed.proofs.Conts.{cont_consumed, cont_made, made_reference, continuation_taken}
use Rattle.w_typed.proofs.Suspend.{captured_typed}
use Rattle.w_typed.proofs.Control.{Here, here_left}

-- the last operand of a row that others match
record LastOf (gs : List RecGroup) (ts : Row Operand) (t : Operand) (us : Row Operand) : Type 0 where
  first : Row Operand
  last : Operand
  is : us ≡ first ▹ last
  others : RowMatches gs ts first
  matches : OperandMatches gs t last

-- a row that others match has a last operand, which the last of them matches
last_of : (gs : List RecGroup) {ts us : Row Operand} {t : Operand} → RowMatches gs (ts ▹ t) us → LastOf gs ts t us
last_of gs (more {us = us} {u = u} r h) = record { first = us; last = u; is = refl; others = r; matches = h }

module _ (p : Program) (keeps : KeepsKinds p.source.types) (K : Arrows) (us : Row Operand) {s : Store} {e : Context} {k : Code} where
  -- with its handle found
  switched : {below args : Row Val} (x y a : ℕ) (beneath : Row Operand) (own : FuncType) (cont : Continuation) (f : Handler (Unit {0})) {ws : Row Operand}
      (h : Here p K us s e k ws) (c : SwitchTyped (in_scope p.source h.scope) x y) → h.leaving ≡ false → ws ≡ beneath ⧺ known (row_of c.other.params)
      → slice_get K a ≡ Some own → KeptTyped p.source K cont own → FuncMatches p.source.types own c.one → switch_clause y f.clauses ≡ Some f.answer
      → HandleTyped p.source K us h.scope h.now h.out f.inner f.below f.clauses f.rest f.outer
      → (last : LastOf p.source.types (known c.beneath) (Known (Ref (record { nullable = c.is_null; heap = Index c.index }))) (known (row_of own.params)))
      → ValuesTyped p.source K below beneath → ValuesTyped p.source K args last.first
      → IsSafe p.source K us (Went [] (with_cont (continuation_at (length c.other.params) f.inner below k) (without_cont a s))
      (in_context (Handle f.below f.clauses f.rest ∷ f.outer) (filled cont.term (args ▹ Cont (next_cont s)))))
  switched {below} {args} x y a beneath own cont f h c n gives there kt matches found cut last lower taken =
      let m = p.source in
      let l : SwitchClauseTyped (in_scope m cut.scope) cut.results y = switch_found (in_scope m cut.scope) cut.results y f.clauses f.answer cut.clauses found in
      let same : l.tag ≡ c.tag = let q = l.has_tag in let r = c.has_tag in cc in
      let equal : ResultEqual m.types c.tag.results cut.results = subst (λ (z : FuncType). ResultEqual m.types z.results cut.results) same l.equal in
      let new : FuncType = record { params = c.other.params; results = cut.results } in
      let g = grows_more K new in
      let behind = subst (λ (r : Row Operand). CodeTyped m h.scope h.set k r h.out) gives (h.behind n) in
      let back = captured_typed m (K ++ new ∷ []) new beneath h.still (values_grow m g lower) behind (within_grows m g cut.inside) in
      let down : ResultMatches m.types cut.results c.other.results =
      result_trans m.types keeps cut.results c.tag.results c.other.results
      (result_equal_matches m.types cut.results c.tag.results (result_equal_sym m.types c.tag.results cut.results equal)) c.comes_back in
      let up : ResultMatches m.types own.results cut.results =
      result_trans m.types keeps own.results c.one.results cut.results matches.results
      (result_trans m.types keeps c.one.results c.tag.results cut.results c.results (result_equal_matches m.types c.tag.results cut.results equal)) in
      let fits : FuncMatches m.types new c.other = record { params = result_refl m.types c.other.params; results = down } in
      let reference : OperandTyped m (K ++ new ∷ []) (Cont (next_cont s)) last.last =
      operand_sub m keeps last.matches (a_value (a_continuation (made_reference m new c.other c.index s h.store c.has_other fits))) in
      let ps : Row Operand = known (row_of own.params) in
      let handed : ValuesTyped m (K ++ new ∷ []) (args ▹ Cont (next_cont s)) ps =
      subst (λ (r : Row Operand). ValuesTyped m (K ++ new ∷ []) (args ▹ Cont (next_cont s)) r) (sym last.is) (values (values_grow m g taken) reference) in
      goes g (record {
        store = cont_made m (continuation_at (length c.other.params) f.inner below k) new (without_cont a s) (cont_consumed m a own s h.store there) back;
        term = hole_within m keeps (filled cont.term (args ▹ Cont (next_cont s)))
            (hole_full m cont.term (hole_grows m g kt.term) handed)
            (λ any. handle cut.results cut.beneath (result_rows m.types up) cut.clauses cut.tops (values_grow m g cut.values) cut.behind cut.still (within_grows m g cut.around));
      })

  -- with operands of its type
  switch_here : {vs : Row Val} (x y : ℕ) (beneath : Row Operand) {ws : Row Operand} (h : Here p K us s e k ws) (c : SwitchTyped (in_scope p.source h.scope) x y) → h.leaving ≡ false
      → ws ≡ beneath ⧺ known (row_of c.other.params) → Sound p.source
      → ValuesTyped p.source K vs ((beneath ⧺ known c.beneath) ▹ Known (nullable x))
      → IsSafe p.source K us (switching_op p s e vs (switching.Switch x y) k)
  switch_here x y beneath h c leaving gives valid (values b (a_value q)) =
      let m = p.source in
      continuation_taken m keeps us x c.one _ valid h.store c.has_one q (λ a cont own there kt matches.
      handle_found m us y (switch_clause y) e _ (λ f found.
      let handed : Operand = Known (Ref (record { nullable = c.is_null; heap = Index c.index })) in
      let ps : Row Operand = known (row_of own.params) in
      let rows : RowMatches m.types (known c.beneath ▹ handed) ps =
      subst (λ (r : Row ValType). RowMatches m.types (known r) ps) c.params (result_rows m.types matches.params) in
      let last = last_of m.types rows in
      let count : cont.takes - 1 ≡ size last.first = let n = kt.takes in omega (arith, size_types own.params, ap size last.is) in
      rw (c.has_one, c.params, c.has_other) (values_taken m us (cont.takes - 1) _ beneath last.first _ count
      (values_sub m keeps (row_beside m.types beneath beneath (known c.beneath) last.first (row_refl m.types beneath) last.others) b)
      (λ below args lower taken.
      switched x y a beneath own cont f h c leaving gives there kt matches found.answers (cut_found m (switch_clause y) e f found h.around) last lower taken))))

  -- with its type known
  switch_by : {ts ws : Row Operand} {vs : Row Val} (x y : ℕ) (h : Here p K us s e k ws) → h.leaving ≡ false → Sound p.source → (c : SwitchTyped (in_scope p.source h.scope) x y)
      → HasInstrType p.source.types (switched_type x c.beneath (Some c.other)) ts ws → ValuesTyped p.source K vs ts
      → IsSafe p.source K us (switching_op p s e vs (switching.Switch x y) k)
  switch_by x y h n valid c t v = switch_here x y t.beneath (here_left p keeps K us t.gives h) c n refl valid (values_sub p.source keeps t.takes v)

  -- switch goes on in the continuation, under the same handle, with a continuation of the context up to that, or traps
  pub switch_safe : {ts ws : Row Operand} {vs : Row Val} (x y : ℕ) (h : Here p K us s e k ws) → h.leaving ≡ false → Sound p.source → SwitchTyped (in_scope p.source h.scope) x y
      → HasInstrType p.source.types (switch_type (in_scope p.source h.scope) x (params_of (cont_of (context_of p.source) x))) ts ws → ValuesTyped p.source K vs ts
      → IsSafe p.source K us (switching_op p s e vs (switching.Switch x y) k)
  switch_safe {ts} {ws} x y h n valid c t v =
      let d : HasInstrType p.source.types (switched_type x c.beneath (Some c.other)) ts ws = rw (c.has_one, c.params, c.has_other) at t in
      switch_by x y h n valid c d v
