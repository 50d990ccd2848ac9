-- resume and cont.bind, of typed configurations.
use Rattle.std.proofs.Common.{◌≡◌, ◌≤◌, ℕ, ◌+◌, ◌-◌, false, nat_le, subst, All, List, [], ◌∷◌, ◌++◌, length, take, drop, Option, Some, None, refl, sym, ◌∙◌, arith}
use Rattle.std.proofs.lemmas.List.{length-take-le}
use Rattle.w_types.specs.declared.types.FuncType.{FuncType}
use Rattle.lists.specs.Rows.{Row, ε, ◌▹◌, ◌⧺◌, size, row_of}
use Rattle.w_syntax.specs.Code.{Code}
use Rattle.w_syntax.specs.declared.instructions.Clause.{Clause}
use Rattle.w_syntax.specs.declared.instructions.SwitchingOp.TheVariants as switching
use Rattle.w_canon.specs.Matching.{ResultMatches, FuncMatches}
use Rattle.w_canon.specs.Supertypes.{KeepsKinds}
use Rattle.w_canon.proofs.Matches.{one_length}
use Rattle.w_canon.proofs.Preorder.{result_refl, result_trans}
use Rattle.w_rules.specs.Conditions.{Holds, ClauseTyped, BindTyped}
use Rattle.w_rules.specs.Context.{cont_of}
use Rattle.w_rules.specs.InstructionTypes.{fixed, resume_type, cont_bind_type, nullable, non_null}
use Rattle.w_rules.specs.Matching.{known}
use Rattle.w_rules.specs.Operands.{Operand, Known}
use Rattle.w_rules.specs.Peak.{clause_tops, resume_tops}
use Rattle.w_rules.specs.Sound.{Sound}
use Rattle.w_rules.specs.Spaces.{context_of}
use Rattle.w_rules.specs.Typing.{HasInstrType}
use Rattle.w_rules.proofs.Preorder.{row_refl, row_beside, row_size}
use Rattle.w_reduce.specs.Values.{Val}
use Rattle.w_reduce.specs.Store.{Store, without_cont}
use Rattle.w_reduce.specs.Terms.{Context, Continuation, filled}
use Rattle.w_reduce.specs.Program.{Program}
use Rattle.w_reduce.specs.Switching.{switching_op}
use Rattle.w_typed.specs.Values.{Arrows, a_value, a_continuation, ValuesTyped, values}
use Rattle.w_reduce.specs.Room.{most_operands}
use Rattle.w_typed.specs.Contexts.{in_scope, code_alone, handle, KeptTyped}
use Rattle.w_typed.specs.Configurations.{IsSafe, goes}
use Rattle.w_typed.proofs.Subsumption.{values_sub}
use Rattle.w_typed.proofs.TypedOperands.{values_taken}
use Rattle.w_typed.proofs.MoreContinuations.{grows_refl, grows_more, values_grow, hole_grows}
use Rattle.w_typed.proofs.References.{if_valid_has}
use Rattle.w_typed.proofs.SameTypes.{result_rows}
use Rattle.w_typed.proofs.ResultRows.{size_types, pairwise_take, pairwise_drop, rows_joined}
use Rattle.w_typed.proofs.Low.{size_beside}
use Rattle.w_typed.proofs.FilledTerms.{hole_full, hole_filled, hole_within}
use Rattle.w_typed.proofs.Conts.{cont_consumed, cont_made, made_reference, goes_with_more, continuation_taken}
use Rattle.w_typed.proofs.Control.{Here, here_left}

module _ (p : Program) (keeps : KeepsKinds p.source.types) (K : Arrows) (us : Row Operand) {s : Store} {e : Context} {k : Code} where
  -- ## resume

  -- with its type known
  resumed : {vs : Row Val} (x : ℕ) (hs : List Clause) (t : FuncType) (beneath : Row Operand) (h : Here p K us s e k (beneath ⧺ known (row_of t.results)))
      → h.leaving ≡ false → ((h.scope.results ≡ None → ⊥) → clause_tops h.scope.labels (h.scope.base + size beneath) hs ≤ most_operands p.source h.scope.function)
      → Sound p.source → cont_of (context_of p.source) x ≡ Some t → All (ClauseTyped (in_scope p.source h.scope) t.results) hs
      → ValuesTyped p.source K vs ((beneath ⧺ known (row_of t.params)) ▹ Known (nullable x))
      → IsSafe p.source K us (switching_op p s e vs (switching.Resume x hs) k)
  resumed x hs t beneath h n tops valid is clauses (values b (a_value q)) =
      let m = p.source in
      continuation_taken m keeps us x t _ valid h.store is q (λ a kept own there kt f.
      let ps : Row Operand = known (row_of own.params) in
      values_taken m us kept.takes _ beneath ps _ (kt.takes ∙ sym (size_types own.params))
      (values_sub m keeps (row_beside m.types beneath beneath (known (row_of t.params)) ps (row_refl m.types beneath) (result_rows m.types f.params)) b)
      (λ below args lower taken. goes (grows_refl K) (record {
        store = cont_consumed m a own s h.store there;
        term = hole_within m keeps (filled kept.term args) (hole_full m kept.term kt.term taken)
            (λ any. handle t.results beneath (result_rows m.types f.results) clauses tops lower (h.behind n) h.still h.around);
      })))

  -- by whether it has one
  resume_by : {ts ws : Row Operand} {vs : Row Val} (x : ℕ) (hs : List Clause) (o : Option FuncType) (h : Here p K us s e k ws) → h.leaving ≡ false
      → ((h.scope.results ≡ None → ⊥) → resume_tops h.scope.labels (h.scope.base + size ts) hs o ≤ most_operands p.source h.scope.function) → Sound p.source
      → cont_of (context_of p.source) x ≡ o → Holds o (λ (t : FuncType). All (ClauseTyped (in_scope p.source h.scope) t.results) hs)
      → HasInstrType p.source.types (resume_type x o) ts ws → ValuesTyped p.source K vs ts
      → IsSafe p.source K us (switching_op p s e vs (switching.Resume x hs) k)
  resume_by x hs None h n tops valid is c t v = absurd t
  resume_by {ts} x hs (Some f) h n tops valid is c t v =
      let m = p.source in
      let all = row_size m.types ts ((t.beneath ⧺ known (row_of f.params)) ▹ Known (nullable x)) t.takes in
      let above = size_beside t.beneath (known (row_of f.params)) in
      let params = size_types f.params in
      let under : h.scope.base + size ts - (length f.params + 1) ≡ h.scope.base + size t.beneath = omega (arith, all, above, params) in
      resumed x hs f t.beneath (here_left p keeps K us t.gives h) n (λ i. subst (λ (z : ℕ). clause_tops h.scope.labels z hs ≤ most_operands m h.scope.function) under (tops i)) valid is c (values_sub m keeps t.takes v)

  -- resume goes on in the continuation, under a handle, or traps
  pub resume_safe : {ts ws : Row Operand} {vs : Row Val} (x : ℕ) (hs : List Clause) (h : Here p K us s e k ws) → h.leaving ≡ false
      → ((h.scope.results ≡ None → ⊥) → resume_tops h.scope.labels (h.scope.base + size ts) hs (cont_of (context_of p.source) x) ≤ most_operands p.source h.scope.function) → Sound p.source
      → Holds (cont_of (context_of p.source) x) (λ (t : FuncType). All (ClauseTyped (in_scope p.source h.scope) t.results) hs)
      → HasInstrType p.source.types (resume_type x (cont_of (context_of p.source) x)) ts ws → ValuesTyped p.source K vs ts
      → IsSafe p.source K us (switching_op p s e vs (switching.Resume x hs) k)
  resume_safe x hs h n tops valid c t v = resume_by x hs (cont_of (context_of p.source) x) h n tops valid refl c t v

  -- ## cont.bind

  -- with operands of its type
  bound : {vs : Row Val} (x y : ℕ) (one other : FuncType) (beneath : Row Operand) (h : Here p K us s e k (beneath ▹ Known (non_null y))) → h.leaving ≡ false → Sound p.source
      → cont_of (context_of p.source) x ≡ Some one → cont_of (context_of p.source) y ≡ Some other
      → ResultMatches p.source.types other.params (drop (length one.params - length other.params) one.params)
      → ResultMatches p.source.types one.results other.results
      → ValuesTyped p.source K vs ((beneath ⧺ known (row_of (take (length one.params - length other.params) one.params))) ▹ Known (nullable x))
      → IsSafe p.source K us (switching_op p s e vs (switching.ContBind x y) k)
  bound x y one other beneath h leaving valid is_one is_other takes gives (values b (a_value q)) =
      let m = p.source in
      let n : ℕ = length one.params - length other.params in
      continuation_taken m keeps us x one _ valid h.store is_one q (λ a kept own there kt f.
      let first : Row Operand = known (row_of (take n own.params)) in
      let as_many : length one.params ≡ length own.params = one_length f.params in
      let count : kept.takes - length other.params ≡ size first =
      let i = kt.takes in omega (arith, size_types (take n own.params), length-take-le n own.params (omega arith)) in
      let new : FuncType = record { params = other.params; results = own.results } in
      let g = grows_more K new in
      rw (is_other) (values_taken m us (kept.takes - length other.params) _ beneath first _ count
      (values_sub m keeps (row_beside m.types beneath beneath (known (row_of (take n one.params))) first (row_refl m.types beneath)
      (result_rows m.types (pairwise_take n f.params))) b)
      (λ below args lower taken.
      let rest = rows_joined m.types n own.params other.params
      (result_trans m.types keeps other.params (drop n one.params) (drop n own.params) takes (pairwise_drop n f.params)) in
      let cont : Continuation = record { takes = length other.params; term = filled kept.term args } in
      let cont_typed : KeptTyped m (K ++ new ∷ []) cont new = record {
        takes = refl;
        term = hole_grows m g (hole_filled m keeps first (known (row_of other.params)) kept.term kt.term rest taken);
      } in
      let matches : FuncMatches m.types new other = record {
        params = result_refl m.types other.params;
        results = result_trans m.types keeps own.results one.results other.results f.results gives;
      } in
      goes_with_more m g (cont_made m cont new (without_cont a s) (cont_consumed m a own s h.store there) cont_typed) h.still
      (values (values_grow m g lower) (a_value (a_continuation (made_reference m new other y s h.store is_other matches))))
      (code_alone (h.behind leaving)) h.around)))

  -- with both types known
  bind_by : {ts ws : Row Operand} {vs : Row Val} (x y : ℕ) (one other : FuncType) (h : Here p K us s e k ws) → h.leaving ≡ false → Sound p.source
      → cont_of (context_of p.source) x ≡ Some one → cont_of (context_of p.source) y ≡ Some other
      → ResultMatches p.source.types other.params (drop (length one.params - length other.params) one.params)
      → ResultMatches p.source.types one.results other.results
      → HasInstrType p.source.types (cont_bind_type x y (Some one) (Some other)) ts ws → ValuesTyped p.source K vs ts
      → IsSafe p.source K us (switching_op p s e vs (switching.ContBind x y) k)
  bind_by {ts} {ws} x y one other h leaving valid is_one is_other takes gives t v =
      let m = p.source in
      let n : ℕ = length one.params - length other.params in
      let g = if_valid_has m (nat_le (length other.params) (length one.params)) (fixed (row_of (take n one.params) ▹ nullable x) (ε ▹ non_null y)) ts ws t in
      bound x y one other g.beneath (here_left p keeps K us g.gives h) leaving valid is_one is_other takes gives (values_sub m keeps g.takes v)

  -- cont.bind makes a continuation that takes fewer values, or traps
  pub cont_bind_safe : {ts ws : Row Operand} {vs : Row Val} (x y : ℕ) (h : Here p K us s e k ws) → h.leaving ≡ false → Sound p.source → BindTyped (in_scope p.source h.scope) x y
      → HasInstrType p.source.types (cont_bind_type x y (cont_of (context_of p.source) x) (cont_of (context_of p.source) y)) ts ws → ValuesTyped p.source K vs ts
      → IsSafe p.source K us (switching_op p s e vs (switching.ContBind x y) k)
  cont_bind_safe {ts} {ws} x y h leaving valid c t v =
      let d : HasInstrType p.source.types (cont_bind_type x y (Some c.one) (Some c.other)) ts ws = rw (c.has_one, c.has_other) at t in
      bind_by x y c.one c.other h leaving valid c.has_one c.has_other c.takes c.gives d v
