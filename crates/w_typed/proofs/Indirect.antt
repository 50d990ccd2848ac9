-- Calls by reference and through a table, of typed configurations.
use Rattle.std.proofs.Common.{◌≡◌, ℕ, Bool, true, false, List, Option, Some, None, slice_get, refl, ap, ◌∙◌}
use Rattle.w_types.specs.declared.types.FuncType.{FuncType}
use Rattle.w_types.specs.declared.types.HeapType.TheVariants.{Func, Index}
use Rattle.w_types.specs.declared.types.RefType.{RefType}
use Rattle.w_types.specs.declared.types.ValType.TheVariants.{I32, Ref}
use Rattle.lists.specs.Rows.{Row, ◌▹◌, ◌⧺◌, row_of}
use Rattle.w_syntax.specs.Code.{Code}
use Rattle.w_syntax.specs.Functions.{func_type}
use Rattle.w_syntax.specs.declared.instructions.ControlOp.TheVariants as control
use Rattle.w_syntax.specs.declared.module.Module.{Module}
use Rattle.w_syntax.specs.declared.module.TableType.{TableType}
use Rattle.w_syntax.specs.declared.numeric.IntType.TheVariants as int
use Rattle.w_canon.specs.Matching.{IndexMatches, HeapMatches, index, index_func, RefMatches}
use Rattle.w_canon.specs.Supertypes.{KeepsKinds}
use Rattle.w_canon.proofs.Preorder.{heap_trans}
use Rattle.w_rules.specs.Conditions.{Holds, funcref}
use Rattle.w_rules.specs.Context.{func_at}
use Rattle.w_rules.specs.InstructionTypes.{call_indirect_type, call_ref_type, nullable}
use Rattle.w_rules.specs.Matching.{known}
use Rattle.w_rules.specs.Operands.{Operand, Known}
use Rattle.w_rules.specs.Sound.{Sound}
use Rattle.w_rules.specs.Spaces.{context_of, functions_of, tables_of}
use Rattle.w_rules.specs.Typing.{HasInstrType}
use Rattle.w_rules.proofs.Preorder.{row_refl, row_beside}
use Rattle.w_reduce.specs.declared.trap.Trap.{Trap}
use Rattle.w_reduce.specs.declared.trap.Trap.TheVariants as trap
use Rattle.w_reduce.specs.Values.{Val}
use Rattle.w_reduce.specs.Store.{Store}
use Rattle.w_reduce.specs.Terms.{rest_of, Context}
use Rattle.w_reduce.specs.Program.{Program, IsProgram}
use Rattle.w_reduce.specs.Reduced.{Reduced, as_function}
use Rattle.w_reduce.specs.Control.{control_op, callee_in_table, callee_in_reference, unless_mismatch}
use Rattle.w_reduce.specs.Calls.{invoke}
use Rattle.w_typed.specs.Values.{Arrows, ValueTyped, a_null, a_function, a_continuation, a_value, ValuesTyped, values}
use Rattle.w_typed.specs.Stores.{StoreTyped}
use Rattle.w_typed.specs.Contexts.{Scope, CodeTyped, code_alone, Subset, Within}
use Rattle.w_typed.specs.Configurations.{IsSafe, traps}
use Rattle.w_typed.proofs.Elements.{all_get}
use Rattle.w_typed.proofs.Places.{instance_at}
use Rattle.w_typed.proofs.Subsumption.{values_sub}
use Rattle.w_typed.proofs.TypedOperands.{number_taken, trapped_or}
use Rattle.w_typed.proofs.Holes.{code_left}
use Rattle.w_typed.proofs.Calls.{invoke_safe}
use Rattle.w_typed.proofs.TypeKinds.{is_func, cont_no_func}
use Rattle.w_typed.proofs.KeptComposites.{types_valid}
use Rattle.w_typed.proofs.SameTypes.{function_matches, result_rows}

-- a function of this address, with its type
pub record IsFunction (m : Module) (r : RefType) (a : ℕ) : Type 0 where
  pub index : ℕ
  pub is : slice_get (functions_of m) a ≡ Some index
  pub matches : HeapMatches m.types (Index index) r.heap

-- heap types that match are of indices that match
pub one_type : (m : Module) {x y : ℕ} → HeapMatches m.types (Index x) (Index y) → IndexMatches m.types x y
one_type m (index s) = s

module _ (p : Program) (keeps : KeepsKinds p.source.types) {K : Arrows} (us : Row Operand) where
  -- a reference to functions is null, and traps, or it is that of a function
  pub function_taken : (t : Trap) {v : Val} {r : RefType} (go : ℕ → Reduced) → HeapMatches p.source.types r.heap Func → ValueTyped p.source K v (Ref r)
      → ((a : ℕ) → IsFunction p.source r a → IsSafe p.source K us (go a)) → IsSafe p.source K us (as_function t v go)
  function_taken t go q (a_null n) f = traps
  function_taken t {r = r} go q (a_continuation c) f =
      absurd (cont_no_func p.source c.index c.type c.has_type (heap_trans p.source.types keeps (Index c.index) r.heap Func c.heap q))
  function_taken t go q (a_function {a = a} {x = x} is h) f = f a (record { index = x; is = is; matches = h })

  -- the function is invoked, where its type matches this one
  matching_invoked : {s : Store} {e : Context} {vs : Row Val} {k : Code} {c : Scope} {set now : List Bool} {out : Row Operand} (a z y : ℕ) (t : FuncType) (beneath : Row Operand)
      → Sound p.source → StoreTyped p.source K s → slice_get (functions_of p.source) a ≡ Some z → IndexMatches p.source.types z y → func_type p.source y ≡ Some t
      → ValuesTyped p.source K vs (beneath ⧺ known (row_of t.params)) → CodeTyped p.source c set k (beneath ⧺ known (row_of t.results)) out
      → Subset set now → Within p.source K us e c now out → IsSafe p.source K us (invoke p s e vs a (rest_of k))
  matching_invoked a z y t beneath valid u there below is v k still w =
      let m = p.source in
      let f = function_matches m (types_valid m valid) below t is in
      let takes = row_beside m.types beneath beneath (known (row_of t.params)) (known (row_of f.type.params)) (row_refl m.types beneath) (result_rows m.types f.params) in
      let gives = row_beside m.types beneath beneath (known (row_of f.type.results)) (known (row_of t.results)) (row_refl m.types beneath) (result_rows m.types f.results) in
      invoke_safe p us a f.type beneath valid u (ap (func_at (context_of m)) there ∙ f.has_type) (values_sub m keeps takes v) (code_alone (code_left m keeps gives k)) still w

  -- ## Callees that are found

  unless_other : (b : Bool) (z y : ℕ) {go : Reduced} → p.matches z y ≡ b → IsProgram p → (IndexMatches p.source.types z y → IsSafe p.source K us go) → IsSafe p.source K us (unless_mismatch b go)
  unless_other false z y d prog h = traps
  unless_other true z y d prog h = h ((prog z y).0 d)

  -- what a table holds at a place is a function whose type matches, or it traps
  pub in_table_safe : {s : Store} {vs : Row Val} (beneath : Row Operand) (y x : ℕ) (g : TableType) (go : Row Val × ℕ → Reduced) → IsProgram p → StoreTyped p.source K s
      → slice_get (tables_of p.source) x ≡ Some g → RefMatches p.source.types g.element funcref → ValuesTyped p.source K vs (beneath ▹ Known I32)
      → ((below : Row Val) (a z : ℕ) → slice_get (functions_of p.source) a ≡ Some z → IndexMatches p.source.types z y → ValuesTyped p.source K below beneath → IsSafe p.source K us (go (below, a)))
      → IsSafe p.source K us (callee_in_table p s vs y x go)
  in_table_safe {vs = vs} beneath y x g go prog u there q v next =
      let m = p.source in
      let table = instance_at x g u.tables there in
      number_taken m us int.I32 vs beneath _ v (λ below i b.
      rw (table.is) (trapped_or m us trap.UndefinedElement (slice_get table.item.elements i) _ (λ r at.
      function_taken trap.NullElement _ q.heap (all_get m K (Ref g.element) i r table.item.elements table.holds.elements at) (λ a f.
      rw (f.is) (unless_other (p.matches f.index y) f.index y refl prog (λ fits. next below a f.index f.is fits b))))))

  -- what a reference refers to is one, or it traps
  pub in_reference_safe : {vs : Row Val} (beneath : Row Operand) (y : ℕ) (t : FuncType) (go : Row Val × ℕ → Reduced) → func_type p.source y ≡ Some t
      → ValuesTyped p.source K vs (beneath ▹ Known (nullable y))
      → ((below : Row Val) (a z : ℕ) → slice_get (functions_of p.source) a ≡ Some z → IndexMatches p.source.types z y → ValuesTyped p.source K below beneath → IsSafe p.source K us (go (below, a)))
      → IsSafe p.source K us (callee_in_reference vs go)
  in_reference_safe beneath y t go is (values {vs = below} b (a_value q)) next =
      function_taken trap.NullReference _ (index_func (is_func p.source y t is)) q (λ a f. next below a f.index f.is (one_type p.source f.matches) b)

  -- ## Calls

  indirect_here : {s : Store} {e : Context} {vs : Row Val} {k : Code} {c : Scope} {set now : List Bool} {ts ws out : Row Operand} (y x : ℕ) (g : Option TableType) (t : Option FuncType)
      → IsProgram p → Sound p.source → StoreTyped p.source K s → slice_get (tables_of p.source) x ≡ g → func_type p.source y ≡ t
      → Holds g (λ (t : TableType). RefMatches p.source.types t.element funcref)
      → HasInstrType p.source.types (call_indirect_type g t) ts ws → ValuesTyped p.source K vs ts → CodeTyped p.source c set k ws out
      → Subset set now → Within p.source K us e c now out → IsSafe p.source K us (control_op p s e vs (control.CallIndirect y x) k)
  indirect_here y x None t prog valid u there is q h v k still w = absurd h
  indirect_here y x (Some g) None prog valid u there is q h v k still w = absurd h
  indirect_here {s = s} {e = e} {k = k} y x (Some g) (Some t) prog valid u there is q h v d still w =
      in_table_safe (h.beneath ⧺ known (row_of t.params)) y x g (λ c. invoke p s e c.0 c.1 (rest_of k)) prog u there q (values_sub p.source keeps h.takes v)
      (λ below a z f fits b. matching_invoked a z y t h.beneath valid u f fits is b (code_left p.source keeps h.gives d) still w)

  -- call_indirect invokes a function whose type matches, or traps
  pub call_indirect_safe : {s : Store} {e : Context} {vs : Row Val} {k : Code} {c : Scope} {set now : List Bool} {ts ws out : Row Operand} (y x : ℕ)
      → IsProgram p → Sound p.source → StoreTyped p.source K s
      → Holds (slice_get (tables_of p.source) x) (λ (t : TableType). RefMatches p.source.types t.element funcref)
      → HasInstrType p.source.types (call_indirect_type (slice_get (tables_of p.source) x) (func_type p.source y)) ts ws → ValuesTyped p.source K vs ts
      → CodeTyped p.source c set k ws out → Subset set now → Within p.source K us e c now out → IsSafe p.source K us (control_op p s e vs (control.CallIndirect y x) k)
  call_indirect_safe y x prog valid u q h v d still w = indirect_here y x (slice_get (tables_of p.source) x) (func_type p.source y) prog valid u refl refl q h v d still w

  by_type : {s : Store} {e : Context} {vs : Row Val} {k : Code} {c : Scope} {set now : List Bool} {ts ws out : Row Operand} (y : ℕ) (t : Option FuncType)
      → Sound p.source → StoreTyped p.source K s → func_type p.source y ≡ t → HasInstrType p.source.types (call_ref_type y t) ts ws
      → ValuesTyped p.source K vs ts → CodeTyped p.source c set k ws out
      → Subset set now → Within p.source K us e c now out → IsSafe p.source K us (control_op p s e vs (control.CallRef y) k)
  by_type y None valid u is h v d still w = absurd h
  by_type {s = s} {e = e} {k = k} y (Some t) valid u is h v d still w =
      in_reference_safe (h.beneath ⧺ known (row_of t.params)) y t (λ c. invoke p s e c.0 c.1 (rest_of k)) is (values_sub p.source keeps h.takes v)
      (λ below a z f fits b. matching_invoked a z y t h.beneath valid u f fits is b (code_left p.source keeps h.gives d) still w)

  -- call_ref invokes the function, or traps where it is null
  pub call_ref_safe : {s : Store} {e : Context} {vs : Row Val} {k : Code} {c : Scope} {set now : List Bool} {ts ws out : Row Operand} (y : ℕ)
      → Sound p.source → StoreTyped p.source K s → HasInstrType p.source.types (call_ref_type y (func_type p.source y)) ts ws
      → ValuesTyped p.source K vs ts → CodeTyped p.source c set k ws out
      → Subset set now → Within p.source K us e c now out → IsSafe p.source K us (control_op p s e vs (control.CallRef y) k)
  call_ref_safe y valid u h v d still w = by_type y (func_type p.source y) valid u refl h v d still w
