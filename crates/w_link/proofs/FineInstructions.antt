-- The type of an instruction with addresses in the place of its indices.
use Rattle.std.proofs.Common.{◌≡◌, ◌+◌, ◌-◌, ℕ, Bool, true, false, ◌&&◌, List, [], ◌∷◌, map, length, Option, Some, None, slice_get, refl, sym, ap, subst, ◌∙◌, arith}
use Rattle.std.specs.Prelude.{option_map, nat_lt, nat_le, take}
use Rattle.std.proofs.lemmas.Bool.{ltb-true, lt-ltb}
use Rattle.std.proofs.lemmas.List.{length-map, take-map}
use Rattle.std.proofs.lemmas.Option.{slice_get-map}
use Rattle.w_types.specs.declared.types.CompType.{CompType}
use Rattle.w_types.specs.declared.types.CompType.TheVariants as comp
use Rattle.w_types.specs.declared.types.FuncType.{FuncType}
use Rattle.w_types.specs.declared.types.HeapType.{HeapType}
use Rattle.w_types.specs.declared.types.HeapType.TheVariants as heap
use Rattle.w_types.specs.declared.types.RecGroup.{RecGroup}
use Rattle.w_types.specs.declared.types.RefType.{RefType}
use Rattle.w_types.specs.declared.types.ValType.{ValType}
use Rattle.w_types.specs.declared.types.ValType.TheVariants as val
use Rattle.lists.specs.Rows.{Row, ε, ◌▹◌, row_of}
use Rattle.w_syntax.specs.declared.instructions.ControlOp.{ControlOp}
use Rattle.w_syntax.specs.declared.instructions.ControlOp.TheVariants as control
use Rattle.w_syntax.specs.declared.instructions.Op.{Op}
use Rattle.w_syntax.specs.declared.instructions.Op.TheVariants as op
use Rattle.w_syntax.specs.declared.instructions.ParametricOp.{ParametricOp}
use Rattle.w_syntax.specs.declared.instructions.ParametricOp.TheVariants as parametric
use Rattle.w_syntax.specs.declared.instructions.ReferenceOp.{ReferenceOp}
use Rattle.w_syntax.specs.declared.instructions.ReferenceOp.TheVariants as reference
use Rattle.w_syntax.specs.declared.instructions.SwitchingOp.{SwitchingOp}
use Rattle.w_syntax.specs.declared.instructions.SwitchingOp.TheVariants as switching
use Rattle.w_syntax.specs.declared.instructions.TableOp.{TableOp}
use Rattle.w_syntax.specs.declared.instructions.TableOp.TheVariants as table
use Rattle.w_syntax.specs.declared.instructions.VariableOp.{VariableOp}
use Rattle.w_syntax.specs.declared.instructions.VariableOp.TheVariants as variable
use Rattle.w_syntax.specs.declared.memory_instructions.LoadOp.{LoadOp}
use Rattle.w_syntax.specs.declared.memory_instructions.LoadOp.TheVariants as load
use Rattle.w_syntax.specs.declared.memory_instructions.MemArg.{MemArg}
use Rattle.w_syntax.specs.declared.memory_instructions.MemoryOp.{MemoryOp}
use Rattle.w_syntax.specs.declared.memory_instructions.MemoryOp.TheVariants as memory
use Rattle.w_syntax.specs.declared.memory_instructions.StoreOp.{StoreOp}
use Rattle.w_syntax.specs.declared.memory_instructions.StoreOp.TheVariants as store
use Rattle.w_syntax.specs.declared.module.GlobalType.{GlobalType}
use Rattle.w_syntax.specs.declared.module.Mutability.{Mutability}
use Rattle.w_syntax.specs.declared.module.Mutability.TheVariants as mutability
use Rattle.w_syntax.specs.declared.module.TableType.{TableType}
use Rattle.w_syntax.specs.declared.module.Tag.{Tag}
use Rattle.w_syntax.specs.declared.numeric.Cvtop.{Cvtop}
use Rattle.w_syntax.specs.declared.numeric.Cvtop.TheVariants as convert
use Rattle.w_syntax.specs.declared.numeric.IntType.{IntType}
use Rattle.w_syntax.specs.declared.numeric.IntType.TheVariants as int
use Rattle.w_syntax.specs.declared.numeric.NumericOp.{NumericOp}
use Rattle.w_syntax.specs.declared.numeric.NumericOp.TheVariants as numeric
use Rattle.w_syntax.specs.Functions.{function_type}
use Rattle.w_canon.specs.Equality.{RefEqual, ValEqual, ResultEqual}
use Rattle.w_canon.specs.Equality as equal
use Rattle.w_canon.specs.Matching.{ref, RefMatches, ValMatches, ResultMatches, FuncMatches}
use Rattle.w_canon.specs.Matching as matching
use Rattle.w_canon.proofs.EqualTypes.{val_equal_sym, val_equal_matches, result_equal_sym, result_equal_matches}
use Rattle.w_canon.proofs.Preorder.{val_refl, func_refl}
use Rattle.w_rules.specs.Context.{Context, type_count, type_of, func_of, func_at, index_in_cont, func_index_of_cont, cont_of, type_of_func, tag_in, type_of_tag}
use Rattle.w_rules.specs.Operands.{Known}
use Rattle.w_rules.specs.InstructionTypes.{fixed, if_valid, instr_type, nullable, non_null}
use Rattle.w_rules.specs.InstructionTypes.{of_int, convert_type, numeric_op_type, select_type, parametric_op_type, get_type, set_type, tee_type, global_get_type, write_type, global_set_type, variable_op_type}
use Rattle.w_rules.specs.InstructionTypes.{load_type, load_width, store_type, store_width, has_memory, is_access, memory_op_type}
use Rattle.w_rules.specs.InstructionTypes.{table_get_type, table_set_type, table_init_type, elem_drop_type, table_copy_type, table_grow_type, table_size_type, table_fill_type, table_op_type, ref_func_type, reference_op_type}
use Rattle.w_rules.specs.InstructionTypes.{br_type, br_if_type, with_label, labels_at, br_table_type, br_on_null_type, br_on_non_null_type, call_type, call_indirect_type, call_ref_type}
use Rattle.w_rules.specs.InstructionTypes.{tail_call_type, tail_call_indirect_type, tail_call_ref_type, control_op_type}
use Rattle.w_rules.specs.InstructionTypes.{cont_new_type, cont_bind_type, resume_type, switched_type, switch_to, switch_type, params_of, switching_op_type}
use Rattle.w_rules.specs.Matching.{OperandMatches, value, RowMatches, known}
use Rattle.w_rules.specs.Types.{has_heap, has_type}
use Rattle.w_link.proofs.Rows.{result_rows}
use Rattle.w_link.proofs.ShiftedMatching.{composite_there}
use Rattle.w_link.specs.Shifted.{heap_shifted, ref_shifted, type_shifted, types_shifted, func_shifted, row_shifted, rows_shifted}
use Rattle.w_link.specs.Resolved.{Instance, at, control_resolved, parametric_resolved, variable_resolved, table_resolved, memory_resolved, reference_resolved, switching_resolved, op_resolved}
use Rattle.w_link.specs.Fits.{There, KindFits, TypesFit, Fits}
use Rattle.w_link.specs.Fine.{Fine, same, below, below_any, nothing, instr_shifted}
use Rattle.w_link.proofs.ShiftedRows.{row_of_shifted}
use Rattle.w_link.proofs.FineTypes.{fine_if}

-- ## Numbers

int_shifted : (n : ℕ) (t : IntType) → type_shifted n (of_int t) ≡ of_int t
int_shifted n int.I32 = refl
int_shifted n int.I64 = refl

fine_convert : (gs : List RecGroup) (n : ℕ) (o : Cvtop) → Fine gs (instr_shifted n (convert_type o)) (convert_type o)
fine_convert gs n convert.I32WrapI64 = same
fine_convert gs n convert.I64ExtendI32S = same
fine_convert gs n convert.I64ExtendI32U = same
fine_convert gs n convert.I32Extend8S = same
fine_convert gs n convert.I32Extend16S = same
fine_convert gs n convert.I64Extend8S = same
fine_convert gs n convert.I64Extend16S = same
fine_convert gs n convert.I64Extend32S = same

fine_numeric : (gs : List RecGroup) (n : ℕ) (o : NumericOp) → Fine gs (instr_shifted n (numeric_op_type o)) (numeric_op_type o)
fine_numeric gs n (numeric.I32Const z) = same
fine_numeric gs n (numeric.I64Const z) = same
fine_numeric gs n (numeric.Eqz t) = rw (int_shifted n t) same
fine_numeric gs n (numeric.Compare t o) = rw (int_shifted n t) same
fine_numeric gs n (numeric.Unary t o) = rw (int_shifted n t) same
fine_numeric gs n (numeric.Binary t o) = rw (int_shifted n t) same
fine_numeric gs n (numeric.Convert o) = fine_convert gs n o

-- ## Loads and stores

load_shifted : (n : ℕ) (o : LoadOp) → type_shifted n (load_type o) ≡ load_type o
load_shifted n load.I32Load = refl
load_shifted n load.I32Load8S = refl
load_shifted n load.I32Load8U = refl
load_shifted n load.I32Load16S = refl
load_shifted n load.I32Load16U = refl
load_shifted n load.I64Load = refl
load_shifted n load.I64Load8S = refl
load_shifted n load.I64Load8U = refl
load_shifted n load.I64Load16S = refl
load_shifted n load.I64Load16U = refl
load_shifted n load.I64Load32S = refl
load_shifted n load.I64Load32U = refl

store_shifted : (n : ℕ) (o : StoreOp) → type_shifted n (store_type o) ≡ store_type o
store_shifted n store.I32Store = refl
store_shifted n store.I32Store8 = refl
store_shifted n store.I32Store16 = refl
store_shifted n store.I64Store = refl
store_shifted n store.I64Store8 = refl
store_shifted n store.I64Store16 = refl
store_shifted n store.I64Store32 = refl

-- ## Labels

pub label_there : (n : ℕ) (ls : List (Row ValType)) (l : ℕ) → slice_get (rows_shifted n ls) l ≡ option_map (row_shifted n) (slice_get ls l)
label_there n ls l = slice_get-map (row_shifted n) ls l

with_label_shifted : (n : ℕ) (o : Option (Row ValType)) (p : Option (List (Row ValType)))
    → with_label (option_map (row_shifted n) o) (option_map (rows_shifted n) p) ≡ option_map (rows_shifted n) (with_label o p)
with_label_shifted n (Some us) (Some uss) = refl
with_label_shifted n (Some us) None = refl
with_label_shifted n None p = refl

labels_there : (n : ℕ) (ls : List (Row ValType)) (xs : List ℕ) → labels_at (rows_shifted n ls) xs ≡ option_map (rows_shifted n) (labels_at ls xs)
labels_there n ls [] = refl
labels_there n ls (x ∷ xs) = rw (label_there n ls x, labels_there n ls xs) (with_label_shifted n (slice_get ls x) (labels_at ls xs))

fine_br : (gs : List RecGroup) (n : ℕ) (o : Option (Row ValType)) → Fine gs (instr_shifted n (br_type o)) (br_type (option_map (row_shifted n) o))
fine_br gs n (Some us) = same
fine_br gs n None = nothing

fine_br_if : (gs : List RecGroup) (n : ℕ) (o : Option (Row ValType)) → Fine gs (instr_shifted n (br_if_type o)) (br_if_type (option_map (row_shifted n) o))
fine_br_if gs n (Some us) = same
fine_br_if gs n None = nothing

fine_br_table : (gs : List RecGroup) (n : ℕ) (o : Option (Row ValType)) (p : Option (List (Row ValType)))
    → Fine gs (instr_shifted n (br_table_type o p)) (br_table_type (option_map (row_shifted n) o) (option_map (rows_shifted n) p))
fine_br_table gs n (Some us) (Some uss) = same
fine_br_table gs n (Some us) None = nothing
fine_br_table gs n None p = nothing

fine_br_on_null : (gs : List RecGroup) (n : ℕ) (o : Option (Row ValType)) → Fine gs (instr_shifted n (br_on_null_type o)) (br_on_null_type (option_map (row_shifted n) o))
fine_br_on_null gs n (Some us) = same
fine_br_on_null gs n None = nothing

fine_br_on_non_null : (gs : List RecGroup) (n : ℕ) (o : Option (Row ValType))
    → Fine gs (instr_shifted n (br_on_non_null_type o)) (br_on_non_null_type (option_map (row_shifted n) o))
fine_br_on_non_null gs n (Some (us ▹ val.Ref r)) = same
fine_br_on_non_null gs n (Some (us ▹ val.I32)) = nothing
fine_br_on_non_null gs n (Some (us ▹ val.I64)) = nothing
fine_br_on_non_null gs n (Some ε) = nothing
fine_br_on_non_null gs n None = nothing

-- ## Locals

fine_get : (gs : List RecGroup) (n : ℕ) (o : Option ValType) (b : Option Bool) → Fine gs (instr_shifted n (get_type o b)) (get_type (option_map (type_shifted n) o) b)
fine_get gs n (Some t) (Some true) = same
fine_get gs n (Some t) (Some false) = nothing
fine_get gs n (Some t) None = nothing
fine_get gs n None b = nothing

fine_set : (gs : List RecGroup) (n : ℕ) (o : Option ValType) → Fine gs (instr_shifted n (set_type o)) (set_type (option_map (type_shifted n) o))
fine_set gs n (Some t) = same
fine_set gs n None = nothing

fine_tee : (gs : List RecGroup) (n : ℕ) (o : Option ValType) → Fine gs (instr_shifted n (tee_type o)) (tee_type (option_map (type_shifted n) o))
fine_tee gs n (Some t) = same
fine_tee gs n None = nothing

-- ## Rows of a function type

module _ (gs : List RecGroup) (n : ℕ) where
  -- it takes what the other takes, and gives what it gives
  pub params_below : (t u : FuncType) → FuncMatches gs u (func_shifted n t) → RowMatches gs (known (row_shifted n (row_of t.params))) (known (row_of u.params))
  params_below t u h = subst (λ (r : Row ValType). RowMatches gs (known r) (known (row_of u.params))) (sym (row_of_shifted n t.params)) (result_rows gs h.params)

  pub results_below : (t u : FuncType) → FuncMatches gs u (func_shifted n t) → RowMatches gs (known (row_of u.results)) (known (row_shifted n (row_of t.results)))
  results_below t u h = subst (λ (r : Row ValType). RowMatches gs (known (row_of u.results)) (known r)) (sym (row_of_shifted n t.results)) (result_rows gs h.results)

  pub fine_call : (t u : FuncType) → FuncMatches gs u (func_shifted n t) → Fine gs (instr_shifted n (call_type (Some t))) (call_type (Some u))
  fine_call t u h = below (params_below t u h) (results_below t u h)

  fine_tail_call : (t u : FuncType) → FuncMatches gs u (func_shifted n t) → Fine gs (instr_shifted n (tail_call_type (Some t))) (tail_call_type (Some u))
  fine_tail_call t u h = below_any (params_below t u h)

-- ## With addresses in the place of indices

module _ (i : Instance) (c d : Context) (fits : Fits i c d) where
  heap_has : (h : HeapType) → has_heap (type_count c) h ≡ true → has_heap (type_count d) (heap_shifted i.types h) ≡ true
  heap_has heap.Func e = refl
  heap_has heap.NoFunc e = refl
  heap_has heap.Cont e = refl
  heap_has heap.NoCont e = refl
  heap_has (heap.Index x) e = lt-ltb (i.types + x) (type_count d) (omega (arith, ltb-true x (type_count c) e, fits.types.count))

  pub type_has : (t : ValType) → has_type (type_count c) t ≡ true → has_type (type_count d) (type_shifted i.types t) ≡ true
  type_has val.I32 e = refl
  type_has val.I64 e = refl
  type_has (val.Ref r) e = heap_has r.heap e

  -- types by their indices
  func_by : (x : ℕ) (o : Option CompType) (t : FuncType) → type_of c x ≡ o → function_type o ≡ Some t → func_of d (i.types + x) ≡ Some (func_shifted i.types t)
  func_by x None t is h = absurd (cc)
  func_by x (Some (comp.Func f)) t is h = let e : f ≡ t = cc in ap function_type (composite_there i.types c.types d.types fits.types x (comp.Func f) is) ∙ ap (λ (g : FuncType). Some (func_shifted i.types g)) e
  func_by x (Some (comp.Cont y)) t is h = absurd (cc)

  -- the function type of an index
  pub func_there : (x : ℕ) (t : FuncType) → func_of c x ≡ Some t → func_of d (i.types + x) ≡ Some (func_shifted i.types t)
  func_there x t h = func_by x (type_of c x) t refl h

  index_by : (x : ℕ) (o : Option CompType) (y : ℕ) → type_of c x ≡ o → index_in_cont o ≡ Some y → func_index_of_cont d (i.types + x) ≡ Some (i.types + y)
  index_by x None y is h = absurd (cc)
  index_by x (Some (comp.Func f)) y is h = absurd (cc)
  index_by x (Some (comp.Cont z)) y is h = let e : z ≡ y = cc in ap index_in_cont (composite_there i.types c.types d.types fits.types x (comp.Cont z) is) ∙ ap (λ (w : ℕ). Some (i.types + w)) e

  index_there : (x y : ℕ) → func_index_of_cont c x ≡ Some y → func_index_of_cont d (i.types + x) ≡ Some (i.types + y)
  index_there x y h = index_by x (type_of c x) y refl h

  cont_by : (x : ℕ) (o : Option ℕ) (t : FuncType) → func_index_of_cont c x ≡ o → func_at c o ≡ Some t → cont_of d (i.types + x) ≡ Some (func_shifted i.types t)
  cont_by x None t is h = absurd (cc)
  cont_by x (Some y) t is h = ap (func_at d) (index_there x y is) ∙ func_there y t h

  -- the function type of a continuation type
  pub cont_there : (x : ℕ) (t : FuncType) → cont_of c x ≡ Some t → cont_of d (i.types + x) ≡ Some (func_shifted i.types t)
  cont_there x t h = cont_by x (func_index_of_cont c x) t refl h

  -- ## Parametric instructions

  fine_select : (ts : List ValType) → Fine d.types (instr_shifted i.types (select_type c ts)) (select_type d (map (type_shifted i.types) ts))
  fine_select [] = nothing
  fine_select (t ∷ []) = fine_if d.types i.types (has_type (type_count c) t) (has_type (type_count d) (type_shifted i.types t)) _ _ (type_has t) refl
  fine_select (t ∷ u ∷ us) = nothing

  fine_parametric : (o : ParametricOp) → Fine d.types (instr_shifted i.types (parametric_op_type c o)) (parametric_op_type d (parametric_resolved i o))
  fine_parametric parametric.Drop = same
  fine_parametric parametric.Select = same
  fine_parametric (parametric.SelectOf ts) = fine_select ts

  -- ## Variables

  kind_below : (m : Mutability) (t u : ValType) → KindFits d.types m t u → ValMatches d.types u t
  kind_below mutability.Var t u h = val_equal_matches d.types u t h
  kind_below mutability.Const t u h = h

  global_got : (x : ℕ) (o : Option GlobalType) → slice_get c.globals x ≡ o → Fine d.types (instr_shifted i.types (global_get_type o)) (global_get_type (slice_get d.globals (at i.globals x)))
  global_got x None is = nothing
  global_got x (Some g) is = let h = fits.globals x g is in
      rw (h.is) (below RowMatches.none (RowMatches.more RowMatches.none (value (kind_below g.mutability (type_shifted i.types g.kind) h.value.kind h.holds.kind))))

  written : (m : Mutability) (t u : ValType) → KindFits d.types m (type_shifted i.types t) u → Fine d.types (instr_shifted i.types (write_type m t)) (write_type m u)
  written mutability.Var t u h = below (RowMatches.more RowMatches.none (value (val_equal_matches d.types (type_shifted i.types t) u (val_equal_sym d.types u (type_shifted i.types t) h)))) RowMatches.none
  written mutability.Const t u h = nothing

  global_put : (x : ℕ) (o : Option GlobalType) → slice_get c.globals x ≡ o → Fine d.types (instr_shifted i.types (global_set_type o)) (global_set_type (slice_get d.globals (at i.globals x)))
  global_put x None is = nothing
  global_put x (Some g) is = let h = fits.globals x g is in
      rw (h.is) (subst (λ (m : Mutability). Fine d.types (instr_shifted i.types (write_type g.mutability g.kind)) (write_type m h.value.kind)) (sym h.holds.mutability)
      (written g.mutability g.kind h.value.kind h.holds.kind))

  local_there : (x : ℕ) → slice_get d.locals x ≡ option_map (type_shifted i.types) (slice_get c.locals x)
  local_there x = ap (λ (l : List ValType). slice_get l x) fits.locals ∙ slice_get-map (type_shifted i.types) c.locals x

  fine_variable : (s : List Bool) (o : VariableOp) → Fine d.types (instr_shifted i.types (variable_op_type c s o)) (variable_op_type d s (variable_resolved i o))
  fine_variable s (variable.LocalGet x) = rw (local_there x) (fine_get d.types i.types (slice_get c.locals x) (slice_get s x))
  fine_variable s (variable.LocalSet x) = rw (local_there x) (fine_set d.types i.types (slice_get c.locals x))
  fine_variable s (variable.LocalTee x) = rw (local_there x) (fine_tee d.types i.types (slice_get c.locals x))
  fine_variable s (variable.GlobalGet x) = global_got x (slice_get c.globals x) refl
  fine_variable s (variable.GlobalSet x) = global_put x (slice_get c.globals x) refl

  -- ## Memories

  memory_has : (x : ℕ) → has_memory c x ≡ true → has_memory d (at i.memories x) ≡ true
  memory_has x e = lt-ltb (at i.memories x) (length d.memories) (fits.memories x (ltb-true x (length c.memories) e))

  data_has : (y : ℕ) → nat_lt y c.datas ≡ true → nat_lt (i.datas + y) d.datas ≡ true
  data_has y e = lt-ltb (i.datas + y) d.datas (fits.datas y (ltb-true y c.datas e))

  both : (a b e f : Bool) → (a ≡ true → e ≡ true) → (b ≡ true → f ≡ true) → (a && b) ≡ true → (e && f) ≡ true
  both true true e f h k is = rw (h refl, k refl) refl
  both true false e f h k is = absurd (cc)
  both false b e f h k is = absurd (cc)

  access_has : (w : ℕ) (a : MemArg) → is_access c w a ≡ true → is_access d w (record a { memory = at i.memories a.memory }) ≡ true
  access_has w a = both (has_memory c a.memory) _ (has_memory d (at i.memories a.memory)) _ (memory_has a.memory) (λ e. e)

  fine_memory : (o : MemoryOp) → Fine d.types (instr_shifted i.types (memory_op_type c o)) (memory_op_type d (memory_resolved i o))
  fine_memory (memory.Load o a) = fine_if d.types i.types (is_access c (load_width o) a) _ _ _ (access_has (load_width o) a) (rw (load_shifted i.types o) refl)
  fine_memory (memory.Store o a) = fine_if d.types i.types (is_access c (store_width o) a) _ _ _ (access_has (store_width o) a) (rw (store_shifted i.types o) refl)
  fine_memory (memory.Size x) = fine_if d.types i.types (has_memory c x) (has_memory d (at i.memories x)) _ _ (memory_has x) refl
  fine_memory (memory.Grow x) = fine_if d.types i.types (has_memory c x) (has_memory d (at i.memories x)) _ _ (memory_has x) refl
  fine_memory (memory.Init y x) = fine_if d.types i.types (has_memory c x && nat_lt y c.datas) (has_memory d (at i.memories x) && nat_lt (i.datas + y) d.datas) _ _
      (both (has_memory c x) (nat_lt y c.datas) (has_memory d (at i.memories x)) (nat_lt (i.datas + y) d.datas) (memory_has x) (data_has y)) refl
  fine_memory (memory.DataDrop y) = fine_if d.types i.types (nat_lt y c.datas) (nat_lt (i.datas + y) d.datas) _ _ (data_has y) refl
  fine_memory (memory.Copy x y) = fine_if d.types i.types (has_memory c x && has_memory c y) (has_memory d (at i.memories x) && has_memory d (at i.memories y)) _ _
      (both (has_memory c x) (has_memory c y) (has_memory d (at i.memories x)) (has_memory d (at i.memories y)) (memory_has x) (memory_has y)) refl
  fine_memory (memory.Fill x) = fine_if d.types i.types (has_memory c x) (has_memory d (at i.memories x)) _ _ (memory_has x) refl

  -- ## Tables

  element_given : (r q : RefType) → RefEqual d.types q (ref_shifted i.types r) → ValMatches d.types (val.Ref q) (val.Ref (ref_shifted i.types r))
  element_given r q h = val_equal_matches d.types (val.Ref q) (val.Ref (ref_shifted i.types r)) (equal.ValEqual.ref h)

  element_taken : (r q : RefType) → RefEqual d.types q (ref_shifted i.types r) → ValMatches d.types (val.Ref (ref_shifted i.types r)) (val.Ref q)
  element_taken r q h = val_equal_matches d.types (val.Ref (ref_shifted i.types r)) (val.Ref q) (val_equal_sym d.types (val.Ref q) (val.Ref (ref_shifted i.types r)) (equal.ValEqual.ref h))

  number : OperandMatches d.types (Known val.I32) (Known val.I32)
  number = value matching.ValMatches.i32

  table_got : (x : ℕ) (o : Option TableType) → slice_get c.tables x ≡ o → Fine d.types (instr_shifted i.types (table_get_type o)) (table_get_type (slice_get d.tables (at i.tables x)))
  table_got x None is = nothing
  table_got x (Some t) is = let h = fits.tables x t is in
      rw (h.is) (below (RowMatches.more RowMatches.none number) (RowMatches.more RowMatches.none (value (element_given t.element h.value.element h.holds))))

  table_put : (x : ℕ) (o : Option TableType) → slice_get c.tables x ≡ o → Fine d.types (instr_shifted i.types (table_set_type o)) (table_set_type (slice_get d.tables (at i.tables x)))
  table_put x None is = nothing
  table_put x (Some t) is = let h = fits.tables x t is in
      rw (h.is) (below (RowMatches.more (RowMatches.more RowMatches.none number) (value (element_taken t.element h.value.element h.holds))) RowMatches.none)

  table_begun : (y x : ℕ) (r : Option RefType) (o : Option TableType) → slice_get c.elements y ≡ r → slice_get c.tables x ≡ o
      → Fine d.types (instr_shifted i.types (table_init_type r o)) (table_init_type (slice_get d.elements (i.elements + y)) (slice_get d.tables (at i.tables x)))
  table_begun y x None o is there = nothing
  table_begun y x (Some r) None is there = nothing
  table_begun y x (Some r) (Some t) is there = let h = fits.tables x t there in rw (fits.elements y r is, h.is) same

  element_left : (y : ℕ) (r : Option RefType) → slice_get c.elements y ≡ r → Fine d.types (instr_shifted i.types (elem_drop_type r)) (elem_drop_type (slice_get d.elements (i.elements + y)))
  element_left y None is = nothing
  element_left y (Some r) is = rw (fits.elements y r is) same

  table_copied : (x y : ℕ) (o p : Option TableType) → slice_get c.tables x ≡ o → slice_get c.tables y ≡ p
      → Fine d.types (instr_shifted i.types (table_copy_type o p)) (table_copy_type (slice_get d.tables (at i.tables x)) (slice_get d.tables (at i.tables y)))
  table_copied x y None p is there = nothing
  table_copied x y (Some t) None is there = nothing
  table_copied x y (Some t) (Some u) is there = let h = fits.tables x t is in let k = fits.tables y u there in rw (h.is, k.is) same

  table_grown : (x : ℕ) (o : Option TableType) → slice_get c.tables x ≡ o → Fine d.types (instr_shifted i.types (table_grow_type o)) (table_grow_type (slice_get d.tables (at i.tables x)))
  table_grown x None is = nothing
  table_grown x (Some t) is = let h = fits.tables x t is in
      rw (h.is) (below (RowMatches.more (RowMatches.more RowMatches.none (value (element_taken t.element h.value.element h.holds))) number) (RowMatches.more RowMatches.none number))

  table_sized : (x : ℕ) (o : Option TableType) → slice_get c.tables x ≡ o → Fine d.types (instr_shifted i.types (table_size_type o)) (table_size_type (slice_get d.tables (at i.tables x)))
  table_sized x None is = nothing
  table_sized x (Some t) is = let h = fits.tables x t is in rw (h.is) same

  table_filled : (x : ℕ) (o : Option TableType) → slice_get c.tables x ≡ o → Fine d.types (instr_shifted i.types (table_fill_type o)) (table_fill_type (slice_get d.tables (at i.tables x)))
  table_filled x None is = nothing
  table_filled x (Some t) is = let h = fits.tables x t is in
      rw (h.is) (below (RowMatches.more (RowMatches.more (RowMatches.more RowMatches.none number) (value (element_taken t.element h.value.element h.holds))) number) RowMatches.none)

  fine_table : (o : TableOp) → Fine d.types (instr_shifted i.types (table_op_type c o)) (table_op_type d (table_resolved i o))
  fine_table (table.Get x) = table_got x (slice_get c.tables x) refl
  fine_table (table.Set x) = table_put x (slice_get c.tables x) refl
  fine_table (table.Init y x) = table_begun y x (slice_get c.elements y) (slice_get c.tables x) refl refl
  fine_table (table.ElemDrop y) = element_left y (slice_get c.elements y) refl
  fine_table (table.Copy x y) = table_copied x y (slice_get c.tables x) (slice_get c.tables y) refl refl
  fine_table (table.Grow x) = table_grown x (slice_get c.tables x) refl
  fine_table (table.Size x) = table_sized x (slice_get c.tables x) refl
  fine_table (table.Fill x) = table_filled x (slice_get c.tables x) refl

  -- ## References

  function_named : (x : ℕ) (o : Option ℕ) (b : Option Bool) → slice_get c.functions x ≡ o → slice_get c.declared x ≡ b
      → Fine d.types (instr_shifted i.types (ref_func_type o b)) (ref_func_type (slice_get d.functions (at i.functions x)) (slice_get d.declared (at i.functions x)))
  function_named x None b is named = nothing
  function_named x (Some y) None is named = nothing
  function_named x (Some y) (Some false) is named = nothing
  function_named x (Some y) (Some true) is named = let h = fits.functions x y is in
      rw (h.is, fits.declared x named) (below RowMatches.none (RowMatches.more RowMatches.none (value (matching.ValMatches.ref (record { nullable = λ t. t; heap = h.holds.matches })))))

  fine_reference : (o : ReferenceOp) → Fine d.types (instr_shifted i.types (reference_op_type c o)) (reference_op_type d (reference_resolved i o))
  fine_reference (reference.Null h) = fine_if d.types i.types (has_heap (type_count c) h) (has_heap (type_count d) (heap_shifted i.types h)) _ _ (heap_has h) refl
  fine_reference reference.IsNull = same
  fine_reference (reference.Func x) = function_named x (slice_get c.functions x) (slice_get c.declared x) refl refl
  fine_reference reference.AsNonNull = same

  -- ## Control instructions

  labels_are : (l : ℕ) → slice_get d.labels l ≡ option_map (row_shifted i.types) (slice_get c.labels l)
  labels_are l = ap (λ (ls : List (Row ValType)). slice_get ls l) fits.labels ∙ label_there i.types c.labels l

  many_labels_are : (ls : List ℕ) → labels_at d.labels ls ≡ option_map (rows_shifted i.types) (labels_at c.labels ls)
  many_labels_are ls = ap (λ (l : List (Row ValType)). labels_at l ls) fits.labels ∙ labels_there i.types c.labels ls

  function_by : (x : ℕ) (o : Option ℕ) (t : FuncType) → slice_get c.functions x ≡ o → func_at c o ≡ Some t
      → There (type_of_func d (at i.functions x)) (λ (u : FuncType). FuncMatches d.types u (func_shifted i.types t))
  function_by x None t is h = absurd (cc)
  function_by x (Some y) t is h =
      let k = fits.functions x y is in
      let u = k.holds.type t h in
      record { value = u.value; is = ap (func_at d) k.is ∙ u.is; holds = u.holds }

  -- the type of a function
  pub function_there : (x : ℕ) (t : FuncType) → type_of_func c x ≡ Some t
      → There (type_of_func d (at i.functions x)) (λ (u : FuncType). FuncMatches d.types u (func_shifted i.types t))
  function_there x t h = function_by x (slice_get c.functions x) t refl h

  called : (x : ℕ) (o : Option FuncType) → type_of_func c x ≡ o → Fine d.types (instr_shifted i.types (call_type o)) (call_type (type_of_func d (at i.functions x)))
  called x None is = nothing
  called x (Some t) is = let h = function_there x t is in rw (h.is) (fine_call d.types i.types t h.value h.holds)

  tail_called : (x : ℕ) (o : Option FuncType) → type_of_func c x ≡ o
      → Fine d.types (instr_shifted i.types (tail_call_type o)) (tail_call_type (type_of_func d (at i.functions x)))
  tail_called x None is = nothing
  tail_called x (Some t) is = let h = function_there x t is in rw (h.is) (fine_tail_call d.types i.types t h.value h.holds)

  exactly : (t : FuncType) → FuncMatches d.types (func_shifted i.types t) (func_shifted i.types t)
  exactly t = func_refl d.types (func_shifted i.types t)

  called_by : (x y : ℕ) (o : Option TableType) (p : Option FuncType) → slice_get c.tables x ≡ o → func_of c y ≡ p
      → Fine d.types (instr_shifted i.types (call_indirect_type o p)) (call_indirect_type (slice_get d.tables (at i.tables x)) (func_of d (i.types + y)))
  called_by x y None p is there = nothing
  called_by x y (Some u) None is there = nothing
  called_by x y (Some u) (Some t) is there = let h = fits.tables x u is in
      rw (h.is, func_there y t there)
      (below (RowMatches.more (params_below d.types i.types t (func_shifted i.types t) (exactly t)) number) (results_below d.types i.types t (func_shifted i.types t) (exactly t)))

  referred : (y : ℕ) → OperandMatches d.types (Known (type_shifted i.types (nullable y))) (Known (nullable (i.types + y)))
  referred y = value (val_refl d.types (nullable (i.types + y)))

  called_ref : (y : ℕ) (p : Option FuncType) → func_of c y ≡ p → Fine d.types (instr_shifted i.types (call_ref_type y p)) (call_ref_type (i.types + y) (func_of d (i.types + y)))
  called_ref y None is = nothing
  called_ref y (Some t) is = rw (func_there y t is)
      (below (RowMatches.more (params_below d.types i.types t (func_shifted i.types t) (exactly t)) (referred y)) (results_below d.types i.types t (func_shifted i.types t) (exactly t)))

  tail_called_by : (x y : ℕ) (o : Option TableType) (p : Option FuncType) → slice_get c.tables x ≡ o → func_of c y ≡ p
      → Fine d.types (instr_shifted i.types (tail_call_indirect_type o p)) (tail_call_indirect_type (slice_get d.tables (at i.tables x)) (func_of d (i.types + y)))
  tail_called_by x y None p is there = nothing
  tail_called_by x y (Some u) None is there = nothing
  tail_called_by x y (Some u) (Some t) is there = let h = fits.tables x u is in
      rw (h.is, func_there y t there) (below_any (RowMatches.more (params_below d.types i.types t (func_shifted i.types t) (exactly t)) number))

  tail_called_ref : (y : ℕ) (p : Option FuncType) → func_of c y ≡ p
      → Fine d.types (instr_shifted i.types (tail_call_ref_type y p)) (tail_call_ref_type (i.types + y) (func_of d (i.types + y)))
  tail_called_ref y None is = nothing
  tail_called_ref y (Some t) is =
      rw (func_there y t is) (below_any (RowMatches.more (params_below d.types i.types t (func_shifted i.types t) (exactly t)) (referred y)))

  fine_control : (o : ControlOp) → Fine d.types (instr_shifted i.types (control_op_type c o)) (control_op_type d (control_resolved i o))
  fine_control control.Unreachable = same
  fine_control control.Nop = same
  fine_control (control.Br l) = rw (labels_are l) (fine_br d.types i.types (slice_get c.labels l))
  fine_control (control.BrIf l) = rw (labels_are l) (fine_br_if d.types i.types (slice_get c.labels l))
  fine_control (control.BrTable ls l) = rw (labels_are l, many_labels_are ls) (fine_br_table d.types i.types (slice_get c.labels l) (labels_at c.labels ls))
  fine_control control.Return = rw (fits.results) same
  fine_control (control.BrOnNull l) = rw (labels_are l) (fine_br_on_null d.types i.types (slice_get c.labels l))
  fine_control (control.BrOnNonNull l) = rw (labels_are l) (fine_br_on_non_null d.types i.types (slice_get c.labels l))
  fine_control (control.Call x) = called x (type_of_func c x) refl
  fine_control (control.CallIndirect y x) = called_by x y (slice_get c.tables x) (func_of c y) refl refl
  fine_control (control.CallRef y) = called_ref y (func_of c y) refl
  fine_control (control.ReturnCall x) = tail_called x (type_of_func c x) refl
  fine_control (control.ReturnCallIndirect y x) = tail_called_by x y (slice_get c.tables x) (func_of c y) refl refl
  fine_control (control.ReturnCallRef y) = tail_called_ref y (func_of c y) refl

  -- ## Stack switching

  made_of : (x : ℕ) (o : Option ℕ) → func_index_of_cont c x ≡ o → Fine d.types (instr_shifted i.types (cont_new_type x o)) (cont_new_type (i.types + x) (func_index_of_cont d (i.types + x)))
  made_of x None is = nothing
  made_of x (Some y) is = rw (index_there x y is) same

  bound_if : (x y : ℕ) (t u : FuncType) (b : Bool)
      → Fine d.types (instr_shifted i.types (if_valid b (fixed (row_of (take (length t.params - length u.params) t.params) ▹ nullable x) (ε ▹ non_null y))))
      (if_valid b (fixed (row_of (take (length t.params - length u.params) (types_shifted i.types t.params)) ▹ nullable (i.types + x)) (ε ▹ non_null (i.types + y))))
  bound_if x y t u true =
      rw (take-map (type_shifted i.types) (length t.params - length u.params) t.params, sym (row_of_shifted i.types (take (length t.params - length u.params) t.params))) same
  bound_if x y t u false = nothing

  bound_of : (x y : ℕ) (o p : Option FuncType) → cont_of c x ≡ o → cont_of c y ≡ p
      → Fine d.types (instr_shifted i.types (cont_bind_type x y o p)) (cont_bind_type (i.types + x) (i.types + y) (cont_of d (i.types + x)) (cont_of d (i.types + y)))
  bound_of x y None p is there = nothing
  bound_of x y (Some t) None is there = nothing
  bound_of x y (Some t) (Some u) is there = rw (cont_there x t is, cont_there y u there, length-map t.params (type_shifted i.types), length-map u.params (type_shifted i.types))
      (bound_if x y t u (nat_le (length u.params) (length t.params)))

  tag_by : (e : ℕ) (o : Option Tag) (t : FuncType) → slice_get c.tags e ≡ o → tag_in c o ≡ Some t → There (type_of_tag d (at i.tags e)) (TypesFit i.types d.types t)
  tag_by e None t is h = absurd (cc)
  tag_by e (Some g) t is h =
      let k = fits.tags e g is in
      let u = k.holds.type t h in
      record { value = u.value; is = ap (tag_in d) k.is ∙ u.is; holds = u.holds }

  -- the type of a tag
  pub tag_there : (e : ℕ) (t : FuncType) → type_of_tag c e ≡ Some t → There (type_of_tag d (at i.tags e)) (TypesFit i.types d.types t)
  tag_there e t h = tag_by e (slice_get c.tags e) t refl h

  suspended : (e : ℕ) (o : Option FuncType) → type_of_tag c e ≡ o → Fine d.types (instr_shifted i.types (call_type o)) (call_type (type_of_tag d (at i.tags e)))
  suspended e None is = nothing
  suspended e (Some t) is = let h = tag_there e t is in
      rw (h.is) (fine_call d.types i.types t h.value (record {
        params = result_equal_matches d.types (types_shifted i.types t.params) h.value.params (result_equal_sym d.types h.value.params (types_shifted i.types t.params) h.holds.params);
        results = result_equal_matches d.types h.value.results (types_shifted i.types t.results) h.holds.results;
      }))

  resumed : (x : ℕ) (o : Option FuncType) → cont_of c x ≡ o → Fine d.types (instr_shifted i.types (resume_type x o)) (resume_type (i.types + x) (cont_of d (i.types + x)))
  resumed x None is = nothing
  resumed x (Some t) is = rw (cont_there x t is)
      (below (RowMatches.more (params_below d.types i.types t (func_shifted i.types t) (exactly t)) (referred x)) (results_below d.types i.types t (func_shifted i.types t) (exactly t)))

  switched_back : (x y : ℕ) (us : Row ValType) (o : Option FuncType) → cont_of c y ≡ o
      → Fine d.types (instr_shifted i.types (switched_type x us o)) (switched_type (i.types + x) (row_shifted i.types us) (cont_of d (i.types + y)))
  switched_back x y us None is = nothing
  switched_back x y us (Some t) is = rw (cont_there y t is, sym (row_of_shifted i.types t.params)) same

  switched_by : (x : ℕ) (us : Row ValType) → Fine d.types (instr_shifted i.types (switch_type c x us)) (switch_type d (i.types + x) (row_shifted i.types us))
  switched_by x ε = nothing
  switched_by x (us ▹ val.I32) = nothing
  switched_by x (us ▹ val.I64) = nothing
  switched_by x (us ▹ val.Ref r) = to r.heap
    where
      to : (h : HeapType) → Fine d.types (instr_shifted i.types (switch_to c x us h)) (switch_to d (i.types + x) (row_shifted i.types us) (heap_shifted i.types h))
      to heap.Func = nothing
      to heap.NoFunc = nothing
      to heap.Cont = nothing
      to heap.NoCont = nothing
      to (heap.Index y) = switched_back x y us (cont_of c y) refl

  switched_of : (x : ℕ) (o : Option FuncType) → cont_of c x ≡ o
      → Fine d.types (instr_shifted i.types (switch_type c x (params_of o))) (switch_type d (i.types + x) (params_of (cont_of d (i.types + x))))
  switched_of x None is = nothing
  switched_of x (Some t) is = rw (cont_there x t is, sym (row_of_shifted i.types t.params)) (switched_by x (row_of t.params))

  fine_switching : (o : SwitchingOp) → Fine d.types (instr_shifted i.types (switching_op_type c o)) (switching_op_type d (switching_resolved i o))
  fine_switching (switching.ContNew x) = made_of x (func_index_of_cont c x) refl
  fine_switching (switching.ContBind x y) = bound_of x y (cont_of c x) (cont_of c y) refl refl
  fine_switching (switching.Suspend e) = suspended e (type_of_tag c e) refl
  fine_switching (switching.Resume x hs) = resumed x (cont_of c x) refl
  fine_switching (switching.Switch x e) = switched_of x (cont_of c x) refl

  -- the type of an instruction is fine with addresses
  pub fine_instruction : (s : List Bool) (o : Op) → Fine d.types (instr_shifted i.types (instr_type c s o)) (instr_type d s (op_resolved i o))
  fine_instruction s (op.Control o) = fine_control o
  fine_instruction s (op.Parametric o) = fine_parametric o
  fine_instruction s (op.Variable o) = fine_variable s o
  fine_instruction s (op.Memory o) = fine_memory o
  fine_instruction s (op.Table o) = fine_table o
  fine_instruction s (op.Numeric o) = fine_numeric d.types i.types o
  fine_instruction s (op.Reference o) = fine_reference o
  fine_instruction s (op.Switching o) = fine_switching o
