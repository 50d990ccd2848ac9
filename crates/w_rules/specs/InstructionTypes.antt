-- The table of instructions (Core, validation, instructions): the type of each instruction that holds no others.
-- In brackets stand the names that rules have in the specification's own source (SpecTec); the explainer names no rules.
use Rattle.std.specs.Prelude.{ℕ, ◌^◌, nat_lt, nat_le, Bool, true, false, ◌&&◌, List, [], ◌∷◌, ◌-◌, length, take, Option, Some, None, slice_get, slice_set}
use Rattle.w_types.specs.declared.types.FuncType.{FuncType}
use Rattle.w_types.specs.declared.types.HeapType.{HeapType}
use Rattle.w_types.specs.declared.types.HeapType.TheVariants.{Index}
use Rattle.w_types.specs.declared.types.RefType.{RefType}
use Rattle.w_types.specs.declared.types.ValType.{ValType}
use Rattle.w_types.specs.declared.types.ValType.TheVariants.{I32, I64, Ref}
use Rattle.lists.specs.Rows.{Row, ε, ◌▹◌, row_of}
use Rattle.w_syntax.specs.declared.instructions.ControlOp.{ControlOp}
use Rattle.w_syntax.specs.declared.instructions.ControlOp.TheVariants as control
use Rattle.w_syntax.specs.declared.instructions.ParametricOp.{ParametricOp}
use Rattle.w_syntax.specs.declared.instructions.ParametricOp.TheVariants as parametric
use Rattle.w_syntax.specs.declared.instructions.VariableOp.{VariableOp}
use Rattle.w_syntax.specs.declared.instructions.VariableOp.TheVariants as variable
use Rattle.w_syntax.specs.declared.instructions.TableOp.{TableOp}
use Rattle.w_syntax.specs.declared.instructions.TableOp.TheVariants as table
use Rattle.w_syntax.specs.declared.instructions.ReferenceOp.{ReferenceOp}
use Rattle.w_syntax.specs.declared.instructions.ReferenceOp.TheVariants as reference
use Rattle.w_syntax.specs.declared.instructions.SwitchingOp.{SwitchingOp}
use Rattle.w_syntax.specs.declared.instructions.SwitchingOp.TheVariants as switching
use Rattle.w_syntax.specs.declared.instructions.Op.{Op}
use Rattle.w_syntax.specs.declared.instructions.Op.TheVariants as op
use Rattle.w_syntax.specs.declared.memory_instructions.LoadOp.{LoadOp}
use Rattle.w_syntax.specs.declared.memory_instructions.LoadOp.TheVariants as load
use Rattle.w_syntax.specs.declared.memory_instructions.StoreOp.{StoreOp}
use Rattle.w_syntax.specs.declared.memory_instructions.StoreOp.TheVariants as store
use Rattle.w_syntax.specs.declared.memory_instructions.MemArg.{MemArg}
use Rattle.w_syntax.specs.declared.memory_instructions.MemoryOp.{MemoryOp}
use Rattle.w_syntax.specs.declared.memory_instructions.MemoryOp.TheVariants as memory
use Rattle.w_syntax.specs.declared.module.GlobalType.{GlobalType}
use Rattle.w_syntax.specs.declared.module.Mutability.{Mutability}
use Rattle.w_syntax.specs.declared.module.Mutability.TheVariants as mutability
use Rattle.w_syntax.specs.declared.module.TableType.{TableType}
use Rattle.w_syntax.specs.declared.numeric.IntType.{IntType}
use Rattle.w_syntax.specs.declared.numeric.IntType.TheVariants as int
use Rattle.w_syntax.specs.declared.numeric.Cvtop.{Cvtop}
use Rattle.w_syntax.specs.declared.numeric.Cvtop.TheVariants as convert
use Rattle.w_syntax.specs.declared.numeric.NumericOp.{NumericOp}
use Rattle.w_syntax.specs.declared.numeric.NumericOp.TheVariants as numeric
use Rattle.w_rules.specs.Context.{Context, type_count, func_of, type_of_func, type_of_tag, cont_of, func_index_of_cont}
use Rattle.w_rules.specs.Types.{has_heap, has_type}

-- an instruction's type
pub data InstrType : Type 0 where
  -- [ins] to [outs]
  fixed : (ins outs : Row ValType) → InstrType
  -- [t* ins] to any
  polymorphic : (ins : Row ValType) → InstrType
  -- [t* u* i32] to any, where u* matches the one and each of the others
  table_polymorphic : (one : Row ValType) (others : List (Row ValType)) → InstrType
  -- [t] to []
  drops : InstrType
  -- [t t i32] to [t], where t matches i32 or i64
  selects : InstrType
  -- [(ref null ht)] to [i32]
  tests_null : InstrType
  -- [(ref null ht)] to [(ref ht)]
  as_non_null : InstrType
  -- [u* (ref null ht)] to [u* (ref ht)]
  on_null : (us : Row ValType) → InstrType
  -- no rule
  untyped : InstrType

-- the type, where the test holds
abbrev pub if_valid : Bool → InstrType → InstrType
if_valid true l = l
if_valid false l = untyped

-- a reference to the type of this index, that may be null and that may not
abbrev pub nullable : ℕ → ValType
nullable x = Ref (record { nullable = true; heap = Index x })

abbrev pub non_null : ℕ → ValType
non_null x = Ref (record { nullable = false; heap = Index x })

-- ## Numeric instructions

abbrev pub of_int : IntType → ValType
of_int int.I32 = I32
of_int int.I64 = I64

abbrev pub convert_type : Cvtop → InstrType
convert_type convert.I32WrapI64 = fixed (ε ▹ I64) (ε ▹ I32)
convert_type convert.I64ExtendI32S = fixed (ε ▹ I32) (ε ▹ I64)
convert_type convert.I64ExtendI32U = fixed (ε ▹ I32) (ε ▹ I64)
convert_type convert.I32Extend8S = fixed (ε ▹ I32) (ε ▹ I32)
convert_type convert.I32Extend16S = fixed (ε ▹ I32) (ε ▹ I32)
convert_type convert.I64Extend8S = fixed (ε ▹ I64) (ε ▹ I64)
convert_type convert.I64Extend16S = fixed (ε ▹ I64) (ε ▹ I64)
convert_type convert.I64Extend32S = fixed (ε ▹ I64) (ε ▹ I64)

abbrev pub numeric_op_type : NumericOp → InstrType
-- [Instr_ok/const]
numeric_op_type (numeric.I32Const z) = fixed ε (ε ▹ I32)
numeric_op_type (numeric.I64Const z) = fixed ε (ε ▹ I64)
-- [Instr_ok/testop]
numeric_op_type (numeric.Eqz t) = fixed (ε ▹ of_int t) (ε ▹ I32)
-- [Instr_ok/relop]
numeric_op_type (numeric.Compare t o) = fixed (ε ▹ of_int t ▹ of_int t) (ε ▹ I32)
-- [Instr_ok/unop]
numeric_op_type (numeric.Unary t o) = fixed (ε ▹ of_int t) (ε ▹ of_int t)
-- [Instr_ok/binop]
numeric_op_type (numeric.Binary t o) = fixed (ε ▹ of_int t ▹ of_int t) (ε ▹ of_int t)
-- [Instr_ok/cvtop]
numeric_op_type (numeric.Convert o) = convert_type o

-- ## Parametric instructions

abbrev pub select_type : Context → List ValType → InstrType
select_type c (t ∷ []) = if_valid (has_type (type_count c) t) (fixed (ε ▹ t ▹ t ▹ I32) (ε ▹ t))
select_type c [] = untyped
select_type c (t ∷ u ∷ us) = untyped

abbrev pub parametric_op_type : Context → ParametricOp → InstrType
-- [Instr_ok/drop]
parametric_op_type c parametric.Drop = drops
-- [Instr_ok/select-impl]
parametric_op_type c parametric.Select = selects
-- [Instr_ok/select-expl]
parametric_op_type c (parametric.SelectOf ts) = select_type c ts

-- ## Variable instructions; s says which locals are set

abbrev pub get_type : Option ValType → Option Bool → InstrType
get_type (Some t) (Some true) = fixed ε (ε ▹ t)
get_type (Some t) (Some false) = untyped
get_type (Some t) None = untyped
get_type None o = untyped

abbrev pub set_type : Option ValType → InstrType
set_type (Some t) = fixed (ε ▹ t) ε
set_type None = untyped

abbrev pub tee_type : Option ValType → InstrType
tee_type (Some t) = fixed (ε ▹ t) (ε ▹ t)
tee_type None = untyped

abbrev pub global_get_type : Option GlobalType → InstrType
global_get_type (Some g) = fixed ε (ε ▹ g.kind)
global_get_type None = untyped

abbrev pub write_type : Mutability → ValType → InstrType
write_type mutability.Var t = fixed (ε ▹ t) ε
write_type mutability.Const t = untyped

abbrev pub global_set_type : Option GlobalType → InstrType
global_set_type (Some g) = write_type g.mutability g.kind
global_set_type None = untyped

abbrev pub variable_op_type : Context → List Bool → VariableOp → InstrType
-- [Instr_ok/local.get]
variable_op_type c s (variable.LocalGet x) = get_type (slice_get c.locals x) (slice_get s x)
-- [Instr_ok/local.set]
variable_op_type c s (variable.LocalSet x) = set_type (slice_get c.locals x)
-- [Instr_ok/local.tee]
variable_op_type c s (variable.LocalTee x) = tee_type (slice_get c.locals x)
-- [Instr_ok/global.get]
variable_op_type c s (variable.GlobalGet x) = global_get_type (slice_get c.globals x)
-- [Instr_ok/global.set]
variable_op_type c s (variable.GlobalSet x) = global_set_type (slice_get c.globals x)

-- ## Memory instructions

-- a load's type, and how many bytes it reads as a power of two
abbrev pub load_type : LoadOp → ValType
load_type load.I32Load = I32
load_type load.I32Load8S = I32
load_type load.I32Load8U = I32
load_type load.I32Load16S = I32
load_type load.I32Load16U = I32
load_type load.I64Load = I64
load_type load.I64Load8S = I64
load_type load.I64Load8U = I64
load_type load.I64Load16S = I64
load_type load.I64Load16U = I64
load_type load.I64Load32S = I64
load_type load.I64Load32U = I64

abbrev pub load_width : LoadOp → ℕ
load_width load.I32Load8S = 0
load_width load.I32Load8U = 0
load_width load.I64Load8S = 0
load_width load.I64Load8U = 0
load_width load.I32Load16S = 1
load_width load.I32Load16U = 1
load_width load.I64Load16S = 1
load_width load.I64Load16U = 1
load_width load.I32Load = 2
load_width load.I64Load32S = 2
load_width load.I64Load32U = 2
load_width load.I64Load = 3

abbrev pub store_type : StoreOp → ValType
store_type store.I32Store = I32
store_type store.I32Store8 = I32
store_type store.I32Store16 = I32
store_type store.I64Store = I64
store_type store.I64Store8 = I64
store_type store.I64Store16 = I64
store_type store.I64Store32 = I64

abbrev pub store_width : StoreOp → ℕ
store_width store.I32Store8 = 0
store_width store.I64Store8 = 0
store_width store.I32Store16 = 1
store_width store.I64Store16 = 1
store_width store.I32Store = 2
store_width store.I64Store32 = 2
store_width store.I64Store = 3

-- the memory of this index is there
abbrev pub has_memory : Context → ℕ → Bool
has_memory c x = nat_lt x (length c.memories)

-- the memory is there, the alignment is at most the width, and the offset is below 2^32
abbrev pub is_access : Context → ℕ → MemArg → Bool
is_access c width a = has_memory c a.memory && (nat_le a.align width && nat_lt a.offset (2 ^ 32))

abbrev pub memory_op_type : Context → MemoryOp → InstrType
-- [Instr_ok/load-val, load-pack]
memory_op_type c (memory.Load o a) = if_valid (is_access c (load_width o) a) (fixed (ε ▹ I32) (ε ▹ load_type o))
-- [Instr_ok/store-val, store-pack]
memory_op_type c (memory.Store o a) = if_valid (is_access c (store_width o) a) (fixed (ε ▹ I32 ▹ store_type o) ε)
-- [Instr_ok/memory.size]
memory_op_type c (memory.Size x) = if_valid (has_memory c x) (fixed ε (ε ▹ I32))
-- [Instr_ok/memory.grow]
memory_op_type c (memory.Grow x) = if_valid (has_memory c x) (fixed (ε ▹ I32) (ε ▹ I32))
-- [Instr_ok/memory.init]
memory_op_type c (memory.Init d x) = if_valid (has_memory c x && nat_lt d c.datas) (fixed (ε ▹ I32 ▹ I32 ▹ I32) ε)
-- [Instr_ok/data.drop]
memory_op_type c (memory.DataDrop d) = if_valid (nat_lt d c.datas) (fixed ε ε)
-- [Instr_ok/memory.copy]
memory_op_type c (memory.Copy x y) = if_valid (has_memory c x && has_memory c y) (fixed (ε ▹ I32 ▹ I32 ▹ I32) ε)
-- [Instr_ok/memory.fill]
memory_op_type c (memory.Fill x) = if_valid (has_memory c x) (fixed (ε ▹ I32 ▹ I32 ▹ I32) ε)

-- ## Table instructions

abbrev pub table_get_type : Option TableType → InstrType
table_get_type (Some t) = fixed (ε ▹ I32) (ε ▹ Ref t.element)
table_get_type None = untyped

abbrev pub table_set_type : Option TableType → InstrType
table_set_type (Some t) = fixed (ε ▹ I32 ▹ Ref t.element) ε
table_set_type None = untyped

abbrev pub table_init_type : Option RefType → Option TableType → InstrType
table_init_type (Some r) (Some t) = fixed (ε ▹ I32 ▹ I32 ▹ I32) ε
table_init_type (Some r) None = untyped
table_init_type None o = untyped

abbrev pub elem_drop_type : Option RefType → InstrType
elem_drop_type (Some r) = fixed ε ε
elem_drop_type None = untyped

abbrev pub table_copy_type : Option TableType → Option TableType → InstrType
table_copy_type (Some t) (Some u) = fixed (ε ▹ I32 ▹ I32 ▹ I32) ε
table_copy_type (Some t) None = untyped
table_copy_type None o = untyped

abbrev pub table_grow_type : Option TableType → InstrType
table_grow_type (Some t) = fixed (ε ▹ Ref t.element ▹ I32) (ε ▹ I32)
table_grow_type None = untyped

abbrev pub table_size_type : Option TableType → InstrType
table_size_type (Some t) = fixed ε (ε ▹ I32)
table_size_type None = untyped

abbrev pub table_fill_type : Option TableType → InstrType
table_fill_type (Some t) = fixed (ε ▹ I32 ▹ Ref t.element ▹ I32) ε
table_fill_type None = untyped

abbrev pub table_op_type : Context → TableOp → InstrType
-- [Instr_ok/table.get]
table_op_type c (table.Get x) = table_get_type (slice_get c.tables x)
-- [Instr_ok/table.set]
table_op_type c (table.Set x) = table_set_type (slice_get c.tables x)
-- [Instr_ok/table.init]
table_op_type c (table.Init e x) = table_init_type (slice_get c.elements e) (slice_get c.tables x)
-- [Instr_ok/elem.drop]
table_op_type c (table.ElemDrop e) = elem_drop_type (slice_get c.elements e)
-- [Instr_ok/table.copy]
table_op_type c (table.Copy x y) = table_copy_type (slice_get c.tables x) (slice_get c.tables y)
-- [Instr_ok/table.grow]
table_op_type c (table.Grow x) = table_grow_type (slice_get c.tables x)
-- [Instr_ok/table.size]
table_op_type c (table.Size x) = table_size_type (slice_get c.tables x)
-- [Instr_ok/table.fill]
table_op_type c (table.Fill x) = table_fill_type (slice_get c.tables x)

-- ## Reference instructions

abbrev pub ref_func_type : Option ℕ → Option Bool → InstrType
ref_func_type (Some y) (Some true) = fixed ε (ε ▹ non_null y)
ref_func_type (Some y) (Some false) = untyped
ref_func_type (Some y) None = untyped
ref_func_type None o = untyped

abbrev pub reference_op_type : Context → ReferenceOp → InstrType
-- [Instr_ok/ref.null]
reference_op_type c (reference.Null h) = if_valid (has_heap (type_count c) h) (fixed ε (ε ▹ Ref (record { nullable = true; heap = h })))
-- [Instr_ok/ref.is_null]
reference_op_type c reference.IsNull = tests_null
-- [Instr_ok/ref.func]
reference_op_type c (reference.Func x) = ref_func_type (slice_get c.functions x) (slice_get c.declared x)
-- [Instr_ok/ref.as_non_null]
reference_op_type c reference.AsNonNull = as_non_null

-- ## Control instructions

abbrev pub br_type : Option (Row ValType) → InstrType
br_type (Some us) = polymorphic us
br_type None = untyped

abbrev pub br_if_type : Option (Row ValType) → InstrType
br_if_type (Some us) = fixed (us ▹ I32) us
br_if_type None = untyped

abbrev pub with_label : Option (Row ValType) → Option (List (Row ValType)) → Option (List (Row ValType))
with_label (Some us) (Some uss) = Some (us ∷ uss)
with_label (Some us) None = None
with_label None o = None

-- what these labels take
abbrev pub labels_at : List (Row ValType) → List ℕ → Option (List (Row ValType))
labels_at ls [] = Some []
labels_at ls (x ∷ xs) = with_label (slice_get ls x) (labels_at ls xs)

abbrev pub br_table_type : Option (Row ValType) → Option (List (Row ValType)) → InstrType
br_table_type (Some us) (Some uss) = table_polymorphic us uss
br_table_type (Some us) None = untyped
br_table_type None o = untyped

abbrev pub br_on_null_type : Option (Row ValType) → InstrType
br_on_null_type (Some us) = on_null us
br_on_null_type None = untyped

-- the label takes [u* (ref null? ht)]
abbrev pub br_on_non_null_type : Option (Row ValType) → InstrType
br_on_non_null_type (Some (us ▹ Ref r)) = fixed (us ▹ Ref (record { nullable = true; heap = r.heap })) us
br_on_non_null_type (Some (us ▹ I32)) = untyped
br_on_non_null_type (Some (us ▹ I64)) = untyped
br_on_non_null_type (Some ε) = untyped
br_on_non_null_type None = untyped

abbrev pub call_type : Option FuncType → InstrType
call_type (Some t) = fixed (row_of t.params) (row_of t.results)
call_type None = untyped

abbrev pub call_indirect_type : Option TableType → Option FuncType → InstrType
call_indirect_type (Some u) (Some t) = fixed (row_of t.params ▹ I32) (row_of t.results)
call_indirect_type (Some u) None = untyped
call_indirect_type None o = untyped

-- [t1* (ref null x)] to [t2*]
abbrev pub call_ref_type : ℕ → Option FuncType → InstrType
call_ref_type x (Some t) = fixed (row_of t.params ▹ nullable x) (row_of t.results)
call_ref_type x None = untyped

-- ## Tail calls: [t1* operands] to [t2*] for any t1* and t2*, the operands those of the call of the same kind

abbrev pub tail_call_type : Option FuncType → InstrType
tail_call_type (Some t) = polymorphic (row_of t.params)
tail_call_type None = untyped

abbrev pub tail_call_indirect_type : Option TableType → Option FuncType → InstrType
tail_call_indirect_type (Some u) (Some t) = polymorphic (row_of t.params ▹ I32)
tail_call_indirect_type (Some u) None = untyped
tail_call_indirect_type None o = untyped

abbrev pub tail_call_ref_type : ℕ → Option FuncType → InstrType
tail_call_ref_type x (Some t) = polymorphic (row_of t.params ▹ nullable x)
tail_call_ref_type x None = untyped

abbrev pub control_op_type : Context → ControlOp → InstrType
-- [Instr_ok/unreachable]
control_op_type c control.Unreachable = polymorphic ε
-- [Instr_ok/nop]
control_op_type c control.Nop = fixed ε ε
-- [Instr_ok/br]
control_op_type c (control.Br l) = br_type (slice_get c.labels l)
-- [Instr_ok/br_if]
control_op_type c (control.BrIf l) = br_if_type (slice_get c.labels l)
-- [Instr_ok/br_table]
control_op_type c (control.BrTable ls l) = br_table_type (slice_get c.labels l) (labels_at c.labels ls)
-- [Instr_ok/return]
control_op_type c control.Return = polymorphic c.results
-- [Instr_ok/br_on_null]
control_op_type c (control.BrOnNull l) = br_on_null_type (slice_get c.labels l)
-- [Instr_ok/br_on_non_null]
control_op_type c (control.BrOnNonNull l) = br_on_non_null_type (slice_get c.labels l)
-- [Instr_ok/call]
control_op_type c (control.Call x) = call_type (type_of_func c x)
-- [Instr_ok/call_indirect]
control_op_type c (control.CallIndirect y x) = call_indirect_type (slice_get c.tables x) (func_of c y)
-- [Instr_ok/call_ref]
control_op_type c (control.CallRef y) = call_ref_type y (func_of c y)
-- [Instr_ok/return_call]
control_op_type c (control.ReturnCall x) = tail_call_type (type_of_func c x)
-- [Instr_ok/return_call_indirect]
control_op_type c (control.ReturnCallIndirect y x) = tail_call_indirect_type (slice_get c.tables x) (func_of c y)
-- [Instr_ok/return_call_ref]
control_op_type c (control.ReturnCallRef y) = tail_call_ref_type y (func_of c y)

-- ## Stack switching instructions (the explainer, validation)

-- [(ref null f)] to [(ref c)], where c is cont f
abbrev pub cont_new_type : ℕ → Option ℕ → InstrType
cont_new_type x (Some f) = fixed (ε ▹ nullable f) (ε ▹ non_null x)
cont_new_type x None = untyped

-- [t3* (ref null x)] to [(ref y)], where x is cont [t3* t1*] to [t2*], and y is cont of a function type with as many parameters as t1*
abbrev pub cont_bind_type : ℕ → ℕ → Option FuncType → Option FuncType → InstrType
cont_bind_type x y (Some t) (Some u) =
    if_valid (nat_le (length u.params) (length t.params))
    (fixed (row_of (take (length t.params - length u.params) t.params) ▹ nullable x) (ε ▹ non_null y))
cont_bind_type x y (Some t) None = untyped
cont_bind_type x y None o = untyped

-- [t1* (ref null x)] to [t2*], where x is cont [t1*] to [t2*]
abbrev pub resume_type : ℕ → Option FuncType → InstrType
resume_type x (Some t) = fixed (row_of t.params ▹ nullable x) (row_of t.results)
resume_type x None = untyped

-- [t1* (ref null x)] to [t2*], where the target gives back a continuation of [t2*]
abbrev pub switched_type : ℕ → Row ValType → Option FuncType → InstrType
switched_type x us (Some u) = fixed (us ▹ nullable x) (row_of u.params)
switched_type x us None = untyped

abbrev pub switch_to : Context → ℕ → Row ValType → HeapType → InstrType
switch_to c x us (Index y) = switched_type x us (cont_of c y)
switch_to c x us h = untyped

-- x is cont [t1* (ref null? y)] to [u1*]
abbrev pub switch_type : Context → ℕ → Row ValType → InstrType
switch_type c x (us ▹ Ref r) = switch_to c x us r.heap
switch_type c x (us ▹ I32) = untyped
switch_type c x (us ▹ I64) = untyped
switch_type c x ε = untyped

abbrev pub params_of : Option FuncType → Row ValType
params_of (Some t) = row_of t.params
params_of None = ε

abbrev pub switching_op_type : Context → SwitchingOp → InstrType
switching_op_type c (switching.ContNew x) = cont_new_type x (func_index_of_cont c x)
switching_op_type c (switching.ContBind x y) = cont_bind_type x y (cont_of c x) (cont_of c y)
switching_op_type c (switching.Suspend e) = call_type (type_of_tag c e)
switching_op_type c (switching.Resume x hs) = resume_type x (cont_of c x)
switching_op_type c (switching.Switch x e) = switch_type c x (params_of (cont_of c x))

-- ## The table

abbrev pub instr_type : Context → List Bool → Op → InstrType
instr_type c s (op.Control o) = control_op_type c o
instr_type c s (op.Parametric o) = parametric_op_type c o
instr_type c s (op.Variable o) = variable_op_type c s o
instr_type c s (op.Table o) = table_op_type c o
instr_type c s (op.Memory o) = memory_op_type c o
instr_type c s (op.Numeric o) = numeric_op_type o
instr_type c s (op.Reference o) = reference_op_type c o
instr_type c s (op.Switching o) = switching_op_type c o

abbrev pub sets_local : VariableOp → List Bool → List Bool
sets_local (variable.LocalSet x) s = slice_set s x true
sets_local (variable.LocalTee x) s = slice_set s x true
sets_local (variable.LocalGet x) s = s
sets_local (variable.GlobalGet x) s = s
sets_local (variable.GlobalSet x) s = s

-- the locals that are set after an instruction
abbrev pub sets : Op → List Bool → List Bool
sets (op.Control o) s = s
sets (op.Parametric o) s = s
sets (op.Variable o) s = sets_local o s
sets (op.Table o) s = s
sets (op.Memory o) s = s
sets (op.Numeric o) s = s
sets (op.Reference o) s = s
sets (op.Switching o) s = s
