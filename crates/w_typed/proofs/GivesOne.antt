-- Instructions that take no operand and give one: so their types say.
use Rattle.std.proofs.Common.{◌≡◌, ◌+◌, ℕ, Bool, true, false, List, Option, Some, None, slice_get, refl, arith}
use Rattle.w_types.specs.declared.types.ValType.{ValType}
use Rattle.lists.specs.Rows.{Row, ε, ◌▹◌, size}
use Rattle.w_syntax.specs.declared.instructions.Op.{Op}
use Rattle.w_syntax.specs.declared.instructions.Op.TheVariants as op
use Rattle.w_syntax.specs.declared.instructions.ReferenceOp.TheVariants as reference
use Rattle.w_syntax.specs.declared.instructions.TableOp.TheVariants as table
use Rattle.w_syntax.specs.declared.instructions.VariableOp.TheVariants as variable
use Rattle.w_syntax.specs.declared.memory_instructions.MemoryOp.TheVariants as memory
use Rattle.w_syntax.specs.declared.module.GlobalType.{GlobalType}
use Rattle.w_syntax.specs.declared.module.TableType.{TableType}
use Rattle.w_syntax.specs.declared.numeric.NumericOp.TheVariants as numeric
use Rattle.w_rules.specs.Context.{Context}
use Rattle.w_rules.specs.InstructionTypes.{InstrType, fixed, if_valid, get_type, global_get_type, ref_func_type, table_size_type, instr_type}
use Rattle.w_rules.specs.Operands.{Operand}
use Rattle.w_rules.specs.Peak.{net}
use Rattle.w_reduce.specs.Room.{gives_one}
use Rattle.w_typed.proofs.OperandCounts.{leaves}
use Rattle.w_typed.proofs.Low.{Counts}

-- what comes behind is reached
pub gives_stays : (o : Op) → gives_one o ≡ true → leaves o ≡ false
gives_stays (op.Control o) is = absurd (cc)
gives_stays (op.Parametric o) is = absurd (cc)
gives_stays (op.Variable o) is = refl
gives_stays (op.Memory o) is = refl
gives_stays (op.Table o) is = refl
gives_stays (op.Numeric o) is = refl
gives_stays (op.Reference o) is = refl
gives_stays (op.Switching o) is = absurd (cc)

-- where it is typed, it takes none and gives one
abbrev IsOne : InstrType → Type 0
IsOne it = (n : ℕ × ℕ) → net it ≡ Some n → n ≡ (0, 1)

if_one : (b : Bool) (t : ValType) → IsOne (if_valid b (fixed ε (ε ▹ t)))
if_one true t n is = cc
if_one false t n is = absurd (cc)

get_one : (t : Option ValType) (b : Option Bool) → IsOne (get_type t b)
get_one None b n is = absurd (cc)
get_one (Some t) None n is = absurd (cc)
get_one (Some t) (Some false) n is = absurd (cc)
get_one (Some t) (Some true) n is = cc

global_one : (g : Option GlobalType) → IsOne (global_get_type g)
global_one None n is = absurd (cc)
global_one (Some g) n is = cc

func_one : (y : Option ℕ) (b : Option Bool) → IsOne (ref_func_type y b)
func_one None b n is = absurd (cc)
func_one (Some y) None n is = absurd (cc)
func_one (Some y) (Some false) n is = absurd (cc)
func_one (Some y) (Some true) n is = cc

size_one : (t : Option TableType) → IsOne (table_size_type t)
size_one None n is = absurd (cc)
size_one (Some t) n is = cc

module _ (c : Context) (s : List Bool) where
  gives_type : (o : Op) → gives_one o ≡ true → IsOne (instr_type c s o)
  gives_type (op.Control o) g n is = absurd (cc)
  gives_type (op.Parametric o) g n is = absurd (cc)
  gives_type (op.Switching o) g n is = absurd (cc)
  gives_type (op.Numeric (numeric.I32Const z)) g n is = cc
  gives_type (op.Numeric (numeric.I64Const z)) g n is = cc
  gives_type (op.Numeric (numeric.Eqz t)) g n is = absurd (cc)
  gives_type (op.Numeric (numeric.Compare t o)) g n is = absurd (cc)
  gives_type (op.Numeric (numeric.Unary t o)) g n is = absurd (cc)
  gives_type (op.Numeric (numeric.Binary t o)) g n is = absurd (cc)
  gives_type (op.Numeric (numeric.Convert o)) g n is = absurd (cc)
  gives_type (op.Variable (variable.LocalGet x)) g n is = get_one (slice_get c.locals x) (slice_get s x) n is
  gives_type (op.Variable (variable.LocalSet x)) g n is = absurd (cc)
  gives_type (op.Variable (variable.LocalTee x)) g n is = absurd (cc)
  gives_type (op.Variable (variable.GlobalGet x)) g n is = global_one (slice_get c.globals x) n is
  gives_type (op.Variable (variable.GlobalSet x)) g n is = absurd (cc)
  gives_type (op.Reference (reference.Null h)) g n is = if_one _ _ n is
  gives_type (op.Reference reference.IsNull) g n is = absurd (cc)
  gives_type (op.Reference (reference.Func x)) g n is = func_one (slice_get c.functions x) (slice_get c.declared x) n is
  gives_type (op.Reference reference.AsNonNull) g n is = absurd (cc)
  gives_type (op.Memory (memory.Load o a)) g n is = absurd (cc)
  gives_type (op.Memory (memory.Store o a)) g n is = absurd (cc)
  gives_type (op.Memory (memory.Size x)) g n is = if_one _ _ n is
  gives_type (op.Memory (memory.Grow x)) g n is = absurd (cc)
  gives_type (op.Memory (memory.Init d x)) g n is = absurd (cc)
  gives_type (op.Memory (memory.DataDrop d)) g n is = absurd (cc)
  gives_type (op.Memory (memory.Copy x y)) g n is = absurd (cc)
  gives_type (op.Memory (memory.Fill x)) g n is = absurd (cc)
  gives_type (op.Table (table.Get x)) g n is = absurd (cc)
  gives_type (op.Table (table.Set x)) g n is = absurd (cc)
  gives_type (op.Table (table.Init y x)) g n is = absurd (cc)
  gives_type (op.Table (table.ElemDrop y)) g n is = absurd (cc)
  gives_type (op.Table (table.Copy x y)) g n is = absurd (cc)
  gives_type (op.Table (table.Grow x)) g n is = absurd (cc)
  gives_type (op.Table (table.Size x)) g n is = size_one (slice_get c.tables x) n is
  gives_type (op.Table (table.Fill x)) g n is = absurd (cc)

-- so one operand more stands behind it
pub gives_more : (c : Context) (s : List Bool) (o : Op) (ts ws : Row Operand) → gives_one o ≡ true → Counts (instr_type c s o) ts ws → size ws ≡ size ts + 1
gives_more c s o ts ws g k =
    let one = gives_type c s o g k.count k.is in
    let taken : k.count.0 ≡ 0 = cc in
    let given : k.count.1 ≡ 1 = cc in
    let all = k.gives in omega (arith, taken, given, all)
