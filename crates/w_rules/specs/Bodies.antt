-- The types of bodies and of constant expressions (Core, validation, modules and constant expressions).
use Rattle.std.specs.Prelude.{Bool, true, false, ◌&&◌, IsTrue, List, [], ◌∷◌, ◌++◌, map, flat_map, replicate, Option, Some, None, slice_get}
use Rattle.w_types.specs.declared.types.ValType.{ValType}
use Rattle.w_types.specs.declared.types.ValType.TheVariants as val
use Rattle.lists.specs.Rows.{ε, row_of}
use Rattle.w_syntax.specs.Code.{Code, Done, Plain, Block, If, IfElse}
use Rattle.w_syntax.specs.declared.instructions.Op.{Op}
use Rattle.w_syntax.specs.declared.instructions.Op.TheVariants as op
use Rattle.w_syntax.specs.declared.instructions.ReferenceOp.TheVariants as reference
use Rattle.w_syntax.specs.declared.instructions.VariableOp.TheVariants as variable
use Rattle.w_syntax.specs.declared.locals.LocalRun.{LocalRun}
use Rattle.w_syntax.specs.declared.module.GlobalType.{GlobalType}
use Rattle.w_syntax.specs.declared.module.Mutability.{Mutability}
use Rattle.w_syntax.specs.declared.module.Mutability.TheVariants as mutability
use Rattle.w_syntax.specs.declared.numeric.Binop.{Binop}
use Rattle.w_syntax.specs.declared.numeric.Binop.TheVariants as binary
use Rattle.w_syntax.specs.declared.numeric.NumericOp.TheVariants as numeric
use Rattle.w_rules.specs.Context.{Context}
use Rattle.w_rules.specs.Matching.{known}
use Rattle.w_rules.specs.Spaces.{in_body}
use Rattle.w_rules.specs.Typing.{Derives}

-- ## Bodies

-- the types of the locals of these runs
abbrev pub types_of_runs : List LocalRun → List ValType
types_of_runs runs = flat_map (λ (run : LocalRun). replicate run.count run.kind) runs

-- a local of this type has a default value, so that it is set from the beginning
abbrev pub has_default : ValType → Bool
has_default val.I32 = true
has_default val.I64 = true
has_default (val.Ref r) = r.nullable

-- which locals are set where a body begins: the parameters, and those with a default value
abbrev pub set_first : List ValType → List LocalRun → List Bool
set_first params runs = map (λ (t : ValType). true) params ++ map has_default (types_of_runs runs)

-- the body takes no operands to these results
abbrev pub BodyTyped : Context → List ValType → List LocalRun → List ValType → Code → Type 0
BodyTyped c params runs results k =
    Derives (in_body c (params ++ types_of_runs runs) results) (set_first params runs) k ε (known (row_of results))

-- ## Constant expressions

abbrev pub is_const_binary : Binop → Bool
is_const_binary binary.Add = true
is_const_binary binary.Sub = true
is_const_binary binary.Mul = true
is_const_binary o = false

abbrev pub is_fixed : Mutability → Bool
is_fixed mutability.Const = true
is_fixed mutability.Var = false

abbrev pub is_const_global : Option GlobalType → Bool
is_const_global (Some g) = is_fixed g.mutability
is_const_global None = false

-- the instruction may stand in a constant expression
abbrev pub is_const : Context → Op → Bool
is_const c (op.Numeric (numeric.I32Const z)) = true
is_const c (op.Numeric (numeric.I64Const z)) = true
is_const c (op.Numeric (numeric.Binary t o)) = is_const_binary o
is_const c (op.Reference (reference.Null h)) = true
is_const c (op.Reference (reference.Func x)) = true
is_const c (op.Variable (variable.GlobalGet x)) = is_const_global (slice_get c.globals x)
is_const c o = false

abbrev pub all_const : Context → Code → Bool
all_const c Done = true
all_const c (Plain o k) = is_const c o && all_const c k
all_const c (Block kind x b k) = false
all_const c (If x b k) = false
all_const c (IfElse x b d k) = false

-- the expression is constant, and gives a value of this type
pub record ConstTyped (c : Context) (k : Code) (t : ValType) : Type 0 where
  pub constant : IsTrue (all_const c k)
  pub typed : BodyTyped c [] [] (t ∷ []) k
