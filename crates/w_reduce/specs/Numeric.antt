-- Numeric instructions (Core, execution, numeric instructions).
use Rattle.std.specs.Prelude.{ℕ, Result, Ok}
use Rattle.lists.specs.Rows.{Row, ◌▹◌}
use Rattle.w_syntax.specs.Code.{Code}
use Rattle.w_syntax.specs.declared.numeric.IntType.{IntType}
use Rattle.w_syntax.specs.declared.numeric.IntType.TheVariants as int
use Rattle.w_syntax.specs.declared.numeric.Unop.{Unop}
use Rattle.w_syntax.specs.declared.numeric.Unop.TheVariants as unary
use Rattle.w_syntax.specs.declared.numeric.Binop.{Binop}
use Rattle.w_syntax.specs.declared.numeric.Binop.TheVariants as binary
use Rattle.w_syntax.specs.declared.numeric.Relop.{Relop}
use Rattle.w_syntax.specs.declared.numeric.Relop.TheVariants as relation
use Rattle.w_syntax.specs.declared.numeric.Cvtop.{Cvtop}
use Rattle.w_syntax.specs.declared.numeric.Cvtop.TheVariants as conversion
use Rattle.w_syntax.specs.declared.numeric.NumericOp.{NumericOp}
use Rattle.w_syntax.specs.declared.numeric.NumericOp.TheVariants as numeric
use Rattle.w_num.specs.declared.fault.NumFault.{NumFault}
use Rattle.w_num.specs.Signed.{inverse}
use Rattle.w_num.specs.Arithmetic.{iadd, isub, imul}
use Rattle.w_num.specs.Division.{idiv_s, idiv_u, irem_s, irem_u}
use Rattle.w_num.specs.Bits.{iclz, ictz, ipopcnt, iand, ior, ixor}
use Rattle.w_num.specs.Shifts.{ishl, ishr_s, ishr_u, irotl, irotr}
use Rattle.w_num.specs.Comparisons.{ieqz, ieq, ine, ilt_s, ilt_u, igt_s, igt_u, ile_s, ile_u, ige_s, ige_u}
use Rattle.w_num.specs.Conversions.{wrap, extend_s, extend_u, iextend_s}
use Rattle.w_reduce.specs.Values.{Val, I32, I64}
use Rattle.w_reduce.specs.Store.{Store}
use Rattle.w_reduce.specs.Terms.{rest_of, Context}
use Rattle.w_reduce.specs.Reduced.{Reduced, steps_to, ◌>>=◌, take_number, number, unless_fault}

-- |t|, the width of a type in bits
abbrev pub width : IntType → ℕ
width int.I32 = 32
width int.I64 = 64

-- unop_t
abbrev pub unop : Unop → ℕ → ℕ → ℕ
unop unary.Clz = iclz
unop unary.Ctz = ictz
unop unary.Popcnt = ipopcnt

-- binop_t: there is no result where a divisor is 0 or a quotient has no place
abbrev pub binop : Binop → ℕ → ℕ → ℕ → Result ℕ NumFault
binop binary.Add N a b = Ok (iadd N a b)
binop binary.Sub N a b = Ok (isub N a b)
binop binary.Mul N a b = Ok (imul N a b)
binop binary.DivS N a b = idiv_s N a b
binop binary.DivU N a b = idiv_u N a b
binop binary.RemS N a b = irem_s N a b
binop binary.RemU N a b = irem_u N a b
binop binary.And N a b = Ok (iand N a b)
binop binary.Or N a b = Ok (ior N a b)
binop binary.Xor N a b = Ok (ixor N a b)
binop binary.Shl N a b = Ok (ishl N a b)
binop binary.ShrS N a b = Ok (ishr_s N a b)
binop binary.ShrU N a b = Ok (ishr_u N a b)
binop binary.Rotl N a b = Ok (irotl N a b)
binop binary.Rotr N a b = Ok (irotr N a b)

-- relop_t
abbrev pub relop : Relop → ℕ → ℕ → ℕ → ℕ
relop relation.Eq = ieq
relop relation.Ne = ine
relop relation.LtS = ilt_s
relop relation.LtU = ilt_u
relop relation.GtS = igt_s
relop relation.GtU = igt_u
relop relation.LeS = ile_s
relop relation.LeU = ile_u
relop relation.GeS = ige_s
relop relation.GeU = ige_u

-- the type that a conversion takes, and the one that it gives
abbrev pub taken_by : Cvtop → IntType
taken_by conversion.I32WrapI64 = int.I64
taken_by conversion.I64ExtendI32S = int.I32
taken_by conversion.I64ExtendI32U = int.I32
taken_by conversion.I32Extend8S = int.I32
taken_by conversion.I32Extend16S = int.I32
taken_by conversion.I64Extend8S = int.I64
taken_by conversion.I64Extend16S = int.I64
taken_by conversion.I64Extend32S = int.I64

abbrev pub given_by : Cvtop → IntType
given_by conversion.I32WrapI64 = int.I32
given_by conversion.I64ExtendI32S = int.I64
given_by conversion.I64ExtendI32U = int.I64
given_by conversion.I32Extend8S = int.I32
given_by conversion.I32Extend16S = int.I32
given_by conversion.I64Extend8S = int.I64
given_by conversion.I64Extend16S = int.I64
given_by conversion.I64Extend32S = int.I64

-- cvtop, and the unary operators that extend a part
abbrev pub cvtop : Cvtop → ℕ → ℕ
cvtop conversion.I32WrapI64 = wrap 64 32
cvtop conversion.I64ExtendI32S = extend_s 32 64
cvtop conversion.I64ExtendI32U = extend_u 32 64
cvtop conversion.I32Extend8S = iextend_s 8 32
cvtop conversion.I32Extend16S = iextend_s 16 32
cvtop conversion.I64Extend8S = iextend_s 8 64
cvtop conversion.I64Extend16S = iextend_s 16 64
cvtop conversion.I64Extend32S = iextend_s 32 64

abbrev pub numeric_op : Store → Context → Row Val → NumericOp → Code → Reduced
-- (i32.const z)  ↪  c,  (i64.const z)  ↪  c
numeric_op s e vs (numeric.I32Const z) c = steps_to s e (vs ▹ I32 (inverse 32 z)) (rest_of c)
numeric_op s e vs (numeric.I64Const z) c = steps_to s e (vs ▹ I64 (inverse 64 z)) (rest_of c)
-- [Step_pure/testop]
-- (t.const a) t.eqz  ↪  (i32.const c)
numeric_op s e vs (numeric.Eqz t) c = do
  (vs, a) ← take_number t vs
  steps_to s e (vs ▹ I32 (ieqz (width t) a)) (rest_of c)
-- [Step_pure/relop]
-- (t.const a) (t.const b) t.relop  ↪  (i32.const c)
numeric_op s e vs (numeric.Compare t o) c = do
  (vs, b) ← take_number t vs
  (vs, a) ← take_number t vs
  steps_to s e (vs ▹ I32 (relop o (width t) a b)) (rest_of c)
-- [Step_pure/unop-val]
-- (t.const a) t.unop  ↪  (t.const c)
numeric_op s e vs (numeric.Unary t o) c = do
  (vs, a) ← take_number t vs
  steps_to s e (vs ▹ number t (unop o (width t) a)) (rest_of c)
-- [Step_pure/binop-val, binop-trap]
-- (t.const a) (t.const b) t.binop  ↪  (t.const c), or a trap
numeric_op s e vs (numeric.Binary t o) c = do
  (vs, b) ← take_number t vs
  (vs, a) ← take_number t vs
  r ← unless_fault (binop o (width t) a b)
  steps_to s e (vs ▹ number t r) (rest_of c)
-- [Step_pure/cvtop-val]
-- (t.const a) t'.cvtop_t  ↪  (t'.const c)
numeric_op s e vs (numeric.Convert o) c = do
  (vs, a) ← take_number (taken_by o) vs
  steps_to s e (vs ▹ number (given_by o) (cvtop o a)) (rest_of c)
