-- Numbers in their ranges (Core, structure, values: bytes and integers). A module's bytes and constants are any whole numbers in these
-- definitions, and validity bounds neither, as the code's types do: so ranges are stated for modules whose numbers are in theirs.
use Rattle.std.specs.Prelude.{ℕ, ◌<◌, ◌^◌, All, List, Option, Some, None}
use Rattle.w_num.specs.Signed.{inverse}
use Rattle.w_syntax.specs.Code.{Code, Done, Plain, Block, If, IfElse}
use Rattle.w_syntax.specs.declared.instructions.Op.{Op}
use Rattle.w_syntax.specs.declared.instructions.Op.TheVariants as op
use Rattle.w_syntax.specs.declared.module.Data.{Data}
use Rattle.w_syntax.specs.declared.module.Elem.{Elem}
use Rattle.w_syntax.specs.declared.module.Func.{Func}
use Rattle.w_syntax.specs.declared.module.GlobalVariable.{GlobalVariable}
use Rattle.w_syntax.specs.declared.module.Module.{Module}
use Rattle.w_syntax.specs.declared.module.Table.{Table}
use Rattle.w_syntax.specs.declared.numeric.NumericOp.TheVariants as numeric

-- bytes
abbrev pub AreBytes : List ℕ → Type 0
AreBytes bytes = All (λ (b : ℕ). b < 256) bytes

-- where the instruction is a constant, its bits are in range
abbrev pub ConstantFits : Op → Type 0
ConstantFits (op.Numeric (numeric.I32Const z)) = inverse 32 z < 2 ^ 32
ConstantFits (op.Numeric (numeric.I64Const z)) = inverse 64 z < 2 ^ 64
ConstantFits o = Unit {0}

-- those of all constants in code
abbrev pub ConstantsFit : Code → Type 0
ConstantsFit Done = Unit {0}
ConstantsFit (Plain o k) = ConstantFits o × ConstantsFit k
ConstantsFit (Block kind x b k) = ConstantsFit b × ConstantsFit k
ConstantsFit (If x b k) = ConstantsFit b × ConstantsFit k
ConstantsFit (IfElse x b d k) = ConstantsFit b × ConstantsFit d × ConstantsFit k

-- those in the expression of a table, where it has one
abbrev pub InitFits : Option Code → Type 0
InitFits (Some k) = ConstantsFit k
InitFits None = Unit {0}

-- the numbers of a module that its values are made of: the bytes of its data, and the constants in bodies and in the expressions of
-- globals, tables and elements
pub record NumbersFit (m : Module) : Type 0 where
  pub datas : All (λ (d : Data). AreBytes d.bytes) m.datas
  pub bodies : All (λ (f : Func). ConstantsFit f.body) m.codes
  pub globals : All (λ (g : GlobalVariable). ConstantsFit g.init) m.globals
  pub tables : All (λ (t : Table). InitFits t.init) m.tables
  pub elements : All (λ (e : Elem). All ConstantsFit e.items) m.elements

-- below 2 ^ w, where those numbers are in range
abbrev pub IsBelow : Module → ℕ → ℕ → Type 0
IsBelow m n w = NumbersFit m → n < 2 ^ w
