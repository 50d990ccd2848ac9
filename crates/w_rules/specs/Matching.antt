-- Matching of operands (Core, validation, matching), among the types of these groups.
use Rattle.std.specs.Prelude.{Bool, IsTrue, List}
use Rattle.w_types.specs.declared.types.RecGroup.{RecGroup}
use Rattle.w_types.specs.declared.types.RefType.{RefType}
use Rattle.w_types.specs.declared.types.ValType.{ValType}
use Rattle.w_types.specs.declared.types.ValType.TheVariants.{Ref}
use Rattle.lists.specs.Rows.{Row, ε, ◌▹◌}
use Rattle.w_canon.specs.Matching.{ValMatches}
use Rattle.w_rules.specs.Operands.{Operand}
use Rattle.w_rules.specs.Operands.{Known, Bottom, BottomRef}

-- an operand of the first type stands where one of the second is wanted
pub data OperandMatches (gs : List RecGroup) : Operand → Operand → Type 0 where
  value : {t u : ValType} → ValMatches gs t u → OperandMatches gs (Known t) (Known u)
  bottom : {u : Operand} → OperandMatches gs Bottom u
  bottom_ref : {n : Bool} {r : RefType} → (IsTrue n → IsTrue r.nullable) → OperandMatches gs (BottomRef n) (Known (Ref r))
  bottom_refs : {n m : Bool} → (IsTrue n → IsTrue m) → OperandMatches gs (BottomRef n) (BottomRef m)

-- rows match type by type
pub data RowMatches (gs : List RecGroup) : Row Operand → Row Operand → Type 0 where
  none : RowMatches gs ε ε
  more : {ts us : Row Operand} {t u : Operand} → RowMatches gs ts us → OperandMatches gs t u → RowMatches gs (ts ▹ t) (us ▹ u)

-- the operands of value types
abbrev pub known : Row ValType → Row Operand
known ε = ε
known (ts ▹ t) = known ts ▹ Known t
