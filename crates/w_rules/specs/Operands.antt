-- The types of operands (Core, validation, value types): a value type, or one that only code which cannot be reached makes. Bottom is
-- below all types, and a reference to the bottom heap type is below all references that may be null where it may.
use Rattle.std.specs.Prelude.{Bool}
use Rattle.w_types.specs.declared.types.ValType.{ValType}

pub data Operand : Type 0 where
  Known : ValType → Operand
  Bottom : Operand
  -- with whether it may be null
  BottomRef : Bool → Operand
