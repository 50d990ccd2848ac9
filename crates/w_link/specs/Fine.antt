-- Instruction types that take more and give less (Core, validation, matching).
use Rattle.std.specs.Prelude.{ℕ, List}
use Rattle.w_types.specs.declared.types.RecGroup.{RecGroup}
use Rattle.w_types.specs.declared.types.ValType.{ValType}
use Rattle.lists.specs.Rows.{Row}
use Rattle.w_rules.specs.InstructionTypes.{InstrType, fixed, polymorphic, table_polymorphic, drops, selects, tests_null, as_non_null, on_null, untyped}
use Rattle.w_rules.specs.Matching.{RowMatches, known}
use Rattle.w_link.specs.Shifted.{row_shifted, rows_shifted}

-- an instruction type of one file among those of all
abbrev pub instr_shifted : ℕ → InstrType → InstrType
instr_shifted n (fixed ins outs) = fixed (row_shifted n ins) (row_shifted n outs)
instr_shifted n (polymorphic ins) = polymorphic (row_shifted n ins)
instr_shifted n (table_polymorphic one others) = table_polymorphic (row_shifted n one) (rows_shifted n others)
instr_shifted n drops = drops
instr_shifted n selects = selects
instr_shifted n tests_null = tests_null
instr_shifted n as_non_null = as_non_null
instr_shifted n (on_null us) = on_null (row_shifted n us)
instr_shifted n untyped = untyped

-- What has the first type has the second: they are the same, or operands match on both sides.
pub data Fine (gs : List RecGroup) : InstrType → InstrType → Type 0 where
  same : {l : InstrType} → Fine gs l l
  below : {ins outs more less : Row ValType} → RowMatches gs (known ins) (known more) → RowMatches gs (known less) (known outs)
      → Fine gs (fixed ins outs) (fixed more less)
  below_any : {ins more : Row ValType} → RowMatches gs (known ins) (known more) → Fine gs (polymorphic ins) (polymorphic more)
  -- an instruction that no rule types has no type
  nothing : {l : InstrType} → Fine gs untyped l
