-- What a flow of the program stands for.
use Rattle.std.specs.Prelude.{Bool, true, false, List, Option, Some, None, if◌then◌else◌}
use Rattle.lists.specs.Rows.{Row, ε}
use Rattle.w_canon.specs.declared.entry.Entry.{Entry}
use Rattle.w_rules.specs.Operands.{Operand}
use Rattle.w_rows.specs.declared.operand.Operand as code
use Rattle.w_rows.specs.Operands.{type_of, row_in, AreWorded}
use Rattle.w_flow.specs.declared.flow.Flow as program
use Rattle.w_flow.specs.Flow.{Flow}

abbrev pub flow_view : program.Flow → Flow
flow_view f = record { any = f.any; operands = row_in f.operands }

-- the words of the operands are those of their types
abbrev pub HasWords : List Entry → program.Flow → Type 0
HasWords es f = AreWorded es f.operands

-- the flow, where the answer is true
abbrev pub flow_if : Bool → program.Flow → Option Flow
flow_if b f = if b then Some (flow_view f) else None

-- these operands and no others
abbrev pub reached : Row Operand → Flow
reached ts = record { any = false; operands = ts }

-- any operands
abbrev pub anything : Flow
anything = record { any = true; operands = ε }

-- what was taken, with the operands beneath
abbrev pub with_rest : {A : Type 0} → Row Operand → Option A → Option (Row Operand × A)
with_rest rest None = None
with_rest rest (Some x) = Some (rest, x)

-- the same, with an operand's type
abbrev pub with_type : Row Operand → Option code.Operand → Option (Row Operand × Operand)
with_type rest None = None
with_type rest (Some x) = Some (rest, type_of x)
