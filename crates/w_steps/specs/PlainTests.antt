-- What a plain instruction asks beside its type, as a test on the entries of the types.
use Rattle.std.specs.Prelude.{Bool, true, false, ◌&&◌, List, Option, Some, None, slice_get}
use Rattle.w_types.specs.declared.types.FuncType.{FuncType}
use Rattle.w_types.specs.declared.types.RefType.{RefType}
use Rattle.w_types.specs.declared.types.ValType.{ValType}
use Rattle.lists.specs.Rows.{Row, listed}
use Rattle.w_syntax.specs.declared.instructions.ControlOp.{ControlOp}
use Rattle.w_syntax.specs.declared.instructions.ControlOp.TheVariants as control
use Rattle.w_syntax.specs.declared.instructions.Op.{Op}
use Rattle.w_syntax.specs.declared.instructions.Op.TheVariants as op
use Rattle.w_syntax.specs.declared.instructions.TableOp.{TableOp}
use Rattle.w_syntax.specs.declared.instructions.TableOp.TheVariants as table
use Rattle.w_syntax.specs.declared.module.TableType.{TableType}
use Rattle.w_canon.specs.declared.entry.Entry.{Entry}
use Rattle.w_canon.specs.Tests.{ref_test, result_test}
use Rattle.w_rules.specs.Conditions.{funcref}
use Rattle.w_rules.specs.Context.{Context, func_of, type_of_func}

abbrev pub holds_functions : List Entry → Option TableType → Bool
holds_functions es (Some t) = ref_test es t.element funcref
holds_functions es None = false

-- the results of what is called match these
abbrev pub returns_test : List Entry → Row ValType → Option FuncType → Bool
returns_test es results (Some t) = result_test es t.results (listed results)
returns_test es results None = false

abbrev pub control_test : List Entry → Context → ControlOp → Bool
control_test es c (control.CallIndirect y x) = holds_functions es (slice_get c.tables x)
control_test es c (control.ReturnCall x) = returns_test es c.results (type_of_func c x)
control_test es c (control.ReturnCallIndirect y x) = holds_functions es (slice_get c.tables x) && returns_test es c.results (func_of c y)
control_test es c (control.ReturnCallRef y) = returns_test es c.results (func_of c y)
control_test es c o = true

abbrev pub init_test : List Entry → Option RefType → Option TableType → Bool
init_test es (Some r) (Some t) = ref_test es r t.element
init_test es (Some r) None = false
init_test es None o = false

abbrev pub copy_test : List Entry → Option TableType → Option TableType → Bool
copy_test es (Some t) (Some u) = ref_test es u.element t.element
copy_test es (Some t) None = false
copy_test es None o = false

abbrev pub table_test : List Entry → Context → TableOp → Bool
table_test es c (table.Init e x) = init_test es (slice_get c.elements e) (slice_get c.tables x)
table_test es c (table.Copy x y) = copy_test es (slice_get c.tables x) (slice_get c.tables y)
table_test es c o = true

abbrev pub condition_test : List Entry → Context → Op → Bool
condition_test es c (op.Control o) = control_test es c o
condition_test es c (op.Table o) = table_test es c o
condition_test es c o = true

-- what an instruction asks beside its type; one that switches stacks does not pass here
abbrev pub plain_test : List Entry → Context → Op → Bool
plain_test es c (op.Switching o) = false
plain_test es c o = condition_test es c o
