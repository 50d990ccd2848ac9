-- The functions of the host that imports name.
use Rattle.std.specs.Prelude.{ℕ, suc, Bool, true, false, ◌&&◌, List, [], ◌∷◌, codes, if◌then◌else◌, Option, Some, None}
use Rattle.std.specs.Str.{bytes_eq}
use Rattle.w_types.specs.declared.types.FuncType.{FuncType}
use Rattle.w_types.specs.declared.types.ValType.{ValType}
use Rattle.w_types.specs.declared.types.ValType.TheVariants as val
use Rattle.w_syntax.specs.Functions.{func_type}
use Rattle.w_syntax.specs.declared.module.ExternType.{ExternType}
use Rattle.w_syntax.specs.declared.module.ExternType.TheVariants as imported
use Rattle.w_syntax.specs.declared.module.Import.{Import}
use Rattle.w_syntax.specs.declared.module.Module.{Module}
use Rattle.w_tables.specs.declared.entries.Printer.{Printer}
use Rattle.w_tables.specs.declared.entries.Printer.TheVariants as printer

-- the host's function of this name
abbrev pub printer_named : List ℕ → Option Printer
printer_named name =
    if bytes_eq name (codes "print_i32") then Some printer.I32
    else (if bytes_eq name (codes "print_i64") then Some printer.I64
    else (if bytes_eq name (codes "print_byte") then Some printer.Byte else None))

-- just one i32, and just one i64
abbrev pub is_i32 : List ValType → Bool
is_i32 (val.I32 ∷ []) = true
is_i32 _ = false

abbrev pub is_i64 : List ValType → Bool
is_i64 (val.I64 ∷ []) = true
is_i64 _ = false

abbrev pub are_none : List ValType → Bool
are_none [] = true
are_none (t ∷ ts) = false

-- what a function of the host takes; it gives nothing
abbrev pub are_taken_by : Printer → List ValType → Bool
are_taken_by printer.I32 = is_i32
are_taken_by printer.I64 = is_i64
are_taken_by printer.Byte = is_i32

-- the function, where its type is this one
abbrev pub of_type : Option Printer → Option FuncType → Option Printer
of_type None t = None
of_type (Some p) None = None
of_type (Some p) (Some t) = if are_taken_by p t.params && are_none t.results then Some p else None

-- of this name and this type
abbrev pub printer_as : Module → List ℕ → ExternType → Option Printer
printer_as m name (imported.Func x) = of_type (printer_named name) (func_type m x)
printer_as m name _ = None

-- the function that an import names, from module `host`
abbrev pub printer_of : Module → Import → Option Printer
printer_of m i = if bytes_eq i.module_name (codes "host") then printer_as m i.item_name i.kind else None

-- all of them, or the number of the first import that names none
pub data Found : Type 0 where
  All : List Printer → Found
  Missing : ℕ → Found

abbrev pub and_first : Option Printer → Found → Found
and_first None found = Missing 0
and_first (Some p) (All ps) = All (p ∷ ps)
and_first (Some p) (Missing i) = Missing (suc i)

abbrev pub printers_of : Module → List Import → Found
printers_of m [] = All []
printers_of m (i ∷ is) = and_first (printer_of m i) (printers_of m is)
