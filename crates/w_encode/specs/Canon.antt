-- The canonical spelling of a module: of all spellings, the one that is written (Core, binary format, modules).
use Rattle.std.specs.Prelude.{ℕ, cond, List, [], ◌∷◌, ◌++◌, Option, Some, None, length}
use Rattle.w_leb.specs.Number.{shortest}
use Rattle.w_leb.specs.CanonicalLaws.{vec_written, sized_written}
use Rattle.w_syntax.specs.declared.locals.LocalRun.{LocalRun}
use Rattle.w_syntax.specs.declared.module.Func.{Func}
use Rattle.w_syntax.specs.declared.module.Module.{Module}
use Rattle.w_syntax.specs.Module.{header, any_uses_data}
use Rattle.w_encode.specs.TypesWritten.{valtype_written, rectype_written, limits_written}
use Rattle.w_encode.specs.InstructionsWritten.{expr_written}
use Rattle.w_encode.specs.FieldsWritten.{import_written, tag_written, export_written, table_written, global_written, elem_written, data_written}

-- ## Functions

abbrev pub run_written : LocalRun → List ℕ
run_written r = shortest r.count ++ valtype_written r.kind

-- the runs of locals as they stand in the module, where neighbours are joined, and the body
abbrev pub func_written : Func → List ℕ
func_written f = vec_written run_written f.locals ++ expr_written f.body

abbrev pub code_written : Func → List ℕ
code_written f = sized_written func_written f

-- ## Sections

-- a list, where it is not empty
abbrev pub list_section : {A : Type 0} → ℕ → (A → List ℕ) → List A → List ℕ
list_section id w [] = []
list_section id w (x ∷ xs) = id ∷ sized_written (vec_written w) (x ∷ xs)

-- a number, where there is one
abbrev pub number_section : ℕ → Option ℕ → List ℕ
number_section id None = []
number_section id (Some n) = id ∷ sized_written shortest n

-- the number of data segments, where some body names one
abbrev pub data_count : Module → Option ℕ
data_count m = cond (any_uses_data m.codes) (Some (length m.datas)) None

-- The canonical spelling.
abbrev pub Canon : Module → List ℕ
Canon m =
    header
    ++ (list_section 0x01 rectype_written m.types
    ++ (list_section 0x02 import_written m.imports
    ++ (list_section 0x03 shortest m.functions
    ++ (list_section 0x04 table_written m.tables
    ++ (list_section 0x05 limits_written m.memories
    ++ (list_section 0x0D tag_written m.tags
    ++ (list_section 0x06 global_written m.globals
    ++ (list_section 0x07 export_written m.exports
    ++ (number_section 0x08 m.start
    ++ (list_section 0x09 elem_written m.elements
    ++ (number_section 0x0C (data_count m)
    ++ (list_section 0x0A code_written m.codes
    ++ list_section 0x0B data_written m.datas))))))))))))
