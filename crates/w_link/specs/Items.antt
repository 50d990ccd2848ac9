-- What a file defines, with addresses in the place of indices (Core, execution, allocation of modules).
use Rattle.std.specs.Prelude.{ℕ, ◌+◌, map, option_map}
use Rattle.w_syntax.specs.declared.module.Data as syntax_data
use Rattle.w_syntax.specs.declared.module.DataMode.{DataMode}
use Rattle.w_syntax.specs.declared.module.DataMode.TheVariants as data_mode
use Rattle.w_syntax.specs.declared.module.Elem as syntax_elem
use Rattle.w_syntax.specs.declared.module.ElemMode.{ElemMode}
use Rattle.w_syntax.specs.declared.module.ElemMode.TheVariants as elem_mode
use Rattle.w_syntax.specs.declared.module.Export.{Export}
use Rattle.w_syntax.specs.declared.module.ExternIndex.{ExternIndex}
use Rattle.w_syntax.specs.declared.module.ExternIndex.TheVariants as index
use Rattle.w_syntax.specs.declared.module.Func.{Func}
use Rattle.w_syntax.specs.declared.module.GlobalType.{GlobalType}
use Rattle.w_syntax.specs.declared.module.GlobalVariable.{GlobalVariable}
use Rattle.w_syntax.specs.declared.module.Table as syntax_table
use Rattle.w_syntax.specs.declared.module.TableType.{TableType}
use Rattle.w_syntax.specs.declared.module.Tag.{Tag}
use Rattle.w_link.specs.Shifted.{ref_shifted, type_shifted}
use Rattle.w_link.specs.Resolved.{Instance, at, run_shifted, code_resolved}

-- ## Types of what is defined

abbrev pub table_type_shifted : ℕ → TableType → TableType
table_type_shifted n t = record { element = ref_shifted n t.element; limits = t.limits }

abbrev pub global_type_shifted : ℕ → GlobalType → GlobalType
global_type_shifted n g = record { kind = type_shifted n g.kind; mutability = g.mutability }

abbrev pub tag_shifted : ℕ → Tag → Tag
tag_shifted n t = record { type_index = n + t.type_index }

-- ## Tables, globals, exports, segments and functions

abbrev pub resolved_table : Instance → syntax_table.Table → syntax_table.Table
resolved_table i t = record { kind = table_type_shifted i.types t.kind; init = option_map (code_resolved i) t.init }

abbrev pub resolved_global : Instance → GlobalVariable → GlobalVariable
resolved_global i g = record { kind = global_type_shifted i.types g.kind; init = code_resolved i g.init }

abbrev pub resolved_index : Instance → ExternIndex → ExternIndex
resolved_index i (index.Func x) = index.Func (at i.functions x)
resolved_index i (index.Table x) = index.Table (at i.tables x)
resolved_index i (index.Memory x) = index.Memory (at i.memories x)
resolved_index i (index.Global x) = index.Global (at i.globals x)
resolved_index i (index.Tag x) = index.Tag (at i.tags x)

abbrev pub resolved_export : Instance → Export → Export
resolved_export i e = record { name = e.name; index = resolved_index i e.index }

abbrev pub resolved_elem_mode : Instance → ElemMode → ElemMode
resolved_elem_mode i (elem_mode.Active x k) = elem_mode.Active (at i.tables x) (code_resolved i k)
resolved_elem_mode i elem_mode.Passive = elem_mode.Passive
resolved_elem_mode i elem_mode.Declarative = elem_mode.Declarative

abbrev pub resolved_elem : Instance → syntax_elem.Elem → syntax_elem.Elem
resolved_elem i e = record { kind = ref_shifted i.types e.kind; items = map (code_resolved i) e.items; mode = resolved_elem_mode i e.mode }

abbrev pub resolved_data_mode : Instance → DataMode → DataMode
resolved_data_mode i (data_mode.Active x k) = data_mode.Active (at i.memories x) (code_resolved i k)
resolved_data_mode i data_mode.Passive = data_mode.Passive

abbrev pub resolved_data : Instance → syntax_data.Data → syntax_data.Data
resolved_data i d = record { bytes = d.bytes; mode = resolved_data_mode i d.mode }

abbrev pub resolved_func : Instance → Func → Func
resolved_func i f = record { locals = map (run_shifted i.types) f.locals; body = code_resolved i f.body }
