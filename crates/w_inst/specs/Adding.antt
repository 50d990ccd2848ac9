-- A store with more of one kind.
use Rattle.std.specs.Prelude.{ℕ, List, ◌++◌}
use Rattle.w_memory.specs.Memory.{Memory}
use Rattle.w_tables.specs.declared.entries.FuncEntry.{FuncEntry}
use Rattle.w_reduce.specs.Values.{Val}
use Rattle.w_reduce.specs.Store.{Store, Table}

abbrev pub with_functions : Store → List FuncEntry → Store
with_functions s fs = record s { functions = s.functions ++ fs }

abbrev pub with_tables : Store → List Table → Store
with_tables s ts = record s { tables = s.tables ++ ts }

abbrev pub with_memories : Store → List Memory → Store
with_memories s ms = record s { memories = s.memories ++ ms }

abbrev pub with_globals : Store → List Val → Store
with_globals s vs = record s { globals = s.globals ++ vs }

abbrev pub with_tags : Store → List ℕ → Store
with_tags s ts = record s { tags = s.tags ++ ts }

abbrev pub with_elements : Store → List (List Val) → Store
with_elements s es = record s { elements = s.elements ++ es }

abbrev pub with_datas : Store → List (List ℕ) → Store
with_datas s ds = record s { datas = s.datas ++ ds }
