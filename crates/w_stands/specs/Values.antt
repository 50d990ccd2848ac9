-- Values of the program, read as those of the definitions.
use Rattle.std.specs.Prelude.{List, [], ◌∷◌, map, Option}
use Rattle.std.specs.Option.{option_map}
use Rattle.lists.specs.Rows.{Row, ε, ◌▹◌}
use Rattle.w_types.specs.declared.value.Value.{Value}
use Rattle.w_tables.specs.Store as instances
use Rattle.w_reduce.specs.Values.{Val, val}
use Rattle.w_reduce.specs.Store.{Table, Store}

-- operands, the topmost first, as a row
abbrev pub stack : List Value → Row Val
stack [] = ε
stack (v ∷ vs) = stack vs ▹ val v

abbrev pub local_vals : List (Option Value) → List (Option Val)
local_vals ls = map (λ (o : Option Value). option_map val o) ls

abbrev pub vals : List Value → List Val
vals vs = map val vs

abbrev pub table_of : instances.Table → Table
table_of t = record { elements = vals t.elements; max = t.max }

-- the store of the definitions that one of the program stands for, but for its continuations, which stand in a store of their own
abbrev pub store_of : instances.Store → Store
store_of s = record {
  functions = s.functions;
  tables = map table_of s.tables;
  memories = s.memories;
  globals = vals s.globals;
  tags = s.tags;
  elements = map vals s.elems;
  datas = s.datas;
  conts = [];
}
