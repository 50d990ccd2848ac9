-- What a run of the module of a script begins with: its store and its term.
use Rattle.std.specs.Prelude.{List, [], ◌∷◌, codes, length, map, replicate}
use Rattle.lists.specs.Rows.{ε}
use Rattle.w_syntax.specs.Code.{Done}
use Rattle.w_syntax.specs.declared.module.Table as syntax_table
use Rattle.w_syntax.specs.declared.module.Tag.{Tag}
use Rattle.w_tables.specs.declared.entries.FuncEntry.TheVariants as entry_of
use Rattle.w_tables.specs.declared.entries.Printer.TheVariants as printer
use Rattle.w_reduce.specs.Values.{Val, Null}
use Rattle.w_reduce.specs.Store.{Store, Table}
use Rattle.w_reduce.specs.Terms.{Term, Invoke}
use Rattle.w_reduce.specs.Start.{own}
use Rattle.s_syntax.specs.declared.script.Declaration.{Declaration}
use Rattle.s_index.specs.Handled.{handled}
use Rattle.s_index.specs.Numbers.{function_index}
use Rattle.s_code.specs.Lowered.{lowered_all}

-- the segment of the functions that are handled is dropped
abbrev pub segments_left : List Declaration → List (List Val)
segments_left [] = []
segments_left (d ∷ ds) = [] ∷ []

-- a table of slots, all of which are empty
abbrev pub empty_table : syntax_table.Table → Table
empty_table t = record { elements = replicate t.kind.limits.min Null; max = t.kind.limits.max }

-- the printer, the module's functions, its tables and the tags' types, with these segments
abbrev pub store_with : List Declaration → List (List Val) → Store
store_with ds segments = record {
  functions = entry_of.Printer printer.I64 ∷ own (length (lowered_all ds).functions);
  tables = map empty_table (lowered_all ds).tables;
  memories = [];
  globals = [];
  tags = map (λ (t : Tag). t.type_index) (lowered_all ds).tags;
  elements = segments;
  datas = [];
  conts = [];
}

-- the first store
abbrev pub first_store : List Declaration → Store
first_store ds = store_with ds (segments_left (handled ds))

-- the first term: main is invoked
abbrev pub first_term : List Declaration → Term
first_term ds = record { around = []; operands = ε; rest = record { ahead = Invoke (function_index ds (codes "main")) ∷ []; code = Done } }
