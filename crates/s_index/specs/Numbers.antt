-- Where declarations stand in the module of a script. Effects, functions, handlers and slots are numbered each for themselves, in order of
-- declaration. A name's declaration is the first one.
use Rattle.std.specs.Prelude.{ℕ, ◌+◌, List, [], ◌∷◌, Option, Some, None, if◌then◌else◌}
use Rattle.std.specs.Str.{bytes_eq}
use Rattle.s_syntax.specs.declared.name.Name.{Name}
use Rattle.s_syntax.specs.declared.script.Parameter.{Parameter}
use Rattle.s_syntax.specs.declared.script.Slots.{Slots}
use Rattle.s_syntax.specs.declared.script.Definition.{Definition}
use Rattle.s_syntax.specs.declared.script.Definition.TheVariants as definition
use Rattle.s_syntax.specs.declared.script.Declaration.{Declaration}
use Rattle.s_check.specs.Definitions.{as_slots}
use Rattle.s_index.specs.declared.counts.Counts.{Counts}

abbrev pub no_counts : Counts
no_counts = record { effects = 0; functions = 0; handlers = 0; slots = 0 }

abbrev pub counted : Counts → Definition → Counts
counted n (definition.Effect k) = record n { effects = n.effects + 1 }
counted n (definition.Function f) = record n { functions = n.functions + 1 }
counted n (definition.Handler h) = record n { handlers = n.handlers + 1 }
counted n (definition.Slots s) = record n { slots = n.slots + 1 }

abbrev pub counted_all : Counts → List Declaration → Counts
counted_all n [] = n
counted_all n (d ∷ ds) = counted_all (counted n d.definition) ds

-- how many declarations there are of each kind
abbrev pub counts_of : List Declaration → Counts
counts_of ds = counted_all no_counts ds

-- the number of a definition behind so many others
abbrev pub number_behind : Counts → Definition → ℕ
number_behind n (definition.Effect k) = n.effects
number_behind n (definition.Function f) = n.functions
number_behind n (definition.Handler h) = n.handlers
number_behind n (definition.Slots s) = n.slots

-- a definition, and its number among those of its kind
pub record Entry : Type 0 where
  pub definition : Definition
  pub number : ℕ

abbrev pub entry_behind : Counts → List Declaration → Name → Option Entry
entry_behind n [] x = None
entry_behind n (d ∷ ds) x =
    if bytes_eq d.name x then Some (record { definition = d.definition; number = number_behind n d.definition })
    else entry_behind (counted n d.definition) ds x

abbrev pub entry_of : List Declaration → Name → Option Entry
entry_of ds x = entry_behind no_counts ds x

-- ## Indices in the module: function 0 is the printer; behind it stand the functions, and then the handlers, each a function; effects are tags,
-- behind which stands the tag of groups, and slots are tables

abbrev pub index_of_function : Definition → ℕ → ℕ
index_of_function (definition.Effect k) n = 0
index_of_function (definition.Function f) n = n + 1
index_of_function (definition.Handler h) n = 0
index_of_function (definition.Slots s) n = 0

abbrev pub index_of_handler : ℕ → Definition → ℕ → ℕ
index_of_handler first (definition.Effect k) n = 0
index_of_handler first (definition.Function f) n = 0
index_of_handler first (definition.Handler h) n = first + n
index_of_handler first (definition.Slots s) n = 0

abbrev pub index_of_tag : Definition → ℕ → ℕ
index_of_tag (definition.Effect k) n = n
index_of_tag (definition.Function f) n = 0
index_of_tag (definition.Handler h) n = 0
index_of_tag (definition.Slots s) n = 0

abbrev pub index_of_table : Definition → ℕ → ℕ
index_of_table (definition.Effect k) n = 0
index_of_table (definition.Function f) n = 0
index_of_table (definition.Handler h) n = 0
index_of_table (definition.Slots s) n = n

abbrev pub with_entry : (Definition → ℕ → ℕ) → Option Entry → ℕ
with_entry index None = 0
with_entry index (Some e) = index e.definition e.number

abbrev pub function_index : List Declaration → Name → ℕ
function_index ds f = with_entry index_of_function (entry_of ds f)

abbrev pub first_handler : List Declaration → ℕ
first_handler ds = (counts_of ds).functions + 1

abbrev pub handler_index : List Declaration → Name → ℕ
handler_index ds h = with_entry (index_of_handler (first_handler ds)) (entry_of ds h)

abbrev pub tag_index : List Declaration → Name → ℕ
tag_index ds op = with_entry index_of_tag (entry_of ds op)

-- coroutines switch on it
abbrev pub group_tag_index : List Declaration → ℕ
group_tag_index ds = (counts_of ds).effects

abbrev pub table_index : List Declaration → Name → ℕ
table_index ds s = with_entry index_of_table (entry_of ds s)

-- slots
abbrev pub slots_in : Option Entry → Option Slots
slots_in None = None
slots_in (Some e) = as_slots (Some e.definition)

-- the parameters of a function
abbrev pub parameters_in : Option Entry → List Parameter
parameters_in None = []
parameters_in (Some e) = parameters_of e.definition
  where
    parameters_of : Definition → List Parameter
    parameters_of (definition.Effect k) = []
    parameters_of (definition.Function f) = f.parameters
    parameters_of (definition.Handler h) = []
    parameters_of (definition.Slots s) = []
