-- Where the names of functions and handlers are among their locals: the parameters first, then the names that their bodies bind, and
-- then the temporaries.
use Rattle.std.specs.Prelude.{ℕ, ◌+◌, max, List, [], ◌∷◌, ◌++◌, map, length, Some, None}
use Rattle.w_types.specs.declared.types.ValType.{ValType}
use Rattle.w_types.specs.declared.types.ValType.TheVariants.{I64}
use Rattle.w_syntax.specs.declared.locals.LocalRun.{LocalRun}
use Rattle.w_syntax.specs.Locals.{joined}
use Rattle.s_syntax.specs.declared.name.Name.{Name}
use Rattle.s_syntax.specs.declared.script.Function.{Function}
use Rattle.s_syntax.specs.declared.script.Clause.{Clause}
use Rattle.s_syntax.specs.declared.script.Handler.{Handler}
use Rattle.s_syntax.specs.declared.script.Declaration.{Declaration}
use Rattle.s_syntax.specs.declared.statement.Use.{Use}
use Rattle.s_syntax.specs.declared.statement.Use.TheVariants as use_for
use Rattle.s_syntax.specs.BlockTree.{StatementTree, BlockTree, Evaluate, If, While, Fail, Spawn, Done, ◌⨟◌}
use Rattle.s_check.specs.Definitions.{slots_of}
use Rattle.s_check.specs.Rules.{handler_of_slots}
use Rattle.s_check.specs.Scopes.{Bound, number, parameter, resumption, coroutine}
use Rattle.s_index.specs.Types.{val_type}
use Rattle.s_code.specs.Handlers.{Placed}
use Rattle.s_code.specs.Layouts.{Layout, numbered}
use Rattle.s_code.specs.Temporaries.{high_block}

-- ## Names that statements bind, each with its type

abbrev pub binds_by : List Declaration → Use → List Bound
binds_by ds (use_for.Let x) = number x ∷ []
binds_by ds (use_for.Assign x) = []
binds_by ds use_for.Print = []
binds_by ds use_for.Return = []
binds_by ds use_for.Drop = []
binds_by ds (use_for.Store s k) = []
binds_by ds (use_for.Take k s) = resumption (handler_of_slots s (slots_of ds s)) k ∷ []
binds_by ds (use_for.Switch x u t) = number x ∷ coroutine u ∷ []

-- in order, those of all blocks within
abbrev mutual
  pub binds_of : List Declaration → StatementTree → List Bound
  binds_of ds (Evaluate u e) = binds_by ds u
  binds_of ds (If c a b) = binds_in ds a ++ binds_in ds b
  binds_of ds (While c b) = binds_in ds b
  binds_of ds Fail = []
  binds_of ds (Spawn t f) = coroutine t ∷ []

  pub binds_in : List Declaration → BlockTree → List Bound
  binds_in ds Done = []
  binds_in ds (s ⨟ b) = binds_of ds s ++ binds_in ds b

-- ## Functions

abbrev pub function_names : List Declaration → Function → List Bound
function_names ds f = map parameter f.parameters ++ binds_in ds f.body

abbrev pub function_layout : List Declaration → Function → Layout
function_layout ds f = record { names = numbered 0 (function_names ds f); temporaries = length (function_names ds f); owner = None }

-- ## Handlers

-- the return clause: the value, and what its body binds
abbrev pub return_names : List Declaration → Handler → List Bound
return_names ds i = number i.return_clause.value ∷ binds_in ds i.return_clause.body

-- a clause of the handler h: its arguments, the resumption, and what its body binds
abbrev pub clause_names : List Declaration → Name → Clause → List Bound
clause_names ds h c = map number c.arguments ++ resumption h c.resumption ∷ binds_in ds c.body

abbrev pub clauses_names : List Declaration → Name → List Clause → List Bound
clauses_names ds h [] = []
clauses_names ds h (c ∷ cs) = clause_names ds h c ++ clauses_names ds h cs

-- behind the parameters lies what is handled; then come the names of the return clause and of the clauses, each its own
abbrev pub return_place : Handler → ℕ
return_place i = length i.parameters + 1

abbrev pub clauses_place : List Declaration → Handler → ℕ
clauses_place ds i = return_place i + length (return_names ds i)

abbrev pub handler_temporaries : List Declaration → Name → Handler → ℕ
handler_temporaries ds h i = clauses_place ds i + length (clauses_names ds h i.clauses)

-- the parameters of the handler h, and these names from the local n on
abbrev pub layout_at : List Declaration → Name → Handler → ℕ → List Bound → Layout
layout_at ds h i n bs = record {
  names = numbered 0 (map parameter i.parameters) ++ numbered n bs;
  temporaries = handler_temporaries ds h i;
  owner = Some (record { name = h; parameters = length i.parameters });
}

abbrev pub return_layout : List Declaration → Name → Handler → Layout
return_layout ds h i = layout_at ds h i (return_place i) (return_names ds i)

-- the clauses, the names of the first one being from the local n on
abbrev pub placed_from : List Declaration → Name → Handler → ℕ → List Clause → List Placed
placed_from ds h i n [] = []
placed_from ds h i n (c ∷ cs) = record { clause = c; layout = layout_at ds h i n (clause_names ds h c) } ∷ placed_from ds h i (n + length (clause_names ds h c)) cs

abbrev pub placed_clauses : List Declaration → Name → Handler → List Placed
placed_clauses ds h i = placed_from ds h i (clauses_place ds i) i.clauses

-- ## Locals

abbrev pub run : ValType → ℕ → LocalRun
run t n = record { count = n; kind = t }

abbrev pub name_runs : List Bound → List LocalRun
name_runs bs = map (λ (b : Bound). run (val_type b.ty) 1) bs

-- one for each name, and so many temporaries
abbrev pub locals_for : List Bound → ℕ → List LocalRun
locals_for bs n = joined (name_runs bs ++ run I64 n ∷ [])

abbrev pub function_locals : List Declaration → Function → List LocalRun
function_locals ds f = locals_for (binds_in ds f.body) (high_block f.body)

abbrev pub high_clauses : List Clause → ℕ
high_clauses [] = 0
high_clauses (c ∷ cs) = max (high_block c.body) (high_clauses cs)

abbrev pub handler_locals : List Declaration → Name → Handler → List LocalRun
handler_locals ds h i = locals_for (return_names ds i ++ clauses_names ds h i.clauses) (max (high_block i.return_clause.body) (high_clauses i.clauses))
