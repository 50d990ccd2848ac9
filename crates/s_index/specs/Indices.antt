-- The types of the module of a script, and where they stand.
use Rattle.std.specs.Prelude.{ℕ, List, [], ◌∷◌}
use Rattle.w_types.specs.declared.types.CompType.{CompType}
use Rattle.w_types.specs.declared.types.CompType.TheVariants.{Cont}
use Rattle.s_syntax.specs.declared.name.Name.{Name}
use Rattle.s_syntax.specs.declared.script.Parameter.{Parameter}
use Rattle.s_syntax.specs.declared.script.Declaration.{Declaration}
use Rattle.s_index.specs.Handled.{handled}
use Rattle.s_index.specs.Numbers.{entry_of, parameters_in}
use Rattle.s_index.specs.Types.{place, with_types, first_types, function_type, handler_type, effect_type, clause_type, types_for_all}

-- the function types
abbrev pub function_types : List Declaration → List CompType
function_types ds = with_types first_types (types_for_all ds)

abbrev pub parameters_of : List Declaration → Name → List Parameter
parameters_of ds f = parameters_in (entry_of ds f)

abbrev pub continuation_of : List Declaration → List Parameter → CompType
continuation_of ds ps = Cont (place (function_type ps) (function_types ds))

-- behind them, for each function that is handled, the type of its continuations
abbrev pub continuations : List Declaration → List Declaration → List CompType
continuations ds [] = []
continuations ds (d ∷ es) = continuation_of ds (parameters_of ds d.name) ∷ continuations ds es

abbrev pub type_table : List Declaration → List CompType
type_table ds = with_types (function_types ds) (continuations ds (handled ds))

abbrev pub type_index : List Declaration → CompType → ℕ
type_index ds t = place t (type_table ds)

abbrev pub function_type_index : List Declaration → List Parameter → ℕ
function_type_index ds ps = type_index ds (function_type ps)

abbrev pub handler_type_index : List Declaration → List Parameter → ℕ
handler_type_index ds ps = type_index ds (handler_type ps)

abbrev pub effect_type_index : List Declaration → ℕ → ℕ
effect_type_index ds n = type_index ds (effect_type n)

abbrev pub clause_type_index : List Declaration → ℕ → ℕ
clause_type_index ds n = type_index ds (clause_type n)

-- of the continuations of a function
abbrev pub continuation_index : List Declaration → Name → ℕ
continuation_index ds f = type_index ds (Cont (function_type_index ds (parameters_of ds f)))
