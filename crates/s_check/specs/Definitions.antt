-- What the names of declarations stand for: all are visible everywhere, and a name's declaration is the first one.
use Rattle.std.specs.Prelude.{ℕ, List, [], ◌∷◌, Option, Some, None, if◌then◌else◌}
use Rattle.std.specs.Str.{bytes_eq}
use Rattle.s_syntax.specs.declared.name.Name.{Name}
use Rattle.s_syntax.specs.declared.script.Function.{Function}
use Rattle.s_syntax.specs.declared.script.Handler.{Handler}
use Rattle.s_syntax.specs.declared.script.Slots.{Slots}
use Rattle.s_syntax.specs.declared.script.Definition.{Definition}
use Rattle.s_syntax.specs.declared.script.Definition.TheVariants as definition
use Rattle.s_syntax.specs.declared.script.Declaration.{Declaration}

abbrev pub definition_of : List Declaration → Name → Option Definition
definition_of [] x = None
definition_of (d ∷ ds) x = if bytes_eq d.name x then Some d.definition else definition_of ds x

abbrev pub as_function : Option Definition → Option Function
as_function None = None
as_function (Some (definition.Effect n)) = None
as_function (Some (definition.Function f)) = Some f
as_function (Some (definition.Handler h)) = None
as_function (Some (definition.Slots s)) = None

abbrev pub as_handler : Option Definition → Option Handler
as_handler None = None
as_handler (Some (definition.Effect n)) = None
as_handler (Some (definition.Function f)) = None
as_handler (Some (definition.Handler h)) = Some h
as_handler (Some (definition.Slots s)) = None

-- the number of its arguments
abbrev pub as_effect : Option Definition → Option ℕ
as_effect None = None
as_effect (Some (definition.Effect n)) = Some n.value
as_effect (Some (definition.Function f)) = None
as_effect (Some (definition.Handler h)) = None
as_effect (Some (definition.Slots s)) = None

abbrev pub as_slots : Option Definition → Option Slots
as_slots None = None
as_slots (Some (definition.Effect n)) = None
as_slots (Some (definition.Function f)) = None
as_slots (Some (definition.Handler h)) = None
as_slots (Some (definition.Slots s)) = Some s

abbrev pub function_of : List Declaration → Name → Option Function
function_of ds f = as_function (definition_of ds f)

abbrev pub handler_of : List Declaration → Name → Option Handler
handler_of ds h = as_handler (definition_of ds h)

abbrev pub effect_of : List Declaration → Name → Option ℕ
effect_of ds op = as_effect (definition_of ds op)

abbrev pub slots_of : List Declaration → Name → Option Slots
slots_of ds s = as_slots (definition_of ds s)
