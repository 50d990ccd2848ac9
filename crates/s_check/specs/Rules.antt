-- The rules of scripts. Of each part of a script the rules that it breaks are listed, in the order in which it is read.
use Rattle.std.specs.Prelude.{ℕ, suc, nat_lt, nat_eq, Bool, true, false, not, ◌&&◌, ◌||◌, List, [], ◌∷◌, ◌++◌, length, map, codes, Option, Some, None, is_some, if◌then◌else◌}
use Rattle.std.specs.Str.{bytes_eq}
use Rattle.s_syntax.specs.declared.name.Name.{Name}
use Rattle.s_syntax.specs.declared.script.VariableType.{VariableType}
use Rattle.s_syntax.specs.declared.script.VariableType.TheVariants.{Int, Resumption, Coroutine}
use Rattle.s_syntax.specs.declared.script.Parameter.{Parameter}
use Rattle.s_syntax.specs.declared.script.Function.{Function}
use Rattle.s_syntax.specs.declared.script.Clause.{Clause}
use Rattle.s_syntax.specs.declared.script.Handler.{Handler}
use Rattle.s_syntax.specs.declared.script.Slots.{Slots}
use Rattle.s_syntax.specs.declared.script.Definition.{Definition}
use Rattle.s_syntax.specs.declared.script.Definition.TheVariants as definition
use Rattle.s_syntax.specs.declared.script.Declaration.{Declaration}
use Rattle.s_syntax.specs.ExprTree.{ExprTree, Literal, Read, Unary, Run, Call, Do, Handle, Resume, Group, Exprs, NoExprs, MoreExprs, Operands, NoOperands, MoreOperands}
use Rattle.s_syntax.specs.declared.statement.Use.{Use}
use Rattle.s_syntax.specs.declared.statement.Use.TheVariants as use_for
use Rattle.s_syntax.specs.BlockTree.{StatementTree, BlockTree, Evaluate, If, While, Fail, Spawn, Done, ◌⨟◌}
use Rattle.s_check.specs.declared.rule.Rule.{Rule}
use Rattle.s_check.specs.declared.rule.Rule.TheVariants as rule
use Rattle.s_check.specs.Definitions.{function_of, handler_of, effect_of, slots_of}
use Rattle.s_check.specs.Scopes.{Scope, Bound, type_in, bind, bind_all, number, parameter, resumption, coroutine, of_clause, of_return, lets_in, is_among, some_twice}

-- a rule is broken where the test holds
abbrev pub when : Bool → Rule → List Rule
when b r = if b then r ∷ [] else []

-- ## Arguments

-- of a type `res h`, or of type `coro`
abbrev pub is_reference : Option VariableType → Bool
is_reference None = false
is_reference (Some Int) = false
is_reference (Some (Resumption h)) = true
is_reference (Some Coroutine) = true

abbrev pub is_coroutine : Option VariableType → Bool
is_coroutine None = false
is_coroutine (Some Int) = false
is_coroutine (Some (Resumption h)) = false
is_coroutine (Some Coroutine) = true

-- whether a name of this type may stand for a resumption of the handler h: the type is `res h`, or it is of no handler, whose lack breaks a rule elsewhere
abbrev pub is_resumption_of : List Declaration → Name → Option VariableType → Bool
is_resumption_of ds h None = false
is_resumption_of ds h (Some Int) = false
is_resumption_of ds h (Some (Resumption g)) = bytes_eq g h || not (is_some (handler_of ds g))
is_resumption_of ds h (Some Coroutine) = false

-- An argument for a parameter of type `res h` or `coro` is a bare name of that type, and one for a number is no bare name of such a type.
abbrev pub suits : List Declaration → Scope → VariableType → ExprTree → Bool
suits ds bs Int (Read x) = not (is_reference (type_in bs x))
suits ds bs Int e = true
suits ds bs (Resumption h) (Read x) = is_resumption_of ds h (type_in bs x)
suits ds bs (Resumption h) e = false
suits ds bs Coroutine (Read x) = is_coroutine (type_in bs x)
suits ds bs Coroutine e = false

abbrev pub all_suit : List Declaration → Scope → List Parameter → Exprs → Bool
all_suit ds bs [] es = true
all_suit ds bs (p ∷ ps) NoExprs = true
all_suit ds bs (p ∷ ps) (MoreExprs e es) = suits ds bs p.ty e && all_suit ds bs ps es

abbrev pub count : Exprs → ℕ
count NoExprs = 0
count (MoreExprs e es) = suc (count es)

-- as many as there are parameters, and each suits
abbrev pub against : List Declaration → Scope → List Parameter → Exprs → List Rule
against ds bs ps es = if nat_eq (count es) (length ps) then when (not (all_suit ds bs ps es)) rule.ArgumentOfOtherType else (rule.OtherNumberOfArguments ∷ [])

-- for a function that is called or handled
abbrev pub for_function : List Declaration → Scope → Option Function → Exprs → List Rule
for_function ds bs None es = rule.NoFunction ∷ []
for_function ds bs (Some f) es = against ds bs f.parameters es

-- for an effect that is performed
abbrev pub for_effect : Option ℕ → Exprs → List Rule
for_effect None es = rule.NoEffect ∷ []
for_effect (Some n) es = when (not (nat_eq (count es) n)) rule.OtherNumberOfArguments

-- for the handler of a `handle`
abbrev pub for_handler : List Declaration → Scope → Option Handler → Exprs → List Rule
for_handler ds bs None es = rule.NoHandler ∷ []
for_handler ds bs (Some h) es = against ds bs h.parameters es

-- for the handler of a type, whose lack breaks a rule where the type stands
abbrev pub for_handler_of_type : List Declaration → Scope → Option Handler → Exprs → List Rule
for_handler_of_type ds bs None es = []
for_handler_of_type ds bs (Some h) es = against ds bs h.parameters es

-- for the handler of the resumption that is resumed
abbrev pub for_resumed : List Declaration → Scope → Option VariableType → Exprs → List Rule
for_resumed ds bs None es = rule.NameNotBound ∷ []
for_resumed ds bs (Some Int) es = rule.NoResumption ∷ []
for_resumed ds bs (Some (Resumption h)) es = for_handler_of_type ds bs (handler_of ds h) es
for_resumed ds bs (Some Coroutine) es = rule.NoResumption ∷ []

-- ## Coroutines

abbrev pub is_number : VariableType → Bool
is_number Int = true
is_number (Resumption h) = false
is_number Coroutine = false

-- a number alone
abbrev pub takes_number : List Parameter → Bool
takes_number [] = false
takes_number (a ∷ []) = is_number a.ty
takes_number (a ∷ b ∷ ps) = false

-- a number and then a coroutine
abbrev pub takes_both : List Parameter → Bool
takes_both [] = false
takes_both (a ∷ []) = false
takes_both (a ∷ b ∷ []) = is_number a.ty && is_coroutine (Some b.ty)
takes_both (a ∷ b ∷ c ∷ ps) = false

-- for the function of a group
abbrev pub for_grouped : Option Function → List Rule
for_grouped None = rule.NoFunction ∷ []
for_grouped (Some f) = when (not (takes_number f.parameters)) rule.OtherParameters

-- for the function that is spawned
abbrev pub for_spawned : Option Function → List Rule
for_spawned None = rule.NoFunction ∷ []
for_spawned (Some f) = when (not (takes_both f.parameters)) rule.OtherParameters

-- for the target of a switch
abbrev pub for_switched : Option VariableType → List Rule
for_switched None = rule.NameNotBound ∷ []
for_switched (Some Int) = rule.NoCoroutine ∷ []
for_switched (Some (Resumption h)) = rule.NoCoroutine ∷ []
for_switched (Some Coroutine) = []

-- ## Expressions

-- a name that is read, as a whole argument or not
abbrev pub in_name : Bool → Option VariableType → List Rule
in_name whole None = rule.NameNotBound ∷ []
in_name whole (Some Int) = []
in_name whole (Some (Resumption h)) = when (not whole) rule.ResumptionElsewhere
in_name whole (Some Coroutine) = when (not whole) rule.ResumptionElsewhere

abbrev mutual
  -- an expression, which is a whole argument of a call, of a list of a `handle` or of the `with` of a `resume`, or isn't
  pub in_expr : List Declaration → Scope → Bool → ExprTree → List Rule
  in_expr ds bs whole (Literal n) = []
  in_expr ds bs whole (Read x) = in_name whole (type_in bs x)
  in_expr ds bs whole (Unary o e) = in_expr ds bs false e
  in_expr ds bs whole (Run e ps) = in_expr ds bs false e ++ in_operands ds bs ps
  in_expr ds bs whole (Call f es) = for_function ds bs (function_of ds f) es ++ in_exprs ds bs true es
  in_expr ds bs whole (Do op es) = for_effect (effect_of ds op) es ++ in_exprs ds bs false es
  in_expr ds bs whole (Handle f es h ps) = (for_function ds bs (function_of ds f) es ++ in_exprs ds bs true es) ++ (for_handler ds bs (handler_of ds h) ps ++ in_exprs ds bs true ps)
  in_expr ds bs whole (Resume k e ps) = in_expr ds bs false e ++ (for_resumed ds bs (type_in bs k) ps ++ in_exprs ds bs true ps)
  in_expr ds bs whole (Group f e) = for_grouped (function_of ds f) ++ in_expr ds bs false e

  pub in_exprs : List Declaration → Scope → Bool → Exprs → List Rule
  in_exprs ds bs whole NoExprs = []
  in_exprs ds bs whole (MoreExprs e es) = in_expr ds bs whole e ++ in_exprs ds bs whole es

  pub in_operands : List Declaration → Scope → Operands → List Rule
  in_operands ds bs NoOperands = []
  in_operands ds bs (MoreOperands o e ps) = in_expr ds bs false e ++ in_operands ds bs ps

-- ## Statements

-- a name that is assigned
abbrev pub in_target : Option VariableType → List Rule
in_target None = rule.NameNotBound ∷ []
in_target (Some Int) = []
in_target (Some (Resumption h)) = rule.ResumptionElsewhere ∷ []
in_target (Some Coroutine) = rule.ResumptionElsewhere ∷ []

-- slots that `store` or `take` names
abbrev pub for_slots : Option Slots → List Rule
for_slots None = rule.NoSlots ∷ []
for_slots (Some s) = []

-- the handler of what is taken from the slots of this name; where there are none, the name stands for it
abbrev pub handler_of_slots : Name → Option Slots → Name
handler_of_slots x None = x
handler_of_slots x (Some s) = s.handler

-- a name that is stored into slots, which may be of a type `res h` alone, and of that of the slots' handler
abbrev pub in_stored : List Declaration → Option Slots → Option VariableType → List Rule
in_stored ds o None = rule.NameNotBound ∷ []
in_stored ds None (Some t) = when (is_coroutine (Some t)) rule.ResumptionElsewhere
in_stored ds (Some s) (Some t) = when (is_coroutine (Some t)) rule.ResumptionElsewhere ++ when (not (is_resumption_of ds s.handler (Some t))) rule.StoredOfOtherType

-- what a value is used for
abbrev pub in_use : List Declaration → Scope → Use → List Rule
in_use ds bs (use_for.Let x) = []
in_use ds bs (use_for.Assign x) = in_target (type_in bs x)
in_use ds bs use_for.Print = []
in_use ds bs use_for.Return = []
in_use ds bs use_for.Drop = []
in_use ds bs (use_for.Store s k) = for_slots (slots_of ds s) ++ in_stored ds (slots_of ds s) (type_in bs k)
in_use ds bs (use_for.Take k s) = for_slots (slots_of ds s)
in_use ds bs (use_for.Switch x u t) = for_switched (type_in bs t)

-- what is bound behind such a use
abbrev pub bound_by : List Declaration → Use → Scope → Scope
bound_by ds (use_for.Let x) bs = bind (number x) bs
bound_by ds (use_for.Assign x) bs = bs
bound_by ds use_for.Print bs = bs
bound_by ds use_for.Return bs = bs
bound_by ds use_for.Drop bs = bs
bound_by ds (use_for.Store s k) bs = bs
bound_by ds (use_for.Take k s) bs = bind (resumption (handler_of_slots s (slots_of ds s)) k) bs
bound_by ds (use_for.Switch x u t) bs = bind (coroutine u) (bind (number x) bs)

-- and behind a statement, up to the end of its block
abbrev pub bound_after : List Declaration → StatementTree → Scope → Scope
bound_after ds (Evaluate u e) bs = bound_by ds u bs
bound_after ds (If c a b) bs = bs
bound_after ds (While c b) bs = bs
bound_after ds Fail bs = bs
bound_after ds (Spawn t f) bs = bind (coroutine t) bs

abbrev mutual
  pub in_statement : List Declaration → Scope → StatementTree → List Rule
  in_statement ds bs (Evaluate u e) = in_use ds bs u ++ in_expr ds bs false e
  in_statement ds bs (If c a b) = in_expr ds bs false c ++ (in_block ds bs a ++ in_block ds bs b)
  in_statement ds bs (While c b) = in_expr ds bs false c ++ in_block ds bs b
  in_statement ds bs Fail = []
  in_statement ds bs (Spawn t f) = for_spawned (function_of ds f)

  pub in_block : List Declaration → Scope → BlockTree → List Rule
  in_block ds bs Done = []
  in_block ds bs (s ⨟ b) = in_statement ds bs s ++ in_block ds (bound_after ds s bs) b

-- a body at whose start these names are bound
abbrev pub in_body : List Declaration → List Bound → BlockTree → List Rule
in_body ds bs b = when (some_twice [] (map (λ (c : Bound). c.name) bs ++ lets_in b)) rule.NameBoundTwice ++ in_block ds (bind_all bs []) b

-- ## Declarations

abbrev pub in_type : List Declaration → VariableType → List Rule
in_type ds Int = []
in_type ds (Resumption h) = when (not (is_some (handler_of ds h))) rule.NoHandlerOfType
in_type ds Coroutine = []

abbrev pub in_types : List Declaration → List Parameter → List Rule
in_types ds [] = []
in_types ds (p ∷ ps) = in_type ds p.ty ++ in_types ds ps

abbrev pub in_parameters : List Declaration → List Parameter → List Rule
in_parameters ds ps = when (nat_lt 8 (length ps)) rule.TooManyParameters ++ in_types ds ps

-- the effect of a clause, behind clauses for the effects of these names
abbrev pub in_head : Option ℕ → List Name → Clause → List Rule
in_head None before c = rule.ClauseForNoEffect ∷ []
in_head (Some n) before c = when (is_among before c.effect) rule.ClauseForEffectTwice ++ when (not (nat_eq (length c.arguments) n)) rule.OtherNumberInClause

-- the clauses of handler i, which is named h
abbrev pub in_clauses : List Declaration → Name → Handler → List Name → List Clause → List Rule
in_clauses ds h i before [] = []
in_clauses ds h i before (c ∷ cs) = (in_head (effect_of ds c.effect) before c ++ in_body ds (of_clause h i c) c.body) ++ in_clauses ds h i (c.effect ∷ before) cs

-- a handler by its parameters and by how many clauses it has
abbrev pub in_header : List Declaration → Handler → List Rule
in_header ds h = in_parameters ds h.parameters ++ when (nat_lt 16 (length h.clauses)) rule.TooManyClauses

-- and by its clauses
abbrev pub in_bodies : List Declaration → Name → Handler → List Rule
in_bodies ds x h = in_body ds (of_return h) h.return_clause.body ++ in_clauses ds x h [] h.clauses

abbrev pub in_definition : List Declaration → Name → Definition → List Rule
in_definition ds x (definition.Effect n) = when (nat_lt 8 n.value) rule.EffectOfTooMany
in_definition ds x (definition.Function f) = in_parameters ds f.parameters ++ in_body ds (map parameter f.parameters) f.body
in_definition ds x (definition.Handler h) = in_header ds h ++ in_bodies ds x h
in_definition ds x (definition.Slots s) = in_type ds (Resumption s.handler) ++ when (not (nat_lt 0 s.places.value && nat_lt s.places.value 65537)) rule.SlotsOfOtherNumber

-- a declaration behind those of these names
abbrev pub in_declaration : List Declaration → List Name → Declaration → List Rule
in_declaration ds before d = when (is_among before d.name) rule.NameDeclaredTwice ++ in_definition ds d.name d.definition

abbrev pub in_declarations : List Declaration → List Name → List Declaration → List (List Rule)
in_declarations ds before [] = []
in_declarations ds before (e ∷ es) = in_declaration ds before e ∷ in_declarations ds (e.name ∷ before) es

abbrev pub is_main : Option Function → Bool
is_main None = false
is_main (Some f) = nat_eq (length f.parameters) 0

-- behind the declarations
abbrev pub in_main : List Declaration → List Rule
in_main ds = when (not (is_main (function_of ds (codes "main")))) rule.NoMain

-- for each declaration the rules that it breaks; behind them a last list, for a script without a function main that has no parameters
abbrev pub broken_rules : List Declaration → List (List Rule)
broken_rules ds = in_declarations ds [] ds ++ in_main ds ∷ []
