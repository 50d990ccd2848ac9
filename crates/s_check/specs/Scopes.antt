-- The value names of a body.
use Rattle.std.specs.Prelude.{Bool, false, ◌||◌, List, [], ◌∷◌, ◌++◌, map, Option, Some, None, is_some, if◌then◌else◌}
use Rattle.std.specs.Str.{bytes_eq}
use Rattle.s_syntax.specs.declared.name.Name.{Name}
use Rattle.s_syntax.specs.declared.script.VariableType.{VariableType}
use Rattle.s_syntax.specs.declared.script.VariableType.TheVariants.{Int, Resumption, Coroutine}
use Rattle.s_syntax.specs.declared.script.Parameter.{Parameter}
use Rattle.s_syntax.specs.declared.script.Clause.{Clause}
use Rattle.s_syntax.specs.declared.script.Handler.{Handler}
use Rattle.s_syntax.specs.declared.statement.Use.{Use}
use Rattle.s_syntax.specs.declared.statement.Use.TheVariants as use_for
use Rattle.s_syntax.specs.BlockTree.{StatementTree, BlockTree, Evaluate, If, While, Fail, Spawn, Done, ◌⨟◌}

-- a value name and its type
pub record Bound : Type 0 where
  pub name : Name
  pub ty : VariableType

-- what is bound before a place in its block or one around it, in order
abbrev pub Scope : Type 0
Scope = List Bound

abbrev pub type_in : Scope → Name → Option VariableType
type_in [] x = None
type_in (b ∷ bs) x = if bytes_eq b.name x then Some b.ty else type_in bs x

-- A name that is bound keeps its type where it is bound once more; that breaks a rule of a lesser number than those that ask for types.
abbrev pub bind : Bound → Scope → Scope
bind b bs = if is_some (type_in bs b.name) then bs else bs ++ b ∷ []

abbrev pub bind_all : List Bound → Scope → Scope
bind_all [] bs = bs
bind_all (c ∷ cs) bs = bind_all cs (bind c bs)

-- ## Names at the start of a body

abbrev pub number : Name → Bound
number x = record { name = x; ty = Int }

abbrev pub parameter : Parameter → Bound
parameter p = record { name = p.name; ty = p.ty }

-- a resumption of the handler h
abbrev pub resumption : Name → Name → Bound
resumption h k = record { name = k; ty = Resumption h }

abbrev pub coroutine : Name → Bound
coroutine t = record { name = t; ty = Coroutine }

-- in the clause of a handler for an effect
abbrev pub of_clause : Name → Handler → Clause → List Bound
of_clause h i c = map parameter i.parameters ++ (map number c.arguments ++ resumption h c.resumption ∷ [])

-- in its clause for return
abbrev pub of_return : Handler → List Bound
of_return i = map parameter i.parameters ++ number i.return_clause.value ∷ []

-- ## Names that statements bind

abbrev pub lets_by : Use → List Name
lets_by (use_for.Let x) = x ∷ []
lets_by (use_for.Assign x) = []
lets_by use_for.Print = []
lets_by use_for.Return = []
lets_by use_for.Drop = []
lets_by (use_for.Store s k) = []
lets_by (use_for.Take k s) = k ∷ []
lets_by (use_for.Switch x u t) = x ∷ u ∷ []

-- in order, those of all blocks within
abbrev mutual
  pub lets_of : StatementTree → List Name
  lets_of (Evaluate u e) = lets_by u
  lets_of (If c a b) = lets_in a ++ lets_in b
  lets_of (While c b) = lets_in b
  lets_of Fail = []
  lets_of (Spawn t f) = t ∷ []

  pub lets_in : BlockTree → List Name
  lets_in Done = []
  lets_in (s ⨟ b) = lets_of s ++ lets_in b

abbrev pub is_among : List Name → Name → Bool
is_among [] x = false
is_among (y ∷ ys) x = bytes_eq y x || is_among ys x

-- a name of the second list stands before it there, or in the first list
abbrev pub some_twice : List Name → List Name → Bool
some_twice before [] = false
some_twice before (x ∷ xs) = is_among before x || some_twice (x ∷ before) xs
