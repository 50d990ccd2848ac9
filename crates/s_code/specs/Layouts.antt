-- Where the names of a body are among the locals of its function. Each name has a local of its own. Behind those of all names stand
-- the temporaries, which hold numbers.
use Rattle.std.specs.Prelude.{ℕ, ◌+◌, Bool, false, List, [], ◌∷◌, Option, Some, None, if◌then◌else◌}
use Rattle.std.specs.Str.{bytes_eq}
use Rattle.s_syntax.specs.declared.name.Name.{Name}
use Rattle.s_syntax.specs.declared.script.VariableType.{VariableType}
use Rattle.s_syntax.specs.declared.script.VariableType.TheVariants.{Int, Resumption, Coroutine}
use Rattle.s_syntax.specs.ExprTree.{ExprTree, Read}
use Rattle.s_check.specs.Rules.{is_reference}
use Rattle.s_check.specs.Scopes.{Bound}

-- a name, with its type and the number of its local
pub record Local : Type 0 where
  pub name : Name
  pub ty : VariableType
  pub number : ℕ

-- the handler in whose function a clause stands; what it handles is the local behind its parameters
pub record Owner : Type 0 where
  pub name : Name
  pub parameters : ℕ

pub record Layout : Type 0 where
  pub names : List Local
  -- the first temporary
  pub temporaries : ℕ
  pub owner : Option Owner

-- names, with the locals from n on
abbrev pub numbered : ℕ → List Bound → List Local
numbered n [] = []
numbered n (b ∷ bs) = record { name = b.name; ty = b.ty; number = n } ∷ numbered (n + 1) bs

abbrev pub local_of : List Local → Name → Option Local
local_of [] x = None
local_of (l ∷ ls) x = if bytes_eq l.name x then Some l else local_of ls x

abbrev pub number_in : Option Local → ℕ
number_in None = 0
number_in (Some l) = l.number

-- the local of a name
abbrev pub local_number : Layout → Name → ℕ
local_number Γ x = number_in (local_of Γ.names x)

abbrev pub handler_in_type : VariableType → Option Name
handler_in_type Int = None
handler_in_type (Resumption h) = Some h
handler_in_type Coroutine = None

abbrev pub handler_in : Option Local → Option Name
handler_in None = None
handler_in (Some l) = handler_in_type l.ty

-- the handler of a name of a res type
abbrev pub handler_of_name : Layout → Name → Option Name
handler_of_name Γ x = handler_in (local_of Γ.names x)

-- ## Temporaries

abbrev pub refers_in : Option Local → Bool
refers_in None = false
refers_in (Some l) = is_reference (Some l.ty)

-- whether a name is of a res type or coro
abbrev pub refers : Layout → Name → Bool
refers Γ x = refers_in (local_of Γ.names x)

-- A bare name of such a type: no expression sets it, so it is read where it lies.
abbrev pub stays : Layout → ExprTree → Bool
stays Γ (Read x) = refers Γ x
stays Γ _ = false

-- where the value of an argument lies until all arguments are there, t temporaries being in use
abbrev pub slot : Layout → ℕ → ExprTree → ℕ
slot Γ t (Read x) = if refers Γ x then local_number Γ x else (Γ.temporaries + t)
slot Γ t _ = Γ.temporaries + t

-- ## Clauses

-- whether the resumptions of a name go on under the handler in whose clause it stands
abbrev pub is_same_handler : Option Owner → Option Name → Bool
is_same_handler None g = false
is_same_handler (Some o) None = false
is_same_handler (Some o) (Some g) = bytes_eq g o.name

abbrev pub is_own : Layout → Name → Bool
is_own Γ k = is_same_handler Γ.owner (handler_of_name Γ k)

abbrev pub owner_parameters : Option Owner → ℕ
owner_parameters None = 0
owner_parameters (Some o) = o.parameters
