-- The types of the module of a script, each made once.
use Rattle.std.specs.Prelude.{ℕ, zero, suc, Bool, true, false, ◌&&◌, nat_eq, nat_lt, List, [], ◌∷◌, ◌++◌, map, length, if◌then◌else◌}
use Rattle.w_types.specs.declared.types.HeapType.TheVariants as heap
use Rattle.w_types.specs.declared.types.ValType.{ValType}
use Rattle.w_types.specs.declared.types.ValType.TheVariants.{I64, Ref}
use Rattle.w_types.specs.declared.types.CompType.{CompType}
use Rattle.w_types.specs.declared.types.CompType.TheVariants.{Func, Cont}
use Rattle.w_syntax.specs.Locals.{same_kind}
use Rattle.s_syntax.specs.declared.script.VariableType.{VariableType}
use Rattle.s_syntax.specs.declared.script.VariableType.TheVariants.{Int, Resumption, Coroutine}
use Rattle.s_syntax.specs.declared.script.Parameter.{Parameter}
use Rattle.s_syntax.specs.declared.script.Clause.{Clause}
use Rattle.s_syntax.specs.declared.script.Definition.{Definition}
use Rattle.s_syntax.specs.declared.script.Definition.TheVariants as definition
use Rattle.s_syntax.specs.declared.script.Declaration.{Declaration}

-- ## Kinds of types

-- the index of the type of resumptions, which take a number and give one
abbrev pub resumption_type : ℕ
resumption_type = 1

-- the index of the type of computations that are ready to run, and give a number
abbrev pub computation_type : ℕ
computation_type = 3

-- the index of the type of coroutines, which take a number and the coroutine that they were switched from, and give a number
abbrev pub coroutine_type : ℕ
coroutine_type = 6

abbrev pub to_continuation : Bool → ℕ → ValType
to_continuation or_null x = Ref (record { nullable = or_null; heap = heap.Index x })

abbrev pub val_type : VariableType → ValType
val_type Int = I64
val_type (Resumption h) = to_continuation true resumption_type
val_type Coroutine = to_continuation true coroutine_type

abbrev pub val_types : List Parameter → List ValType
val_types ps = map (λ (p : Parameter). val_type p.ty) ps

abbrev pub numbers : ℕ → List ValType
numbers zero = []
numbers (suc n) = I64 ∷ numbers n

abbrev pub from_to : List ValType → List ValType → CompType
from_to ts us = Func (record { params = ts; results = us })

-- a function: its parameters, to a number
abbrev pub function_type : List Parameter → CompType
function_type ps = from_to (val_types ps) (I64 ∷ [])

-- a handler: its parameters and what it handles, to a number
abbrev pub handler_type : List Parameter → CompType
handler_type ps = from_to (val_types ps ++ to_continuation true computation_type ∷ []) (I64 ∷ [])

-- an effect of n arguments: numbers, to a number
abbrev pub effect_type : ℕ → CompType
effect_type n = from_to (numbers n) (I64 ∷ [])

-- what the block of a clause leaves: n arguments, and the resumption
abbrev pub clause_type : ℕ → CompType
clause_type n = from_to [] (numbers n ++ to_continuation false resumption_type ∷ [])

-- ## The list of types

abbrev pub same_kinds : List ValType → List ValType → Bool
same_kinds [] [] = true
same_kinds [] (u ∷ us) = false
same_kinds (t ∷ ts) [] = false
same_kinds (t ∷ ts) (u ∷ us) = same_kind t u && same_kinds ts us

abbrev pub same_type : CompType → CompType → Bool
same_type (Func a) (Func b) = same_kinds a.params b.params && same_kinds a.results b.results
same_type (Func a) (Cont y) = false
same_type (Cont x) (Func b) = false
same_type (Cont x) (Cont y) = nat_eq x y

-- the place of the first type that is the same; behind all where there is none
abbrev pub place : CompType → List CompType → ℕ
place t [] = 0
place t (u ∷ us) = if same_type u t then 0 else suc (place t us)

abbrev pub with_type : List CompType → CompType → List CompType
with_type ts t = if nat_lt (place t ts) (length ts) then ts else (ts ++ t ∷ [])

-- these types, and those of the second list that aren't there yet
abbrev pub with_types : List CompType → List CompType → List CompType
with_types ts [] = ts
with_types ts (u ∷ us) = with_types (with_type ts u) us

-- what each module begins with: resumptions, computations, the type of the printer, and coroutines
abbrev pub first_types : List CompType
first_types = from_to (I64 ∷ []) (I64 ∷ []) ∷ Cont 0 ∷ from_to [] (I64 ∷ []) ∷ Cont 2 ∷ from_to (I64 ∷ []) []
    ∷ from_to (I64 ∷ to_continuation true coroutine_type ∷ []) (I64 ∷ []) ∷ Cont 5 ∷ []

-- the index of the type of the printer
abbrev pub printer_type : ℕ
printer_type = 4

-- the index of the type of the tag of groups: what runs in a group gives a number
abbrev pub group_tag_type : ℕ
group_tag_type = 2

abbrev pub clause_types : List Clause → List CompType
clause_types cs = map (λ (c : Clause). clause_type (length c.arguments)) cs

abbrev pub types_for : Definition → List CompType
types_for (definition.Effect n) = effect_type n.value ∷ []
types_for (definition.Function f) = function_type f.parameters ∷ []
types_for (definition.Handler h) = handler_type h.parameters ∷ clause_types h.clauses
types_for (definition.Slots s) = []

abbrev pub types_for_all : List Declaration → List CompType
types_for_all [] = []
types_for_all (d ∷ ds) = types_for d.definition ++ types_for_all ds
