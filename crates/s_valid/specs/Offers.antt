-- What the module of a script offers to the code of its bodies, by the names of declarations.
use Rattle.std.specs.Prelude.{◌≡◌, ℕ, true, false, List, [], ◌∷◌, ◌++◌, length, Some, slice_get}
use Rattle.w_types.specs.declared.types.CompType.TheVariants.{Cont}
use Rattle.w_types.specs.declared.types.FuncType.{FuncType}
use Rattle.w_types.specs.declared.types.ValType.{ValType}
use Rattle.w_types.specs.declared.types.ValType.TheVariants.{I64}
use Rattle.w_canon.specs.Supertypes.{KeepsKinds}
use Rattle.w_rules.specs.Context.{Context, type_of, func_of, type_of_func, type_of_tag}
use Rattle.s_syntax.specs.declared.name.Name.{Name}
use Rattle.s_syntax.specs.declared.script.VariableType.TheVariants.{Int, Coroutine}
use Rattle.s_syntax.specs.declared.script.Function.{Function}
use Rattle.s_syntax.specs.declared.script.Clause.{Clause}
use Rattle.s_syntax.specs.declared.script.Handler.{Handler}
use Rattle.s_syntax.specs.declared.script.Slots.{Slots}
use Rattle.s_syntax.specs.declared.script.Declaration.{Declaration}
use Rattle.s_check.specs.Definitions.{function_of, handler_of, effect_of, slots_of}
use Rattle.s_check.specs.Scopes.{is_among}
use Rattle.s_index.specs.Handled.{handled_names}
use Rattle.s_index.specs.Indices.{clause_type_index, continuation_index}
use Rattle.s_index.specs.Numbers.{function_index, handler_index, tag_index, group_tag_index, table_index}
use Rattle.s_index.specs.Types.{resumption_type, computation_type, coroutine_type, to_continuation, val_types, numbers}
use Rattle.s_code.specs.Lowered.{slots_table}
use Rattle.s_meaning.specs.Typing.{kinds}

abbrev pub arrow : List ValType → List ValType → FuncType
arrow ts us = record { params = ts; results = us }

-- a function that is handled, grouped or spawned: the type of its continuations, and its own, and that code may refer to it
pub record OffersHandled (ds : List Declaration) (C : Context) (f : Name) (g : Function) : Type 0 where
  pub index : ℕ
  pub continuation : type_of C (continuation_index ds f) ≡ Some (Cont index)
  pub type : func_of C index ≡ Some (arrow (val_types g.parameters) (I64 ∷ []))
  pub function : slice_get C.functions (function_index ds f) ≡ Some index
  pub declared : slice_get C.declared (function_index ds f) ≡ Some true

pub record Offers (ds : List Declaration) (C : Context) : Type 0 where
  -- no type has supertypes
  pub keeps : KeepsKinds C.types
  -- resumptions are cont 0, which takes a number to a number; computations are cont 2, which gives one
  pub resumption : type_of C resumption_type ≡ Some (Cont 0)
  pub resumed : func_of C 0 ≡ Some (arrow (I64 ∷ []) (I64 ∷ []))
  pub computation : type_of C computation_type ≡ Some (Cont 2)
  pub computed : func_of C 2 ≡ Some (arrow [] (I64 ∷ []))
  -- coroutines are cont 5, which takes a number and a coroutine to a number
  pub coroutine : type_of C coroutine_type ≡ Some (Cont 5)
  pub switched : func_of C 5 ≡ Some (arrow (I64 ∷ to_continuation true coroutine_type ∷ []) (I64 ∷ []))
  -- what runs in a group gives a number, and so does its tag
  pub group : type_of_tag C (group_tag_index ds) ≡ Some (arrow [] (I64 ∷ []))
  pub printer : type_of_func C 0 ≡ Some (arrow (I64 ∷ []) [])
  pub function : (f : Name) (g : Function) → function_of ds f ≡ Some g → type_of_func C (function_index ds f) ≡ Some (arrow (val_types g.parameters) (I64 ∷ []))
  pub handler : (h : Name) (i : Handler) → handler_of ds h ≡ Some i
      → type_of_func C (handler_index ds h) ≡ Some (arrow (val_types i.parameters ++ to_continuation true computation_type ∷ []) (I64 ∷ []))
  pub effect : (op : Name) (n : ℕ) → effect_of ds op ≡ Some n → type_of_tag C (tag_index ds op) ≡ Some (arrow (numbers n) (I64 ∷ []))
  pub slots : (s : Name) (d : Slots) → slots_of ds s ≡ Some d → slice_get C.tables (table_index ds s) ≡ Some (slots_table d).kind
  pub handled : (f : Name) (g : Function) → function_of ds f ≡ Some g → is_among (handled_names ds) f ≡ true → OffersHandled ds C f g
  -- a function of a number is of the type of what is resumed, and one of a number and a coroutine of that of what is switched to
  pub grouped : (f : Name) (g : Function) → function_of ds f ≡ Some g → kinds g.parameters ≡ Int ∷ [] → slice_get C.functions (function_index ds f) ≡ Some 0
  pub spawned : (f : Name) (g : Function) → function_of ds f ≡ Some g → kinds g.parameters ≡ Int ∷ Coroutine ∷ [] → slice_get C.functions (function_index ds f) ≡ Some 5
  pub clause : (h : Name) (i : Handler) (n : ℕ) (c : Clause) → handler_of ds h ≡ Some i → slice_get i.clauses n ≡ Some c
      → func_of C (clause_type_index ds (length c.arguments)) ≡ Some (arrow [] (numbers (length c.arguments) ++ to_continuation false resumption_type ∷ []))
