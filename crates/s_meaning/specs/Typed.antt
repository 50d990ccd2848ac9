-- Typed configurations. A resumption's address has the type res h of the handler that it was captured under, and a coroutine's the type coro.
use Rattle.std.specs.Prelude.{◌≡◌, ℕ, ℤ, List, [], ◌∷◌, ◌++◌, length, slice_get, Option, Some, None}
use Rattle.s_syntax.specs.declared.name.Name.{Name}
use Rattle.s_syntax.specs.declared.script.VariableType.{VariableType}
use Rattle.s_syntax.specs.declared.script.VariableType.TheVariants.{Int, Resumption, Coroutine}
use Rattle.s_syntax.specs.declared.operators.UnaryOperator.{UnaryOperator}
use Rattle.s_syntax.specs.declared.operators.BinaryOperator.{BinaryOperator}
use Rattle.s_syntax.specs.declared.script.Function.{Function}
use Rattle.s_syntax.specs.declared.script.Handler.{Handler}
use Rattle.s_syntax.specs.declared.script.Slots.{Slots}
use Rattle.s_syntax.specs.declared.script.Script.{Script}
use Rattle.s_syntax.specs.ExprTree.{ExprTree, Exprs, Operands}
use Rattle.s_syntax.specs.BlockTree.{StatementTree, BlockTree, Done, ◌⨟◌}
use Rattle.s_check.specs.Definitions.{function_of, handler_of, effect_of, slots_of}
use Rattle.s_check.specs.Scopes.{Scope, type_in, number as number_name, resumption as resumption_name, coroutine as coroutine_name}
use Rattle.s_meaning.specs.Typing.{kinds, numbers, ExprTyped, OperandsTyped, ArgsTyped, StatementTyped, BlockTyped}
use Rattle.s_meaning.specs.Terms.{Value, Number, Reference, Row, ε, ◌▹◌, Variable, Head, Calling, Doing, Handling, Resuming, TailResuming, TailCalling, Grouping, Use, ToStore, ToPrint, ToDrop, ToReturn, ToChoose, ToTurn, ToPut, ToTake, ToSwitch, Work, UnderUnary, LeftOf, RightOf, Among, Within, Activation, Handle, Group, Context, Hole, Gives, Finds, Runs, Kept, captured, switched, spawned, Contents, Store, Configuration}
use Rattle.s_meaning.specs.Focus.{variable_of}
use Rattle.s_meaning.specs.Steps.{contents_of}

-- the type of each address
abbrev pub World : Type 0
World = List VariableType

pub data HasKind (Ξ : World) : Value → VariableType → Type 0 where
  int : {n : ℤ} → HasKind Ξ (Number n) Int
  reference : {a : ℕ} {h : Name} → slice_get Ξ a ≡ Some (Resumption h) → HasKind Ξ (Reference a) (Resumption h)
  coroutine : {a : ℕ} → slice_get Ξ a ≡ Some Coroutine → HasKind Ξ (Reference a) Coroutine

pub data AllHave (Ξ : World) : List Value → List VariableType → Type 0 where
  none : AllHave Ξ [] []
  more : {v : Value} {k : VariableType} {vs : List Value} {ks : List VariableType} → HasKind Ξ v k → AllHave Ξ vs ks → AllHave Ξ (v ∷ vs) (k ∷ ks)

-- the values have the first types of all, and those of `todo` are left
pub data FirstHave (Ξ : World) (all : List VariableType) : Row → (todo : List VariableType) → Type 0 where
  begun : FirstHave Ξ all ε all
  further : {vs : Row} {v : Value} {k : VariableType} {todo : List VariableType} → FirstHave Ξ all vs (k ∷ todo) → HasKind Ξ v k → FirstHave Ξ all (vs ▹ v) todo

-- the variable x of an activation
pub record Variable_typed (Ξ : World) (vars : List Variable) (x : Name) (k : VariableType) : Type 0 where
  pub variable : Variable
  pub there : variable_of x vars ≡ Some variable
  pub of_kind : variable.ty ≡ k
  pub has : HasKind Ξ variable.value k

-- each name that is bound is a variable of its type
pub record Covers (Ξ : World) (Γ : Scope) (vars : List Variable) : Type 0 where
  pub covers : (x : Name) (k : VariableType) → type_in Γ x ≡ Some k → Variable_typed Ξ vars x k

-- what is bound in Γ has the same type in Γ'
pub record Keeps (Γ Γ' : Scope) : Type 0 where
  pub keeps : (x : Name) (k : VariableType) → type_in Γ x ≡ Some k → type_in Γ' x ≡ Some k

-- what is left to run of a body: the rest of a block, and then of those around it, where less is bound
pub data RestTyped (p : Script) : Scope → BlockTree → Type 0 where
  ends : {Γ : Scope} → RestTyped p Γ Done
  begins : {Γ Γ' : Scope} {s : StatementTree} {b : BlockTree} → StatementTyped p Γ s Γ' → RestTyped p Γ' b → RestTyped p Γ (s ⨟ b)
  behind : {Γ Γ' : Scope} {b : BlockTree} → Keeps Γ Γ' → RestTyped p Γ b → RestTyped p Γ' b

-- what a statement does with a number, and what is bound after it
pub data UseTyped (p : Script) (Γ : Scope) : Use → Scope → Type 0 where
  stores : {x : Name} → UseTyped p Γ (ToStore x) (number_name x ∷ Γ)
  prints : UseTyped p Γ ToPrint Γ
  drops : UseTyped p Γ ToDrop Γ
  returns : UseTyped p Γ ToReturn Γ
  chooses : {b d : BlockTree} → BlockTyped p Γ b → BlockTyped p Γ d → UseTyped p Γ (ToChoose b d) Γ
  turns : {e : ExprTree} {b : BlockTree} → ExprTyped p Γ e → BlockTyped p Γ b → UseTyped p Γ (ToTurn e b) Γ
  puts : {s k : Name} {d : Slots} → slots_of p.declarations s ≡ Some d → type_in Γ k ≡ Some (Resumption d.handler) → UseTyped p Γ (ToPut s k) Γ
  takes : {s k : Name} {d : Slots} → slots_of p.declarations s ≡ Some d → UseTyped p Γ (ToTake k s) (resumption_name d.handler k ∷ Γ)
  switching : {x u t : Name} → type_in Γ t ≡ Some Coroutine → UseTyped p Γ (ToSwitch x u t) (coroutine_name u ∷ number_name x ∷ Γ)

mutual
  -- pending work that takes a value of this type
  pub data WorkTyped (p : Script) (Ξ : World) (Γ : Scope) : List Work → VariableType → Type 0 where
    under : {o : UnaryOperator} {w : List Work} → WorkTyped p Ξ Γ w Int → WorkTyped p Ξ Γ (UnderUnary o ∷ w) Int
    left : {o : BinaryOperator} {e : ExprTree} {es : Operands} {w : List Work} → ExprTyped p Γ e → OperandsTyped p Γ es → WorkTyped p Ξ Γ w Int
        → WorkTyped p Ξ Γ (LeftOf o e es ∷ w) Int
    right : {v : Value} {o : BinaryOperator} {es : Operands} {w : List Work} → HasKind Ξ v Int → OperandsTyped p Γ es → WorkTyped p Ξ Γ w Int
        → WorkTyped p Ξ Γ (RightOf v o es ∷ w) Int
    among : {head : Head} {all todo : List VariableType} {k : VariableType} {vs : Row} {es : Exprs} {w : List Work} → HeadTyped p Ξ Γ head all w
        → FirstHave Ξ all vs (k ∷ todo) → ArgsTyped p Γ todo es → WorkTyped p Ξ Γ (Among head vs es ∷ w) k
    within : {u : Use} {Γ' : Scope} {rest : BlockTree} → UseTyped p Γ u Γ' → RestTyped p Γ' rest → WorkTyped p Ξ Γ (Within u rest ∷ []) Int

  -- what is done with arguments of these types, and the work around it
  pub data HeadTyped (p : Script) (Ξ : World) (Γ : Scope) : Head → List VariableType → List Work → Type 0 where
    calling : {f : Name} {g : Function} {w : List Work} → function_of p.declarations f ≡ Some g → WorkTyped p Ξ Γ w Int → HeadTyped p Ξ Γ (Calling f) (kinds g.parameters) w
    tail_calling : {f : Name} {g : Function} → function_of p.declarations f ≡ Some g → HeadTyped p Ξ Γ (TailCalling f) (kinds g.parameters) []
    doing : {op : Name} {n : ℕ} {w : List Work} → effect_of p.declarations op ≡ Some n → WorkTyped p Ξ Γ w Int → HeadTyped p Ξ Γ (Doing op) (numbers n) w
    handling : {f h : Name} {n : ℕ} {g : Function} {i : Handler} {w : List Work} → function_of p.declarations f ≡ Some g → handler_of p.declarations h ≡ Some i
        → n ≡ length g.parameters → WorkTyped p Ξ Γ w Int → HeadTyped p Ξ Γ (Handling f n h) (kinds g.parameters ++ kinds i.parameters) w
    resuming : {k h : Name} {i : Handler} {w : List Work} → type_in Γ k ≡ Some (Resumption h) → handler_of p.declarations h ≡ Some i → WorkTyped p Ξ Γ w Int
        → HeadTyped p Ξ Γ (Resuming k) (Int ∷ kinds i.parameters) w
    tail_resuming : {k h : Name} {i : Handler} → type_in Γ k ≡ Some (Resumption h) → handler_of p.declarations h ≡ Some i
        → HeadTyped p Ξ Γ (TailResuming k) (Int ∷ kinds i.parameters) []
    grouping : {f : Name} {g : Function} {w : List Work} → function_of p.declarations f ≡ Some g → kinds g.parameters ≡ Int ∷ [] → WorkTyped p Ξ Γ w Int
        → HeadTyped p Ξ Γ (Grouping f) (Int ∷ []) w

-- a context that takes a number
pub data ContextTyped (p : Script) (Ξ : World) : Context → Type 0 where
  nothing : ContextTyped p Ξ []
  activation : {Γ : Scope} {vars : List Variable} {owner : Option Name} {w : List Work} {κ : Context} → Covers Ξ Γ vars → WorkTyped p Ξ Γ w Int
      → ContextTyped p Ξ κ → ContextTyped p Ξ (Activation vars owner w ∷ κ)
  handle : {h : Name} {i : Handler} {ps : List Value} {κ : Context} → handler_of p.declarations h ≡ Some i → AllHave Ξ ps (kinds i.parameters) → ContextTyped p Ξ κ
      → ContextTyped p Ξ (Handle h ps ∷ κ)
  group : {κ : Context} → ContextTyped p Ξ κ → ContextTyped p Ξ (Group ∷ κ)

-- a hole in its activation
pub data HoleTyped (p : Script) (Ξ : World) : Hole → List Variable → List Work → Type 0 where
  gives : {Γ : Scope} {v : Value} {k : VariableType} {vars : List Variable} {w : List Work} → Covers Ξ Γ vars → HasKind Ξ v k → WorkTyped p Ξ Γ w k
      → HoleTyped p Ξ (Gives v) vars w
  finds : {Γ : Scope} {e : ExprTree} {vars : List Variable} {w : List Work} → Covers Ξ Γ vars → ExprTyped p Γ e → WorkTyped p Ξ Γ w Int
      → HoleTyped p Ξ (Finds e) vars w
  runs : {Γ : Scope} {b : BlockTree} {vars : List Variable} → Covers Ξ Γ vars → RestTyped p Γ b → HoleTyped p Ξ (Runs b) vars []

pub data TermTyped (p : Script) (Ξ : World) : Hole → Context → Type 0 where
  in_activation : {hole : Hole} {vars : List Variable} {owner : Option Name} {w : List Work} {κ : Context} → HoleTyped p Ξ hole vars w → ContextTyped p Ξ κ
      → TermTyped p Ξ hole (Activation vars owner w ∷ κ)
  in_handle : {v : Value} {h : Name} {i : Handler} {ps : List Value} {κ : Context} → HasKind Ξ v Int → handler_of p.declarations h ≡ Some i
      → AllHave Ξ ps (kinds i.parameters) → ContextTyped p Ξ κ → TermTyped p Ξ (Gives v) (Handle h ps ∷ κ)
  in_group : {v : Value} {κ : Context} → HasKind Ξ v Int → ContextTyped p Ξ κ → TermTyped p Ξ (Gives v) (Group ∷ κ)

-- what is kept for an address of this type: a resumption; a coroutine in the midst of a body; or one that begins with a function
pub data KeptTyped (p : Script) (Ξ : World) : VariableType → Kept → Type 0 where
  takes_number : {h : Name} {κ : Context} → ContextTyped p Ξ κ → KeptTyped p Ξ (Resumption h) (captured κ)
  takes_both : {Γ : Scope} {x u : Name} {rest : BlockTree} {vars : List Variable} {owner : Option Name} {w : List Work} {κ : Context} → Covers Ξ Γ vars
      → RestTyped p (coroutine_name u ∷ number_name x ∷ Γ) rest → ContextTyped p Ξ κ → KeptTyped p Ξ Coroutine (switched x u rest (Activation vars owner w ∷ κ))
  takes_call : {f : Name} {g : Function} → function_of p.declarations f ≡ Some g → kinds g.parameters ≡ Int ∷ Coroutine ∷ [] → KeptTyped p Ξ Coroutine (spawned f)

pub data EntryTyped (p : Script) (Ξ : World) (t : VariableType) : Option Kept → Type 0 where
  emptied : EntryTyped p Ξ t None
  kept : {k : Kept} → KeptTyped p Ξ t k → EntryTyped p Ξ t (Some k)

-- places that hold resumptions of the handler h, as far as they hold any
pub record PlacesTyped (Ξ : World) (h : Name) (places : List (Option ℕ)) : Type 0 where
  pub each : (n a : ℕ) → slice_get places n ≡ Some (Some a) → slice_get Ξ a ≡ Some (Resumption h)

-- what the slots of this declaration hold
pub record ContentsTyped (Ξ : World) (d : Slots) (c : Contents) : Type 0 where
  pub handler : c.handler ≡ d.handler
  pub as_many : length c.places ≡ d.places.value
  pub holds : PlacesTyped Ξ c.handler c.places

pub record SlotsThere (Ξ : World) (d : Slots) (o : Option Contents) : Type 0 where
  pub contents : Contents
  pub is : o ≡ Some contents
  pub typed : ContentsTyped Ξ d contents

pub record StoreTyped (p : Script) (Ξ : World) (σ : Store) : Type 0 where
  pub as_many : length σ.contexts ≡ length Ξ
  pub each : (a : ℕ) (t : VariableType) (e : Option Kept) → slice_get Ξ a ≡ Some t → slice_get σ.contexts a ≡ Some e → EntryTyped p Ξ t e
  pub slots : (s : Name) (d : Slots) → slots_of p.declarations s ≡ Some d → SlotsThere Ξ d (contents_of s σ.slots)

pub record Typed (p : Script) (Ξ : World) (c : Configuration) : Type 0 where
  pub store : StoreTyped p Ξ c.store
  pub term : TermTyped p Ξ c.term.hole c.term.around
