-- Script terms (Plotkin and Pretnar, deep handlers): E[r], an evaluation context around what is done next. The context is a list
-- of places, from the hole outwards: activations with their variables and their pending work, handles, and groups.
use Rattle.std.specs.Prelude.{ℕ, suc, ℤ, List, [], ◌∷◌, Option, Some, None}
use Rattle.s_syntax.specs.declared.name.Name.{Name}
use Rattle.s_syntax.specs.declared.script.VariableType.{VariableType}
use Rattle.s_syntax.specs.declared.operators.UnaryOperator.{UnaryOperator}
use Rattle.s_syntax.specs.declared.operators.BinaryOperator.{BinaryOperator}
use Rattle.s_syntax.specs.ExprTree.{ExprTree, Exprs, Operands}
use Rattle.s_syntax.specs.BlockTree.{BlockTree}

-- a number, or a resumption or a coroutine by its address
pub data Value : Type 0 where
  Number : ℤ → Value
  Reference : (a : ℕ) → Value

-- values in the order in which they were evaluated
infixl 60 ◌▹◌
pub data Row : Type 0 where
  ε : Row
  ◌▹◌ : Row → Value → Row

abbrev pub listed_before : Row → List Value → List Value
listed_before ε us = us
listed_before (vs ▹ v) us = listed_before vs (v ∷ us)

abbrev pub listed : Row → List Value
listed vs = listed_before vs []

-- a variable of an activation, with the type that it was declared with
pub record Variable : Type 0 where
  pub name : Name
  pub ty : VariableType
  pub value : Value

-- what is done with arguments, when all are values
pub data Head : Type 0 where
  Calling : (f : Name) → Head
  Doing : (op : Name) → Head
  -- the first n are those of f, the others the parameters of h
  Handling : (f : Name) (n : ℕ) (h : Name) → Head
  -- the first one is what k is resumed with, the others are the parameters of its handler
  Resuming : (k : Name) → Head
  -- the same, but the activation ends before the handler is put back
  TailResuming : (k : Name) → Head
  -- a call that takes the place of the activation
  TailCalling : (f : Name) → Head
  -- a call in a group
  Grouping : (f : Name) → Head

-- what a statement does with the value of its expression
pub data Use : Type 0 where
  ToStore : (x : Name) → Use
  ToPrint ToDrop ToReturn : Use
  -- if [ ] a else b
  ToChoose : (a b : BlockTree) → Use
  -- while [ ] body, whose condition is e
  ToTurn : (e : ExprTree) (body : BlockTree) → Use
  -- store s[ ] = k, and take k = s[ ]
  ToPut : (s k : Name) → Use
  ToTake : (k s : Name) → Use
  -- switch x, u = t( )
  ToSwitch : (x u t : Name) → Use

-- Pending work of an activation: what stands directly around an expression.
pub data Work : Type 0 where
  -- op [ ]
  UnderUnary : UnaryOperator → Work
  -- [ ] op e more, and v op [ ] more
  LeftOf : BinaryOperator → ExprTree → (more : Operands) → Work
  RightOf : (v : Value) → BinaryOperator → (more : Operands) → Work
  -- head(vs, [ ], es)
  Among : Head → (done : Row) → (todo : Exprs) → Work
  -- a statement, and the rest of its body
  Within : Use → (rest : BlockTree) → Work

pub data Place : Type 0 where
  -- An activation. `owner` is the handler whose clause or return clause it runs, if any.
  Activation : (variables : List Variable) (owner : Option Name) (work : List Work) → Place
  -- an active handle: its handler and the values of the handler's parameters
  Handle : (h : Name) (params : List Value) → Place
  -- an active group
  Group : Place

abbrev pub Context : Type 0
Context = List Place

-- in the hole: a value, an expression, or the rest of a body
pub data Hole : Type 0 where
  Gives : Value → Hole
  Finds : ExprTree → Hole
  Runs : BlockTree → Hole

pub record Term : Type 0 where
  pub hole : Hole
  pub around : Context

-- What the hole of a kept context takes: a number; or a number and a coroutine, which become x and u before the rest of a body runs, or
-- with which f is called.
pub data Takes : Type 0 where
  Number_alone : Takes
  Both : (x u : Name) (rest : BlockTree) → Takes
  Begins : (f : Name) → Takes

-- a context that is kept, and what its hole takes
pub record Kept : Type 0 where
  pub takes : Takes
  pub around : Context

-- a resumption: the context that do captures, up to its handle
abbrev pub captured : Context → Kept
captured κ = record { takes = Number_alone; around = κ }

-- a coroutine that is switched from: the context up to its group, and the rest of its body
abbrev pub switched : (x u : Name) → BlockTree → Context → Kept
switched x u rest κ = record { takes = Both x u rest; around = κ }

-- a coroutine that calls f, where it is switched to
abbrev pub spawned : Name → Kept
spawned f = record { takes = Begins f; around = [] }

-- slots: the places, each of which holds a resumption of the handler, by its address, or is empty
pub record Contents : Type 0 where
  pub name : Name
  pub handler : Name
  pub places : List (Option ℕ)

-- What stays beside the term: the contexts that are kept, by address, `None` where consumed, and what slots hold, in the order of their
-- declarations.
pub record Store : Type 0 where
  pub contexts : List (Option Kept)
  pub slots : List Contents

pub record Configuration : Type 0 where
  pub store : Store
  pub term : Term

-- ## Counts

-- activations, and active handles and groups
abbrev pub activations : Context → ℕ
activations [] = 0
activations (Activation vars owner work ∷ κ) = suc (activations κ)
activations (Handle h ps ∷ κ) = activations κ
activations (Group ∷ κ) = activations κ

abbrev pub handles : Context → ℕ
handles [] = 0
handles (Activation vars owner work ∷ κ) = handles κ
handles (Handle h ps ∷ κ) = suc (handles κ)
handles (Group ∷ κ) = suc (handles κ)

-- entries that aren't empty
abbrev pub full : {A : Type 0} → List (Option A) → ℕ
full [] = 0
full (None ∷ ks) = full ks
full (Some k ∷ ks) = suc (full ks)

abbrev pub acts : Configuration → ℕ
acts c = activations c.term.around

abbrev pub hands : Configuration → ℕ
hands c = handles c.term.around

abbrev pub kept : Configuration → ℕ
kept c = full c.store.contexts
