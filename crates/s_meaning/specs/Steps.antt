-- The steps of scripts. Each rule's comment is the rule in the field's notation: σ is the store, E the context of the activation
-- that takes the step, with its variables, and F, F', G further contexts; E[..] stands for the step's result in that activation.
use Rattle.std.specs.Prelude.{ℕ, ℤ, pos, negsuc, List, [], ◌∷◌, ◌++◌, Option, Some, None, length, take, drop, slice_get, slice_set, option_map, codes, if◌then◌else◌}
use Rattle.std.specs.Str.{bytes_eq}
use Rattle.following.specs.Steps.{Stepped, Goes, Returns, Faults, Wrong}
use Rattle.s_syntax.specs.declared.name.Name.{Name}
use Rattle.s_syntax.specs.declared.script.VariableType.{VariableType}
use Rattle.s_syntax.specs.declared.script.VariableType.TheVariants.{Int, Resumption, Coroutine}
use Rattle.s_syntax.specs.declared.script.Parameter.{Parameter}
use Rattle.s_syntax.specs.declared.script.Clause.{Clause}
use Rattle.s_syntax.specs.declared.script.Handler.{Handler}
use Rattle.s_syntax.specs.declared.script.Script.{Script}
use Rattle.s_syntax.specs.declared.operators.BinaryOperator.TheVariants.{Connects}
use Rattle.s_syntax.specs.BlockTree.{BlockTree, While, Done, ◌⨟◌}
use Rattle.s_check.specs.Definitions.{function_of, handler_of}
use Rattle.s_meaning.specs.Numbers.{Fault, Failed, Reused, Empty, Unhandled, Computed, Is, Faulty, holds, truth, unary, operate, decided, line}
use Rattle.s_meaning.specs.Terms.{Value, Number, Reference, listed, Variable, Head, Calling, Doing, Handling, Resuming, TailResuming, TailCalling, Grouping, Use, ToStore, ToPrint, ToDrop, ToReturn, ToChoose, ToTurn, ToPut, ToTake, ToSwitch, Work, RightOf, Place, Activation, Handle, Group, Context, Hole, Gives, Finds, Runs, Takes, Both, Begins, Kept, captured, switched, spawned, Contents, Store, Configuration}
use Rattle.s_meaning.specs.Focus.{Redex, Constant, Lookup, OnUnary, OnBinary, Decides, Applies, Uses, Fails, Spawns, Ends, left_of, variable_of, focus}

abbrev pub Step : Type 0
Step = Stepped ℤ Fault Configuration

-- ## Taking what a rule needs; where it isn't there no rule applies

infixl 1 ◌>>=◌
abbrev pub ◌>>=◌ : {A : Type 0} → ((A → Step) → Step) → (A → Step) → Step
e >>= go = e go

abbrev pub or_wrong : {A : Type 0} → Option A → (A → Step) → Step
or_wrong None go = Wrong
or_wrong (Some a) go = go a

abbrev pub or_fault : {A : Type 0} → Fault → Option A → (A → Step) → Step
or_fault f None go = Faults f
or_fault f (Some a) go = go a

abbrev pub unless_faulty : Computed → (ℤ → Step) → Step
unless_faulty (Is n) go = go n
unless_faulty (Faulty f) go = Faults f

abbrev pub as_number : Value → (ℤ → Step) → Step
as_number (Number n) go = go n
as_number (Reference a) go = Wrong

abbrev pub as_reference : Value → (ℕ → Step) → Step
as_reference (Number n) go = Wrong
as_reference (Reference a) go = go a

abbrev pub as_resumption : VariableType → (Name → Step) → Step
as_resumption Int go = Wrong
as_resumption (Resumption h) go = go h
as_resumption Coroutine go = Wrong

abbrev pub first_and_rest : List Value → (Value × List Value → Step) → Step
first_and_rest [] go = Wrong
first_and_rest (v ∷ vs) go = go (v, vs)

-- ## Variables

abbrev pub bind : List Parameter → List Value → Option (List Variable)
bind [] [] = Some []
bind [] (v ∷ vs) = None
bind (p ∷ ps) [] = None
bind (p ∷ ps) (v ∷ vs) = option_map (λ (xs : List Variable). record { name = p.name; ty = p.ty; value = v } ∷ xs) (bind ps vs)

abbrev pub number_parameter : Name → Parameter
number_parameter x = record { name = x; ty = Int }

abbrev pub number_parameters : List Name → List Parameter
number_parameters [] = []
number_parameters (x ∷ xs) = number_parameter x ∷ number_parameters xs

-- this variable takes the place of the one of its name, if there is one
abbrev pub with_variable : Variable → List Variable → List Variable
with_variable x [] = x ∷ []
with_variable x (v ∷ vs) = if bytes_eq v.name x.name then x ∷ vs else (v ∷ with_variable x vs)

-- the variable x is n from now on
abbrev pub stored : Name → ℤ → List Variable → List Variable
stored x n vs = with_variable (record { name = x; ty = Int; value = Number n }) vs

-- and the variable t the coroutine at address a
abbrev pub with_coroutine : Name → ℕ → List Variable → List Variable
with_coroutine t a vs = with_variable (record { name = t; ty = Coroutine; value = Reference a }) vs

-- ## Blocks

-- the statements of one block, and then those of another
infixr 50 ◌⨟⨟◌
abbrev pub ◌⨟⨟◌ : BlockTree → BlockTree → BlockTree
Done ⨟⨟ d = d
(s ⨟ b) ⨟⨟ d = s ⨟ (b ⨟⨟ d)

-- ## The context up to the innermost place that answers a question

-- E is outer[ place[ inner ] ], and the place answers this
pub record Cut (A : Type 0) : Type 0 where
  pub inner : Context
  pub answer : A
  pub outer : Context

module _ {A : Type 0} where
  abbrev pub inward : Place → Cut A → Cut A
  inward place c = record c { inner = place ∷ c.inner }

  -- here, where this place answers, and else farther out
  abbrev pub here_or : Place → Context → Option A → Option (Cut A) → Option (Cut A)
  here_or place κ (Some a) farther = Some (record { inner = []; answer = a; outer = κ })
  here_or place κ None farther = option_map (inward place) farther

  abbrev pub cut_at : (Place → Option A) → Context → Option (Cut A)
  cut_at test [] = None
  cut_at test (place ∷ κ) = here_or place κ (test place) (cut_at test κ)

-- ## A handle whose handler has a clause for an effect

pub record Found : Type 0 where
  pub h : Name
  pub handler : Handler
  pub params : List Value
  pub clause : Clause

abbrev pub clause_of : Name → List Clause → Option Clause
clause_of op [] = None
clause_of op (c ∷ cs) = if bytes_eq c.effect op then Some c else clause_of op cs

abbrev pub with_clause : Name → List Value → Handler → Option Clause → Option Found
with_clause h ps g None = None
with_clause h ps g (Some c) = Some (record { h = h; handler = g; params = ps; clause = c })

abbrev pub with_handler : Name → Name → List Value → Option Handler → Option Found
with_handler op h ps None = None
with_handler op h ps (Some g) = with_clause h ps g (clause_of op g.clauses)

-- does a place catch op, and by what
abbrev pub catches : Script → Name → Place → Option Found
catches p op (Activation vars owner work) = None
catches p op (Handle h ps) = with_handler op h ps (handler_of p.declarations h)
catches p op Group = None

-- ## A group

abbrev pub is_group : Place → Option (Unit {0})
is_group (Activation vars owner work) = None
is_group (Handle h ps) = None
is_group Group = Some tt

-- What a switch is told to lack where no group is around it. No effect has this name, since it is a keyword.
abbrev pub group_name : Name
group_name = codes "group"

-- ## The store

abbrev pub with_kept : Store → Kept → Store
with_kept σ k = record σ { contexts = σ.contexts ++ Some k ∷ [] }

abbrev pub emptied : Store → ℕ → Store
emptied σ a = record σ { contexts = slice_set σ.contexts a None }

abbrev pub next_address : Store → ℕ
next_address σ = length σ.contexts

-- what is kept at an address; None where it was consumed
abbrev pub kept_at : Store → ℕ → Option (Option Kept)
kept_at σ a = slice_get σ.contexts a

-- ## Slots

-- what the slots of this name hold
abbrev pub contents_of : Name → List Contents → Option Contents
contents_of s [] = None
contents_of s (c ∷ cs) = if bytes_eq c.name s then Some c else contents_of s cs

-- these take the place of those of their name
abbrev pub with_contents : Contents → List Contents → List Contents
with_contents c [] = []
with_contents c (d ∷ ds) = if bytes_eq d.name c.name then c ∷ ds else (d ∷ with_contents c ds)

-- the place of this number; there is none below 0, nor past the end
abbrev pub place_at : {A : Type 0} → List A → ℤ → Option A
place_at xs (pos n) = slice_get xs n
place_at xs (negsuc n) = None

abbrev pub with_place : {A : Type 0} → List A → ℤ → A → List A
with_place xs (pos n) x = slice_set xs n x
with_place xs (negsuc n) x = xs

-- the slots c hold this at place n from now on
abbrev pub put : Store → Contents → ℤ → Option ℕ → Store
put σ c n place = record σ { slots = with_contents (record c { places = with_place c.places n place }) σ.slots }

-- ## The rules

-- where a redex stands: the store, its activation, and the context around that
pub record Around : Type 0 where
  pub store : Store
  pub variables : List Variable
  pub owner : Option Name
  pub work : List Work
  pub outer : Context

abbrev pub goes : Store → Hole → Context → Step
goes σ hole κ = Goes [] (record { store = σ; term = record { hole = hole; around = κ } })

-- E itself, its activation included
abbrev pub whole : Around → Context
whole e = Activation e.variables e.owner e.work ∷ e.outer

-- E[hole]
abbrev pub goes_on : Around → Hole → Step
goes_on e hole = goes e.store hole (whole e)

-- a new activation in this context
abbrev pub enters : Store → BlockTree → List Variable → Option Name → Context → Step
enters σ body vars owner κ = goes σ (Runs body) (Activation vars owner [] ∷ κ)

-- F[v], where F is around an activation that ends; the end of the script where there is no F
abbrev pub leaves : Store → Context → Value → Step
leaves σ [] v = do
  n ← as_number v
  Returns n
leaves σ (place ∷ κ) v = goes σ (Gives v) (place ∷ κ)

-- σ; E[resume k(v) with (bs)]  ⟶  σ with k emptied; E[handle F[v] with h(bs)]
-- where k is of type res h, and kept F
abbrev pub resumes : Around → Name → List Value → Context → Step
resumes e k vs κ = do
  (v, bs) ← first_and_rest vs
  x ← or_wrong (variable_of k e.variables)
  h ← as_resumption x.ty
  a ← as_reference x.value
  entry ← or_wrong (kept_at e.store a)
  kept ← or_fault Reused entry
  goes (emptied e.store a) (Gives v) (kept.around ++ Handle h bs ∷ κ)

-- E[f(vs)]  ⟶  E[body of f, its parameters being vs], E being κ
abbrev pub calls : Script → Store → Name → List Value → Context → Step
calls p σ f vs κ = do
  g ← or_wrong (function_of p.declarations f)
  vars ← or_wrong (bind g.parameters vs)
  enters σ g.body vars None κ

-- κ[clause that was found, with vs, ps and k], k being the resumption at address a
abbrev pub enters_clause : Store → Found → List Value → (a : ℕ) → Context → Step
enters_clause σ f vs a κ = do
  params ← or_wrong (bind f.handler.parameters f.params)
  args ← or_wrong (bind (number_parameters f.clause.arguments) vs)
  let k : Variable = record { name = f.clause.resumption; ty = Resumption f.h; value = Reference a } in
      enters σ f.clause.body (params ++ (args ++ k ∷ [])) (Some f.h) κ

-- κ[G[n, c]]: the rest of a body goes on in G, n and c being x and u; or f is called with them
abbrev pub goes_into : Script → Store → Takes → Context → (n : ℤ) → (c : ℕ) → Context → Step
goes_into p σ (Both x u rest) (Activation vars owner work ∷ G) n c κ = enters σ rest (with_coroutine u c (stored x n vars)) owner (G ++ κ)
goes_into p σ (Begins f) G n c κ = calls p σ f (Number n ∷ Reference c ∷ []) (G ++ κ)
goes_into p σ takes G n c κ = Wrong

abbrev pub applies : Script → Around → Head → List Value → Step
applies p e (Calling f) vs = calls p e.store f vs (whole e)
-- E's activation ends first
applies p e (TailCalling f) vs = calls p e.store f vs e.outer
-- σ; F'[handle F[do op(vs)] with h(ps)]  ⟶  σ, k kept F; F'[clause of h for op, with vs, ps and k]
-- where no handle in F has a clause for op
applies p e (Doing op) vs = do
  c ← or_fault (Unhandled op) (cut_at (catches p op) (whole e))
  enters_clause (with_kept e.store (captured c.inner)) c.answer vs (next_address e.store) c.outer
-- E[handle f(us) with h(bs)]  ⟶  E[handle (body of f, its parameters being us) with h(bs)]
applies p e (Handling f n h) vs = do
  g ← or_wrong (function_of p.declarations f)
  vars ← or_wrong (bind g.parameters (take n vs))
  enters e.store g.body vars None (Handle h (drop n vs) ∷ whole e)
applies p e (Resuming k) vs = resumes e k vs (whole e)
-- E's activation ends first
applies p e (TailResuming k) vs = resumes e k vs e.outer
-- E[group f(v)]  ⟶  E[group (body of f, its parameter being v)]
applies p e (Grouping f) vs = calls p e.store f vs (Group ∷ whole e)

-- σ; F'[group F[switch x, u = t(v);]]  ⟶  σ with t emptied, c kept F[x, u = [ ], [ ];]; F'[group G[v, c]]
-- where t kept G, and no group is in F
abbrev pub switches : Script → Around → (x u t : Name) → Value → BlockTree → Step
switches p e x u t v rest = do
  n ← as_number v
  y ← or_wrong (variable_of t e.variables)
  a ← as_reference y.value
  entry ← or_wrong (kept_at e.store a)
  kept ← or_fault Reused entry
  c ← or_fault (Unhandled group_name) (cut_at is_group (whole e))
  goes_into p (with_kept (emptied e.store a) (switched x u rest c.inner)) kept.takes kept.around n (next_address e.store) (Group ∷ c.outer)

abbrev pub uses : Script → Around → Use → Value → BlockTree → Step
-- let x = v; and x = v;
uses p e (ToStore x) v rest = do
  n ← as_number v
  goes_on (record e { variables = stored x n e.variables }) (Runs rest)
-- print v;
uses p e ToPrint v rest = do
  n ← as_number v
  Goes (line n) (record { store = e.store; term = record { hole = Runs rest; around = whole e } })
-- v;
uses p e ToDrop v rest = goes_on e (Runs rest)
-- return v;
uses p e ToReturn v rest = leaves e.store e.outer v
-- if v { b } else { d }
uses p e (ToChoose b d) v rest = do
  n ← as_number v
  goes_on e (Runs ((if holds n then b else d) ⨟⨟ rest))
-- while v { body }, whose condition is c
uses p e (ToTurn c body) v rest = do
  n ← as_number v
  goes_on e (Runs (if holds n then body ⨟⨟ While c body ⨟ rest else rest))
-- σ; E[store s[v] = k;]  ⟶  σ with k at place v of s; E[]   where s has this place
uses p e (ToPut s k) v rest = do
  n ← as_number v
  x ← or_wrong (variable_of k e.variables)
  a ← as_reference x.value
  c ← or_wrong (contents_of s e.store.slots)
  place ← or_fault Empty (place_at c.places n)
  goes_on (record e { store = put e.store c n (Some a) }) (Runs rest)
-- σ; E[take k = s[v];]  ⟶  σ with place v of s empty; E[] with what stood there as k   where s has this place, and it isn't empty
uses p e (ToTake k s) v rest = do
  n ← as_number v
  c ← or_wrong (contents_of s e.store.slots)
  place ← or_fault Empty (place_at c.places n)
  a ← or_fault Empty place
  let x : Variable = record { name = k; ty = Resumption c.handler; value = Reference a } in
      goes_on (record e { store = put e.store c n None; variables = with_variable x e.variables }) (Runs rest)
uses p e (ToSwitch x u t) v rest = switches p e x u t v rest

abbrev pub rule : Script → Around → Redex → Step
-- E[n]  ⟶  E[n]
rule p e (Constant n) = goes_on e (Gives (Number (pos n.value)))
-- E[x]  ⟶  E[v]   where x is v
rule p e (Lookup x) = do
  v ← or_wrong (variable_of x e.variables)
  goes_on e (Gives v.value)
rule p e (OnUnary o v) = do
  a ← as_number v
  goes_on e (Gives (Number (unary o a)))
rule p e (OnBinary o v w) = do
  a ← as_number v
  b ← as_number w
  n ← unless_faulty (operate o a b)
  goes_on e (Gives (Number n))
-- the left side decides; or the right side is evaluated, whose value the operator then makes 0 or 1
rule p e (Decides c v right more) = do
  a ← as_number v
  if decided c a then goes_on (record e { work = left_of more e.work }) (Gives (Number (truth (holds a))))
      else goes_on (record e { work = RightOf v (Connects c) more ∷ e.work }) (Finds right)
rule p e (Applies head vs) = applies p e head (listed vs)
rule p e (Uses u v rest) = uses p e u v rest
-- fail;
rule p e Fails = Faults Failed
-- σ; E[spawn t = f;]  ⟶  σ, c kept f([ ], [ ]); E[] with c as t
rule p e (Spawns t f rest) =
    goes_on (record e { store = with_kept e.store (spawned f); variables = with_coroutine t (next_address e.store) e.variables }) (Runs rest)
-- a body that runs to its end returns 0
rule p e Ends = leaves e.store e.outer (Number (pos 0))

-- ## One step

abbrev pub step_at : Script → Store → Hole → Context → Step
step_at p σ hole [] = Wrong
step_at p σ hole (Activation vars owner work ∷ κ) = do
  r ← or_wrong (focus vars owner hole work)
  rule p (record { store = σ; variables = vars; owner = owner; work = r.work; outer = κ }) r.redex
-- E[handle v with h(ps)]  ⟶  E[return clause of h, with v and ps]
step_at p σ (Gives v) (Handle h ps ∷ κ) = do
  g ← or_wrong (handler_of p.declarations h)
  params ← or_wrong (bind g.parameters ps)
  n ← as_number v
  enters σ g.return_clause.body (params ++ record { name = g.return_clause.value; ty = Int; value = Number n } ∷ []) (Some h) κ
step_at p σ hole (Handle h ps ∷ κ) = Wrong
-- E[group v]  ⟶  E[v]
step_at p σ (Gives v) (Group ∷ κ) = leaves σ κ v
step_at p σ hole (Group ∷ κ) = Wrong

abbrev pub step : Script → Configuration → Step
step p c = step_at p c.store c.term.hole c.term.around
