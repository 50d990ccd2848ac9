-- Finding the handle of a tag (stack-switching explainer, execution): the innermost one with a clause of the right kind for it.
use Rattle.std.specs.Prelude.{◌≡◌, ◌↔◌, ℕ, Bool, false, true, nat_eq, List, [], ◌∷◌, ◌++◌, Option, Some, None, option_map, if◌then◌else◌}
use Rattle.lists.specs.Rows.{Row}
use Rattle.w_syntax.specs.Code.{Code}
use Rattle.w_syntax.specs.declared.instructions.Clause.{Clause}
use Rattle.w_syntax.specs.declared.instructions.Clause.TheVariants as clause
use Rattle.w_reduce.specs.Values.{Val}
use Rattle.w_reduce.specs.Terms.{Layer, Label, Frame, Handle, Context}

-- ## What clauses answer

-- the label of the first clause (on e l)
abbrev pub label_clause : ℕ → List Clause → Option ℕ
label_clause e [] = None
label_clause e (clause.Label x l ∷ hs) = if nat_eq x e then Some l else label_clause e hs
label_clause e (clause.Switch x ∷ hs) = label_clause e hs

-- whether there is a clause (on e switch)
abbrev pub has_switch : ℕ → List Clause → Bool
has_switch e [] = false
has_switch e (clause.Label x l ∷ hs) = has_switch e hs
has_switch e (clause.Switch x ∷ hs) = if nat_eq x e then true else has_switch e hs

abbrev pub switch_clause : ℕ → List Clause → Option (Unit {0})
switch_clause e hs = if has_switch e hs then Some tt else None

-- ## The handle

-- handle{clauses}, with the context inside it and that around it, and what its clauses answer
pub record Handler (A : Type 0) : Type 0 where
  pub inner : Context
  pub below : Row Val
  pub clauses : List Clause
  pub rest : Code
  pub outer : Context
  pub answer : A

module _ {A : Type 0} where
  abbrev pub one_more : Layer → Handler A → Handler A
  one_more layer h = record h { inner = layer ∷ h.inner }

  abbrev pub here_or : Option A → Row Val → List Clause → Code → Context → Option (Handler A) → Option (Handler A)
  here_or (Some a) below hs rest e farther = Some (record { inner = []; below = below; clauses = hs; rest = rest; outer = e; answer = a })
  here_or None below hs rest e farther = option_map (one_more (Handle below hs rest)) farther

  -- the innermost handle whose clauses have an answer
  abbrev pub find : (List Clause → Option A) → Context → Option (Handler A)
  find answer [] = None
  find answer (Label below n again rest ∷ e) = option_map (one_more (Label below n again rest)) (find answer e)
  find answer (Frame below n f locals rest ∷ e) = option_map (one_more (Frame below n f locals rest)) (find answer e)
  find answer (Handle below hs rest ∷ e) = here_or (answer hs) below hs rest e (find answer e)

  -- ## What it means that it is the innermost one

  -- no handle around the hole has a clause that answers
  abbrev pub Inner : (List Clause → Option A) → Context → Type 0
  Inner answer [] = Unit {0}
  Inner answer (Label below n again rest ∷ e) = Inner answer e
  Inner answer (Frame below n f locals rest ∷ e) = Inner answer e
  Inner answer (Handle below hs rest ∷ e) = (answer hs ≡ None) × Inner answer e

  -- the context is one in which no handle answers, inside a handle that does
  pub record IsInnermost (answer : List Clause → Option A) (e : Context) (h : Handler A) : Type 0 where
    pub context : e ≡ h.inner ++ Handle h.below h.clauses h.rest ∷ h.outer
    pub answers : answer h.clauses ≡ Some h.answer
    pub inner : Inner answer h.inner

-- exactly that handle is found, and none is found exactly where none answers
abbrev pub Finds : (A : Type 0) → Type 0
Finds A = (answer : List Clause → Option A) (e : Context) (h : Handler A) → (find answer e ≡ Some h) ↔ IsInnermost answer e h

abbrev pub FindsNone : (A : Type 0) → Type 0
FindsNone A = (answer : List Clause → Option A) (e : Context) → (find answer e ≡ None) ↔ Inner answer e
