-- More addresses, and what is bound where a body begins.
use Rattle.std.proofs.Common.{◌≡◌, ℕ, List, [], ◌∷◌, ◌++◌, map, length, take, drop, Option, Some, option_map, slice_get, if◌then◌else◌, Bool, refl, ap, ◌∙◌, subst}
use Rattle.std.specs.Str.{bytes_eq}
use Rattle.s_syntax.specs.declared.name.Name.{Name}
use Rattle.s_syntax.specs.declared.script.VariableType.{VariableType}
use Rattle.s_syntax.specs.declared.script.VariableType.TheVariants.{Int, Resumption, Coroutine}
use Rattle.s_syntax.specs.declared.script.Parameter.{Parameter}
use Rattle.s_syntax.specs.declared.script.Script.{Script}
use Rattle.s_check.specs.Scopes.{Scope, type_in, number as number_name, parameter}
use Rattle.s_meaning.specs.Typing.{kinds, numbers}
use Rattle.s_meaning.proofs.Scopes.{bool_of}
use Rattle.s_meaning.specs.Terms.{Value, Row, listed, listed_before, Variable, Head, Work, Activation, Handle, Group, Kept, Context}
use Rattle.s_meaning.specs.Focus.{variable_of}
use Rattle.s_meaning.specs.Steps.{bind, number_parameters}
use Rattle.s_meaning.specs.Typed.{World, HasKind, int, reference, coroutine, AllHave, none, more, FirstHave, begun, further, Variable_typed, Covers, WorkTyped, HeadTyped, under, left, right, among, within, calling, tail_calling, doing, handling, resuming, tail_resuming, grouping, ContextTyped, nothing, activation, handle, group, KeptTyped, takes_number, takes_both, takes_call, EntryTyped, emptied, kept}

-- ## More addresses

pub record Grows (Ξ Ξ' : World) : Type 0 where
  pub keeps : (a : ℕ) (t : VariableType) → slice_get Ξ a ≡ Some t → slice_get Ξ' a ≡ Some t

pub has_grows : {Ξ Ξ' : World} {v : Value} {k : VariableType} → Grows Ξ Ξ' → HasKind Ξ v k → HasKind Ξ' v k
has_grows g int = int
has_grows g (reference {a = a} {h = h} e) = reference (g.keeps a (Resumption h) e)
has_grows g (coroutine {a = a} e) = coroutine (g.keeps a Coroutine e)

pub all_grows : {Ξ Ξ' : World} {vs : List Value} {ks : List VariableType} → Grows Ξ Ξ' → AllHave Ξ vs ks → AllHave Ξ' vs ks
all_grows g none = none
all_grows g (more h t) = more (has_grows g h) (all_grows g t)

first_grows : {Ξ Ξ' : World} {all todo : List VariableType} {vs : Row} → Grows Ξ Ξ' → FirstHave Ξ all vs todo → FirstHave Ξ' all vs todo
first_grows g begun = begun
first_grows g (further t h) = further (first_grows g t) (has_grows g h)

pub covers_grows : {Ξ Ξ' : World} {Γ : Scope} {vars : List Variable} → Grows Ξ Ξ' → Covers Ξ Γ vars → Covers Ξ' Γ vars
covers_grows g c = record { covers = λ x k e. let v = c.covers x k e in record { variable = v.variable; there = v.there; of_kind = v.of_kind; has = has_grows g v.has } }

mutual
  pub work_grows : {p : Script} {Ξ Ξ' : World} {Γ : Scope} {w : List Work} {k : VariableType} → Grows Ξ Ξ' → WorkTyped p Ξ Γ w k → WorkTyped p Ξ' Γ w k
  work_grows g (under w) = under (work_grows g w)
  work_grows g (left e es w) = left e es (work_grows g w)
  work_grows g (right h es w) = right (has_grows g h) es (work_grows g w)
  work_grows g (among head vs es) = among (head_grows g head) (first_grows g vs) es
  work_grows g (within u b) = within u b

  pub head_grows : {p : Script} {Ξ Ξ' : World} {Γ : Scope} {head : Head} {all : List VariableType} {w : List Work} → Grows Ξ Ξ' → HeadTyped p Ξ Γ head all w → HeadTyped p Ξ' Γ head all w
  head_grows g (calling f w) = calling f (work_grows g w)
  head_grows g (tail_calling f) = tail_calling f
  head_grows g (doing op w) = doing op (work_grows g w)
  head_grows g (handling f h n w) = handling f h n (work_grows g w)
  head_grows g (resuming k i w) = resuming k i (work_grows g w)
  head_grows g (tail_resuming k i) = tail_resuming k i
  head_grows g (grouping f k w) = grouping f k (work_grows g w)

pub context_grows : {p : Script} {Ξ Ξ' : World} {κ : Context} → Grows Ξ Ξ' → ContextTyped p Ξ κ → ContextTyped p Ξ' κ
context_grows g nothing = nothing
context_grows g (activation c w κ) = activation (covers_grows g c) (work_grows g w) (context_grows g κ)
context_grows g (handle i ps κ) = handle i (all_grows g ps) (context_grows g κ)
context_grows g (group κ) = group (context_grows g κ)

kept_grows : {p : Script} {Ξ Ξ' : World} {t : VariableType} {k : Kept} → Grows Ξ Ξ' → KeptTyped p Ξ t k → KeptTyped p Ξ' t k
kept_grows g (takes_number κ) = takes_number (context_grows g κ)
kept_grows g (takes_both c b κ) = takes_both (covers_grows g c) b (context_grows g κ)
kept_grows g (takes_call f k) = takes_call f k

pub entry_grows : {p : Script} {Ξ Ξ' : World} {t : VariableType} {e : Option Kept} → Grows Ξ Ξ' → EntryTyped p Ξ t e → EntryTyped p Ξ' t e
entry_grows g emptied = emptied
entry_grows g (kept k) = kept (kept_grows g k)

pub context_append : {p : Script} {Ξ : World} {κ κ' : Context} → ContextTyped p Ξ κ → ContextTyped p Ξ κ' → ContextTyped p Ξ (κ ++ κ')
context_append nothing t = t
context_append (activation c w κ) t = activation c w (context_append κ t)
context_append (handle i ps κ) t = handle i ps (context_append κ t)
context_append (group κ) t = group (context_append κ t)

-- a context in two parts
pub context_parts : {p : Script} {Ξ : World} (κ κ' : Context) → ContextTyped p Ξ (κ ++ κ') → ContextTyped p Ξ κ × ContextTyped p Ξ κ'
context_parts [] κ' t = (nothing, t)
context_parts (Activation vars owner w ∷ κ) κ' (activation c u t) = let r = context_parts κ κ' t in (activation c u r.0, r.1)
context_parts (Handle h ps ∷ κ) κ' (handle i hs t) = let r = context_parts κ κ' t in (handle i hs r.0, r.1)
context_parts (Group ∷ κ) κ' (group t) = let r = context_parts κ κ' t in (group r.0, r.1)

-- ## Arguments

before_typed : {Ξ : World} {all todo : List VariableType} {vs : Row} {us : List Value} → FirstHave Ξ all vs todo → AllHave Ξ us todo → AllHave Ξ (listed_before vs us) all
before_typed begun us = us
before_typed (further t h) us = before_typed t (more h us)

pub listed_typed : {Ξ : World} {all : List VariableType} {vs : Row} → FirstHave Ξ all vs [] → AllHave Ξ (listed vs) all
listed_typed t = before_typed t none

pub taken_typed : {Ξ : World} {vs : List Value} (ks : List VariableType) (ps : List Parameter) → AllHave Ξ vs (kinds ps ++ ks) → AllHave Ξ (take (length ps) vs) (kinds ps)
taken_typed ks [] t = none
taken_typed ks (p ∷ ps) (more h t) = more h (taken_typed ks ps t)

pub dropped_typed : {Ξ : World} {vs : List Value} (ks : List VariableType) (ps : List Parameter) → AllHave Ξ vs (kinds ps ++ ks) → AllHave Ξ (drop (length ps) vs) ks
dropped_typed ks [] t = t
dropped_typed ks (p ∷ ps) (more h t) = dropped_typed ks ps t

-- ## Variables beside what is bound

pub data Match (Ξ : World) : Scope → List Variable → Type 0 where
  no_names : Match Ξ [] []
  name : {x : Name} {k : VariableType} {v : Value} {Γ : Scope} {vars : List Variable} → HasKind Ξ v k → Match Ξ Γ vars
      → Match Ξ (record { name = x; ty = k } ∷ Γ) (record { name = x; ty = k; value = v } ∷ vars)

pub match_append : {Ξ : World} {Γ Γ' : Scope} {vars vars' : List Variable} → Match Ξ Γ vars → Match Ξ Γ' vars' → Match Ξ (Γ ++ Γ') (vars ++ vars')
match_append no_names m = m
match_append (name h t) m = name h (match_append t m)

abbrev var : Name → VariableType → Value → Variable
var x k v = record { name = x; ty = k; value = v }

cover_more : {Ξ : World} {Γ : Scope} {vars : List Variable} {v : Value} {j : VariableType} (y : Name) → HasKind Ξ v j → Covers Ξ Γ vars
    → Covers Ξ (record { name = y; ty = j } ∷ Γ) (record { name = y; ty = j; value = v } ∷ vars)
cover_more {Ξ} {Γ} {vars} {v} {j} y h c = record { covers = covers }
  where
    covers : (x : Name) (k : VariableType) → type_in (record { name = y; ty = j } ∷ Γ) x ≡ Some k → Variable_typed Ξ (record { name = y; ty = j; value = v } ∷ vars) x k
    covers x k = bool_of (bytes_eq y x) (λ b. (if b then Some j else type_in Γ x) ≡ Some k → Variable_typed Ξ (record { name = y; ty = j; value = v } ∷ vars) x k)
        (λ q e. record { variable = var y j v; there = ap (λ (b : Bool). if b then Some (var y j v) else variable_of x vars) q; of_kind = cc e; has = subst (λ (i : VariableType). HasKind Ξ v i) (cc e) h })
        (λ q e. let t = c.covers x k e in
        record { variable = t.variable; there = ap (λ (b : Bool). if b then Some (var y j v) else variable_of x vars) q ∙ t.there; of_kind = t.of_kind; has = t.has })

pub match_covers : {Ξ : World} {Γ : Scope} {vars : List Variable} → Match Ξ Γ vars → Covers Ξ Γ vars
match_covers no_names = record { covers = λ x k e. absurd (cc) }
match_covers (name {x = y} h t) = cover_more y h (match_covers t)

pub record Bindings (Ξ : World) (Γ : Scope) (o : Option (List Variable)) : Type 0 where
  pub vars : List Variable
  pub is : o ≡ Some vars
  pub match : Match Ξ Γ vars

pub bound_typed : {Ξ : World} {vs : List Value} (ps : List Parameter) → AllHave Ξ vs (kinds ps) → Bindings Ξ (map parameter ps) (bind ps vs)
bound_typed [] none = record { vars = []; is = refl; match = no_names }
bound_typed (p ∷ ps) (more {v = v} h t) = let b = bound_typed ps t in record {
  vars = record { name = p.name; ty = p.ty; value = v } ∷ b.vars;
  is = ap (λ (o : Option (List Variable)). option_map (λ (xs : List Variable). record { name = p.name; ty = p.ty; value = v } ∷ xs) o) b.is;
  match = name h b.match;
}

pub ints_typed : {Ξ : World} {vs : List Value} (xs : List Name) → AllHave Ξ vs (numbers (length xs)) → Bindings Ξ (map number_name xs) (bind (number_parameters xs) vs)
ints_typed [] none = record { vars = []; is = refl; match = no_names }
ints_typed (x ∷ xs) (more {v = v} h t) = let b = ints_typed xs t in record {
  vars = record { name = x; ty = Int; value = v } ∷ b.vars;
  is = ap (λ (o : Option (List Variable)). option_map (λ (ys : List Variable). record { name = x; ty = Int; value = v } ∷ ys) o) b.is;
  match = name h b.match;
}
