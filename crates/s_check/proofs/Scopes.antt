-- Scopes that grow.
use Rattle.std.proofs.Common.{◌≡◌, ℕ, Bool, true, false, List, [], ◌∷◌, ◌++◌, ◌+◌, ◌<◌, length, take, drop, map, get_or, refl, sym, ap, ◌∙◌, append_assoc}
use Rattle.std.specs.Prelude.{is_some, if◌then◌else◌}
use Rattle.s_syntax.specs.declared.statement.Use.{Use}
use Rattle.s_syntax.specs.declared.statement.Use.TheVariants as use_for
use Rattle.s_syntax.specs.BlockTree.{StatementTree, Evaluate, If, While, Fail, Spawn}
use Rattle.s_syntax.specs.declared.script.Declaration.{Declaration}
use Rattle.s_check.specs.Definitions.{slots_of}
use Rattle.s_check.specs.Rules.{handler_of_slots, bound_by, bound_after}
use Rattle.s_check.specs.declared.bound.Binding.{Binding}
use Rattle.s_check.specs.Scopes.{Bound, Scope, type_in, bind, number, resumption, coroutine}
use Rattle.s_check.specs.Views.{bound_of, scope_of}
use Rattle.lists.proofs.Lists.{cell}
use Rattle.s_check.proofs.Names.{scope_more}

-- what was bound at first stays in front, where more is bound
front_more : (first scope : Scope) (b : Bound) → take (length first) scope ≡ first → take (length first) (scope ++ b ∷ []) ≡ first
front_more [] scope b h = refl
front_more (a ∷ first) [] b h = absurd (cc)
front_more (a ∷ first) (c ∷ scope) b h = let head : c ≡ a = cc in let rest : take (length first) scope ≡ first = cc in ap (λ (x : Bound). x ∷ take (length first) (scope ++ b ∷ [])) head ∙ ap (λ (l : Scope). a ∷ l) (front_more first scope b rest)

front_bound : (first scope : Scope) (b : Bound) (is : Bool) → take (length first) scope ≡ first → take (length first) (if is then scope else scope ++ b ∷ []) ≡ first
front_bound first scope b true h = h
front_bound first scope b false h = front_more first scope b h

front_by : (ds : List Declaration) (u : Use) (first scope : Scope) → take (length first) scope ≡ first → take (length first) (bound_by ds u scope) ≡ first
front_by ds (use_for.Let x) first scope h = front_bound first scope (number x) (is_some (type_in scope x)) h
front_by ds (use_for.Assign x) first scope h = h
front_by ds use_for.Print first scope h = h
front_by ds use_for.Return first scope h = h
front_by ds use_for.Drop first scope h = h
front_by ds (use_for.Store s k) first scope h = h
front_by ds (use_for.Take k s) first scope h = front_bound first scope (resumption (handler_of_slots s (slots_of ds s)) k) (is_some (type_in scope k)) h
front_by ds (use_for.Switch x u t) first scope h =
    front_bound first (bind (number x) scope) (coroutine u) (is_some (type_in (bind (number x) scope) u)) (front_bound first scope (number x) (is_some (type_in scope x)) h)

front_after : (ds : List Declaration) (s : StatementTree) (first scope : Scope) → take (length first) scope ≡ first → take (length first) (bound_after ds s scope) ≡ first
front_after ds (Evaluate u e) first scope h = front_by ds u first scope h
front_after ds (If c a b) first scope h = h
front_after ds (While c b) first scope h = h
front_after ds Fail first scope h = h
front_after ds (Spawn t f) first scope h = front_bound first scope (coroutine t) (is_some (type_in scope t)) h

-- behind a statement
pub kept_after : (ds : List Declaration) (s : StatementTree) (first scope after : Scope) → take (length first) scope ≡ first → after ≡ bound_after ds s scope → take (length first) after ≡ first
kept_after ds s first scope after h e = ap (take (length first)) e ∙ front_after ds s first scope h

-- ## Lists that are filled

-- one item of xs more, as the name that it binds
pub pushed : {A : Type 0} (f : A → Bound) (xs : List A) (i : ℕ) (x : A) (bs new : List Binding) (b : Binding) (all : Scope) → i < length xs → x ≡ get_or xs i x → new ≡ bs ++ b ∷ [] → bound_of b ≡ f x
    → scope_of bs ++ map f (drop i xs) ≡ all → scope_of new ++ map f (drop (i + 1) xs) ≡ all
pushed f xs i x bs new b all h e n is inv =
    ap (λ (l : List Binding). scope_of l ++ map f (drop (i + 1) xs)) n
    ∙ ap (λ (s : Scope). s ++ map f (drop (i + 1) xs)) (scope_more bs b)
    ∙ append_assoc (scope_of bs) (bound_of b ∷ []) (map f (drop (i + 1) xs))
    ∙ ap (λ (y : Bound). scope_of bs ++ y ∷ map f (drop (i + 1) xs)) is
    ∙ ap (λ (l : List _). scope_of bs ++ map f l) (sym (cell xs i x h e))
    ∙ inv
