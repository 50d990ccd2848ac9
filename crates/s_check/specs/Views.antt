-- What the checker keeps of names, and what it stands for.
use Rattle.std.specs.Prelude.{◌≡◌, ℕ, Bool, List, map, Option, Some, None, slice_get, if◌then◌else◌}
use Rattle.std.specs.Borrow.{Bor}
use Rattle.std.specs.Option.{option_map}
use Rattle.std.specs.BTreeMap.{BTreeMap}
use Rattle.std.specs.BTreeMap as tree
use Rattle.std.specs.BTreeSet.{BTreeSet, contains_by}
use Rattle.std.specs.Cmp.Lexicographic.{slice_cmp}
use Rattle.std.specs.Ordering.{nat_cmp}
use Rattle.std.specs.Str.{bytes_eq}
use Rattle.s_syntax.specs.declared.name.Name.{Name}
use Rattle.s_syntax.specs.declared.script.Definition.{Definition}
use Rattle.s_syntax.specs.declared.script.Declaration.{Declaration}
use Rattle.s_syntax.specs.declared.script.VariableType.{VariableType}
use Rattle.s_syntax.specs.declared.script.VariableType.TheVariants.{Int, Resumption, Coroutine}
use Rattle.s_check.specs.declared.bound.ValueType.{ValueType}
use Rattle.s_check.specs.declared.bound.ValueType.TheVariants as value
use Rattle.s_check.specs.declared.bound.Binding.{Binding}
use Rattle.s_check.specs.Definitions.{definition_of}
use Rattle.s_check.specs.Scopes.{Bound, Scope, is_among}

-- ## Value names

abbrev pub type_of : ValueType → VariableType
type_of value.Int = Int
type_of (value.Resumption h) = Resumption h.now
type_of value.Coroutine = Coroutine

abbrev pub bound_of : Binding → Bound
bound_of b = record { name = b.name.now; ty = type_of b.ty }

abbrev pub scope_of : List Binding → Scope
scope_of bs = map bound_of bs

-- the type of a binding, where it is there and has the name
abbrev pub type_at : Option Binding → Name → Option ValueType
type_at None x = None
type_at (Some b) x = if bytes_eq b.name.now x then Some b.ty else None

-- names by their bytes
abbrev pub names_of : List (Bor Name) → List Name
names_of xs = map (λ (x : Bor Name). x.now) xs

-- the place of a name
abbrev pub place_of : BTreeMap (Bor (List ℕ)) ℕ → Name → Option ℕ
place_of m x = tree.get_by (λ (k : Bor (List ℕ)). slice_cmp nat_cmp x k.now) m

-- each name is found at its place
abbrev pub Places : BTreeMap (Bor (List ℕ)) ℕ → List Binding → Type 0
Places m bs = (i : ℕ) (b : Binding) → slice_get bs i ≡ Some b → place_of m b.name.now ≡ Some i

-- ## Names of declarations

abbrev pub found : BTreeMap (Bor (List ℕ)) (Bor Definition) → Name → Option Definition
found m x = option_map (λ (d : Bor Definition). d.now) (tree.get_by (λ (k : Bor (List ℕ)). slice_cmp nat_cmp x k.now) m)

-- each name finds what it stands for
abbrev pub Finds : BTreeMap (Bor (List ℕ)) (Bor Definition) → List Declaration → Type 0
Finds m ds = (x : Name) → found m x ≡ definition_of ds x

-- ## Sets of names

abbrev pub has : BTreeSet (Bor (List ℕ)) → Name → Bool
has s x = contains_by (λ (k : Bor (List ℕ)). slice_cmp nat_cmp x k.now) s

-- the set has these names and no others
abbrev pub HasNames : BTreeSet (Bor (List ℕ)) → List Name → Type 0
HasNames s xs = (x : Name) → has s x ≡ is_among xs x
