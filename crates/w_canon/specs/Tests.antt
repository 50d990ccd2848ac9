-- Equivalence, matching and equality of types as tests on the entries of the types of a module. Each computes by cases, on its
-- first argument first.
use Rattle.std.specs.Prelude.{ℕ, Bool, true, false, not, ◌&&◌, ◌||◌, ◌==◌, List, [], ◌∷◌, Option, Some, None, slice_get}
use Rattle.std.specs.Bool.{beq}
use Rattle.w_types.specs.declared.types.HeapType.{HeapType}
use Rattle.w_types.specs.declared.types.HeapType.TheVariants.{Func, NoFunc, Cont, NoCont, Index}
use Rattle.w_types.specs.declared.types.RefType.{RefType}
use Rattle.w_types.specs.declared.types.ValType.{ValType}
use Rattle.w_types.specs.declared.types.ValType.TheVariants.{I32, I64, Ref}
use Rattle.w_types.specs.declared.types.FuncType.{FuncType}
use Rattle.w_types.specs.declared.types.CompType.{CompType}
use Rattle.w_types.specs.declared.types.CompType.TheVariants as comp
use Rattle.w_canon.specs.declared.entry.Class.{Class}
use Rattle.w_canon.specs.declared.entry.Kind.{Kind}
use Rattle.w_canon.specs.declared.entry.Kind.TheVariants as kind
use Rattle.w_canon.specs.declared.entry.Entry.{Entry}
use Rattle.w_canon.specs.Forest.{span_test}

-- ## Lists

-- of one length, and the items at each place pass the test
abbrev pub pairwise_test : {A : Type 0} → (A → A → Bool) → List A → List A → Bool
pairwise_test f [] [] = true
pairwise_test f [] (y ∷ ys) = false
pairwise_test f (x ∷ xs) [] = false
pairwise_test f (x ∷ xs) (y ∷ ys) = f x y && pairwise_test f xs ys

-- ## Equivalence

abbrev pub class_test : Class → Class → Bool
class_test a b = a.group == b.group && a.position == b.position

-- both have entries, and these have one class
abbrev pub one_class_test : Option Entry → Option Entry → Bool
one_class_test None o = false
one_class_test (Some a) None = false
one_class_test (Some a) (Some b) = class_test a.class b.class

-- types i and j are equivalent
abbrev pub same_test : List Entry → ℕ → ℕ → Bool
same_test es i j = i == j || one_class_test (slice_get es i) (slice_get es j)

-- both have entries, and the span of the first begins inside that of the second
abbrev pub one_below_test : Option Entry → Option Entry → Bool
one_below_test None o = false
one_below_test (Some a) None = false
one_below_test (Some a) (Some b) = span_test a.span b.span

-- type i matches type j
abbrev pub index_test : List Entry → ℕ → ℕ → Bool
index_test es i j = same_test es i j || one_below_test (slice_get es i) (slice_get es j)

-- ## Kinds

abbrev pub one_kind_test : Kind → Kind → Bool
one_kind_test kind.Func kind.Func = true
one_kind_test kind.Func kind.Cont = false
one_kind_test kind.Cont kind.Func = false
one_kind_test kind.Cont kind.Cont = true

abbrev pub has_kind_test : Option Entry → Kind → Bool
has_kind_test None k = false
has_kind_test (Some e) k = one_kind_test e.kind k

-- type i is of this kind
abbrev pub kind_test : List Entry → ℕ → Kind → Bool
kind_test es i k = has_kind_test (slice_get es i) k

-- ## Matching

abbrev pub heap_test : List Entry → HeapType → HeapType → Bool
heap_test es Func Func = true
heap_test es Func b = false
heap_test es NoFunc Func = true
heap_test es NoFunc NoFunc = true
heap_test es NoFunc (Index y) = kind_test es y kind.Func
heap_test es NoFunc b = false
heap_test es Cont Cont = true
heap_test es Cont b = false
heap_test es NoCont Cont = true
heap_test es NoCont NoCont = true
heap_test es NoCont (Index y) = kind_test es y kind.Cont
heap_test es NoCont b = false
heap_test es (Index x) Func = kind_test es x kind.Func
heap_test es (Index x) Cont = kind_test es x kind.Cont
heap_test es (Index x) (Index y) = index_test es x y
heap_test es (Index x) b = false

abbrev pub ref_test : List Entry → RefType → RefType → Bool
ref_test es r q = (not r.nullable || q.nullable) && heap_test es r.heap q.heap

abbrev pub val_test : List Entry → ValType → ValType → Bool
val_test es I32 I32 = true
val_test es I32 b = false
val_test es I64 I64 = true
val_test es I64 b = false
val_test es (Ref r) (Ref q) = ref_test es r q
val_test es (Ref r) b = false

abbrev pub result_test : List Entry → List ValType → List ValType → Bool
result_test es ts us = pairwise_test (val_test es) ts us

abbrev pub func_test : List Entry → FuncType → FuncType → Bool
func_test es f g = result_test es g.params f.params && result_test es f.results g.results

abbrev pub comp_test : List Entry → CompType → CompType → Bool
comp_test es (comp.Func f) (comp.Func g) = func_test es f g
comp_test es (comp.Func f) b = false
comp_test es (comp.Cont x) (comp.Cont y) = index_test es x y
comp_test es (comp.Cont x) b = false

-- ## Matching as words tell it, where of indices those match that are equivalent

abbrev pub heap_narrow_test : List Entry → HeapType → HeapType → Bool
heap_narrow_test es Func Func = true
heap_narrow_test es Func b = false
heap_narrow_test es NoFunc Func = true
heap_narrow_test es NoFunc NoFunc = true
heap_narrow_test es NoFunc (Index y) = kind_test es y kind.Func
heap_narrow_test es NoFunc b = false
heap_narrow_test es Cont Cont = true
heap_narrow_test es Cont b = false
heap_narrow_test es NoCont Cont = true
heap_narrow_test es NoCont NoCont = true
heap_narrow_test es NoCont (Index y) = kind_test es y kind.Cont
heap_narrow_test es NoCont b = false
heap_narrow_test es (Index x) Func = kind_test es x kind.Func
heap_narrow_test es (Index x) Cont = kind_test es x kind.Cont
heap_narrow_test es (Index x) (Index y) = same_test es x y
heap_narrow_test es (Index x) b = false

abbrev pub ref_narrow_test : List Entry → RefType → RefType → Bool
ref_narrow_test es r q = (not r.nullable || q.nullable) && heap_narrow_test es r.heap q.heap

abbrev pub val_narrow_test : List Entry → ValType → ValType → Bool
val_narrow_test es I32 I32 = true
val_narrow_test es I32 b = false
val_narrow_test es I64 I64 = true
val_narrow_test es I64 b = false
val_narrow_test es (Ref r) (Ref q) = ref_narrow_test es r q
val_narrow_test es (Ref r) b = false

abbrev pub result_narrow_test : List Entry → List ValType → List ValType → Bool
result_narrow_test es ts us = pairwise_test (val_narrow_test es) ts us

-- ## Equality

abbrev pub heap_same_test : List Entry → HeapType → HeapType → Bool
heap_same_test es Func Func = true
heap_same_test es Func b = false
heap_same_test es NoFunc NoFunc = true
heap_same_test es NoFunc b = false
heap_same_test es Cont Cont = true
heap_same_test es Cont b = false
heap_same_test es NoCont NoCont = true
heap_same_test es NoCont b = false
heap_same_test es (Index x) (Index y) = same_test es x y
heap_same_test es (Index x) b = false

abbrev pub ref_same_test : List Entry → RefType → RefType → Bool
ref_same_test es r q = beq r.nullable q.nullable && heap_same_test es r.heap q.heap

abbrev pub val_same_test : List Entry → ValType → ValType → Bool
val_same_test es I32 I32 = true
val_same_test es I32 b = false
val_same_test es I64 I64 = true
val_same_test es I64 b = false
val_same_test es (Ref r) (Ref q) = ref_same_test es r q
val_same_test es (Ref r) b = false

abbrev pub result_same_test : List Entry → List ValType → List ValType → Bool
result_same_test es ts us = pairwise_test (val_same_test es) ts us
