-- Equivalence of the types of a module (Core, types, recursive types). Groups are equal where they are the same once each
-- index of a type of the group itself is its position there, and each other index stands for all types equivalent to it.
-- Types are equivalent where their groups are equal and they stand at the same position.
use Rattle.std.specs.Prelude.{◌≡◌, ◌⊎◌, ℕ, zero, suc, ◌+◌, ◌-◌, ◌<◌, ◌≤◌, List, ◌∷◌, ◌++◌, length}
use Rattle.w_types.specs.declared.types.HeapType.{HeapType}
use Rattle.w_types.specs.declared.types.HeapType.TheVariants as heap
use Rattle.w_types.specs.declared.types.RefType.{RefType}
use Rattle.w_types.specs.declared.types.ValType.{ValType}
use Rattle.w_types.specs.declared.types.ValType.TheVariants as val
use Rattle.w_types.specs.declared.types.FuncType.{FuncType}
use Rattle.w_types.specs.declared.types.CompType.{CompType}
use Rattle.w_types.specs.declared.types.CompType.TheVariants as comp
use Rattle.w_types.specs.declared.types.SubType.{SubType}
use Rattle.w_types.specs.declared.types.RecGroup.{RecGroup}
use Rattle.w_types.specs.Groups.{subtypes_of}
use Rattle.w_canon.specs.Relations.{Pairwise}

-- ## Groups that are equal, where S says which indices outside of them are. One begins with index s, the other with index t.

-- x in the one and y in the other: both at the same position of the group, or both outside and equal
pub data AlikeIndex (S : ℕ → ℕ → Type 0) (s t x y : ℕ) : Type 0 where
  inside : s ≤ x → t ≤ y → x - s ≡ y - t → AlikeIndex S s t x y
  outside : x < s → y < t → S x y → AlikeIndex S s t x y

pub data AlikeHeap (S : ℕ → ℕ → Type 0) (s t : ℕ) : HeapType → HeapType → Type 0 where
  func : AlikeHeap S s t heap.Func heap.Func
  no_func : AlikeHeap S s t heap.NoFunc heap.NoFunc
  cont : AlikeHeap S s t heap.Cont heap.Cont
  no_cont : AlikeHeap S s t heap.NoCont heap.NoCont
  index : {x y : ℕ} → AlikeIndex S s t x y → AlikeHeap S s t (heap.Index x) (heap.Index y)

pub record AlikeRef (S : ℕ → ℕ → Type 0) (s t : ℕ) (r q : RefType) : Type 0 where
  pub nullable : r.nullable ≡ q.nullable
  pub heap : AlikeHeap S s t r.heap q.heap

pub data AlikeVal (S : ℕ → ℕ → Type 0) (s t : ℕ) : ValType → ValType → Type 0 where
  i32 : AlikeVal S s t val.I32 val.I32
  i64 : AlikeVal S s t val.I64 val.I64
  ref : {r q : RefType} → AlikeRef S s t r q → AlikeVal S s t (val.Ref r) (val.Ref q)

pub record AlikeFunc (S : ℕ → ℕ → Type 0) (s t : ℕ) (f g : FuncType) : Type 0 where
  pub params : Pairwise (AlikeVal S s t) f.params g.params
  pub results : Pairwise (AlikeVal S s t) f.results g.results

pub data AlikeComp (S : ℕ → ℕ → Type 0) (s t : ℕ) : CompType → CompType → Type 0 where
  func : {f g : FuncType} → AlikeFunc S s t f g → AlikeComp S s t (comp.Func f) (comp.Func g)
  cont : {x y : ℕ} → AlikeIndex S s t x y → AlikeComp S s t (comp.Cont x) (comp.Cont y)

-- all that is compared of a type
pub record AlikeSub (S : ℕ → ℕ → Type 0) (s t : ℕ) (a b : SubType) : Type 0 where
  pub is_final : a.is_final ≡ b.is_final
  pub supertypes : Pairwise (AlikeIndex S s t) a.supertypes b.supertypes
  pub composite : AlikeComp S s t a.composite b.composite

abbrev pub AlikeGroup : (ℕ → ℕ → Type 0) → ℕ → ℕ → RecGroup → RecGroup → Type 0
AlikeGroup S s t g h = Pairwise (AlikeSub S s t) g.types h.types

-- ## Equivalence

-- where type i stands: in this group, behind those in front, at this position
pub record Place (gs : List RecGroup) (i : ℕ) : Type 0 where
  pub front : List RecGroup
  pub group : RecGroup
  pub back : List RecGroup
  pub position : ℕ
  pub is : gs ≡ front ++ group ∷ back
  pub counts : i ≡ length (subtypes_of front) + position
  pub within : position < length group.types

-- types i and j stand at the same position of equal groups, at most n groups in front of each
pub record AtOnePosition (S : ℕ → ℕ → Type 0) (n : ℕ) (gs : List RecGroup) (i j : ℕ) : Type 0 where
  pub one : Place gs i
  pub other : Place gs j
  pub one_early : length one.front ≤ n
  pub other_early : length other.front ≤ n
  pub position : one.position ≡ other.position
  pub groups : AlikeGroup S (length (subtypes_of one.front)) (length (subtypes_of other.front)) one.group other.group

-- i and j are types of the first n groups, and equivalent
abbrev pub Same : ℕ → List RecGroup → ℕ → ℕ → Type 0
Same zero gs i j = ⊥
Same (suc n) gs i j = AtOnePosition (Same n gs) n gs i j

-- i and j are equivalent. An index that no type has is equivalent to itself alone.
abbrev pub SameIndex : List RecGroup → ℕ → ℕ → Type 0
SameIndex gs i j = (i ≡ j) ⊎ Same (length gs) gs i j
