-- Matching of types (Core, validation, matching; the explainer adds continuations).
use Rattle.std.specs.Prelude.{◌≡◌, ℕ, ◌<◌, IsTrue, List, [], ◌∷◌, Some, slice_get}
use Rattle.w_types.specs.declared.types.HeapType.{HeapType}
use Rattle.w_types.specs.declared.types.HeapType.TheVariants.{Func, NoFunc, Cont, NoCont, Index}
use Rattle.w_types.specs.declared.types.RefType.{RefType}
use Rattle.w_types.specs.declared.types.ValType.{ValType}
use Rattle.w_types.specs.declared.types.ValType.TheVariants.{I32, I64, Ref}
use Rattle.w_types.specs.declared.types.FuncType.{FuncType}
use Rattle.w_types.specs.declared.types.CompType.{CompType}
use Rattle.w_types.specs.declared.types.CompType.TheVariants as comp
use Rattle.w_types.specs.declared.types.SubType.{SubType}
use Rattle.w_types.specs.declared.types.RecGroup.{RecGroup}
use Rattle.w_types.specs.Groups.{subtypes_of, types_of}
use Rattle.w_canon.specs.Relations.{Pairwise}
use Rattle.w_canon.specs.Equivalence.{SameIndex}

-- type x is a function type
abbrev pub IsFunc : List RecGroup → ℕ → Type 0
IsFunc gs x = (f : FuncType) × (slice_get (types_of gs) x ≡ Some (comp.Func f))

-- type x is a continuation type
abbrev pub IsCont : List RecGroup → ℕ → Type 0
IsCont gs x = (y : ℕ) × (slice_get (types_of gs) x ≡ Some (comp.Cont y))

-- type x has exactly one supertype, z, which stands in front of it
pub record HasSupertype (gs : List RecGroup) (x z : ℕ) : Type 0 where
  pub type : SubType
  pub is : slice_get (subtypes_of gs) x ≡ Some type
  pub alone : type.supertypes ≡ z ∷ []
  pub before : z < x

-- indices: of equivalent types, or the first one's supertype matches
pub data IndexMatches (gs : List RecGroup) : ℕ → ℕ → Type 0 where
  same : {x y : ℕ} → SameIndex gs x y → IndexMatches gs x y
  above : {x y z : ℕ} → HasSupertype gs x z → IndexMatches gs z y → IndexMatches gs x y

-- heap types
pub data HeapMatches (gs : List RecGroup) : HeapType → HeapType → Type 0 where
  func : HeapMatches gs Func Func
  no_func : HeapMatches gs NoFunc NoFunc
  cont : HeapMatches gs Cont Cont
  no_cont : HeapMatches gs NoCont NoCont
  index : {x y : ℕ} → IndexMatches gs x y → HeapMatches gs (Index x) (Index y)
  index_func : {x : ℕ} → IsFunc gs x → HeapMatches gs (Index x) Func
  index_cont : {x : ℕ} → IsCont gs x → HeapMatches gs (Index x) Cont
  no_func_func : HeapMatches gs NoFunc Func
  no_func_index : {x : ℕ} → IsFunc gs x → HeapMatches gs NoFunc (Index x)
  no_cont_cont : HeapMatches gs NoCont Cont
  no_cont_index : {x : ℕ} → IsCont gs x → HeapMatches gs NoCont (Index x)

-- reference types: one that may be null matches none that may not
pub record RefMatches (gs : List RecGroup) (r q : RefType) : Type 0 where
  pub nullable : IsTrue r.nullable → IsTrue q.nullable
  pub heap : HeapMatches gs r.heap q.heap

-- value types
pub data ValMatches (gs : List RecGroup) : ValType → ValType → Type 0 where
  i32 : ValMatches gs I32 I32
  i64 : ValMatches gs I64 I64
  ref : {r q : RefType} → RefMatches gs r q → ValMatches gs (Ref r) (Ref q)

-- result types, type by type
abbrev pub ResultMatches : List RecGroup → List ValType → List ValType → Type 0
ResultMatches gs = Pairwise (ValMatches gs)

-- function types: f takes what g takes, and gives what g gives
pub record FuncMatches (gs : List RecGroup) (f g : FuncType) : Type 0 where
  pub params : ResultMatches gs g.params f.params
  pub results : ResultMatches gs f.results g.results

-- composite types: a continuation type matches where its function type's index does
pub data CompMatches (gs : List RecGroup) : CompType → CompType → Type 0 where
  func : {f g : FuncType} → FuncMatches gs f g → CompMatches gs (comp.Func f) (comp.Func g)
  cont : {x y : ℕ} → IndexMatches gs x y → CompMatches gs (comp.Cont x) (comp.Cont y)
