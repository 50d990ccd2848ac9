-- Equality of types whose indices may differ where their types are equivalent (Core, types, recursive types).
use Rattle.std.specs.Prelude.{◌≡◌, ℕ, List}
use Rattle.w_types.specs.declared.types.HeapType.{HeapType}
use Rattle.w_types.specs.declared.types.HeapType.TheVariants.{Func, NoFunc, Cont, NoCont, Index}
use Rattle.w_types.specs.declared.types.RefType.{RefType}
use Rattle.w_types.specs.declared.types.ValType.{ValType}
use Rattle.w_types.specs.declared.types.ValType.TheVariants.{I32, I64, Ref}
use Rattle.w_types.specs.declared.types.RecGroup.{RecGroup}
use Rattle.w_canon.specs.Relations.{Pairwise}
use Rattle.w_canon.specs.Equivalence.{SameIndex}

-- heap types
pub data HeapEqual (gs : List RecGroup) : HeapType → HeapType → Type 0 where
  func : HeapEqual gs Func Func
  no_func : HeapEqual gs NoFunc NoFunc
  cont : HeapEqual gs Cont Cont
  no_cont : HeapEqual gs NoCont NoCont
  index : {x y : ℕ} → SameIndex gs x y → HeapEqual gs (Index x) (Index y)

-- reference types
pub record RefEqual (gs : List RecGroup) (r q : RefType) : Type 0 where
  pub nullable : r.nullable ≡ q.nullable
  pub heap : HeapEqual gs r.heap q.heap

-- value types
pub data ValEqual (gs : List RecGroup) : ValType → ValType → Type 0 where
  i32 : ValEqual gs I32 I32
  i64 : ValEqual gs I64 I64
  ref : {r q : RefType} → RefEqual gs r q → ValEqual gs (Ref r) (Ref q)

-- result types, type by type
abbrev pub ResultEqual : List RecGroup → List ValType → List ValType → Type 0
ResultEqual gs = Pairwise (ValEqual gs)
