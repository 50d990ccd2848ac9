-- Active segments: what a copy leaves, and what stays.
use Rattle.std.specs.Prelude.{◌≡◌, ℕ, Bool, true, false, List, length, Option, Some, None, option_map, slice_get}
use Rattle.w_memory.specs.Memory.{Memory, init, left_by}
use Rattle.w_syntax.specs.declared.module.DataMode.{DataMode}
use Rattle.w_syntax.specs.declared.module.DataMode.TheVariants as data_mode
use Rattle.w_syntax.specs.declared.module.ElemMode.{ElemMode}
use Rattle.w_syntax.specs.declared.module.ElemMode.TheVariants as elem_mode
use Rattle.w_tables.specs.Store as instances
use Rattle.w_tables.specs.Operations.{with_memory}
use Rattle.w_reduce.specs.Store.{Store}
use Rattle.w_reduce.specs.Start as start
use Rattle.w_stands.specs.Values.{store_of}
use Rattle.w_inst.specs.Constants.{IsConstant}

-- the store that is left, unless an end was passed
abbrev pub left_by_copy : Bool → instances.Store → Option Store
left_by_copy true s = Some (store_of s)
left_by_copy false s = None

-- data segment y was copied into memory x at d, or passed its end
pub record CopiesData (s : instances.Store) (x y d : ℕ) (done : Option (Unit {0})) (t : instances.Store) : Type 0 where
  pub memory : Memory
  pub bytes : List ℕ
  pub left : Memory
  pub has_memory : slice_get s.memories x ≡ Some memory
  pub has_bytes : slice_get s.datas y ≡ Some bytes
  pub copied : init memory bytes d 0 (length bytes) ≡ left_by done left
  pub new : t ≡ with_memory s x left

-- element segment y was copied into table x at d and dropped, or passed its end
abbrev pub ElementsCopied : instances.Store → (x y d : ℕ) → Bool → instances.Store → Type 0
ElementsCopied s x y d went t =
    start.elements_copied (store_of s) x y d (slice_get (store_of s).tables x) (slice_get (store_of s).elements y) ≡ left_by_copy went t

-- data segment y was copied into memory x at d and dropped, or passed its end
abbrev pub DataCopied : instances.Store → (x y d : ℕ) → Bool → instances.Store → Type 0
DataCopied s x y d went t = start.data_copied (store_of s) x y d (slice_get s.memories x) (slice_get s.datas y) ≡ left_by_copy went t

-- a fact, unless an end was passed
abbrev pub IfWent : Bool → Type 0 → Type 0
IfWent true P = P
IfWent false P = Unit {0}

-- as many of all things, and the same functions and globals
pub record KeepsSizes (s t : instances.Store) : Type 0 where
  pub functions : t.functions ≡ s.functions
  pub globals : t.globals ≡ s.globals
  pub tables : length t.tables ≡ length s.tables
  pub memories : length t.memories ≡ length s.memories
  pub elements : length t.elems ≡ length s.elems
  pub datas : length t.datas ≡ length s.datas

-- the length of an element segment
abbrev pub element_length : instances.Store → ℕ → Option ℕ
element_length s y = option_map length (slice_get s.elems y)

-- the offset of an active segment is constant
abbrev pub IsElemConstant : ElemMode → Type 0
IsElemConstant (elem_mode.Active x k) = IsConstant k
IsElemConstant elem_mode.Passive = Unit {0}
IsElemConstant elem_mode.Declarative = Unit {0}

abbrev pub IsDataConstant : DataMode → Type 0
IsDataConstant (data_mode.Active x k) = IsConstant k
IsDataConstant data_mode.Passive = Unit {0}
