-- What imports stand for: functions of the host, and exports of earlier files (Core, execution, instantiation; validation, matching of
-- external types).
use Rattle.std.specs.Prelude.{ℕ, ◌+◌, suc, Bool, true, false, ◌&&◌, ◌||◌, not, nat_le, if◌then◌else◌, List, [], ◌∷◌, ◌++◌, codes, decimal, Option, Some, None, slice_get}
use Rattle.std.specs.Bool.{beq}
use Rattle.std.specs.Str.{bytes_eq}
use Rattle.w_types.specs.declared.types.CompType.{CompType}
use Rattle.w_types.specs.declared.types.CompType.TheVariants as comp
use Rattle.w_types.specs.declared.types.HeapType.{HeapType}
use Rattle.w_types.specs.declared.types.HeapType.TheVariants.{Func, NoFunc, Cont, NoCont, Index}
use Rattle.w_types.specs.declared.types.RefType.{RefType}
use Rattle.w_types.specs.declared.types.ValType.{ValType}
use Rattle.w_types.specs.declared.types.ValType.TheVariants as val
use Rattle.w_types.specs.Groups.{types_of}
use Rattle.w_syntax.specs.declared.module.Export.{Export}
use Rattle.w_syntax.specs.declared.module.ExternIndex.{ExternIndex}
use Rattle.w_syntax.specs.declared.module.ExternIndex.TheVariants as index
use Rattle.w_syntax.specs.declared.module.ExternType.{ExternType}
use Rattle.w_syntax.specs.declared.module.ExternType.TheVariants as imported
use Rattle.w_syntax.specs.declared.module.GlobalType.{GlobalType}
use Rattle.w_syntax.specs.declared.module.Import.{Import}
use Rattle.w_syntax.specs.declared.module.Limits.{Limits}
use Rattle.w_syntax.specs.declared.module.Module.{Module}
use Rattle.w_syntax.specs.declared.module.Mutability.{Mutability}
use Rattle.w_syntax.specs.declared.module.Mutability.TheVariants as mutability
use Rattle.w_syntax.specs.declared.module.TableType.{TableType}
use Rattle.w_syntax.specs.declared.module.Tag.{Tag}
use Rattle.w_tables.specs.declared.entries.Printer.{Printer}
use Rattle.w_reduce.specs.Imports.{printer_of}
use Rattle.w_link.specs.Shifted.{ref_shifted, type_shifted}
use Rattle.w_link.specs.Resolved.{Instance, at}
use Rattle.w_linked.specs.Definitions.{Definitions}

-- what stands at an address
pub data Address : Type 0 where
  function : ℕ → Address
  table : ℕ → Address
  memory : ℕ → Address
  global : ℕ → Address
  tag : ℕ → Address

-- ## Matching and equality of types, as tests

-- what is known of the types of all files: which are equivalent, and which match which
pub record TypeTests : Type 0 where
  pub same : ℕ → ℕ → Bool
  pub matches : ℕ → ℕ → Bool

abbrev pub is_func : Option CompType → Bool
is_func (Some (comp.Func t)) = true
is_func (Some (comp.Cont x)) = false
is_func None = false

abbrev pub is_cont : Option CompType → Bool
is_cont (Some (comp.Func t)) = false
is_cont (Some (comp.Cont x)) = true
is_cont None = false

-- the first heap type matches the second, among these types
abbrev pub heap_matches : (ℕ → ℕ → Bool) → List CompType → HeapType → HeapType → Bool
heap_matches matches ts Func Func = true
heap_matches matches ts NoFunc Func = true
heap_matches matches ts NoFunc NoFunc = true
heap_matches matches ts NoFunc (Index y) = is_func (slice_get ts y)
heap_matches matches ts Cont Cont = true
heap_matches matches ts NoCont Cont = true
heap_matches matches ts NoCont NoCont = true
heap_matches matches ts NoCont (Index y) = is_cont (slice_get ts y)
heap_matches matches ts (Index x) Func = is_func (slice_get ts x)
heap_matches matches ts (Index x) Cont = is_cont (slice_get ts x)
heap_matches matches ts (Index x) (Index y) = matches x y
heap_matches matches ts h k = false

abbrev pub type_matches : (ℕ → ℕ → Bool) → List CompType → ValType → ValType → Bool
type_matches matches ts val.I32 val.I32 = true
type_matches matches ts val.I64 val.I64 = true
type_matches matches ts (val.Ref r) (val.Ref q) = (not r.nullable || q.nullable) && heap_matches matches ts r.heap q.heap
type_matches matches ts t u = false

abbrev pub heap_equals : (ℕ → ℕ → Bool) → HeapType → HeapType → Bool
heap_equals same Func Func = true
heap_equals same NoFunc NoFunc = true
heap_equals same Cont Cont = true
heap_equals same NoCont NoCont = true
heap_equals same (Index x) (Index y) = same x y
heap_equals same h k = false

abbrev pub ref_equals : (ℕ → ℕ → Bool) → RefType → RefType → Bool
ref_equals same r q = beq r.nullable q.nullable && heap_equals same r.heap q.heap

abbrev pub type_equals : (ℕ → ℕ → Bool) → ValType → ValType → Bool
type_equals same val.I32 val.I32 = true
type_equals same val.I64 val.I64 = true
type_equals same (val.Ref r) (val.Ref q) = ref_equals same r q
type_equals same t u = false

-- ## Whether what stands at an address fits an import

-- it has at least the least size, and where there is a greatest, one that isn't greater
abbrev pub max_fits : Option ℕ → Option ℕ → Bool
max_fits None o = true
max_fits (Some most) (Some max) = nat_le max most
max_fits (Some most) None = false

abbrev pub limits_fit : Limits → Limits → Bool
limits_fit wanted l = nat_le wanted.min l.min && max_fits wanted.max l.max

abbrev pub kind_fits : TypeTests → List CompType → Mutability → Mutability → ValType → ValType → Bool
kind_fits tests ts mutability.Const mutability.Const wanted t = type_matches tests.matches ts t wanted
kind_fits tests ts mutability.Var mutability.Var wanted t = type_equals tests.same t wanted
kind_fits tests ts m k wanted t = false

abbrev pub holds_of : {A : Type 0} → Option A → (A → Bool) → Bool
holds_of None f = false
holds_of (Some a) f = f a

-- it fits an import of this type, in a file behind n types
abbrev pub fits : TypeTests → Definitions → ℕ → ExternType → Address → Bool
fits tests d n (imported.Func x) (function a) = holds_of (slice_get d.functions a) (λ z. tests.matches z (n + x))
fits tests d n (imported.Table t) (table a) =
    holds_of (slice_get d.tables a) (λ (u : TableType). ref_equals tests.same u.element (ref_shifted n t.element) && limits_fit t.limits u.limits)
fits tests d n (imported.Memory l) (memory a) = holds_of (slice_get d.memories a) (limits_fit l)
fits tests d n (imported.Global g) (global a) =
    holds_of (slice_get d.globals a) (λ (h : GlobalType). kind_fits tests (types_of d.types) g.mutability h.mutability (type_shifted n g.kind) h.kind)
fits tests d n (imported.Tag t) (tag a) = holds_of (slice_get d.tags a) (λ (u : Tag). tests.same u.type_index (n + t.type_index))
fits tests d n e a = false

-- ## Exports of earlier files

-- the address of what an instance exports
abbrev pub address_of : Instance → ExternIndex → Address
address_of i (index.Func x) = function (at i.functions x)
address_of i (index.Table x) = table (at i.tables x)
address_of i (index.Memory x) = memory (at i.memories x)
address_of i (index.Global x) = global (at i.globals x)
address_of i (index.Tag x) = tag (at i.tags x)

abbrev pub exported_in : Instance → List Export → List ℕ → Option Address
exported_in i [] name = None
exported_in i (e ∷ es) name = if bytes_eq e.name name then Some (address_of i e.index) else exported_in i es name

-- a file and its instance
pub record Placed : Type 0 where
  pub source : Module
  pub instance : Instance

-- the name of file f: `m` and its number
abbrev pub file_name : ℕ → List ℕ
file_name f = codes "m" ++ decimal f

-- the export of this name of the file of this name, among these, the first of which is file f
abbrev pub exported : ℕ → List Placed → List ℕ → List ℕ → Option Address
exported f [] file name = None
exported f (p ∷ ps) file name = if bytes_eq file (file_name f) then exported_in p.instance p.source.exports name else exported (suc f) ps file name

-- ## The imports of a file

-- what an import stands for, and how many functions of the host were named before and are named then
pub record Counted : Type 0 where
  pub address : Address
  pub printers : ℕ

abbrev pub if_fits : Bool → Address → ℕ → Option Counted
if_fits true a k = Some (record { address = a; printers = k })
if_fits false a k = None

abbrev pub of_export : TypeTests → Definitions → ℕ → ExternType → ℕ → Option Address → Option Counted
of_export tests d n kind k None = None
of_export tests d n kind k (Some a) = if_fits (fits tests d n kind a) a k

abbrev pub of_host : TypeTests → Definitions → List Placed → ℕ → ℕ → Import → Option Printer → Option Counted
of_host tests d earlier n k i (Some p) = Some (record { address = function k; printers = suc k })
of_host tests d earlier n k i None = of_export tests d n i.kind k (exported 0 earlier i.module_name i.item_name)

abbrev pub import_address : TypeTests → Definitions → List Placed → Module → ℕ → ℕ → Import → Option Counted
import_address tests d earlier m n k i = of_host tests d earlier n k i (printer_of m i)

-- all of them, or the number of the first for which there is nothing
pub data Imported : Type 0 where
  all : List Address → (printers : ℕ) → Imported
  missing : ℕ → Imported

abbrev pub and_rest : Address → Imported → Imported
and_rest a (all found k) = all (a ∷ found) k
and_rest a (missing j) = missing (suc j)

abbrev pub and_next : Option Counted → (ℕ → Imported) → Imported
and_next None rest = missing 0
and_next (Some c) rest = and_rest c.address (rest c.printers)

abbrev pub imports_of : TypeTests → Definitions → List Placed → Module → ℕ → ℕ → List Import → Imported
imports_of tests d earlier m n k [] = all [] k
imports_of tests d earlier m n k (i ∷ is) = and_next (import_address tests d earlier m n k i) (λ l. imports_of tests d earlier m n l is)
