-- What the calls on a store answer, and the store after them.
use Rattle.std.specs.Prelude.{ℕ, ℤ, List, [], ◌∷◌, ◌++◌, length, replicate, Option, Some, None, slice_index_or, slice_set}
use Rattle.w_types.specs.declared.value.Value.{Value}
use Rattle.w_memory.specs.Memory.{Memory, init}
use Rattle.w_tables.specs.declared.entries.FuncEntry.{FuncEntry}
use Rattle.w_tables.specs.Outcomes.{outcome, growth}
use Rattle.w_tables.specs.Elements.{get, replaced, filled, copied, grown}
use Rattle.w_tables.specs.Store.{Store, Table}

-- a store of nothing
abbrev pub empty : Store
empty = record { functions = []; tables = []; memories = []; globals = []; tags = []; elems = []; datas = [] }

-- ## Allocation (Core, execution, modules): the address of what is added, and the store with that at the end

-- allocfunc
unfoldable pub add_function : Store → FuncEntry → ℕ × Store
add_function s f = (length s.functions, record s { functions = s.functions ++ f ∷ [] })

-- alloctable: so many elements, each v
unfoldable pub add_table : Store → ℕ → Option ℕ → Value → ℕ × Store
add_table s min max v = (length s.tables, record s { tables = s.tables ++ record { elements = replicate min v; max = max } ∷ [] })

-- allocmem
unfoldable pub add_memory : Store → Memory → ℕ × Store
add_memory s m = (length s.memories, record s { memories = s.memories ++ m ∷ [] })

-- allocglobal
unfoldable pub add_global : Store → Value → ℕ × Store
add_global s v = (length s.globals, record s { globals = s.globals ++ v ∷ [] })

-- alloctag
unfoldable pub add_tag : Store → ℕ → ℕ × Store
add_tag s type_index = (length s.tags, record s { tags = s.tags ++ type_index ∷ [] })

-- allocelem
unfoldable pub add_elem : Store → List Value → ℕ × Store
add_elem s items = (length s.elems, record s { elems = s.elems ++ items ∷ [] })

-- allocdata
unfoldable pub add_bytes : Store → List ℕ → ℕ × Store
add_bytes s bytes = (length s.datas, record s { datas = s.datas ++ bytes ∷ [] })

-- ## Tables

-- the table at an address
abbrev pub table_at : List Table → ℕ → Table
table_at tables t = slice_index_or tables t (record { elements = []; max = None })

-- its elements
abbrev pub elements_at : List Table → ℕ → List Value
elements_at tables t = (table_at tables t).elements

-- the tables with others in their place
abbrev pub with_elements_at : List Table → ℕ → List Value → List Table
with_elements_at tables t elements = slice_set tables t (record (table_at tables t) { elements = elements })

-- the store with others in their place
abbrev pub with_elements : Store → ℕ → List Value → Store
with_elements s t elements = record s { tables = with_elements_at s.tables t elements }

-- the element segment at an address
abbrev pub elem_at : List (List Value) → ℕ → List Value
elem_at elems e = slice_index_or elems e []

-- table.size
abbrev pub table_size : Store → ℕ → ℕ
table_size s t = length (elements_at s.tables t)

-- table.get
abbrev pub table_get : Store → ℕ → ℕ → Option Value
table_get s t at = get (elements_at s.tables t) at

-- table.set
unfoldable pub table_set : Store → ℕ → ℕ → Value → Option (Unit {0}) × Store
table_set s t at v = outcome s (with_elements s t) (replaced (elements_at s.tables t) at v)

-- table.fill
unfoldable pub table_fill : Store → ℕ → ℕ → Value → ℕ → Option (Unit {0}) × Store
table_fill s t at v n = outcome s (with_elements s t) (filled (elements_at s.tables t) at v n)

-- table.copy
unfoldable pub table_copy : Store → (dst src to from n : ℕ) → Option (Unit {0}) × Store
table_copy s dst src to from n = outcome s (with_elements s dst) (copied (elements_at s.tables dst) (elements_at s.tables src) to from n)

-- table.init
unfoldable pub table_init : Store → (t e to from n : ℕ) → Option (Unit {0}) × Store
table_init s t e to from n = outcome s (with_elements s t) (copied (elements_at s.tables t) (elem_at s.elems e) to from n)

-- table.grow
unfoldable pub table_grow : Store → ℕ → Value → ℕ → ℤ × Store
table_grow s t v n = growth (table_size s t) s (with_elements s t) (grown (elements_at s.tables t) (table_at s.tables t).max v n)

-- ## Segments

-- elem.drop
abbrev pub elem_drop : Store → ℕ → Store
elem_drop s e = record s { elems = slice_set s.elems e [] }

-- data.drop
abbrev pub data_drop : Store → ℕ → Store
data_drop s d = record s { datas = slice_set s.datas d [] }

-- the bytes of the data segment at an address, or none where none is named
abbrev pub bytes_at : List (List ℕ) → Option ℕ → List ℕ
bytes_at datas (Some d) = slice_index_or datas d []
bytes_at datas None = []

-- ## Memories and globals

-- the memory at an address
abbrev pub memory_at : List Memory → ℕ → Memory
memory_at memories x = slice_index_or memories x (record { bytes = []; max = None })

-- with this as the memory at an address
abbrev pub with_memory : Store → ℕ → Memory → Store
with_memory s x m = record s { memories = slice_set s.memories x m }

-- memory.copy: bytes of a memory, of another or of the same one
unfoldable pub memory_copy : Store → (dst src to from n : ℕ) → Option (Unit {0}) × Store
memory_copy s dst src to from n = outcome s (with_memory s dst) (init (memory_at s.memories dst) (memory_at s.memories src).bytes to from n)

-- global.set
abbrev pub global_set : Store → ℕ → Value → Store
global_set s g v = record s { globals = slice_set s.globals g v }
