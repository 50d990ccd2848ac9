-- The words of types.
use Rattle.std.specs.Prelude.{if◌then◌else◌, Bool, true, false, ◌++◌, Option, Some, option_map, codes, decimal, ⊤}
use Rattle.std.specs.Str.{bytes_eq}
use Rattle.w_types.specs.declared.types.HeapType.{HeapType}
use Rattle.w_types.specs.declared.types.HeapType.TheVariants as heap
use Rattle.w_types.specs.declared.types.RefType.{RefType}
use Rattle.w_types.specs.declared.types.ValType.{ValType}
use Rattle.w_types.specs.declared.types.ValType.TheVariants as val
use Rattle.w_syntax.specs.Types.{nullable_to, non_null_to}
use Rattle.w_syntax.specs.declared.instructions.BlockType.{BlockType}
use Rattle.w_syntax.specs.declared.instructions.BlockType.TheVariants as block
use Rattle.w_words.specs.Words.{Word, ◌>>=◌, behind, or_else}
use Rattle.w_words.specs.Numbers.{number_of, Index32}

-- ## Heap types

abbrev pub heap_word : HeapType → Word
heap_word heap.Func = codes "func"
heap_word heap.NoFunc = codes "nofunc"
heap_word heap.Cont = codes "cont"
heap_word heap.NoCont = codes "nocont"
heap_word (heap.Index x) = decimal x

abbrev pub HeapFits : HeapType → Type 0
HeapFits (heap.Index x) = Index32 x
HeapFits _ = ⊤

abbrev pub heap_of : Word → Option HeapType
heap_of w =
    if bytes_eq w (codes "func") then Some heap.Func
    else if bytes_eq w (codes "nofunc") then Some heap.NoFunc
    else if bytes_eq w (codes "cont") then Some heap.Cont
    else if bytes_eq w (codes "nocont") then Some heap.NoCont
    else option_map heap.Index (number_of 32 w)

-- ## Reference types and value types

abbrev pub prefix : Bool → Word
prefix true = codes "null:"
prefix false = codes "ref:"

abbrev pub ref_word : RefType → Word
ref_word r = prefix r.nullable ++ heap_word r.heap

abbrev pub RefFits : RefType → Type 0
RefFits r = HeapFits r.heap

abbrev pub nullable_of : Word → Option RefType
nullable_of w = do
  v ← behind (prefix true) w
  option_map nullable_to (heap_of v)

abbrev pub non_null_of : Word → Option RefType
non_null_of w = do
  v ← behind (prefix false) w
  option_map non_null_to (heap_of v)

abbrev pub ref_of : Word → Option RefType
ref_of w = or_else (nullable_of w) (non_null_of w)

abbrev pub val_word : ValType → Word
val_word val.I32 = codes "i32"
val_word val.I64 = codes "i64"
val_word (val.Ref r) = ref_word r

abbrev pub ValFits : ValType → Type 0
ValFits val.I32 = ⊤
ValFits val.I64 = ⊤
ValFits (val.Ref r) = RefFits r

abbrev pub val_of : Word → Option ValType
val_of w =
    if bytes_eq w (codes "i32") then Some val.I32
    else if bytes_eq w (codes "i64") then Some val.I64
    else option_map val.Ref (ref_of w)

-- ## Types of blocks

abbrev pub block_word : BlockType → Word
block_word block.Empty = codes "void"
block_word (block.Value t) = val_word t
block_word (block.Index x) = codes "type:" ++ decimal x

abbrev pub BlockFits : BlockType → Type 0
BlockFits block.Empty = ⊤
BlockFits (block.Value t) = ValFits t
BlockFits (block.Index x) = Index32 x

abbrev pub type_index_of : Word → Option BlockType
type_index_of w = do
  v ← behind (codes "type:") w
  option_map block.Index (number_of 32 v)

abbrev pub block_of : Word → Option BlockType
block_of w =
    if bytes_eq w (codes "void") then Some block.Empty
    else or_else (type_index_of w) (option_map block.Value (val_of w))
