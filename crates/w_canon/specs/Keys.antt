-- The key of a group: its types as words, with a position or a class for each index. `es` are the types in front of the group.
use Rattle.std.specs.Prelude.{ℕ, ◌-◌, Bool, true, false, List, [], ◌∷◌, ◌++◌, length, map, Option, Some, None, slice_get}
use Rattle.std.specs.List.{flat_map}
use Rattle.w_types.specs.declared.types.HeapType.{HeapType}
use Rattle.w_types.specs.declared.types.HeapType.TheVariants as heap
use Rattle.w_types.specs.declared.types.ValType.{ValType}
use Rattle.w_types.specs.declared.types.ValType.TheVariants as val
use Rattle.w_types.specs.declared.types.CompType.{CompType}
use Rattle.w_types.specs.declared.types.CompType.TheVariants as comp
use Rattle.w_types.specs.declared.types.SubType.{SubType}
use Rattle.w_types.specs.declared.types.RecGroup.{RecGroup}
use Rattle.w_canon.specs.declared.entry.Entry.{Entry}
use Rattle.w_canon.specs.declared.key.HeapWord.{HeapWord}
use Rattle.w_canon.specs.declared.key.HeapWord.TheVariants as key_heap
use Rattle.w_canon.specs.declared.key.ValueWord.{ValueWord}
use Rattle.w_canon.specs.declared.key.ValueWord.TheVariants as key_value
use Rattle.w_canon.specs.declared.key.Word.{Word}
use Rattle.w_canon.specs.declared.key.Word.TheVariants as key

-- the class of the type in front, or else the position
abbrev pub seen_as : Option Entry → ℕ → HeapWord
seen_as (Some e) p = key_heap.Outside e.class
seen_as None p = key_heap.Inside p

abbrev pub index_word : List Entry → ℕ → HeapWord
index_word es x = seen_as (slice_get es x) (x - length es)

abbrev pub heap_word : List Entry → HeapType → HeapWord
heap_word es heap.Func = key_heap.Func
heap_word es heap.NoFunc = key_heap.NoFunc
heap_word es heap.Cont = key_heap.Cont
heap_word es heap.NoCont = key_heap.NoCont
heap_word es (heap.Index x) = index_word es x

abbrev pub ref_word : Bool → HeapWord → ValueWord
ref_word true w = key_value.Nullable w
ref_word false w = key_value.NonNull w

abbrev pub value_word : List Entry → ValType → ValueWord
value_word es val.I32 = key_value.I32
value_word es val.I64 = key_value.I64
value_word es (val.Ref r) = ref_word r.nullable (heap_word es r.heap)

abbrev pub value_words : List Entry → List ValType → List Word
value_words es vs = map (λ (v : ValType). key.Value (value_word es v)) vs

abbrev pub type_words : List Entry → CompType → List Word
type_words es (comp.Func f) =
    key.Func (length f.params) (length f.results) ∷ (value_words es f.params ++ value_words es f.results)
type_words es (comp.Cont x) = key.Cont (index_word es x) ∷ []

abbrev pub supertype_words : List Entry → List ℕ → List Word
supertype_words es xs = map (λ (x : ℕ). key.Supertype (index_word es x)) xs

-- whether the type is final, and how many supertypes it has
abbrev pub head_word : Bool → ℕ → Word
head_word true n = key.Final n
head_word false n = key.Open n

abbrev pub subtype_words : List Entry → SubType → List Word
subtype_words es t = head_word t.is_final (length t.supertypes) ∷ (supertype_words es t.supertypes ++ type_words es t.composite)

abbrev pub group_words : List Entry → RecGroup → List Word
group_words es g = flat_map (subtype_words es) g.types
