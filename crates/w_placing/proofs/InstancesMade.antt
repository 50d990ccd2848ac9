-- Instances, by the addresses of imports.
use Rattle.std.proofs.Common.{◌≡◌, ℕ, List, [], ◌∷◌, ◌++◌, map, length, refl, ap, ◌∙◌}
use Rattle.std.specs.List.{flat_map, range_with_len}
use Rattle.w_syntax.specs.declared.module.Module.{Module}
use Rattle.w_link.specs.Resolved.{Instance}
use Rattle.w_linked.specs.Linked.{Before, as_function, as_table, as_memory, as_global, as_tag, instance_of}
use Rattle.w_placing.specs.declared.address.Address.{Address}
use Rattle.w_placing.specs.declared.address.Address.TheVariants as address
use Rattle.w_placing.specs.declared.address.AddressKind.TheVariants as kind
use Rattle.w_placing.specs.Addresses.{stands, numbers_of}

-- the numbers of one kind among addresses
function_numbers : (found : List Address) → numbers_of kind.Function found ≡ flat_map as_function (map stands found)
function_numbers [] = refl
function_numbers (address.Function a ∷ found) = ap (λ (l : List ℕ). a ∷ l) (function_numbers found)
function_numbers (address.Table a ∷ found) = function_numbers found
function_numbers (address.Memory a ∷ found) = function_numbers found
function_numbers (address.Global a ∷ found) = function_numbers found
function_numbers (address.Tag a ∷ found) = function_numbers found

table_numbers : (found : List Address) → numbers_of kind.Table found ≡ flat_map as_table (map stands found)
table_numbers [] = refl
table_numbers (address.Function a ∷ found) = table_numbers found
table_numbers (address.Table a ∷ found) = ap (λ (l : List ℕ). a ∷ l) (table_numbers found)
table_numbers (address.Memory a ∷ found) = table_numbers found
table_numbers (address.Global a ∷ found) = table_numbers found
table_numbers (address.Tag a ∷ found) = table_numbers found

memory_numbers : (found : List Address) → numbers_of kind.Memory found ≡ flat_map as_memory (map stands found)
memory_numbers [] = refl
memory_numbers (address.Function a ∷ found) = memory_numbers found
memory_numbers (address.Table a ∷ found) = memory_numbers found
memory_numbers (address.Memory a ∷ found) = ap (λ (l : List ℕ). a ∷ l) (memory_numbers found)
memory_numbers (address.Global a ∷ found) = memory_numbers found
memory_numbers (address.Tag a ∷ found) = memory_numbers found

global_numbers : (found : List Address) → numbers_of kind.Global found ≡ flat_map as_global (map stands found)
global_numbers [] = refl
global_numbers (address.Function a ∷ found) = global_numbers found
global_numbers (address.Table a ∷ found) = global_numbers found
global_numbers (address.Memory a ∷ found) = global_numbers found
global_numbers (address.Global a ∷ found) = ap (λ (l : List ℕ). a ∷ l) (global_numbers found)
global_numbers (address.Tag a ∷ found) = global_numbers found

tag_numbers : (found : List Address) → numbers_of kind.Tag found ≡ flat_map as_tag (map stands found)
tag_numbers [] = refl
tag_numbers (address.Function a ∷ found) = tag_numbers found
tag_numbers (address.Table a ∷ found) = tag_numbers found
tag_numbers (address.Memory a ∷ found) = tag_numbers found
tag_numbers (address.Global a ∷ found) = tag_numbers found
tag_numbers (address.Tag a ∷ found) = ap (λ (l : List ℕ). a ∷ l) (tag_numbers found)

-- the instance of these lists
abbrev made : Before → List ℕ → List ℕ → List ℕ → List ℕ → List ℕ → Instance
made b fs ts ms gs es = record { types = b.types; functions = fs; tables = ts; memories = ms; globals = gs; tags = es; elements = b.elements; datas = b.datas }

-- addresses of one kind
of_one : (numbers imported made : List ℕ) (from count n : ℕ) → made ≡ numbers ++ range_with_len from n → n ≡ count → numbers ≡ imported → made ≡ imported ++ range_with_len from count
of_one numbers imported made from count n e many same = e ∙ ap (λ (k : ℕ). numbers ++ range_with_len from k) many ∙ ap (λ (l : List ℕ). l ++ range_with_len from count) same

-- where they are those of a file
pub instance_made : (b : Before) (found : List Address) (m : Module) (fs ts ms gs es : List ℕ) (nf nt nm ng ne : ℕ)
    → nf ≡ length m.functions → nt ≡ length m.tables → nm ≡ length m.memories → ng ≡ length m.globals → ne ≡ length m.tags
    → fs ≡ numbers_of kind.Function found ++ range_with_len b.functions nf → ts ≡ numbers_of kind.Table found ++ range_with_len b.tables nt
    → ms ≡ numbers_of kind.Memory found ++ range_with_len b.memories nm → gs ≡ numbers_of kind.Global found ++ range_with_len b.globals ng
    → es ≡ numbers_of kind.Tag found ++ range_with_len b.tags ne
    → record { types = b.types; functions = fs; tables = ts; memories = ms; globals = gs; tags = es; elements = b.elements; datas = b.datas } ≡ instance_of b (map stands found) m
instance_made b found m fs ts ms gs es nf nt nm ng ne cf ct cm cg ce f t n g e =
    let i = instance_of b (map stands found) m in
    ap (λ (l : List ℕ). made b l ts ms gs es) (of_one (numbers_of kind.Function found) _ fs b.functions (length m.functions) nf f cf (function_numbers found))
    ∙ ap (λ (l : List ℕ). made b i.functions l ms gs es) (of_one (numbers_of kind.Table found) _ ts b.tables (length m.tables) nt t ct (table_numbers found))
    ∙ ap (λ (l : List ℕ). made b i.functions i.tables l gs es) (of_one (numbers_of kind.Memory found) _ ms b.memories (length m.memories) nm n cm (memory_numbers found))
    ∙ ap (λ (l : List ℕ). made b i.functions i.tables i.memories l es) (of_one (numbers_of kind.Global found) _ gs b.globals (length m.globals) ng g cg (global_numbers found))
    ∙ ap (λ (l : List ℕ). made b i.functions i.tables i.memories i.globals l) (of_one (numbers_of kind.Tag found) _ es b.tags (length m.tags) ne e ce (tag_numbers found))
