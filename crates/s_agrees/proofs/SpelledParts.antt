-- What the module of a script has beside the bodies of its functions is spelled by what is written of it.
use Rattle.std.proofs.Common.{◌≡◌, ℕ, suc, ◌^◌, ◌<◌, ◌≤◌, Bool, true, false, cond, if◌then◌else◌, List, [], ◌∷◌, ◌++◌, map, filter, length, codes, refl, ap, arith, length-append}
use Rattle.std.specs.Prelude.{zero, take, drop, Some, IsTrue, nat_lt, slice_get}
use Rattle.std.specs.Str.{is_utf8, chars}
use lib.Utf8.{encode}
use Rattle.std.proofs.lemmas.List.{length-map}
use Rattle.w_leb.specs.Format.{Format, Counted}
use Rattle.w_leb.specs.Formats.{number}
use Rattle.w_leb.specs.Number.{shortest, Unsigned}
use Rattle.w_leb.specs.CanonicalLaws.{vec_written, each_byte}
use Rattle.w_leb.specs.IndexLaws.{index_is_u32}
use Rattle.w_leb.specs.ShortestLaws.{shortest_spells}
use Rattle.w_types.specs.declared.types.HeapType.TheVariants as heap
use Rattle.w_types.specs.declared.types.ValType.TheVariants.{I64}
use Rattle.w_types.specs.declared.types.CompType.{CompType}
use Rattle.w_types.specs.declared.types.CompType.TheVariants.{Func, Cont}
use Rattle.w_types.specs.declared.types.SubType.{SubType}
use Rattle.w_syntax.specs.Code.{Code}
use Rattle.w_syntax.specs.Items.{reference_to}
use Rattle.w_syntax.specs.Types.{nullable_to, non_null_to, reftype, valtype, functype, comptype, alone_of, subtype, rectype, limits, tabletype}
use Rattle.w_syntax.specs.Fields.{name, table_of as table_format, tag, externtype, import, externidx, export, elemkind, function_item, elem}
use Rattle.w_syntax.specs.declared.module.ExternType.TheVariants as extern
use Rattle.w_syntax.specs.declared.module.ExternIndex.TheVariants as index
use Rattle.w_syntax.specs.declared.module.ElemMode.TheVariants as mode
use Rattle.w_syntax.specs.declared.module.Tag.{Tag}
use Rattle.w_encode.specs.TypesWritten.{index_written, ref_written, limits_with, valtype_written, comptype_written, subtype_written, rectype_written}
use Rattle.w_encode.specs.FieldsWritten.{bytes_written, table_written, tag_written, externtype_written, import_written, externidx_written, export_written, are_functions, function_written, elem_written}
use Rattle.s_syntax.specs.declared.name.Name.{Name}
use Rattle.s_syntax.specs.declared.script.Parameter.{Parameter}
use Rattle.s_syntax.specs.declared.script.Clause.{Clause}
use Rattle.s_syntax.specs.declared.script.Slots.{Slots}
use Rattle.s_syntax.specs.declared.script.Definition.{Definition}
use Rattle.s_syntax.specs.declared.script.Definition.TheVariants as definition
use Rattle.s_syntax.specs.declared.script.Declaration.{Declaration}
use Rattle.s_syntax.specs.declared.script.Script.{Script}
use Rattle.s_check.specs.Refusal.{Good}
use Rattle.s_check.specs.Size.{Size, size_limit}
use Rattle.s_index.specs.Handled.{is_function_among, handled_names, handled}
use Rattle.s_index.specs.Indices.{function_types, type_table, continuations, parameters_of, function_type_index, handler_type_index, effect_type_index, type_index}
use Rattle.s_index.specs.Numbers.{function_index}
use Rattle.s_index.specs.Types.{place, with_type, with_types, first_types, function_type, handler_type, effect_type, clause_type, clause_types, types_for, types_for_all, val_type, val_types, numbers, to_continuation, computation_type, resumption_type, coroutine_type, group_tag_type}
use Rattle.s_code.specs.Lowered.{slots_table, function_type_of, handler_type_of, table_of, tag_of, function_code_of, handler_code_of, for_each, group, pair_first, group_tag, declared, lowered}
use Rattle.s_valid.proofs.Declarations.{IsSmall, small}
use Rattle.s_valid.proofs.ManyTypes.{few_function_types, few_in_table}
use Rattle.w_encode.proofs.SpelledCode.{list_spells, both_spelled}
use Rattle.w_encode.specs.Spelled.{EachSpelled, ListSpelled}
use Rattle.s_agrees.proofs.SpelledIndices.{place_small, few_declarations, small_indices, fits}
use Rattle.s_agrees.proofs.SpelledTokens.{u32_spelled, signed_index_spelled, heap_index_spelled, continuation_type_spelled, number_type_spelled, val_type_spelled}

-- ## Lists

-- what all declarations add is, where what each adds is
each_of_all : {A : Type 0} (f : Format A) (w : A → List ℕ) (make : Declaration → List A) → ((d : Declaration) → EachSpelled f w (make d)) → (ds : List Declaration) → EachSpelled f w (for_each make ds)
each_of_all f w make h [] = tt
each_of_all f w make h (d ∷ ds) = both_spelled f w (make d) (for_each make ds) (h d) (each_of_all f w make h ds)

-- where each adds at most one, all add no more than they are
few_of_all : {A : Type 0} (make : Declaration → List A) → ((d : Declaration) → length (make d) ≤ 1) → (ds : List Declaration) → length (for_each make ds) ≤ length ds
few_of_all make h [] = omega arith
few_of_all make h (d ∷ ds) = let l = length-append (make d) (for_each make ds) in let one = h d in let q = few_of_all make h ds in omega (arith, l, one, q)

-- ## Types

-- a type that takes and gives few values, each of which has a spelled type, or continuations of a type with a small index
abbrev TypeSpelled : CompType → Type 0
TypeSpelled (Func f) = ListSpelled valtype valtype_written f.params × ListSpelled valtype valtype_written f.results
TypeSpelled (Cont x) = x < 2 ^ 32

type_spelled : (t : CompType) → TypeSpelled t → comptype.Spells (comptype_written t) t
unfolding comptype functype
type_spelled (Func f) h =
    (f, ((f.params, f.results), (vec_written valtype_written f.params, vec_written valtype_written f.results, refl, list_spells valtype valtype_written f.params h.0, list_spells valtype valtype_written f.results h.1), refl), refl)
type_spelled (Cont x) h = (x, index_is_u32 (index_written x) x (signed_index_spelled x h), refl)

-- as a final type without supertypes
final_spelled : (t : CompType) → TypeSpelled t → subtype.Spells (subtype_written (alone_of t)) (alone_of t)
unfolding subtype
final_spelled (Func f) h = (Func f, type_spelled (Func f) h, refl)
final_spelled (Cont x) h = (Cont x, type_spelled (Cont x) h, refl)

group_spelled : (t : CompType) → TypeSpelled t → rectype.Spells (rectype_written (group t)) (group t)
unfolding rectype
group_spelled (Func f) h = (alone_of (Func f), final_spelled (Func f) h, refl)
group_spelled (Cont x) h = (alone_of (Cont x), final_spelled (Cont x) h, refl)

abbrev AllSpelled : List CompType → Type 0
AllSpelled [] = Unit {0}
AllSpelled (t ∷ ts) = TypeSpelled t × AllSpelled ts

-- each type in a group of its own
groups_spelled : (ts : List CompType) → AllSpelled ts → EachSpelled rectype rectype_written (map group ts)
groups_spelled [] h = tt
groups_spelled (t ∷ ts) h = (group_spelled t h.0, groups_spelled ts h.1)

-- those behind a group of two
pair_spelled : (ts : List CompType) → AllSpelled ts → EachSpelled rectype rectype_written (pair_first ts)
unfolding rectype
pair_spelled [] h = (([], list_spells subtype subtype_written [] (omega arith, tt), refl), tt)
pair_spelled (t ∷ []) h = (group_spelled t h.0, tt)
pair_spelled (t ∷ u ∷ ts) h =
    let both : List SubType = alone_of t ∷ alone_of u ∷ [] in
    ((both, list_spells subtype subtype_written both (omega arith, (final_spelled t h.0, (final_spelled u h.1.0, tt))), refl), groups_spelled ts h.1.1)

-- n types each alone in front of those
behind_alone : (n : ℕ) (ts : List CompType) → AllSpelled ts → EachSpelled rectype rectype_written (map group (take n ts) ++ pair_first (drop n ts))
behind_alone zero ts h = pair_spelled ts h
behind_alone (suc n) [] h = pair_spelled [] h
behind_alone (suc n) (t ∷ ts) h = (group_spelled t h.0, behind_alone n ts h.1)

-- there is hardly more than one group for each type
few_pairs : (ts : List CompType) → length (pair_first ts) ≤ suc (length ts)
few_pairs [] = omega arith
few_pairs (t ∷ []) = omega arith
few_pairs (t ∷ u ∷ ts) = let l = length-map ts group in omega (arith, l)

few_groups : (n : ℕ) (ts : List CompType) → length (map group (take n ts) ++ pair_first (drop n ts)) ≤ suc (length ts)
few_groups zero ts = few_pairs ts
few_groups (suc n) [] = few_pairs []
few_groups (suc n) (t ∷ ts) = let q = few_groups n ts in omega (arith, q)

all_append : (ts us : List CompType) → AllSpelled ts → AllSpelled us → AllSpelled (ts ++ us)
all_append [] us h k = k
all_append (t ∷ ts) us h k = (h.0, all_append ts us h.1 k)

-- also those that are made once
once_spelled : (ts : List CompType) (t : CompType) (b : Bool) → AllSpelled ts → TypeSpelled t → AllSpelled (if b then ts else (ts ++ t ∷ []))
once_spelled ts t true h k = h
once_spelled ts t false h k = all_append ts (t ∷ []) h (k, tt)

-- and all types that a list of others is added to
with_spelled : (ts us : List CompType) → AllSpelled ts → AllSpelled us → AllSpelled (with_types ts us)
with_spelled ts [] h k = h
with_spelled ts (u ∷ us) h k = with_spelled (with_type ts u) us (once_spelled ts u (nat_lt (place u ts) (length ts)) h k.0) k.1

-- ## The types of declarations

parameters_spelled : (ps : List Parameter) → EachSpelled valtype valtype_written (val_types ps)
parameters_spelled [] = tt
parameters_spelled (p ∷ ps) = (val_type_spelled p.ty, parameters_spelled ps)

numbers_spelled : (n : ℕ) → EachSpelled valtype valtype_written (numbers n)
numbers_spelled zero = tt
numbers_spelled (suc n) = (number_type_spelled, numbers_spelled n)

numbers_length : (n : ℕ) → length (numbers n) ≡ n
numbers_length zero = refl
numbers_length (suc n) = ap suc (numbers_length n)

one_number : ListSpelled valtype valtype_written (I64 ∷ [])
one_number = (omega arith, (number_type_spelled, tt))

no_values : ListSpelled valtype valtype_written []
no_values = (omega arith, tt)

-- what a coroutine takes
number_and_coroutine : ListSpelled valtype valtype_written (I64 ∷ to_continuation true coroutine_type ∷ [])
number_and_coroutine = (omega arith, (number_type_spelled, (continuation_type_spelled true coroutine_type (omega arith), tt)))

-- resumptions, computations, the type of the printer, and coroutines
first_spelled : AllSpelled first_types
first_spelled =
    ((one_number, one_number), (omega arith, ((no_values, one_number), (omega arith, ((one_number, no_values), ((number_and_coroutine, one_number), (omega arith, tt)))))))

function_type_spelled : (ps : List Parameter) → length ps ≤ 8 → TypeSpelled (function_type ps)
function_type_spelled ps few = let l = length-map ps (λ (p : Parameter). val_type p.ty) in ((omega (arith, l, few), parameters_spelled ps), one_number)

handler_type_spelled : (ps : List Parameter) → length ps ≤ 8 → TypeSpelled (handler_type ps)
handler_type_spelled ps few =
    let l = length-map ps (λ (p : Parameter). val_type p.ty) in
    let a = length-append (val_types ps) (to_continuation true computation_type ∷ []) in
    ((omega (arith, l, a, few), both_spelled valtype valtype_written (val_types ps) (to_continuation true computation_type ∷ []) (parameters_spelled ps) (continuation_type_spelled true computation_type (omega arith), tt)), one_number)

effect_type_spelled : (n : ℕ) → n ≤ 8 → TypeSpelled (effect_type n)
effect_type_spelled n few = let l = numbers_length n in ((omega (arith, l, few), numbers_spelled n), one_number)

clause_type_spelled : (n : ℕ) → n ≤ 8 → TypeSpelled (clause_type n)
clause_type_spelled n few =
    let l = numbers_length n in
    let a = length-append (numbers n) (to_continuation false resumption_type ∷ []) in
    (no_values, (omega (arith, l, a, few), both_spelled valtype valtype_written (numbers n) (to_continuation false resumption_type ∷ []) (numbers_spelled n) (continuation_type_spelled false resumption_type (omega arith), tt)))

clause_types_spelled : (cs : List Clause) → ((n : ℕ) (c : Clause) → slice_get cs n ≡ Some c → length c.arguments ≤ 8) → AllSpelled (clause_types cs)
clause_types_spelled [] few = tt
clause_types_spelled (c ∷ cs) few = (clause_type_spelled (length c.arguments) (few 0 c refl), clause_types_spelled cs (λ n d e. few (suc n) d e))

definition_spelled : (d : Definition) → IsSmall d → AllSpelled (types_for d)
definition_spelled (definition.Effect n) few = (effect_type_spelled n.value few, tt)
definition_spelled (definition.Function f) few = (function_type_spelled f.parameters few, tt)
definition_spelled (definition.Handler i) few = (handler_type_spelled i.parameters few.0, clause_types_spelled i.clauses few.1)
definition_spelled (definition.Slots s) few = tt

declarations_spelled : (ds : List Declaration) → ((k : ℕ) (e : Declaration) → slice_get ds k ≡ Some e → IsSmall e.definition) → AllSpelled (types_for_all ds)
declarations_spelled [] few = tt
declarations_spelled (d ∷ ds) few = all_append (types_for d.definition) (types_for_all ds) (definition_spelled d.definition (few 0 d refl)) (declarations_spelled ds (λ k e at. few (suc k) e at))

-- the index of a function type is its place among few
continuations_spelled : (ds es : List Declaration) → length (function_types ds) ≤ 10000 → AllSpelled (continuations ds es)
continuations_spelled ds [] few = tt
continuations_spelled ds (e ∷ es) few = let q = place_small (function_type (parameters_of ds e.name)) (function_types ds) in (omega (arith, q, few), continuations_spelled ds es few)

table_spelled : (p : Script) → Good p → Size p ≤ size_limit → AllSpelled (type_table p.declarations)
table_spelled p good size =
    with_spelled (function_types p.declarations) (continuations p.declarations (handled p.declarations))
    (with_spelled first_types (types_for_all p.declarations) first_spelled (declarations_spelled p.declarations (small p good)))
    (continuations_spelled p.declarations (handled p.declarations) (few_function_types p good size))

pub types_spelled : (p : Script) → Good p → Size p ≤ size_limit → ListSpelled rectype rectype_written (lowered p).types
types_spelled p good size =
    let few = few_in_table p good size in
    let l = few_groups 5 (type_table p.declarations) in
    (omega (arith, few, l), behind_alone 5 (type_table p.declarations) (table_spelled p good size))

-- ## Functions, tables and tags

-- indices of types and of functions are small
small_type : (p : Script) → Good p → Size p ≤ size_limit → (t : CompType) → type_index p.declarations t < 2 ^ 32
small_type p good size t = let i = small_indices p good size in fits (type_index p.declarations t) (i.type t)

small_function : (p : Script) → Good p → Size p ≤ size_limit → (f : Name) → function_index p.declarations f < 2 ^ 32
small_function p good size f = let i = small_indices p good size in fits (function_index p.declarations f) (i.function f)

module _ (p : Script) (good : Good p) (size : Size p ≤ size_limit) where
  function_spelled : (d : Definition) → EachSpelled (number 32) shortest (function_type_of p.declarations d)
  function_spelled (definition.Effect n) = tt
  function_spelled (definition.Function f) = (u32_spelled (function_type_index p.declarations f.parameters) (small_type p good size (function_type f.parameters)), tt)
  function_spelled (definition.Handler i) = tt
  function_spelled (definition.Slots s) = tt

  handler_spelled : (d : Definition) → EachSpelled (number 32) shortest (handler_type_of p.declarations d)
  handler_spelled (definition.Effect n) = tt
  handler_spelled (definition.Function f) = tt
  handler_spelled (definition.Handler i) = (u32_spelled (handler_type_index p.declarations i.parameters) (small_type p good size (handler_type i.parameters)), tt)
  handler_spelled (definition.Slots s) = tt

  tag_spelled : (d : Definition) → EachSpelled tag tag_written (tag_of p.declarations d)
  unfolding tag
  tag_spelled (definition.Effect n) = ((effect_type_index p.declarations n.value, u32_spelled (effect_type_index p.declarations n.value) (small_type p good size (effect_type n.value)), refl), tt)
  tag_spelled (definition.Function f) = tt
  tag_spelled (definition.Handler i) = tt
  tag_spelled (definition.Slots s) = tt

-- the tag of groups
group_tag_spelled : tag.Spells (tag_written group_tag) group_tag
unfolding tag
group_tag_spelled = (group_tag_type, u32_spelled group_tag_type (omega arith), refl)

one_function : (ds : List Declaration) (d : Definition) → length (function_type_of ds d) ≤ 1
one_function ds (definition.Effect n) = omega arith
one_function ds (definition.Function f) = omega arith
one_function ds (definition.Handler i) = omega arith
one_function ds (definition.Slots s) = omega arith

one_handler : (ds : List Declaration) (d : Definition) → length (handler_type_of ds d) ≤ 1
one_handler ds (definition.Effect n) = omega arith
one_handler ds (definition.Function f) = omega arith
one_handler ds (definition.Handler i) = omega arith
one_handler ds (definition.Slots s) = omega arith

one_tag : (ds : List Declaration) (d : Definition) → length (tag_of ds d) ≤ 1
one_tag ds (definition.Effect n) = omega arith
one_tag ds (definition.Function f) = omega arith
one_tag ds (definition.Handler i) = omega arith
one_tag ds (definition.Slots s) = omega arith

-- the type of references that may be null
nullable_spelled : (x : ℕ) → x < 2 ^ 32 → reftype.Spells (ref_written true (heap.Index x)) (nullable_to (heap.Index x))
unfolding reftype
nullable_spelled x h = (heap.Index x, heap_index_spelled x h, refl)

-- limits with a greatest number
limits_spelled : (n : ℕ) → n < 2 ^ 64 → limits.Spells (limits_with n (Some n)) (record { min = n; max = Some n })
unfolding limits
limits_spelled n h = ((n, n), (shortest n, shortest n, refl, shortest_spells 9 64 n (omega arith) h, shortest_spells 9 64 n (omega arith) h), refl)

-- a table of slots
slots_spelled : (s : Slots) → table_format.Spells (table_written (slots_table s)) (slots_table s)
unfolding table_format tabletype
slots_spelled s =
    let n = s.places.value in
    let small = s.places.small in (
      (slots_table s).kind,
      (
        ((slots_table s).kind.element, (slots_table s).kind.limits),
        (ref_written true (heap.Index resumption_type), limits_with n (Some n), refl, nullable_spelled resumption_type (omega arith), limits_spelled n (omega (arith, small))),
        refl,
      ),
      refl,
    )

table_spelled_of : (d : Definition) → EachSpelled table_format table_written (table_of d)
table_spelled_of (definition.Effect n) = tt
table_spelled_of (definition.Function f) = tt
table_spelled_of (definition.Handler i) = tt
table_spelled_of (definition.Slots s) = (slots_spelled s, tt)

one_table : (d : Definition) → length (table_of d) ≤ 1
one_table (definition.Effect n) = omega arith
one_table (definition.Function f) = omega arith
one_table (definition.Handler i) = omega arith
one_table (definition.Slots s) = omega arith

one_code : (ds : List Declaration) (d : Definition) → length (function_code_of ds d) ≤ 1
one_code ds (definition.Effect n) = omega arith
one_code ds (definition.Function f) = omega arith
one_code ds (definition.Handler i) = omega arith
one_code ds (definition.Slots s) = omega arith

one_handler_code : (ds : List Declaration) (h : Name) (d : Definition) → length (handler_code_of ds h d) ≤ 1
one_handler_code ds h (definition.Effect n) = omega arith
one_handler_code ds h (definition.Function f) = omega arith
one_handler_code ds h (definition.Handler i) = omega arith
one_handler_code ds h (definition.Slots s) = omega arith

pub functions_spelled : (p : Script) → Good p → Size p ≤ size_limit → ListSpelled (number 32) shortest (lowered p).functions
functions_spelled p good size =
    let ds = p.declarations in
    let functions : List ℕ = for_each (λ (d : Declaration). function_type_of ds d.definition) ds in
    let handlers : List ℕ = for_each (λ (d : Declaration). handler_type_of ds d.definition) ds in
    let l = length-append functions handlers in
    let a = few_of_all (λ (d : Declaration). function_type_of ds d.definition) (λ d. one_function ds d.definition) ds in
    let b = few_of_all (λ (d : Declaration). handler_type_of ds d.definition) (λ d. one_handler ds d.definition) ds in
    let few = few_declarations ds in (
      omega (arith, l, a, b, few, size),
      both_spelled (number 32) shortest functions handlers
          (each_of_all (number 32) shortest (λ (d : Declaration). function_type_of ds d.definition) (λ d. function_spelled p good size d.definition) ds)
          (each_of_all (number 32) shortest (λ (d : Declaration). handler_type_of ds d.definition) (λ d. handler_spelled p good size d.definition) ds),
    )

pub tables_spelled : (p : Script) → Good p → Size p ≤ size_limit → ListSpelled table_format table_written (lowered p).tables
tables_spelled p good size =
    let ds = p.declarations in
    let a = few_of_all (λ (d : Declaration). table_of d.definition) (λ d. one_table d.definition) ds in
    let few = few_declarations ds in
    (omega (arith, a, few, size), each_of_all table_format table_written (λ (d : Declaration). table_of d.definition) (λ d. table_spelled_of d.definition) ds)

pub tags_spelled : (p : Script) → Good p → Size p ≤ size_limit → ListSpelled tag tag_written (lowered p).tags
tags_spelled p good size =
    let ds = p.declarations in
    let effects : List Tag = for_each (λ (d : Declaration). tag_of ds d.definition) ds in
    let l = length-append effects (group_tag ∷ []) in
    let a = few_of_all (λ (d : Declaration). tag_of ds d.definition) (λ d. one_tag ds d.definition) ds in
    let few = few_declarations ds in (
      omega (arith, l, a, few, size),
      both_spelled tag tag_written effects (group_tag ∷ []) (each_of_all tag tag_written (λ (d : Declaration). tag_of ds d.definition) (λ d. tag_spelled p good size d.definition) ds) (group_tag_spelled, tt),
    )

pub few_codes : (p : Script) → Size p ≤ size_limit → length (lowered p).codes < 2 ^ 32
few_codes p size =
    let ds = p.declarations in
    let l = length-append (for_each (λ (d : Declaration). function_code_of ds d.definition) ds) (for_each (λ (d : Declaration). handler_code_of ds d.name d.definition) ds) in
    let a = few_of_all (λ (d : Declaration). function_code_of ds d.definition) (λ d. one_code ds d.definition) ds in
    let b = few_of_all (λ (d : Declaration). handler_code_of ds d.name d.definition) (λ d. one_handler_code ds d.name d.definition) ds in
    let few = few_declarations ds in
    omega (arith, l, a, b, few, size)

-- ## Imports and exports

-- a name is spelled by its bytes behind their number
name_spelled : (b : List ℕ) → length b < 2 ^ 32 → IsTrue (is_utf8 b) → name.Spells (bytes_written b) b
unfolding name Counted
name_spelled b few utf8 = ((shortest (length b), b, refl, u32_spelled (length b) few, each_byte b), utf8)

host_is_utf8 : IsTrue (is_utf8 (codes "host"))
unfolding is_utf8 chars encode
host_is_utf8 = refl

printer_is_utf8 : IsTrue (is_utf8 (codes "print_i64"))
unfolding is_utf8 chars encode
printer_is_utf8 = refl

main_is_utf8 : IsTrue (is_utf8 (codes "main"))
unfolding is_utf8 chars encode
main_is_utf8 = refl

printer_spelled : externtype.Spells (externtype_written (extern.Func 4)) (extern.Func 4)
unfolding externtype
printer_spelled = (4, u32_spelled 4 (omega arith), refl)

pub imports_spelled : (p : Script) → ListSpelled import import_written (lowered p).imports
unfolding import
imports_spelled p = (
  omega arith,
  (
    (
      (codes "host", (codes "print_i64", extern.Func 4)),
      (
        bytes_written (codes "host"),
        bytes_written (codes "print_i64") ++ externtype_written (extern.Func 4),
        refl,
        name_spelled (codes "host") (omega arith) host_is_utf8,
        (bytes_written (codes "print_i64"), externtype_written (extern.Func 4), refl, name_spelled (codes "print_i64") (omega arith) printer_is_utf8, printer_spelled),
      ),
      refl,
    ),
    tt,
  ),
)

main_spelled : (x : ℕ) → x < 2 ^ 32 → externidx.Spells (externidx_written (index.Func x)) (index.Func x)
unfolding externidx
main_spelled x h = (x, u32_spelled x h, refl)

pub exports_spelled : (p : Script) → Good p → Size p ≤ size_limit → ListSpelled export export_written (lowered p).exports
unfolding export
exports_spelled p good size =
    let x : ℕ = function_index p.declarations (codes "main") in (
      omega arith,
      (((codes "main", index.Func x), (bytes_written (codes "main"), externidx_written (index.Func x), refl, name_spelled (codes "main") (omega arith) main_is_utf8, main_spelled x (small_function p good size (codes "main"))), refl), tt),
    )

-- ## Functions that code refers to

few_if : (b : Bool) (d : Declaration) (ds : List Declaration) (n : ℕ) → length ds ≤ n → length (cond b (d ∷ ds) ds) ≤ suc n
few_if true d ds n h = omega (arith, h)
few_if false d ds n h = omega (arith, h)

-- no more are kept than there are
few_filtered : (t : Declaration → Bool) (ds : List Declaration) → length (filter t ds) ≤ length ds
few_filtered t [] = omega arith
few_filtered t (d ∷ ds) = few_if (t d) d (filter t ds) (length ds) (few_filtered t ds)

abbrev references : (Declaration → ℕ) → List Declaration → List Code
references f es = map (λ (d : Declaration). reference_to (f d)) es

-- each item is one `ref.func x`
references_are_functions : (f : Declaration → ℕ) (es : List Declaration) → are_functions (references f es) ≡ true
references_are_functions f [] = refl
references_are_functions f (e ∷ es) = references_are_functions f es

references_spelled : (f : Declaration → ℕ) → ((d : Declaration) → f d < 2 ^ 32) → (es : List Declaration) → EachSpelled function_item function_written (references f es)
unfolding function_item
references_spelled f h [] = tt
references_spelled f h (e ∷ es) = ((f e, u32_spelled (f e) (h e), refl), references_spelled f h es)

-- the kind of functions
kind_spelled : elemkind.Spells (0x00 ∷ []) (non_null_to heap.Func)
unfolding elemkind
kind_spelled = (refl, refl)

-- the form of declarative segments by indices
third_spelled : Unsigned 32 (0x03 ∷ []) 3
unfolding Unsigned
third_spelled = (omega arith, omega arith, refl)

-- a declarative segment of functions, by their indices
segment_spelled : (items : List Code) → are_functions items ≡ true → ListSpelled function_item function_written items
    → elem.Spells (elem_written (record { kind = non_null_to heap.Func; items = items; mode = mode.Declarative })) (record { kind = non_null_to heap.Func; items = items; mode = mode.Declarative })
unfolding elem
segment_spelled items are h =
    rw are (
      3,
      0x03 ∷ [],
      0x00 ∷ vec_written function_written items,
      refl,
      third_spelled,
      ((non_null_to heap.Func, items), (0x00 ∷ [], vec_written function_written items, refl, kind_spelled, list_spells function_item function_written items h), refl),
    )

-- there is at most one
declared_spelled : (p : Script) → Good p → Size p ≤ size_limit → (es : List Declaration) → length es ≤ size_limit → ListSpelled elem elem_written (declared p.declarations es)
declared_spelled p good size [] few = (omega arith, tt)
declared_spelled p good size (e ∷ es) few =
    let f : Declaration → ℕ = λ (d : Declaration). function_index p.declarations d.name in
    let l = length-map (e ∷ es) (λ (d : Declaration). reference_to (f d)) in (
      omega arith,
      (segment_spelled (references f (e ∷ es)) (references_are_functions f (e ∷ es)) (omega (arith, l, few), references_spelled f (λ d. small_function p good size d.name) (e ∷ es)), tt),
    )

pub elements_spelled : (p : Script) → Good p → Size p ≤ size_limit → ListSpelled elem elem_written (lowered p).elements
elements_spelled p good size =
    let few = few_declarations p.declarations in
    let q = few_filtered (λ (d : Declaration). is_function_among (handled_names p.declarations) d d.definition) p.declarations in
    declared_spelled p good size (handled p.declarations) (omega (arith, few, q, size))
