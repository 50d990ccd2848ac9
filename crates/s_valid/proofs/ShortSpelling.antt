-- The spelling of the module of a script is at most 297 times as long as the script is large, and 508 bytes more.
use Rattle.std.proofs.Common.{◌≡◌, ℕ, zero, suc, pos, ◌+◌, ◌*◌, ◌≤◌, Bool, true, false, cond, if◌then◌else◌, max, List, [], ◌∷◌, ◌++◌, map, take, drop, filter, length, codes, Some, None, refl, ap, ◌∙◌, arith, length-append}
use Rattle.std.specs.Prelude.{sum_by, nat_lt, nat_eq, slice_get, flat_map}
use Rattle.std.proofs.lemmas.List.{length-map, take-append-drop}
use Rattle.std.proofs.lemmas.List.Sums.{sum_by-cons}
use Rattle.w_types.specs.declared.types.HeapType.{HeapType}
use Rattle.w_types.specs.declared.types.HeapType.TheVariants as heap
use Rattle.w_types.specs.declared.types.ValType.{ValType}
use Rattle.w_types.specs.declared.types.ValType.TheVariants as val
use Rattle.w_types.specs.declared.types.CompType.{CompType}
use Rattle.w_types.specs.declared.types.CompType.TheVariants.{Cont}
use Rattle.w_types.specs.declared.types.RecGroup.{RecGroup}
use Rattle.w_leb.specs.Number.{shortest}
use Rattle.w_leb.specs.CanonicalLaws.{vec_written, sized_written}
use Rattle.w_syntax.specs.Code.{Code}
use Rattle.w_syntax.specs.Items.{reference_to}
use Rattle.w_syntax.specs.Locals.{same_kind, join, join_all, joined}
use Rattle.w_syntax.specs.Module.{header, any_uses_data}
use Rattle.w_syntax.specs.Types.{alone_of}
use Rattle.w_syntax.specs.declared.locals.LocalRun.{LocalRun}
use Rattle.w_syntax.specs.declared.module.ElemMode.TheVariants as mode
use Rattle.w_syntax.specs.declared.module.Func.{Func as Body}
use Rattle.w_encode.specs.TypesWritten.{heaptype_written, ref_written, limits_written, valtype_written, comptype_written, subtype_written, rectype_written}
use Rattle.w_encode.specs.InstructionsWritten.{expr_written}
use Rattle.w_encode.specs.FieldsWritten.{bytes_written, externtype_written, externidx_written, import_written, table_written, tag_written, export_written, are_functions, function_written, elem_written}
use Rattle.w_encode.specs.Canon.{run_written, func_written, code_written, list_section, number_section, data_count, Canon}
use Rattle.s_syntax.specs.declared.name.Name.{Name}
use Rattle.s_syntax.specs.declared.script.Parameter.{Parameter}
use Rattle.s_syntax.specs.declared.script.Function.{Function}
use Rattle.s_syntax.specs.declared.script.Clause.{Clause}
use Rattle.s_syntax.specs.declared.script.Handler.{Handler}
use Rattle.s_syntax.specs.declared.script.Slots.{Slots}
use Rattle.s_syntax.specs.declared.script.Definition.{Definition}
use Rattle.s_syntax.specs.declared.script.Definition.TheVariants as definition
use Rattle.s_syntax.specs.declared.script.Declaration.{Declaration}
use Rattle.s_syntax.specs.declared.script.Script.{Script}
use Rattle.s_check.specs.Refusal.{Good}
use Rattle.s_check.specs.Scopes.{Bound, number, resumption}
use Rattle.s_check.specs.Size.{block_size, clause_size, definition_size, Size, size_limit}
use Rattle.s_index.specs.Handled.{handled_names, is_function_among, handled}
use Rattle.s_index.specs.Indices.{function_types, continuations, parameters_of, type_table, function_type_index, handler_type_index, effect_type_index}
use Rattle.s_index.specs.Numbers.{function_index}
use Rattle.s_index.specs.Types.{place, from_to, first_types, function_type, handler_type, effect_type, clause_type, clause_types, types_for, types_for_all, with_type, with_types, val_type, val_types, numbers, to_continuation, computation_type, resumption_type, coroutine_type, group_tag_type}
use Rattle.s_code.specs.Lowered.{function_code, handler_code, slots_table, function_type_of, handler_type_of, table_of, tag_of, function_code_of, handler_code_of, for_each, group, grouped, group_tag, printer_import, main_export, declared, lowered_all, lowered}
use Rattle.s_code.specs.Places.{run, name_runs, locals_for, binds_in, function_layout, return_names, clause_names, clauses_names, high_clauses}
use Rattle.s_code.specs.Temporaries.{high_block}
use Rattle.s_code.proofs.Binds.{binds_within}
use Rattle.s_valid.proofs.Declarations.{IsSmall, small}
use Rattle.s_valid.proofs.ShortCode.{either_short, number_short, signed_short, code_bytes, written_length, body_short, handler_short}

-- ## Lists

-- how many bytes the items of a list have
abbrev pub bytes_by : {A : Type 0} → (A → List ℕ) → List A → ℕ
bytes_by w xs = length (flat_map w xs)

module _ {A : Type 0} (w : A → List ℕ) where
  first_item : (x : A) (xs : List A) → bytes_by w (x ∷ xs) ≡ length (w x) + bytes_by w xs
  first_item x xs = length-append (w x) (flat_map w xs)

  both_parts : (xs ys : List A) → bytes_by w (xs ++ ys) ≡ bytes_by w xs + bytes_by w ys
  both_parts [] ys = omega arith
  both_parts (x ∷ xs) ys = let q = both_parts xs ys in let l = first_item x (xs ++ ys) in let r = first_item x xs in omega (arith, q, l, r)

  -- where each item has at most so many bytes
  module _ (n : ℕ) (few : (x : A) → length (w x) ≤ n) where
    items_short : (xs : List A) → bytes_by w xs ≤ n * length xs
    items_short [] = omega arith
    items_short (x ∷ xs) = let q = items_short xs in let l = first_item x xs in let h = few x in grind (arith, q, l, h)

  vec_short : (xs : List A) → length (vec_written w xs) ≤ 10 + bytes_by w xs
  vec_short xs = let n = number_short (length xs) in let l = length-append (shortest (length xs)) (flat_map w xs) in omega (arith, n, l)

  sized_short : (x : A) → length (sized_written w x) ≤ 10 + length (w x)
  sized_short x = let n = number_short (length (w x)) in let l = length-append (shortest (length (w x))) (w x) in omega (arith, n, l)

section_short : {A : Type 0} (id : ℕ) (w : A → List ℕ) (xs : List A) → length (list_section id w xs) ≤ 21 + bytes_by w xs
section_short id w [] = omega arith
section_short id w (x ∷ xs) =
    let v = vec_short w (x ∷ xs) in
    let s = sized_short (vec_written w) (x ∷ xs) in
    omega (arith, v, s)

-- ## Locals

heap_short : (h : HeapType) → length (heaptype_written h) ≤ 10
heap_short heap.Func = omega arith
heap_short heap.NoFunc = omega arith
heap_short heap.Cont = omega arith
heap_short heap.NoCont = omega arith
heap_short (heap.Index x) = signed_short (pos x)

ref_short : (b : Bool) (h : HeapType) → length (ref_written b h) ≤ 11
ref_short false h = let q = heap_short h in omega (arith, q)
ref_short true heap.Func = omega arith
ref_short true heap.NoFunc = omega arith
ref_short true heap.Cont = omega arith
ref_short true heap.NoCont = omega arith
ref_short true (heap.Index x) = let q = signed_short (pos x) in omega (arith, q)

val_short : (t : ValType) → length (valtype_written t) ≤ 11
val_short val.I32 = omega arith
val_short val.I64 = omega arith
val_short (val.Ref r) = ref_short r.nullable r.heap

run_short : (r : LocalRun) → length (run_written r) ≤ 21
run_short r = let n = number_short r.count in let v = val_short r.kind in let l = length-append (shortest r.count) (valtype_written r.kind) in omega (arith, n, v, l)

joins : (u v : Bool) (l k : LocalRun) (ks : List LocalRun) → length (cond u (k ∷ ks) (cond v (record { count = l.count + k.count; kind = k.kind } ∷ ks) (l ∷ k ∷ ks))) ≤ suc (suc (length ks))
joins true v l k ks = omega arith
joins false true l k ks = omega arith
joins false false l k ks = omega arith

joins_none : (u : Bool) (l : LocalRun) → length (cond u [] (l ∷ [])) ≤ 1
joins_none true l = omega arith
joins_none false l = omega arith

join_few : (l : LocalRun) (ks : List LocalRun) → length (join l ks) ≤ suc (length ks)
unfolding join
join_few l [] = joins_none (nat_eq l.count 0) l
join_few l (k ∷ ks) = joins (nat_eq l.count 0) (same_kind l.kind k.kind) l k ks

joined_few : (ls : List LocalRun) → length (joined ls) ≤ length ls
unfolding join_all
joined_few [] = omega arith
joined_few (l ∷ ls) = let q = joined_few ls in let j = join_few l (joined ls) in omega (arith, q, j)

-- a run for each name, and one for temporaries
locals_few : (bs : List Bound) (n : ℕ) → length (locals_for bs n) ≤ length bs + 1
locals_few bs n =
    let q = joined_few (name_runs bs ++ run val.I64 n ∷ []) in
    let l = length-append (name_runs bs) (run val.I64 n ∷ []) in
    let m = length-map bs (λ (b : Bound). run (val_type b.ty) 1) in
    omega (arith, q, l, m)

-- ## Names

return_within : (ds : List Declaration) (i : Handler) → length (return_names ds i) ≤ 1 + block_size i.return_clause.body
return_within ds i = let q = binds_within ds i.return_clause.body in omega (arith, q)

clause_within : (ds : List Declaration) (h : Name) (c : Clause) → length (clause_names ds h c) ≤ clause_size c
clause_within ds h c =
    let q = binds_within ds c.body in
    let m = length-map c.arguments number in
    let l = length-append (map number c.arguments) (resumption h c.resumption ∷ binds_in ds c.body) in
    omega (arith, q, m, l)

clauses_within : (ds : List Declaration) (h : Name) (cs : List Clause) → length (clauses_names ds h cs) ≤ sum_by clause_size cs
clauses_within ds h [] = omega arith
clauses_within ds h (c ∷ cs) =
    let q = clause_within ds h c in
    let r = clauses_within ds h cs in
    let l = length-append (clause_names ds h c) (clauses_names ds h cs) in
    let s = sum_by-cons clause_size c cs in
    omega (arith, q, r, l, s)

-- ## Bodies

body_written_short : (f : Body) → length (code_written f) ≤ 21 + 21 * length f.locals + code_bytes f.body
body_written_short f =
    let v = vec_short run_written f.locals in
    let i = items_short run_written 21 run_short f.locals in
    let e = written_length f.body in
    let l = length-append (vec_written run_written f.locals) (expr_written f.body) in
    let s = sized_short func_written f in
    omega (arith, v, i, e, l, s)

function_short : (ds : List Declaration) (f : Function) → length (code_written (function_code ds f)) ≤ 54 + 101 * block_size f.body
function_short ds f =
    let w = body_written_short (function_code ds f) in
    let n = locals_few (binds_in ds f.body) (high_block f.body) in
    let k = binds_within ds f.body in
    let b = body_short ds (function_layout ds f) (omega arith) f.body 0 in
    omega (arith, w, n, k, b)

handler_code_short : (ds : List Declaration) (h : Name) (i : Handler) → length i.parameters ≤ 8
    → length (code_written (handler_code ds h i)) ≤ 121 + 101 * block_size i.return_clause.body + 101 * sum_by clause_size i.clauses
handler_code_short ds h i few =
    let w = body_written_short (handler_code ds h i) in
    let n = locals_few (return_names ds i ++ clauses_names ds h i.clauses) (max (high_block i.return_clause.body) (high_clauses i.clauses)) in
    let a = length-append (return_names ds i) (clauses_names ds h i.clauses) in
    let k = return_within ds i in
    let c = clauses_within ds h i.clauses in
    let b = handler_short ds h i few in
    omega (arith, w, n, a, k, c, b)

-- ## Sums over declarations

abbrev sizes : List Declaration → ℕ
sizes ds = sum_by (λ (d : Declaration). definition_size d.definition) ds

sizes_first : (d : Declaration) (ds : List Declaration) → sizes (d ∷ ds) ≡ definition_size d.definition + sizes ds
sizes_first d ds = sum_by-cons (λ (c : Declaration). definition_size c.definition) d ds

one_or_more : (d : Definition) → 1 ≤ definition_size d
one_or_more (definition.Effect n) = omega arith
one_or_more (definition.Function f) = omega arith
one_or_more (definition.Handler h) = omega arith
one_or_more (definition.Slots s) = omega arith

declarations_few : (ds : List Declaration) → length ds ≤ sizes ds
declarations_few [] = omega arith
declarations_few (d ∷ ds) = let q = declarations_few ds in let s = sizes_first d ds in let o = one_or_more d.definition in omega (arith, q, s, o)

kept_few : (b : Bool) (d : Declaration) (ds : List Declaration) (n : ℕ) → length ds ≤ n → length (cond b (d ∷ ds) ds) ≤ suc n
kept_few true d ds n h = omega (arith, h)
kept_few false d ds n h = omega (arith, h)

filter_few : (p : Declaration → Bool) (ds : List Declaration) → length (filter p ds) ≤ length ds
filter_few p [] = omega arith
filter_few p (d ∷ ds) = kept_few (p d) d (filter p ds) (length ds) (filter_few p ds)

handled_few : (ds : List Declaration) → length (handled ds) ≤ sizes ds
handled_few ds =
    let q = filter_few (λ (d : Declaration). is_function_among (handled_names ds) d d.definition) ds in
    let r = declarations_few ds in
    omega (arith, q, r)

-- what declarations add to two lists has at most k bytes for each unit of size, where it does for each declaration
module _ {A : Type 0} (w : A → List ℕ) (make also : Declaration → List A) (k : ℕ) where
  all_short : (es : List Declaration)
      → ((n : ℕ) (e : Declaration) → slice_get es n ≡ Some e → bytes_by w (make e) + bytes_by w (also e) ≤ k * definition_size e.definition)
      → bytes_by w (for_each make es ++ for_each also es) ≤ k * sizes es
  all_short es each =
      let b = both_parts w (for_each make es) (for_each also es) in
      let q = apart es each in
      omega (arith, b, q)
    where
      apart : (es : List Declaration)
          → ((n : ℕ) (e : Declaration) → slice_get es n ≡ Some e → bytes_by w (make e) + bytes_by w (also e) ≤ k * definition_size e.definition)
          → bytes_by w (for_each make es) + bytes_by w (for_each also es) ≤ k * sizes es
      apart [] each = omega arith
      apart (e ∷ es) each =
          let q = apart es (λ n d at. each (suc n) d at) in
          let h = each 0 e refl in
          let a = both_parts w (make e) (for_each make es) in
          let b = both_parts w (also e) (for_each also es) in
          let s = sizes_first e es in
          let m : k * sizes (e ∷ es) ≡ k * definition_size e.definition + k * sizes es = ap (λ (n : ℕ). k * n) s ∙ grind arith in
          omega (arith, q, h, a, b, m)

-- ## Types

arrow_short : (ts us : List ValType) → length (comptype_written (from_to ts us)) ≤ 21 + 11 * length ts + 11 * length us
arrow_short ts us =
    let a = vec_short valtype_written ts in
    let b = vec_short valtype_written us in
    let c = items_short valtype_written 11 val_short ts in
    let d = items_short valtype_written 11 val_short us in
    let l = length-append (vec_written valtype_written ts) (vec_written valtype_written us) in
    omega (arith, a, b, c, d, l)

continuation_short : (x : ℕ) → length (comptype_written (Cont x)) ≤ 11
continuation_short x = let q = signed_short (pos x) in omega (arith, q)

with_type_short : (b : Bool) (ts : List CompType) (t : CompType) → bytes_by comptype_written (if b then ts else (ts ++ t ∷ [])) ≤ bytes_by comptype_written ts + length (comptype_written t)
with_type_short true ts t = omega arith
with_type_short false ts t = let q = both_parts comptype_written ts (t ∷ []) in let r = first_item comptype_written t [] in omega (arith, q, r)

with_types_short : (ts us : List CompType) → bytes_by comptype_written (with_types ts us) ≤ bytes_by comptype_written ts + bytes_by comptype_written us
with_types_short ts [] = omega arith
with_types_short ts (u ∷ us) =
    let q = with_types_short (with_type ts u) us in
    let r = with_type_short (nat_lt (place u ts) (length ts)) ts u in
    let s = first_item comptype_written u us in
    omega (arith, q, r, s)

numbers_length : (n : ℕ) → length (numbers n) ≡ n
numbers_length zero = refl
numbers_length (suc n) = ap (λ (k : ℕ). suc k) (numbers_length n)

clause_types_short : (cs : List Clause) → bytes_by comptype_written (clause_types cs) ≤ 16 * sum_by clause_size cs
clause_types_short [] = omega arith
clause_types_short (c ∷ cs) =
    let n = length c.arguments in
    let q = clause_types_short cs in
    let s = sum_by-cons clause_size c cs in
    let f = first_item comptype_written (clause_type n) (clause_types cs) in
    let a = arrow_short [] (numbers n ++ to_continuation false resumption_type ∷ []) in
    let l = length-append (numbers n) (to_continuation false resumption_type ∷ []) in
    let m = numbers_length n in
    omega (arith, q, s, f, a, l, m)

types_short : (d : Definition) → IsSmall d → bytes_by comptype_written (types_for d) ≤ 120 * definition_size d
types_short (definition.Effect n) few =
    let f = first_item comptype_written (effect_type n.value) [] in
    let a = arrow_short (numbers n.value) (val.I64 ∷ []) in
    let m = numbers_length n.value in
    omega (arith, few, f, a, m)
types_short (definition.Function g) few =
    let f = first_item comptype_written (function_type g.parameters) [] in
    let a = arrow_short (val_types g.parameters) (val.I64 ∷ []) in
    let m = length-map g.parameters (λ (p : Parameter). val_type p.ty) in
    omega (arith, few, f, a, m)
types_short (definition.Handler h) few =
    let f = first_item comptype_written (handler_type h.parameters) (clause_types h.clauses) in
    let a = arrow_short (val_types h.parameters ++ to_continuation true computation_type ∷ []) (val.I64 ∷ []) in
    let m = length-map h.parameters (λ (p : Parameter). val_type p.ty) in
    let l = length-append (val_types h.parameters) (to_continuation true computation_type ∷ []) in
    let c = clause_types_short h.clauses in
    omega (arith, f, a, m, l, c)
types_short (definition.Slots s) few = omega arith

-- each of these has few parameters and arguments
abbrev AreSmall : List Declaration → Type 0
AreSmall es = (n : ℕ) (e : Declaration) → slice_get es n ≡ Some e → IsSmall e.definition

all_types_short : (es : List Declaration) → AreSmall es → bytes_by comptype_written (types_for_all es) ≤ 120 * sizes es
all_types_short [] few = omega arith
all_types_short (e ∷ es) few =
    let q = all_types_short es (λ n d at. few (suc n) d at) in
    let t = types_short e.definition (few 0 e refl) in
    let b = both_parts comptype_written (types_for e.definition) (types_for_all es) in
    let s = sizes_first e es in
    omega (arith, q, t, b, s)

continuations_short : (ds es : List Declaration) → bytes_by comptype_written (continuations ds es) ≤ 11 * length es
continuations_short ds [] = omega arith
continuations_short ds (e ∷ es) =
    let q = continuations_short ds es in
    let x = place (function_type (parameters_of ds e.name)) (function_types ds) in
    let c = continuation_short x in
    let f = first_item comptype_written (Cont x) (continuations ds es) in
    omega (arith, q, c, f)

first_types_short : bytes_by comptype_written first_types ≤ 194
first_types_short =
    let w = comptype_written in
    let both = val.I64 ∷ to_continuation true coroutine_type ∷ [] in
    let a = from_to (val.I64 ∷ []) (val.I64 ∷ []) in
    let b = from_to [] (val.I64 ∷ []) in
    let c = from_to (val.I64 ∷ []) [] in
    let d = from_to both (val.I64 ∷ []) in
    let p = first_item w a (Cont 0 ∷ b ∷ Cont 2 ∷ c ∷ d ∷ Cont 5 ∷ []) in
    let q = first_item w (Cont 0) (b ∷ Cont 2 ∷ c ∷ d ∷ Cont 5 ∷ []) in
    let r = first_item w b (Cont 2 ∷ c ∷ d ∷ Cont 5 ∷ []) in
    let s = first_item w (Cont 2) (c ∷ d ∷ Cont 5 ∷ []) in
    let t = first_item w c (d ∷ Cont 5 ∷ []) in
    let u = first_item w d (Cont 5 ∷ []) in
    let v = first_item w (Cont 5) [] in
    let k = arrow_short (val.I64 ∷ []) (val.I64 ∷ []) in
    let l = arrow_short [] (val.I64 ∷ []) in
    let m = arrow_short (val.I64 ∷ []) [] in
    let n = arrow_short both (val.I64 ∷ []) in
    let x = continuation_short 0 in
    let y = continuation_short 2 in
    let z = continuation_short 5 in
    omega (arith, p, q, r, s, t, u, v, k, l, m, n, x, y, z)

-- ## Types in groups

groups_alike : (ts : List CompType) → bytes_by rectype_written (map group ts) ≡ bytes_by comptype_written ts
groups_alike ts = ap (λ (bs : List ℕ). length bs) (same ts)
  where
    same : (ts : List CompType) → flat_map rectype_written (map group ts) ≡ flat_map comptype_written ts
    same [] = refl
    same (t ∷ ts) = ap (λ (bs : List ℕ). comptype_written t ++ bs) (same ts)

-- types that stand in one group
one_group_short : (ts : List CompType) → length (rectype_written (record { types = map alone_of ts })) ≤ 11 + bytes_by comptype_written ts
one_group_short [] = let v = vec_short subtype_written [] in omega (arith, v)
one_group_short (t ∷ []) = let f = first_item comptype_written t [] in omega (arith, f)
one_group_short (t ∷ u ∷ ts) =
    let v = vec_short subtype_written (map alone_of (t ∷ u ∷ ts)) in let e = same (t ∷ u ∷ ts) in omega (arith, v, e)
  where
    same : (ts : List CompType) → bytes_by subtype_written (map alone_of ts) ≡ bytes_by comptype_written ts
    same [] = refl
    same (t ∷ ts) =
        let q = same ts in let l = first_item subtype_written (alone_of t) (map alone_of ts) in let r = first_item comptype_written t ts in omega (arith, q, l, r)

-- the groups have no more bytes than the types, and those of the one group of two
grouped_short : (ts : List CompType) → bytes_by rectype_written (grouped ts) ≤ 11 + bytes_by comptype_written ts
grouped_short ts =
    let us = drop 5 ts in
    let two : RecGroup = record { types = map alone_of (take 2 us) } in
    let a = both_parts rectype_written (map group (take 5 ts)) (two ∷ map group (drop 2 us)) in
    let b = first_item rectype_written two (map group (drop 2 us)) in
    let c = one_group_short (take 2 us) in
    let d = groups_alike (take 5 ts) in
    let e = groups_alike (drop 2 us) in
    let f = both_parts comptype_written (take 5 ts) us in
    let g = both_parts comptype_written (take 2 us) (drop 2 us) in
    let h = ap (λ (vs : List CompType). bytes_by comptype_written vs) (take-append-drop 5 ts) in
    let i = ap (λ (vs : List CompType). bytes_by comptype_written vs) (take-append-drop 2 us) in
    omega (arith, a, b, c, d, e, f, g, h, i)

table_short : (ds : List Declaration) → AreSmall ds → bytes_by rectype_written (grouped (type_table ds)) ≤ 205 + 131 * sizes ds
table_short ds few =
    let g = grouped_short (type_table ds) in
    let a = with_types_short (function_types ds) (continuations ds (handled ds)) in
    let b = with_types_short first_types (types_for_all ds) in
    let c = first_types_short in
    let t = all_types_short ds few in
    let k = continuations_short ds (handled ds) in
    let h = handled_few ds in
    omega (arith, g, a, b, c, t, k, h)

-- ## Functions, tags and tables

function_indices_short : (ds : List Declaration) (d : Definition) → bytes_by shortest (function_type_of ds d) + bytes_by shortest (handler_type_of ds d) ≤ 10 * definition_size d
function_indices_short ds (definition.Effect n) = omega arith
function_indices_short ds (definition.Function f) =
    let n = number_short (function_type_index ds f.parameters) in let q = first_item shortest (function_type_index ds f.parameters) [] in omega (arith, n, q)
function_indices_short ds (definition.Handler h) =
    let n = number_short (handler_type_index ds h.parameters) in let q = first_item shortest (handler_type_index ds h.parameters) [] in omega (arith, n, q)
function_indices_short ds (definition.Slots s) = omega arith

functions_short : (ds : List Declaration) → bytes_by shortest (lowered_all ds).functions ≤ 10 * sizes ds
functions_short ds =
    all_short shortest (λ (d : Declaration). function_type_of ds d.definition) (λ (d : Declaration). handler_type_of ds d.definition) 10 ds (λ n e at. function_indices_short ds e.definition)

tag_short : (ds : List Declaration) (d : Definition) → bytes_by tag_written (tag_of ds d) ≤ 11 * definition_size d
tag_short ds (definition.Effect n) = let x = number_short (effect_type_index ds n.value) in let q = length-append (tag_written (record { type_index = effect_type_index ds n.value })) [] in omega (arith, x, q)
tag_short ds (definition.Function f) = omega arith
tag_short ds (definition.Handler h) = omega arith
tag_short ds (definition.Slots s) = omega arith

tags_short : (ds : List Declaration) → bytes_by tag_written (lowered_all ds).tags ≤ 11 + 11 * sizes ds
tags_short ds =
    let ts = for_each (λ (d : Declaration). tag_of ds d.definition) ds in
    let q = all_short tag_written (λ (d : Declaration). tag_of ds d.definition) (λ (d : Declaration). []) 11 ds (λ n e at. let t = tag_short ds e.definition in omega (arith, t)) in
    let b = both_parts tag_written ts (for_each (λ (d : Declaration). []) ds) in
    let c = both_parts tag_written ts (group_tag ∷ []) in
    let x = number_short group_tag_type in
    let l = first_item tag_written group_tag [] in
    omega (arith, q, b, c, x, l)

slots_table_short : (s : Slots) → length (table_written (slots_table s)) ≤ 32
slots_table_short s =
    let r = ref_short true (heap.Index resumption_type) in
    let n = number_short s.places.value in
    let l = length-append (shortest s.places.value) (shortest s.places.value) in
    let a = length-append (ref_written true (heap.Index resumption_type)) (limits_written (slots_table s).kind.limits) in
    omega (arith, r, n, l, a)

table_of_short : (d : Definition) → bytes_by table_written (table_of d) ≤ 32 * definition_size d
table_of_short (definition.Effect n) = omega arith
table_of_short (definition.Function f) = omega arith
table_of_short (definition.Handler h) = omega arith
table_of_short (definition.Slots s) = let t = slots_table_short s in let q = first_item table_written (slots_table s) [] in omega (arith, t, q)

tables_short : (ds : List Declaration) → bytes_by table_written (lowered_all ds).tables ≤ 32 * sizes ds
tables_short ds =
    let q = all_short table_written (λ (d : Declaration). table_of d.definition) (λ (d : Declaration). []) 32 ds (λ n e at. let t = table_of_short e.definition in omega (arith, t)) in
    let b = both_parts table_written (lowered_all ds).tables (for_each (λ (d : Declaration). []) ds) in
    omega (arith, q, b)

definition_code_short : (ds : List Declaration) (x : Name) (d : Definition) → IsSmall d → bytes_by code_written (function_code_of ds d) + bytes_by code_written (handler_code_of ds x d) ≤ 101 * definition_size d
definition_code_short ds x (definition.Effect n) few = omega arith
definition_code_short ds x (definition.Function f) few =
    let c = function_short ds f in let q = first_item code_written (function_code ds f) [] in omega (arith, c, q)
definition_code_short ds x (definition.Handler h) few =
    let c = handler_code_short ds x h few.0 in let q = first_item code_written (handler_code ds x h) [] in omega (arith, c, q)
definition_code_short ds x (definition.Slots s) few = omega arith

codes_short : (ds : List Declaration) → AreSmall ds → bytes_by code_written (lowered_all ds).codes ≤ 101 * sizes ds
codes_short ds few =
    all_short code_written (λ (d : Declaration). function_code_of ds d.definition) (λ (d : Declaration). handler_code_of ds d.name d.definition) 101 ds
    (λ n e at. definition_code_short ds e.name e.definition (few n e at))

-- ## Import, export and segment

bytes_short : (b : List ℕ) → length (bytes_written b) ≤ 10 + length b
bytes_short b = let n = number_short (length b) in let l = length-append (shortest (length b)) b in omega (arith, n, l)

import_short : bytes_by import_written (printer_import ∷ []) ≤ 44
import_short =
    let a = bytes_short (codes "host") in
    let b = bytes_short (codes "print_i64") in
    let n = number_short 4 in
    let last = externtype_written printer_import.kind in
    let l = length-append (bytes_written (codes "host")) (bytes_written (codes "print_i64") ++ last) in
    let m = length-append (bytes_written (codes "print_i64")) last in
    let f = first_item import_written printer_import [] in
    omega (arith, a, b, n, l, m, f)

export_short : (ds : List Declaration) → bytes_by export_written (main_export ds ∷ []) ≤ 25
export_short ds =
    let a = bytes_short (codes "main") in
    let n = number_short (function_index ds (codes "main")) in
    let l = length-append (bytes_written (codes "main")) (externidx_written (main_export ds).index) in
    let f = first_item export_written (main_export ds) [] in
    omega (arith, a, n, l, f)

-- functions by their indices, and by expressions
abbrev references : (Declaration → ℕ) → List Declaration → List Code
references f es = map (λ (d : Declaration). reference_to (f d)) es

indices_short : (f : Declaration → ℕ) (es : List Declaration) → bytes_by function_written (references f es) ≤ 12 * length es
indices_short f [] = omega arith
indices_short f (e ∷ es) =
    let q = indices_short f es in let n = number_short (f e) in let l = first_item function_written (reference_to (f e)) (references f es) in omega (arith, q, n, l)

expressions_short : (f : Declaration → ℕ) (es : List Declaration) → bytes_by expr_written (references f es) ≤ 12 * length es
expressions_short f [] = omega arith
expressions_short f (e ∷ es) =
    let q = expressions_short f es in let n = number_short (f e) in let w = written_length (reference_to (f e)) in let l = first_item expr_written (reference_to (f e)) (references f es) in omega (arith, q, n, w, l)

segment_short : (ds es : List Declaration) → bytes_by elem_written (declared ds es) ≤ 13 + 12 * length es
segment_short ds [] = omega arith
segment_short ds (e ∷ es) =
    let f : Declaration → ℕ = λ (d : Declaration). function_index ds d.name in
    let items = references f (e ∷ es) in
    let a = indices_short f (e ∷ es) in
    let b = expressions_short f (e ∷ es) in
    let v = vec_short function_written items in
    let x = vec_short expr_written items in
    let one = either_short (are_functions items) (0x03 ∷ 0x00 ∷ vec_written function_written items) (0x07 ∷ (0x64 ∷ 0x70 ∷ vec_written expr_written items)) (13 + 12 * length (e ∷ es)) (omega (arith, a, v)) (omega (arith, b, x)) in
    let g = length-append (elem_written (record { kind = record { nullable = false; heap = heap.Func }; items = items; mode = mode.Declarative })) [] in
    omega (arith, one, g)

data_count_short : (b : Bool) (n : ℕ) → length (number_section 0x0C (cond b (Some n) None)) ≤ 21
data_count_short true n = let s = sized_short shortest n in let k = number_short n in omega (arith, s, k)
data_count_short false n = omega arith

-- ## All of it

ten_parts : (a b c d e f g h i j : List ℕ)
    → length (a ++ (b ++ (c ++ (d ++ (e ++ (f ++ (g ++ (h ++ (i ++ (j ++ []))))))))))
    ≡ length a + length b + length c + length d + length e + length f + length g + length h + length i + length j
ten_parts a b c d e f g h i j =
    let i1 = length-append j [] in
    let i2 = length-append i (j ++ []) in
    let i3 = length-append h (i ++ (j ++ [])) in
    let i4 = length-append g (h ++ (i ++ (j ++ []))) in
    let i5 = length-append f (g ++ (h ++ (i ++ (j ++ [])))) in
    let i6 = length-append e (f ++ (g ++ (h ++ (i ++ (j ++ []))))) in
    let i7 = length-append d (e ++ (f ++ (g ++ (h ++ (i ++ (j ++ [])))))) in
    let i8 = length-append c (d ++ (e ++ (f ++ (g ++ (h ++ (i ++ (j ++ []))))))) in
    let i9 = length-append b (c ++ (d ++ (e ++ (f ++ (g ++ (h ++ (i ++ (j ++ [])))))))) in
    let i10 = length-append a (b ++ (c ++ (d ++ (e ++ (f ++ (g ++ (h ++ (i ++ (j ++ []))))))))) in
    omega (arith, i1, i2, i3, i4, i5, i6, i7, i8, i9, i10)

spelling_short : (ds : List Declaration) → AreSmall ds → length (Canon (lowered_all ds)) ≤ 297 * sizes ds + 508
spelling_short ds few =
    let m = lowered_all ds in
    let t = section_short 0x01 rectype_written m.types in
    let i = section_short 0x02 import_written m.imports in
    let f = section_short 0x03 shortest m.functions in
    let b = section_short 0x04 table_written m.tables in
    let g = section_short 0x0D tag_written m.tags in
    let e = section_short 0x07 export_written m.exports in
    let l = section_short 0x09 elem_written m.elements in
    let n = data_count_short (any_uses_data m.codes) 0 in
    let c = section_short 0x0A code_written m.codes in
    let t1 = table_short ds few in
    let i1 = import_short in
    let f1 = functions_short ds in
    let b1 = tables_short ds in
    let g1 = tags_short ds in
    let e1 = export_short ds in
    let l1 = segment_short ds (handled ds) in
    let h = handled_few ds in
    let c1 = codes_short ds few in
    let all = ten_parts header (list_section 0x01 rectype_written m.types) (list_section 0x02 import_written m.imports) (list_section 0x03 shortest m.functions) (list_section 0x04 table_written m.tables) (list_section 0x0D tag_written m.tags)
    (list_section 0x07 export_written m.exports) (list_section 0x09 elem_written m.elements) (number_section 0x0C (data_count m)) (list_section 0x0A code_written m.codes) in
    omega (arith, t, i, f, b, g, e, l, n, c, t1, i1, f1, b1, g1, e1, l1, h, c1, all)

-- the spelling of the module is at most 297 times as long as the script is large, and 508 bytes more
pub spelled_short : (p : Script) → Good p → length (Canon (lowered p)) ≤ 297 * Size p + 508
spelled_short p good = spelling_short p.declarations (small p good)

-- that of a script of size 50000 has at most 2^24 bytes
pub short_spelling : (p : Script) → Good p → Size p ≤ size_limit → length (Canon (lowered p)) ≤ 16777216
short_spelling p good within = let q = spelled_short p good in omega (arith, q, within)
