-- The items of the module of a script are valid, but for the bodies of its functions.
use Rattle.std.proofs.Common.{◌≡◌, ◌⊎◌, inl, inr, ℕ, zero, suc, ◌+◌, ◌<◌, ◌≤◌, Bool, true, false, cond, List, [], ◌∷◌, ◌++◌, map, filter, length, codes, Option, Some, None, refl, sym, ap, ◌∙◌, subst, arith, length-append}
use Rattle.std.specs.Prelude.{nat_eq, slice_get, All, IsSome}
use Rattle.std.proofs.lemmas.Bool.{lt-ltb}
use Rattle.std.proofs.lemmas.Option.{slice_get_within}
use Rattle.std.proofs.lemmas.List.Elements.{All-nil, All-cons, All-append, All-tail, All-head}
use Rattle.w_types.specs.declared.types.HeapType.TheVariants as heap
use Rattle.w_types.specs.declared.types.ValType.{ValType}
use Rattle.w_types.specs.declared.types.ValType.TheVariants.{I64, Ref}
use Rattle.w_types.specs.declared.types.CompType.{CompType}
use Rattle.w_types.specs.declared.types.CompType.TheVariants.{Func, Cont}
use Rattle.w_types.specs.declared.types.FuncType.{FuncType}
use Rattle.w_types.specs.declared.types.RecGroup.{RecGroup}
use Rattle.w_types.specs.Groups.{types_of}
use Rattle.lists.specs.Rows.{ε, ◌▹◌}
use Rattle.w_syntax.specs.Code.{Code}
use Rattle.w_syntax.specs.Functions.{function_type as function_type_in, type_at, type_of_function, code_of_function}
use Rattle.w_syntax.specs.Items.{reference_to}
use Rattle.w_syntax.specs.Locals.{same_kind, join, join_all, joined}
use Rattle.w_syntax.specs.declared.locals.LocalRun.{LocalRun}
use Rattle.w_syntax.specs.declared.module.Elem.{Elem}
use Rattle.w_syntax.specs.declared.module.Func.{Func as Body}
use Rattle.w_canon.specs.Matching.{ref, index_func}
use Rattle.w_rules.specs.Bodies.{BodyTyped, ConstTyped}
use Rattle.w_rules.specs.Context.{Context, type_of, func_of}
use Rattle.w_rules.specs.InstructionTypes.{ref_func_type}
use Rattle.w_rules.specs.Matching.{none, more, value}
use Rattle.w_rules.specs.Operands.{Known}
use Rattle.w_rules.specs.Spaces.{context_of, functions_of}
use Rattle.w_rules.specs.Types.{IsValidType}
use Rattle.w_rules.specs.Typing.{HasInstrType}
use Rattle.w_rules.specs.Valid.{ImportValid, TableValid, MemoryValid, TagValid, ElementValid, ExportValid, FunctionValid, TypeItem, ImportItem, TableItem, MemoryItem, TagItem, GlobalItem, ElementItem, DataItem, StartItem, ExportItem, FunctionItem, Valid}
use Rattle.w_rules.proofs.Preorder.{row_refl}
use Rattle.s_syntax.specs.declared.name.Name.{Name}
use Rattle.s_syntax.specs.declared.script.Function.{Function}
use Rattle.s_syntax.specs.declared.script.Handler.{Handler}
use Rattle.s_syntax.specs.declared.script.Definition.{Definition}
use Rattle.s_syntax.specs.declared.script.Definition.TheVariants as definition
use Rattle.s_syntax.specs.declared.script.Declaration.{Declaration}
use Rattle.s_syntax.specs.declared.script.Script.{Script}
use Rattle.s_check.specs.Definitions.{definition_of, as_function, function_of, as_handler, handler_of}
use Rattle.s_check.specs.Refusal.{Good}
use Rattle.s_check.specs.Scopes.{Bound}
use Rattle.s_index.specs.Handled.{is_function_among, handled_names, handled}
use Rattle.s_index.specs.Indices.{type_table, function_type_index, effect_type_index}
use Rattle.s_index.specs.Numbers.{function_index}
use Rattle.s_index.specs.Types.{from_to, function_type, handler_type, effect_type, clause_types, types_for, types_for_all, val_type, val_types, numbers, to_continuation, resumption_type, computation_type}
use Rattle.s_code.specs.Lowered.{slots_table, function_type_of, handler_type_of, table_of, tag_of, group_tag, function_code_of, handler_code_of, function_code, handler_code, for_each, main_export, declared, lowered_all, lowered}
use Rattle.s_code.specs.Places.{run, name_runs, locals_for, binds_in, return_names, clauses_names}
use Rattle.s_meaning.proofs.Good.{good_typed}
use Rattle.s_valid.specs.Offers.{arrow}
use Rattle.s_valid.proofs.Declarations.{good_empty, first_of_name, IsSmall, small}
use Rattle.s_valid.proofs.HandledNames.{handled_declared}
use Rattle.s_valid.proofs.MadeOnce.{IsThere, here, there_left, there_right}
use Rattle.s_valid.proofs.ModuleOffers.{tags_for, function_at, function_type_there}
use Rattle.s_valid.proofs.TypesValid.{type_valid, val_type_valid}
use Rattle.s_valid.proofs.TypeGroups.{types_of_groups}
use Rattle.s_valid.proofs.TypeTable.{seven_types, func_there, first_type}

-- ## Items that stand where their declarations do

get_in_left : {A : Type 0} (xs ys : List A) (i : ℕ) → i < length xs → slice_get (xs ++ ys) i ≡ slice_get xs i
get_in_left [] ys i h = absurd (omega (arith, h))
get_in_left (x ∷ xs) ys zero h = refl
get_in_left (x ∷ xs) ys (suc i) h = get_in_left xs ys i (omega (arith, h))

get_in_right : {A : Type 0} (xs ys : List A) (i k : ℕ) → k ≡ length xs + i → slice_get (xs ++ ys) k ≡ slice_get ys i
get_in_right [] ys i k at = ap (λ (j : ℕ). slice_get ys j) (let same : k ≡ i = omega (arith, at) in same)
get_in_right (x ∷ xs) ys i zero at = absurd (omega (arith, at))
get_in_right (x ∷ xs) ys i (suc k) at = get_in_right xs ys i k (omega (arith, at))

-- an index is in the first part, or behind it
which : (n i : ℕ) → (i < n) ⊎ ((k : ℕ) × (i ≡ n + k))
which zero i = inr (i, omega arith)
which (suc n) zero = inl (omega arith)
which (suc n) (suc i) = elim (which n i) [ inl l ↦ inl (omega (arith, l)) | inr r ↦ inr (r.0, let e = r.1 in omega (arith, e)) ]

-- the declaration that adds item i to two lists at once
record Adds {A B : Type 0} (make : Declaration → List A) (also : Declaration → List B) (es : List Declaration) (i : ℕ) : Type 0 where
  place : ℕ
  declaration : Declaration
  is : slice_get es place ≡ Some declaration
  offset : ℕ
  within : offset < length (make declaration)
  one : slice_get (for_each make es) i ≡ slice_get (make declaration) offset
  other : slice_get (for_each also es) i ≡ slice_get (also declaration) offset

module _ {A B : Type 0} (make : Declaration → List A) (also : Declaration → List B) (alike : (d : Declaration) → length (make d) ≡ length (also d)) where
  same_lengths : (es : List Declaration) → length (for_each make es) ≡ length (for_each also es)
  same_lengths [] = refl
  same_lengths (e ∷ es) =
      let q = same_lengths es in let s = alike e in let l = length-append (make e) (for_each make es) in let r = length-append (also e) (for_each also es) in omega (arith, q, s, l, r)

  added_by : (es : List Declaration) (i : ℕ) → i < length (for_each make es) → Adds make also es i
  added_by [] i h = absurd (omega (arith, h))
  added_by (e ∷ es) i h = elim (which (length (make e)) i) [
    | inl l ↦ record {
      place = 0;
      declaration = e;
      is = refl;
      offset = i;
      within = l;
      one = get_in_left (make e) (for_each make es) i l;
      other = get_in_left (also e) (for_each also es) i (let s = alike e in omega (arith, s, l));
    }
    | inr r ↦
        let at = r.1 in
        let n = length-append (make e) (for_each make es) in
        let q = added_by es r.0 (omega (arith, at, n, h)) in
        let s = alike e in
        record {
          place = suc q.place;
          declaration = q.declaration;
          is = q.is;
          offset = q.offset;
          within = q.within;
          one = get_in_right (make e) (for_each make es) r.0 i at ∙ q.one;
          other = get_in_right (also e) (for_each also es) r.0 i (omega (arith, s, at)) ∙ q.other;
        }
  ]

-- the types of a declaration are among those of all
types_in_all : (t : CompType) (ds : List Declaration) (k : ℕ) (d : Declaration) → slice_get ds k ≡ Some d → IsThere t (types_for d.definition) → IsThere t (types_for_all ds)
types_in_all t [] k d e h = absurd (cc)
types_in_all t (c ∷ ds) zero d e h = let same : c ≡ d = cc in there_left t (types_for c.definition) (types_for_all ds) (subst (λ (x : Declaration). IsThere t (types_for x.definition)) (sym same) h)
types_in_all t (c ∷ ds) (suc k) d e h = there_right t (types_for c.definition) (types_for_all ds) (types_in_all t ds k d e h)

-- ## Imports, tables, memories and tags

-- there are seven types or more
pub module_types : (ds : List Declaration) → 7 ≤ length (types_of (lowered_all ds).types)
module_types ds = subst (λ (ts : List CompType). 7 ≤ length ts) (sym (types_of_groups (type_table ds))) (seven_types ds)

pub import_valid : (ds : List Declaration) (i : ℕ) → i < length (lowered_all ds).imports → ImportValid (lowered_all ds) i
import_valid ds zero h = record {
  value = _;
  is = refl;
  valid = record { type = arrow (I64 ∷ []) []; has_type = ap function_type_in (first_type (from_to (I64 ∷ []) []) ds (context_of (lowered_all ds)) refl (omega arith)) };
}
import_valid ds (suc i) h = absurd (omega (arith, h))

table_by : (ds : List Declaration) (i : ℕ) (d : Definition) (n : ℕ) → n < length (table_of d) → IsSmall d → slice_get (lowered_all ds).tables i ≡ slice_get (table_of d) n → TableValid (lowered_all ds) i
table_by ds i (definition.Effect k) n h few e = absurd (omega (arith, h))
table_by ds i (definition.Function f) n h few e = absurd (omega (arith, h))
table_by ds i (definition.Handler j) n h few e = absurd (omega (arith, h))
table_by ds i (definition.Slots s) (suc n) h few e = absurd (omega (arith, h))
table_by ds i (definition.Slots s) zero h few e =
    let types = module_types ds in
    record {
      table = slots_table s;
      is = e;
      valid = record {
        limits = record { min = omega (arith, few); max = (omega arith, omega (arith, few)) };
        element = lt-ltb resumption_type (length (types_of (lowered_all ds).types)) (omega (arith, types));
      };
      init = refl;
    }

pub table_valid : (p : Script) → Good p → (i : ℕ) → i < length (lowered p).tables → TableValid (lowered p) i
table_valid p good i h =
    let q = added_by (λ (d : Declaration). table_of d.definition) (λ (d : Declaration). table_of d.definition) (λ d. refl) p.declarations i h in
    table_by p.declarations i q.declaration.definition q.offset q.within (small p good q.place q.declaration q.is) q.one

pub memory_valid : (ds : List Declaration) → MemoryValid (lowered_all ds)
memory_valid ds = record { one = omega arith; limits = All-nil _ }

tag_by : (ds : List Declaration) (i : ℕ) (d : Definition) (n : ℕ) → n < length (tag_of ds d) → ((t : CompType) → IsThere t (types_for d) → IsThere t (types_for_all ds))
    → slice_get (lowered_all ds).tags i ≡ slice_get (tag_of ds d) n → TagValid (lowered_all ds) i
tag_by ds i (definition.Effect k) zero h types e = record {
  tag = record { type_index = effect_type_index ds k.value };
  type = arrow (numbers k.value) (I64 ∷ []);
  is = e;
  has_type = func_there (arrow (numbers k.value) (I64 ∷ [])) ds (context_of (lowered_all ds)) refl (types (effect_type k.value) (here (effect_type k.value) []));
}
tag_by ds i (definition.Effect k) (suc n) h types e = absurd (omega (arith, h))
tag_by ds i (definition.Function f) n h types e = absurd (omega (arith, h))
tag_by ds i (definition.Handler f) n h types e = absurd (omega (arith, h))
tag_by ds i (definition.Slots s) n h types e = absurd (omega (arith, h))

-- the tag of groups
group_tag_by : (ds : List Declaration) (i j : ℕ) → j < 1 → slice_get (lowered_all ds).tags i ≡ slice_get (group_tag ∷ []) j → TagValid (lowered_all ds) i
group_tag_by ds i zero h e = record {
  tag = group_tag;
  type = arrow [] (I64 ∷ []);
  is = e;
  has_type = ap function_type_in (first_type (from_to [] (I64 ∷ [])) ds (context_of (lowered_all ds)) refl (omega arith));
}
group_tag_by ds i (suc j) h e = absurd (omega (arith, h))

pub tag_valid : (ds : List Declaration) (i : ℕ) → i < length (lowered_all ds).tags → TagValid (lowered_all ds) i
tag_valid ds i h = elim (which (length (for_each (tags_for ds) ds)) i) [
  | inl l ↦
      let q = added_by (tags_for ds) (tags_for ds) (λ d. refl) ds i l in
      let e = get_in_left (for_each (tags_for ds) ds) (group_tag ∷ []) i l in
      tag_by ds i q.declaration.definition q.offset q.within (λ t there. types_in_all t ds q.place q.declaration q.is there) (e ∙ q.one)
  | inr r ↦
      let at = r.1 in
      let n = length-append (for_each (tags_for ds) ds) (group_tag ∷ []) in
      group_tag_by ds i r.0 (omega (arith, at, n, h)) (get_in_right (for_each (tags_for ds) ds) (group_tag ∷ []) r.0 i at)
]

-- ## The export

main_there : (p : Script) → Good p → function_index p.declarations (codes "main") < length (functions_of (lowered p))
main_there p good =
    let g = (good_typed p good).entry in
    slice_get_within (functions_of (lowered p)) (function_index p.declarations (codes "main")) (function_type_index p.declarations g.0.parameters) (function_at p.declarations (codes "main") g.0 g.1)

pub export_valid : (p : Script) → Good p → (i : ℕ) → i < length (lowered p).exports → ExportValid (lowered p) i
export_valid p good zero h = record { export = main_export p.declarations; is = refl; there = main_there p good; alone = λ j l e. absurd (omega (arith, l)) }
export_valid p good (suc i) h = absurd (omega (arith, h))

-- ## The functions that are handled

-- each of them is a function
record KeptFunction (names : List Name) (es : List Declaration) (d : Declaration) : Type 0 where
  place : ℕ
  is : slice_get es place ≡ Some d
  passes : is_function_among names d d.definition ≡ true

kept_is : (names : List Name) (c : Declaration) (es : List Declaration) (rest : List Declaration) (b : Bool) (i : ℕ) (d : Declaration) → is_function_among names c c.definition ≡ b
    → ((j : ℕ) → slice_get rest j ≡ Some d → KeptFunction names es d) → slice_get (cond b (c ∷ rest) rest) i ≡ Some d → KeptFunction names (c ∷ es) d
kept_is names c es rest true zero d t later e = let same : c ≡ d = cc in record { place = 0; is = ap Some same; passes = subst (λ (x : Declaration). is_function_among names x x.definition ≡ true) same t }
kept_is names c es rest true (suc i) d t later e = let k = later i e in record { place = suc k.place; is = k.is; passes = k.passes }
kept_is names c es rest false i d t later e = let k = later i e in record { place = suc k.place; is = k.is; passes = k.passes }

kept_function : (names : List Name) (es : List Declaration) (i : ℕ) (d : Declaration) → slice_get (filter (λ (e : Declaration). is_function_among names e e.definition) es) i ≡ Some d → KeptFunction names es d
kept_function names [] i d e = absurd (cc)
kept_function names (c ∷ es) i d e =
    kept_is names c es (filter (λ (x : Declaration). is_function_among names x x.definition) es) (is_function_among names c c.definition) i d refl (λ j q. kept_function names es j d q) e

is_a_function : (names : List Name) (c : Declaration) (d : Definition) → is_function_among names c d ≡ true → (g : Function) × (d ≡ definition.Function g)
is_a_function names c (definition.Effect n) e = absurd (cc)
is_a_function names c (definition.Function g) e = (g, refl)
is_a_function names c (definition.Handler h) e = absurd (cc)
is_a_function names c (definition.Slots s) e = absurd (cc)

handled_function : (p : Script) → Good p → (i : ℕ) (d : Declaration) → slice_get (handled p.declarations) i ≡ Some d → (g : Function) × (function_of p.declarations d.name ≡ Some g)
handled_function p good i d e =
    let k = kept_function (handled_names p.declarations) p.declarations i d e in
    let g = is_a_function (handled_names p.declarations) d d.definition k.passes in
    (g.0, ap as_function ((first_of_name p.declarations [] p.declarations (good_empty p good) k.place d k.is).1 ∙ ap Some g.1))

-- a reference to a function that is declared is constant
function_is : (o : Option CompType) (t : FuncType) → function_type_in o ≡ Some t → o ≡ Some (Func t)
function_is None t e = absurd (cc)
function_is (Some (Func u)) t e = ap (λ (v : FuncType). Some (Func v)) (cc e)
function_is (Some (Cont x)) t e = absurd (cc)

reference_to_given : (gs : List RecGroup) (o : Option ℕ) (p : Option Bool) (y : ℕ) → o ≡ Some y → p ≡ Some true
    → HasInstrType gs (ref_func_type o p) ε (ε ▹ Known (Ref (record { nullable = false; heap = heap.Index y })))
reference_to_given gs o p y e f =
    subst (λ (r : Option ℕ). HasInstrType gs (ref_func_type r p) ε (ε ▹ Known (Ref (record { nullable = false; heap = heap.Index y })))) (sym e)
    (subst (λ (q : Option Bool). HasInstrType gs (ref_func_type (Some y) q) ε (ε ▹ Known (Ref (record { nullable = false; heap = heap.Index y })))) (sym f)
    (record { beneath = ε; takes = none; gives = row_refl gs (ε ▹ Known (Ref (record { nullable = false; heap = heap.Index y }))) }))

reference_typed : (C : Context) (x y : ℕ) (t : FuncType) → slice_get C.functions x ≡ Some y → slice_get C.declared x ≡ Some true → func_of C y ≡ Some t
    → ConstTyped C (reference_to x) (Ref (record { nullable = false; heap = heap.Func }))
reference_typed C x y t function marked type = record {
  constant = refl;
  typed = (
    tt,
    (
      ε ▹ Known (Ref (record { nullable = false; heap = heap.Index y })),
      reference_to_given C.types (slice_get C.functions x) (slice_get C.declared x) y function marked,
      more none (value (ref (record { nullable = λ n. absurd (cc); heap = index_func (t, function_is (type_of C y) t type) }))),
    ),
  );
}

item_typed : (p : Script) → Good p → (i : ℕ) (d : Declaration) → slice_get (handled p.declarations) i ≡ Some d
    → ConstTyped (context_of (lowered p)) (reference_to (function_index p.declarations d.name)) (Ref (record { nullable = false; heap = heap.Func }))
item_typed p good i d e =
    let g = handled_function p good i d e in
    let function = function_at p.declarations d.name g.0 g.1 in
    let within = slice_get_within (functions_of (lowered p)) (function_index p.declarations d.name) (function_type_index p.declarations g.0.parameters) function in
    reference_typed (context_of (lowered p)) (function_index p.declarations d.name) (function_type_index p.declarations g.0.parameters) (arrow (val_types g.0.parameters) (I64 ∷ []))
    function (handled_declared p.declarations d.name within (record { place = i; declaration = d; is = e; named = refl }))
    (func_there (arrow (val_types g.0.parameters) (I64 ∷ [])) p.declarations (context_of (lowered p)) refl (function_type_there p.declarations d.name g.0 g.1))

items_typed : (C : Context) (F : Declaration → ℕ) (t : ValType) (es : List Declaration) → ((i : ℕ) (d : Declaration) → slice_get es i ≡ Some d → ConstTyped C (reference_to (F d)) t)
    → All (λ (k : Code). ConstTyped C k t) (map (λ (d : Declaration). reference_to (F d)) es)
items_typed C F t [] h = All-nil (λ (k : Code). ConstTyped C k t)
items_typed C F t (e ∷ es) h = All-cons (λ (k : Code). ConstTyped C k t) (reference_to (F e)) (map (λ (d : Declaration). reference_to (F d)) es) (h 0 e refl) (items_typed C F t es (λ i d q. h (suc i) d q))

element_by : (p : Script) (es : List Declaration) (i : ℕ) → (lowered p).elements ≡ declared p.declarations es → i < length (declared p.declarations es)
    → ((k : ℕ) (d : Declaration) → slice_get es k ≡ Some d → ConstTyped (context_of (lowered p)) (reference_to (function_index p.declarations d.name)) (Ref (record { nullable = false; heap = heap.Func })))
    → ElementValid (lowered p) i
element_by p [] i is h typed = absurd (omega (arith, h))
element_by p (e ∷ es) zero is h typed = record {
  element = _;
  is = ap (λ (xs : List Elem). slice_get xs 0) is;
  valid = refl;
  mode = tt;
  items = items_typed (context_of (lowered p)) (λ (d : Declaration). function_index p.declarations d.name) (Ref (record { nullable = false; heap = heap.Func })) (e ∷ es) typed;
}
element_by p (e ∷ es) (suc i) is h typed = absurd (omega (arith, h))

pub element_valid : (p : Script) → Good p → (i : ℕ) → i < length (lowered p).elements → ElementValid (lowered p) i
element_valid p good i h = element_by p (handled p.declarations) i refl h (item_typed p good)

-- ## Functions

-- what stands at a function's index: a function or a handler, with its type and its code
pub data StandsAt (ds : List Declaration) (i : ℕ) : Type 0 where
  of_function : (f : Name) (g : Function) → function_of ds f ≡ Some g → type_of_function (lowered_all ds) i ≡ Some (arrow (val_types g.parameters) (I64 ∷ []))
      → code_of_function (lowered_all ds) i ≡ Some (function_code ds g) → StandsAt ds i
  of_handler : (h : Name) (j : Handler) → handler_of ds h ≡ Some j → type_of_function (lowered_all ds) i ≡ Some (arrow (val_types j.parameters ++ to_continuation true computation_type ∷ []) (I64 ∷ []))
      → code_of_function (lowered_all ds) i ≡ Some (handler_code ds h j) → StandsAt ds i

function_lengths : (ds : List Declaration) (d : Definition) → length (function_type_of ds d) ≡ length (function_code_of ds d)
function_lengths ds (definition.Effect n) = refl
function_lengths ds (definition.Function f) = refl
function_lengths ds (definition.Handler h) = refl
function_lengths ds (definition.Slots s) = refl

handler_lengths : (ds : List Declaration) (x : Name) (d : Definition) → length (handler_type_of ds d) ≡ length (handler_code_of ds x d)
handler_lengths ds x (definition.Effect n) = refl
handler_lengths ds x (definition.Function f) = refl
handler_lengths ds x (definition.Handler h) = refl
handler_lengths ds x (definition.Slots s) = refl

function_parts : (ds es : List Declaration) → length (for_each (λ (d : Declaration). function_type_of ds d.definition) es) ≡ length (for_each (λ (d : Declaration). function_code_of ds d.definition) es)
function_parts ds es = same_lengths (λ (d : Declaration). function_type_of ds d.definition) (λ (d : Declaration). function_code_of ds d.definition) (λ d. function_lengths ds d.definition) es

handler_parts : (ds es : List Declaration) → length (for_each (λ (d : Declaration). handler_type_of ds d.definition) es) ≡ length (for_each (λ (d : Declaration). handler_code_of ds d.name d.definition) es)
handler_parts ds es = same_lengths (λ (d : Declaration). handler_type_of ds d.definition) (λ (d : Declaration). handler_code_of ds d.name d.definition) (λ d. handler_lengths ds d.name d.definition) es

-- as many types as codes
pub functions_and_codes : (ds : List Declaration) → length (lowered_all ds).functions ≡ length (lowered_all ds).codes
functions_and_codes ds =
    let f = function_parts ds ds in
    let h = handler_parts ds ds in
    let a = length-append (for_each (λ (d : Declaration). function_type_of ds d.definition) ds) (for_each (λ (d : Declaration). handler_type_of ds d.definition) ds) in
    let b = length-append (for_each (λ (d : Declaration). function_code_of ds d.definition) ds) (for_each (λ (d : Declaration). handler_code_of ds d.name d.definition) ds) in
    omega (arith, f, h, a, b)

function_stands : (ds : List Declaration) (i : ℕ) (x : Name) (d : Definition) (n : ℕ) → n < length (function_type_of ds d) → definition_of ds x ≡ Some d
    → ((t : CompType) → IsThere t (types_for d) → IsThere t (types_for_all ds))
    → slice_get (lowered_all ds).functions i ≡ slice_get (function_type_of ds d) n → slice_get (lowered_all ds).codes i ≡ slice_get (function_code_of ds d) n → StandsAt ds i
function_stands ds i x (definition.Effect k) n h named types e c = absurd (omega (arith, h))
function_stands ds i x (definition.Handler k) n h named types e c = absurd (omega (arith, h))
function_stands ds i x (definition.Slots k) n h named types e c = absurd (omega (arith, h))
function_stands ds i x (definition.Function g) (suc n) h named types e c = absurd (omega (arith, h))
function_stands ds i x (definition.Function g) zero h named types e c =
    of_function x g (ap as_function named)
    (ap (λ (o : Option ℕ). type_at (lowered_all ds) o) e
    ∙ func_there (arrow (val_types g.parameters) (I64 ∷ [])) ds (context_of (lowered_all ds)) refl (types (function_type g.parameters) (here (function_type g.parameters) [])))
    c

handler_stands : (ds : List Declaration) (i : ℕ) (x : Name) (d : Definition) (n : ℕ) → n < length (handler_type_of ds d) → definition_of ds x ≡ Some d
    → ((t : CompType) → IsThere t (types_for d) → IsThere t (types_for_all ds))
    → slice_get (lowered_all ds).functions i ≡ slice_get (handler_type_of ds d) n → slice_get (lowered_all ds).codes i ≡ slice_get (handler_code_of ds x d) n → StandsAt ds i
handler_stands ds i x (definition.Effect k) n h named types e c = absurd (omega (arith, h))
handler_stands ds i x (definition.Function k) n h named types e c = absurd (omega (arith, h))
handler_stands ds i x (definition.Slots k) n h named types e c = absurd (omega (arith, h))
handler_stands ds i x (definition.Handler j) (suc n) h named types e c = absurd (omega (arith, h))
handler_stands ds i x (definition.Handler j) zero h named types e c =
    of_handler x j (ap as_handler named)
    (ap (λ (o : Option ℕ). type_at (lowered_all ds) o) e
    ∙ func_there (arrow (val_types j.parameters ++ to_continuation true computation_type ∷ []) (I64 ∷ [])) ds (context_of (lowered_all ds)) refl
    (types (handler_type j.parameters) (here (handler_type j.parameters) (clause_types j.clauses))))
    c

abbrev function_types : List Declaration → Declaration → List ℕ
function_types ds d = function_type_of ds d.definition

abbrev function_codes : List Declaration → Declaration → List Body
function_codes ds d = function_code_of ds d.definition

abbrev handler_types : List Declaration → Declaration → List ℕ
handler_types ds d = handler_type_of ds d.definition

abbrev handler_codes : List Declaration → Declaration → List Body
handler_codes ds d = handler_code_of ds d.name d.definition

among_functions : (p : Script) → Good p → (i : ℕ) → i < length (for_each (function_types p.declarations) p.declarations) → StandsAt p.declarations i
among_functions p good i l =
    let parts = function_parts p.declarations p.declarations in
    let q = added_by (function_types p.declarations) (function_codes p.declarations) (λ d. function_lengths p.declarations d.definition) p.declarations i l in
    let e = get_in_left (for_each (function_types p.declarations) p.declarations) (for_each (handler_types p.declarations) p.declarations) i l in
    let c = get_in_left (for_each (function_codes p.declarations) p.declarations) (for_each (handler_codes p.declarations) p.declarations) i (omega (arith, parts, l)) in
    function_stands p.declarations i q.declaration.name q.declaration.definition q.offset q.within
    (first_of_name p.declarations [] p.declarations (good_empty p good) q.place q.declaration q.is).1
    (λ t there. types_in_all t p.declarations q.place q.declaration q.is there) (e ∙ q.one) (c ∙ q.other)

among_handlers : (p : Script) → Good p → (i k : ℕ) → i ≡ length (for_each (function_types p.declarations) p.declarations) + k → k < length (for_each (handler_types p.declarations) p.declarations)
    → StandsAt p.declarations i
among_handlers p good i k at l =
    let parts = function_parts p.declarations p.declarations in
    let q = added_by (handler_types p.declarations) (handler_codes p.declarations) (λ d. handler_lengths p.declarations d.name d.definition) p.declarations k l in
    let e = get_in_right (for_each (function_types p.declarations) p.declarations) (for_each (handler_types p.declarations) p.declarations) k i at in
    let c = get_in_right (for_each (function_codes p.declarations) p.declarations) (for_each (handler_codes p.declarations) p.declarations) k i (omega (arith, parts, at)) in
    handler_stands p.declarations i q.declaration.name q.declaration.definition q.offset q.within
    (first_of_name p.declarations [] p.declarations (good_empty p good) q.place q.declaration q.is).1
    (λ t there. types_in_all t p.declarations q.place q.declaration q.is there) (e ∙ q.one) (c ∙ q.other)

-- each function is that of a declaration
pub stands_at : (p : Script) → Good p → (i : ℕ) → i < length (lowered p).functions → StandsAt p.declarations i
stands_at p good i h = elim (which (length (for_each (function_types p.declarations) p.declarations)) i) [
  | inl l ↦ among_functions p good i l
  | inr r ↦
      let at = r.1 in
      let n = length-append (for_each (function_types p.declarations) p.declarations) (for_each (handler_types p.declarations) p.declarations) in
      among_handlers p good i r.0 at (omega (arith, at, n, h))
]

-- ## Locals

-- the types of locals are valid among so many types
abbrev pub AreLocals : ℕ → List LocalRun → Type 0
AreLocals n ls = All (λ (l : LocalRun). IsValidType n l.kind) ls

join_of : (n : ℕ) (u v : Bool) (l k : LocalRun) (ks : List LocalRun) → IsValidType n l.kind → AreLocals n (k ∷ ks)
    → AreLocals n (cond u (k ∷ ks) (cond v (record { count = l.count + k.count; kind = k.kind } ∷ ks) (l ∷ k ∷ ks)))
join_of n true v l k ks h hs = hs
join_of n false true l k ks h hs =
    All-cons (λ (x : LocalRun). IsValidType n x.kind) (record { count = l.count + k.count; kind = k.kind }) ks
    (All-head (λ (x : LocalRun). IsValidType n x.kind) k ks hs) (All-tail (λ (x : LocalRun). IsValidType n x.kind) k ks hs)
join_of n false false l k ks h hs = All-cons (λ (x : LocalRun). IsValidType n x.kind) l (k ∷ ks) h hs

join_none : (n : ℕ) (u : Bool) (l : LocalRun) → IsValidType n l.kind → AreLocals n (cond u [] (l ∷ []))
join_none n true l h = All-nil (λ (x : LocalRun). IsValidType n x.kind)
join_none n false l h = All-cons (λ (x : LocalRun). IsValidType n x.kind) l [] h (All-nil (λ (x : LocalRun). IsValidType n x.kind))

join_valid : (n : ℕ) (l : LocalRun) (ks : List LocalRun) → IsValidType n l.kind → AreLocals n ks → AreLocals n (join l ks)
unfolding join
join_valid n l [] h hs = join_none n (nat_eq l.count 0) l h
join_valid n l (k ∷ ks) h hs = join_of n (nat_eq l.count 0) (same_kind l.kind k.kind) l k ks h hs

joined_valid : (n : ℕ) (ls : List LocalRun) → AreLocals n ls → AreLocals n (joined ls)
unfolding join_all
joined_valid n [] hs = All-nil (λ (x : LocalRun). IsValidType n x.kind)
joined_valid n (l ∷ ls) hs = join_valid n l (joined ls) (All-head (λ (x : LocalRun). IsValidType n x.kind) l ls hs) (joined_valid n ls (All-tail (λ (x : LocalRun). IsValidType n x.kind) l ls hs))

names_valid : (n : ℕ) (bs : List Bound) → 7 ≤ n → AreLocals n (name_runs bs)
names_valid n [] h = All-nil (λ (x : LocalRun). IsValidType n x.kind)
names_valid n (b ∷ bs) h = All-cons (λ (x : LocalRun). IsValidType n x.kind) (run (val_type b.ty) 1) (name_runs bs) (val_type_valid n b.ty h) (names_valid n bs h)

-- those of names and temporaries are, among seven types or more
pub locals_valid : (n : ℕ) (bs : List Bound) (k : ℕ) → 7 ≤ n → AreLocals n (locals_for bs k)
locals_valid n bs k h =
    joined_valid n (name_runs bs ++ run I64 k ∷ [])
    (All-append (λ (x : LocalRun). IsValidType n x.kind) (name_runs bs) (run I64 k ∷ []) (names_valid n bs h)
    (All-cons (λ (x : LocalRun). IsValidType n x.kind) (run I64 k) [] refl (All-nil (λ (x : LocalRun). IsValidType n x.kind))))

-- ## All of it

-- the bodies of a script's functions and handlers are typed
pub record AreBodiesTyped (ds : List Declaration) : Type 0 where
  pub functions : (f : Name) (g : Function) → function_of ds f ≡ Some g
      → BodyTyped (context_of (lowered_all ds)) (val_types g.parameters) (function_code ds g).locals (I64 ∷ []) (function_code ds g).body
  pub handlers : (h : Name) (i : Handler) → handler_of ds h ≡ Some i
      → BodyTyped (context_of (lowered_all ds)) (val_types i.parameters ++ to_continuation true computation_type ∷ []) (handler_code ds h i).locals (I64 ∷ []) (handler_code ds h i).body

function_by : (ds : List Declaration) (i : ℕ) → AreBodiesTyped ds → StandsAt ds i → FunctionValid (lowered_all ds) i
function_by ds i typed (of_function f g e t c) = record {
  type = arrow (val_types g.parameters) (I64 ∷ []);
  func = function_code ds g;
  has_type = t;
  has_code = c;
  locals = locals_valid (length (types_of (lowered_all ds).types)) (binds_in ds g.body) _ (module_types ds);
  body = typed.functions f g e;
}
function_by ds i typed (of_handler h j e t c) = record {
  type = arrow (val_types j.parameters ++ to_continuation true computation_type ∷ []) (I64 ∷ []);
  func = handler_code ds h j;
  has_type = t;
  has_code = c;
  locals = locals_valid (length (types_of (lowered_all ds).types)) (return_names ds j ++ clauses_names ds h j.clauses) _ (module_types ds);
  body = typed.handlers h j e;
}

no_start : (ds : List Declaration) → IsSome (lowered_all ds).start → ⊥
no_start ds h = cc h

-- the module is valid where its bodies are typed
pub valid_where_typed : (p : Script) → Good p → AreBodiesTyped p.declarations → Valid (lowered p)
valid_where_typed p good typed (TypeItem i) h = type_valid p.declarations i h
valid_where_typed p good typed (ImportItem i) h = import_valid p.declarations i h
valid_where_typed p good typed (TableItem i) h = table_valid p good i h
valid_where_typed p good typed MemoryItem h = memory_valid p.declarations
valid_where_typed p good typed (TagItem i) h = tag_valid p.declarations i h
valid_where_typed p good typed (GlobalItem i) h = absurd (omega (arith, h))
valid_where_typed p good typed (ElementItem i) h = element_valid p good i h
valid_where_typed p good typed (DataItem i) h = absurd (omega (arith, h))
valid_where_typed p good typed StartItem h = absurd (no_start p.declarations h)
valid_where_typed p good typed (ExportItem i) h = export_valid p good i h
valid_where_typed p good typed (FunctionItem i) h =
    let same = functions_and_codes p.declarations in
    function_by p.declarations i typed (stands_at p good i (elim h [ inl l ↦ l | inr r ↦ (let w = r in omega (arith, same, w)) ]))
