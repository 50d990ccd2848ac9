-- The module of a script offers to the code of its bodies what they name.
use Rattle.std.proofs.Common.{◌≡◌, ℕ, zero, suc, ◌+◌, ◌<◌, true, false, List, [], ◌∷◌, ◌++◌, map, length, Option, Some, None, refl, sym, ap, ◌∙◌, subst, arith}
use Rattle.std.specs.Prelude.{slice_get}
use Rattle.std.proofs.lemmas.Option.{slice_get_within}
use Rattle.w_types.specs.declared.types.CompType.{CompType}
use Rattle.w_types.specs.declared.types.CompType.TheVariants.{Cont}
use Rattle.w_types.specs.declared.types.ValType.{ValType}
use Rattle.w_types.specs.declared.types.ValType.TheVariants.{I64}
use Rattle.w_syntax.specs.Functions.{function_type as function_type_in}
use Rattle.w_syntax.specs.declared.module.Table.{Table}
use Rattle.w_syntax.specs.declared.module.Tag.{Tag}
use Rattle.w_rules.specs.Context.{type_of, func_of, func_at, index_in_cont, cont_of, type_of_func, tag_in, type_of_tag}
use Rattle.w_rules.specs.Spaces.{context_of, functions_of}
use Rattle.s_syntax.specs.declared.name.Name.{Name}
use Rattle.s_syntax.specs.declared.script.VariableType.{VariableType}
use Rattle.s_syntax.specs.declared.script.VariableType.TheVariants.{Int, Coroutine}
use Rattle.s_syntax.specs.declared.script.Parameter.{Parameter}
use Rattle.s_syntax.specs.declared.script.Function.{Function}
use Rattle.s_syntax.specs.declared.script.Clause.{Clause}
use Rattle.s_syntax.specs.declared.script.Handler.{Handler}
use Rattle.s_syntax.specs.declared.script.Slots.{Slots}
use Rattle.s_syntax.specs.declared.script.Definition.{Definition}
use Rattle.s_syntax.specs.declared.script.Definition.TheVariants as definition
use Rattle.s_syntax.specs.declared.script.Declaration.{Declaration}
use Rattle.s_syntax.specs.declared.number.Number.{Number}
use Rattle.s_syntax.specs.declared.script.Script.{Script}
use Rattle.s_check.specs.Definitions.{definition_of, function_of, handler_of, as_effect, effect_of, slots_of}
use Rattle.s_check.specs.Refusal.{Good}
use Rattle.s_check.specs.Scopes.{is_among}
use Rattle.s_index.specs.declared.counts.Counts.{Counts}
use Rattle.s_index.specs.Handled.{handled_names, handled}
use Rattle.s_index.specs.Indices.{function_types, type_table, function_type_index, handler_type_index, effect_type_index, clause_type_index, parameters_of, continuation_of, continuations}
use Rattle.s_index.specs.Numbers.{Entry, no_counts, counted, counts_of, with_entry, index_of_function, index_of_handler, index_of_tag, index_of_table, function_index, first_handler, handler_index, tag_index, group_tag_index, table_index, parameters_in}
use Rattle.s_index.specs.Types.{place, first_types, from_to, function_type, handler_type, effect_type, clause_type, clause_types, types_for, types_for_all, val_types, numbers, to_continuation, resumption_type, computation_type, coroutine_type}
use Rattle.s_code.specs.Lowered.{slots_table, function_type_of, handler_type_of, table_of, tag_of, group_tag, for_each, lowered_all, lowered}
use Rattle.s_meaning.specs.Typing.{kinds}
use Rattle.s_meaning.proofs.Good.{is_slots}
use Rattle.s_valid.specs.Offers.{arrow, OffersHandled, Offers}
use Rattle.s_valid.proofs.HandledNames.{handled_stands, continuation_there, handled_declared}
use Rattle.s_valid.proofs.LayoutTypes.{types, types_of_kinds}
use Rattle.s_valid.proofs.MadeOnce.{IsThere, here, behind, adds}
use Rattle.s_valid.proofs.NumbersInModules.{get_left, get_right, Found, found, all_made}
use Rattle.s_valid.proofs.TypeGroups.{kinds_kept}
use Rattle.s_valid.proofs.TypeTable.{is_function, is_handler, types_among, in_function_types, in_table, first_in_table, type_there, func_there, first_type, clause_among}

-- ## What declarations add, and what is counted

abbrev pub function_types_of : List Declaration → Declaration → List ℕ
function_types_of ds d = function_type_of ds d.definition

abbrev pub handler_types_of : List Declaration → Declaration → List ℕ
handler_types_of ds d = handler_type_of ds d.definition

abbrev pub tags_for : List Declaration → Declaration → List Tag
tags_for ds d = tag_of ds d.definition

function_steps : (ds : List Declaration) (n : Counts) (d : Definition) → (counted n d).functions ≡ n.functions + length (function_type_of ds d)
function_steps ds n (definition.Effect k) = omega arith
function_steps ds n (definition.Function f) = omega arith
function_steps ds n (definition.Handler h) = omega arith
function_steps ds n (definition.Slots s) = omega arith

handler_steps : (ds : List Declaration) (n : Counts) (d : Definition) → (counted n d).handlers ≡ n.handlers + length (handler_type_of ds d)
handler_steps ds n (definition.Effect k) = omega arith
handler_steps ds n (definition.Function f) = omega arith
handler_steps ds n (definition.Handler h) = omega arith
handler_steps ds n (definition.Slots s) = omega arith

tag_steps : (ds : List Declaration) (n : Counts) (d : Definition) → (counted n d).effects ≡ n.effects + length (tag_of ds d)
tag_steps ds n (definition.Effect k) = omega arith
tag_steps ds n (definition.Function f) = omega arith
tag_steps ds n (definition.Handler h) = omega arith
tag_steps ds n (definition.Slots s) = omega arith

abbrev pub tables_for : Declaration → List Table
tables_for d = table_of d.definition

pub table_steps : (n : Counts) (d : Definition) → (counted n d).slots ≡ n.slots + length (table_of d)
table_steps n (definition.Effect k) = omega arith
table_steps n (definition.Function f) = omega arith
table_steps n (definition.Handler h) = omega arith
table_steps n (definition.Slots s) = omega arith

abbrev pub FoundFunction : List Declaration → Name → Function → Type 0
FoundFunction ds f g = Found (function_types_of ds) (λ (n : Counts). n.functions) no_counts ds f (definition.Function g) (function_type_index ds g.parameters)

pub found_function : (ds : List Declaration) (f : Name) (g : Function) → function_of ds f ≡ Some g → FoundFunction ds f g
found_function ds f g e =
    found (function_types_of ds) (λ (n : Counts). n.functions) (λ n d. function_steps ds n d.definition) no_counts ds f (definition.Function g) (function_type_index ds g.parameters)
    (is_function (definition_of ds f) g e) (λ c same n. ap (function_type_of ds) same) (λ m. refl)

abbrev pub FoundHandler : List Declaration → Name → Handler → Type 0
FoundHandler ds h i = Found (handler_types_of ds) (λ (n : Counts). n.handlers) no_counts ds h (definition.Handler i) (handler_type_index ds i.parameters)

pub found_handler : (ds : List Declaration) (h : Name) (i : Handler) → handler_of ds h ≡ Some i → FoundHandler ds h i
found_handler ds h i e =
    found (handler_types_of ds) (λ (n : Counts). n.handlers) (λ n d. handler_steps ds n d.definition) no_counts ds h (definition.Handler i) (handler_type_index ds i.parameters)
    (is_handler (definition_of ds h) i e) (λ c same n. ap (handler_type_of ds) same) (λ m. refl)

-- ## Functions

-- the printer stands in front
pub function_index_is : (ds : List Declaration) (f : Name) (g : Function) (q : FoundFunction ds f g) → function_index ds f ≡ suc q.place
function_index_is ds f g q =
    let one : 0 + q.place + 1 ≡ suc q.place = omega arith in
    ap (λ (o : Option Entry). with_entry index_of_function o) q.entry ∙ one

pub function_at : (ds : List Declaration) (f : Name) (g : Function) → function_of ds f ≡ Some g → slice_get (functions_of (lowered_all ds)) (function_index ds f) ≡ Some (function_type_index ds g.parameters)
function_at ds f g e =
    let q = found_function ds f g e in
    ap (λ (i : ℕ). slice_get (functions_of (lowered_all ds)) i) (function_index_is ds f g q)
    ∙ get_left (for_each (function_types_of ds) ds) (for_each (handler_types_of ds) ds) q.place (function_type_index ds g.parameters) q.item

pub function_type_there : (ds : List Declaration) (f : Name) (g : Function) → function_of ds f ≡ Some g → IsThere (function_type g.parameters) (types_for_all ds)
function_type_there ds f g e = types_among (function_type g.parameters) ds f (definition.Function g) (is_function (definition_of ds f) g e) (here (function_type g.parameters) [])

-- ## Handlers

-- the functions stand in front
pub handlers_behind : (ds : List Declaration) → (counts_of ds).functions ≡ length (for_each (function_types_of ds) ds)
handlers_behind ds =
    let q : (counts_of ds).functions ≡ 0 + length (for_each (function_types_of ds) ds) = all_made (function_types_of ds) (λ (n : Counts). n.functions) (λ n d. function_steps ds n d.definition) no_counts ds in
    omega (arith, q)

pub handler_index_is : (ds : List Declaration) (h : Name) (i : Handler) (q : FoundHandler ds h i) → handler_index ds h ≡ suc (length (for_each (function_types_of ds) ds) + q.place)
handler_index_is ds h i q =
    let n = handlers_behind ds in
    let one : (counts_of ds).functions + 1 + (0 + q.place) ≡ suc (length (for_each (function_types_of ds) ds) + q.place) = omega (arith, n) in
    ap (λ (o : Option Entry). with_entry (index_of_handler (first_handler ds)) o) q.entry ∙ one

pub handler_at : (ds : List Declaration) (h : Name) (i : Handler) → handler_of ds h ≡ Some i → slice_get (functions_of (lowered_all ds)) (handler_index ds h) ≡ Some (handler_type_index ds i.parameters)
handler_at ds h i e =
    let q = found_handler ds h i e in
    ap (λ (k : ℕ). slice_get (functions_of (lowered_all ds)) k) (handler_index_is ds h i q)
    ∙ get_right (for_each (function_types_of ds) ds) (for_each (handler_types_of ds) ds) q.place (length (for_each (function_types_of ds) ds) + q.place) (handler_type_index ds i.parameters) refl q.item

pub handler_type_there : (ds : List Declaration) (h : Name) (i : Handler) (t : CompType) → handler_of ds h ≡ Some i → IsThere t (types_for (definition.Handler i)) → IsThere t (types_for_all ds)
handler_type_there ds h i t e there = types_among t ds h (definition.Handler i) (is_handler (definition_of ds h) i e) there

-- ## Effects

-- the declaration of an effect of so many arguments
record IsEffect (o : Option Definition) (n : ℕ) : Type 0 where
  number : Number
  is : o ≡ Some (definition.Effect number)
  value : number.value ≡ n

is_effect : (o : Option Definition) (n : ℕ) → as_effect o ≡ Some n → IsEffect o n
is_effect None n e = absurd (cc)
is_effect (Some (definition.Effect k)) n e = record { number = k; is = refl; value = cc e }
is_effect (Some (definition.Function f)) n e = absurd (cc)
is_effect (Some (definition.Handler h)) n e = absurd (cc)
is_effect (Some (definition.Slots s)) n e = absurd (cc)

effect_by : (ds : List Declaration) (op : Name) (n : ℕ) → IsEffect (definition_of ds op) n → type_of_tag (context_of (lowered_all ds)) (tag_index ds op) ≡ Some (arrow (numbers n) (I64 ∷ []))
effect_by ds op n k =
    let C = context_of (lowered_all ds) in
    let tag : Tag = record { type_index = effect_type_index ds n } in
    let q = found (tags_for ds) (λ (m : Counts). m.effects) (λ m d. tag_steps ds m d.definition) no_counts ds op (definition.Effect k.number) tag
    k.is (λ c same named. ap (tag_of ds) same ∙ ap (λ (x : ℕ). record { type_index = effect_type_index ds x } ∷ []) k.value) (λ m. refl) in
    let index : tag_index ds op ≡ q.place = ap (λ (o : Option Entry). with_entry index_of_tag o) q.entry ∙ omega arith in
    let there : IsThere (effect_type k.number.value) (types_for_all ds) = types_among (effect_type k.number.value) ds op (definition.Effect k.number) k.is (here (effect_type k.number.value) []) in
    ap (λ (x : ℕ). type_of_tag C x) index
    ∙ ap (λ (t : Option Tag). tag_in C t) (get_left (for_each (tags_for ds) ds) (group_tag ∷ []) q.place tag q.item)
    ∙ func_there (arrow (numbers n) (I64 ∷ [])) ds C refl (subst (λ (x : ℕ). IsThere (effect_type x) (types_for_all ds)) k.value there)

effect_at : (ds : List Declaration) (op : Name) (n : ℕ) → effect_of ds op ≡ Some n → type_of_tag (context_of (lowered_all ds)) (tag_index ds op) ≡ Some (arrow (numbers n) (I64 ∷ []))
effect_at ds op n e = effect_by ds op n (is_effect (definition_of ds op) n e)

-- the tag of groups stands behind those of effects
pub group_tag_at : (ds : List Declaration) → slice_get (lowered_all ds).tags (group_tag_index ds) ≡ Some group_tag
group_tag_at ds =
    let q : group_tag_index ds ≡ 0 + length (for_each (tags_for ds) ds) = all_made (tags_for ds) (λ (m : Counts). m.effects) (λ m d. tag_steps ds m d.definition) no_counts ds in
    get_right (for_each (tags_for ds) ds) (group_tag ∷ []) 0 (group_tag_index ds) group_tag (omega (arith, q)) refl

group_offered : (ds : List Declaration) → type_of_tag (context_of (lowered_all ds)) (group_tag_index ds) ≡ Some (arrow [] (I64 ∷ []))
group_offered ds =
    let C = context_of (lowered_all ds) in
    ap (λ (t : Option Tag). tag_in C t) (group_tag_at ds) ∙ ap function_type_in (first_type (from_to [] (I64 ∷ [])) ds C refl (omega arith))

-- ## Groups and coroutines

-- a function whose parameters are of these kinds is of one of the first types, where their type is
kinds_at : (ds : List Declaration) (ps : List Parameter) (ks : List VariableType) → kinds ps ≡ ks → IsThere (from_to (types ks) (I64 ∷ [])) first_types
    → function_type_index ds ps ≡ place (from_to (types ks) (I64 ∷ [])) first_types
kinds_at ds ps ks e there =
    ap (λ (ts : List ValType). place (from_to ts (I64 ∷ [])) (type_table ds)) (sym (types_of_kinds ps) ∙ ap types e) ∙ (first_in_table (from_to (types ks) (I64 ∷ [])) ds there).0

grouped_offered : (ds : List Declaration) (f : Name) (g : Function) → function_of ds f ≡ Some g → kinds g.parameters ≡ Int ∷ [] → slice_get (functions_of (lowered_all ds)) (function_index ds f) ≡ Some 0
grouped_offered ds f g e t = function_at ds f g e ∙ ap Some (kinds_at ds g.parameters (Int ∷ []) t (omega arith))

spawned_offered : (ds : List Declaration) (f : Name) (g : Function) → function_of ds f ≡ Some g → kinds g.parameters ≡ Int ∷ Coroutine ∷ [] → slice_get (functions_of (lowered_all ds)) (function_index ds f) ≡ Some 5
spawned_offered ds f g e t = function_at ds f g e ∙ ap Some (kinds_at ds g.parameters (Int ∷ Coroutine ∷ []) t (omega arith))

-- ## Slots

-- the table of slots stands at its index
pub table_at : (ds : List Declaration) (s : Name) (d : Slots) → slots_of ds s ≡ Some d → slice_get (lowered_all ds).tables (table_index ds s) ≡ Some (slots_table d)
table_at ds s d e =
    let q = found tables_for (λ (m : Counts). m.slots) (λ m c. table_steps m c.definition) no_counts ds s (definition.Slots d) (slots_table d)
    (is_slots (definition_of ds s) d e) (λ c same named. ap table_of same) (λ m. refl) in
    let index : table_index ds s ≡ q.place = ap (λ (o : Option Entry). with_entry index_of_table o) q.entry ∙ omega arith in
    ap (λ (x : ℕ). slice_get (lowered_all ds).tables x) index ∙ q.item

kind_at : (ts : List Table) (x : ℕ) (t : Table) → slice_get ts x ≡ Some t → slice_get (map (λ (u : Table). u.kind) ts) x ≡ Some t.kind
kind_at [] x t e = absurd (cc)
kind_at (u ∷ ts) zero t e = let same : u ≡ t = cc in ap (λ (v : Table). Some v.kind) same
kind_at (u ∷ ts) (suc x) t e = kind_at ts x t e

slots_offered : (ds : List Declaration) (s : Name) (d : Slots) → slots_of ds s ≡ Some d → slice_get (context_of (lowered_all ds)).tables (table_index ds s) ≡ Some (slots_table d).kind
slots_offered ds s d e = kind_at (lowered_all ds).tables (table_index ds s) (slots_table d) (table_at ds s d e)

-- ## All of it

function_offered : (ds : List Declaration) (f : Name) (g : Function) → function_of ds f ≡ Some g → type_of_func (context_of (lowered_all ds)) (function_index ds f) ≡ Some (arrow (val_types g.parameters) (I64 ∷ []))
function_offered ds f g e =
    let C = context_of (lowered_all ds) in
    ap (λ (x : Option ℕ). func_at C x) (function_at ds f g e)
    ∙ func_there (arrow (val_types g.parameters) (I64 ∷ [])) ds C refl (function_type_there ds f g e)

handler_offered : (ds : List Declaration) (h : Name) (i : Handler) → handler_of ds h ≡ Some i
    → type_of_func (context_of (lowered_all ds)) (handler_index ds h) ≡ Some (arrow (val_types i.parameters ++ to_continuation true computation_type ∷ []) (I64 ∷ []))
handler_offered ds h i e =
    let C = context_of (lowered_all ds) in
    ap (λ (x : Option ℕ). func_at C x) (handler_at ds h i e)
    ∙ func_there (arrow (val_types i.parameters ++ to_continuation true computation_type ∷ []) (I64 ∷ [])) ds C refl
    (handler_type_there ds h i (handler_type i.parameters) e (here (handler_type i.parameters) (clause_types i.clauses)))

clause_offered : (ds : List Declaration) (h : Name) (i : Handler) (n : ℕ) (c : Clause) → handler_of ds h ≡ Some i → slice_get i.clauses n ≡ Some c
    → func_of (context_of (lowered_all ds)) (clause_type_index ds (length c.arguments)) ≡ Some (arrow [] (numbers (length c.arguments) ++ to_continuation false resumption_type ∷ []))
clause_offered ds h i n c e at =
    func_there (arrow [] (numbers (length c.arguments) ++ to_continuation false resumption_type ∷ [])) ds (context_of (lowered_all ds)) refl
    (handler_type_there ds h i (clause_type (length c.arguments)) e
    (behind (clause_type (length c.arguments)) (handler_type i.parameters) (clause_types i.clauses) (clause_among i.clauses n c at)))

-- the parameters of a function, by its name
pub parameters_are : (ds : List Declaration) (f : Name) (g : Function) → function_of ds f ≡ Some g → parameters_of ds f ≡ g.parameters
parameters_are ds f g e = ap parameters_in (found_function ds f g e).entry

handled_offers : (ds : List Declaration) (f : Name) (g : Function) → function_of ds f ≡ Some g → is_among (handled_names ds) f ≡ true → OffersHandled ds (context_of (lowered_all ds)) f g
handled_offers ds f g e i =
    let C = context_of (lowered_all ds) in
    let s = handled_stands ds f g e i in
    let t = function_type_there ds f g e in
    let ps = parameters_are ds f g e in
    let same = (in_table (function_type g.parameters) ds (in_function_types (function_type g.parameters) ds t)).0 in
    let there : IsThere (Cont (place (function_type (parameters_of ds f)) (function_types ds))) (type_table ds) =
    adds (continuation_of ds (parameters_of ds f)) (function_types ds) (continuations ds (handled ds)) (continuation_there ds (handled ds) f s) in
    let number : place (function_type (parameters_of ds f)) (function_types ds) ≡ function_type_index ds g.parameters =
    ap (λ (xs : List Parameter). place (function_type xs) (function_types ds)) ps ∙ sym same in
    let index : function_type_index ds (parameters_of ds f) ≡ function_type_index ds g.parameters = ap (function_type_index ds) ps in
    let within : function_index ds f < length (functions_of (lowered_all ds)) = slice_get_within (functions_of (lowered_all ds)) (function_index ds f) (function_type_index ds g.parameters) (function_at ds f g e) in
    record {
      index = function_type_index ds g.parameters;
      continuation = ap (λ (x : ℕ). type_of C (place (Cont x) (type_table ds))) index
          ∙ type_there (Cont (function_type_index ds g.parameters)) ds C refl (subst (λ (x : ℕ). IsThere (Cont x) (type_table ds)) number there);
      type = func_there (arrow (val_types g.parameters) (I64 ∷ [])) ds C refl t;
      function = function_at ds f g e;
      declared = handled_declared ds f within s;
    }

-- what a list of declarations offers
pub offers_all : (ds : List Declaration) → Offers ds (context_of (lowered_all ds))
offers_all ds =
    let C = context_of (lowered_all ds) in
    record {
      keeps = kinds_kept (type_table ds);
      resumption = first_type (Cont 0) ds C refl (omega arith);
      resumed = ap function_type_in (first_type (from_to (I64 ∷ []) (I64 ∷ [])) ds C refl (omega arith));
      computation = first_type (Cont 2) ds C refl (omega arith);
      computed = ap function_type_in (first_type (from_to [] (I64 ∷ [])) ds C refl (omega arith));
      coroutine = first_type (Cont 5) ds C refl (omega arith);
      switched = ap function_type_in (first_type (from_to (I64 ∷ to_continuation true coroutine_type ∷ []) (I64 ∷ [])) ds C refl (omega arith));
      group = group_offered ds;
      printer = ap function_type_in (first_type (from_to (I64 ∷ []) []) ds C refl (omega arith));
      function = function_offered ds;
      handler = handler_offered ds;
      effect = effect_at ds;
      slots = slots_offered ds;
      handled = handled_offers ds;
      grouped = grouped_offered ds;
      spawned = spawned_offered ds;
      clause = clause_offered ds;
    }

-- what is resumed takes a number
pub resumption_takes : (ds : List Declaration) → cont_of (context_of (lowered_all ds)) resumption_type ≡ Some (arrow (I64 ∷ []) (I64 ∷ []))
resumption_takes ds =
    let C = context_of (lowered_all ds) in let o = offers_all ds in
    ap (λ (t : Option CompType). func_at C (index_in_cont t)) o.resumption ∙ o.resumed

-- and what is switched to a number and a coroutine
pub coroutine_takes : (ds : List Declaration) → cont_of (context_of (lowered_all ds)) coroutine_type ≡ Some (arrow (I64 ∷ to_continuation true coroutine_type ∷ []) (I64 ∷ []))
coroutine_takes ds =
    let C = context_of (lowered_all ds) in let o = offers_all ds in
    ap (λ (t : Option CompType). func_at C (index_in_cont t)) o.coroutine ∙ o.switched

-- what the module of a script offers
pub module_offers : (p : Script) → Good p → Offers p.declarations (context_of (lowered p))
module_offers p good = offers_all p.declarations
