-- The functions, handlers and slots of a script stand in the first store of a run, each at its index: functions with their types and code,
-- and slots with empty places.
use Rattle.std.proofs.Common.{◌≡◌, ℕ, zero, suc, ◌+◌, true, List, [], ◌∷◌, ◌++◌, map, length, Option, Some, refl, sym, ap, ◌∙◌, arith}
use Rattle.std.specs.Prelude.{slice_get}
use Rattle.std.proofs.lemmas.Option.{slice_get_within}
use Rattle.w_types.specs.declared.types.FuncType.{FuncType}
use Rattle.w_types.specs.declared.types.ValType.TheVariants.{I64}
use Rattle.w_syntax.specs.Functions.{type_at, type_of_function, code_of_function}
use Rattle.w_syntax.specs.declared.module.Func.{Func as Body}
use Rattle.w_syntax.specs.declared.module.Table.{Table as SyntaxTable}
use Rattle.w_tables.specs.declared.entries.FuncEntry.TheVariants.{Own}
use Rattle.w_rules.specs.Spaces.{context_of}
use Rattle.s_syntax.specs.declared.name.Name.{Name}
use Rattle.s_syntax.specs.declared.script.Function.{Function}
use Rattle.s_syntax.specs.declared.script.Handler.{Handler}
use Rattle.s_syntax.specs.declared.script.Slots.{Slots}
use Rattle.s_syntax.specs.declared.script.Definition.{Definition}
use Rattle.s_syntax.specs.declared.script.Definition.TheVariants as definition
use Rattle.s_syntax.specs.declared.script.Declaration.{Declaration}
use Rattle.s_check.specs.Definitions.{definition_of, function_of, handler_of, slots_of}
use Rattle.s_index.specs.declared.counts.Counts.{Counts}
use Rattle.s_index.specs.Indices.{function_type_index, handler_type_index}
use Rattle.s_index.specs.Numbers.{Entry, no_counts, counted, counts_of, with_entry, function_index, handler_index, table_index}
use Rattle.s_index.specs.Types.{handler_type, clause_types, val_types, to_continuation, computation_type}
use Rattle.s_code.specs.Lowered.{slots_table, function_code, handler_code, function_code_of, handler_code_of, for_each, lowered_all}
use Rattle.s_valid.specs.Offers.{arrow}
use Rattle.s_valid.specs.Beginning.{empty_table, first_store}
use Rattle.s_valid.proofs.MadeOnce.{here}
use Rattle.s_valid.proofs.NumbersInModules.{get_left, get_right, found, all_made}
use Rattle.s_valid.proofs.TypeTable.{is_function, is_handler, func_there}
use Rattle.s_valid.proofs.ModuleOffers.{function_types_of, handler_types_of, found_function, function_index_is, function_type_there, found_handler, handler_index_is, handlers_behind, handler_type_there, table_at}
use Rattle.s_valid.proofs.Starts.{own_behind}

-- what is invoked at an address: a function of the module, of this type and with this code
pub record Stored (ds : List Declaration) (a : ℕ) (t : FuncType) (b : Body) : Type 0 where
  pub place : ℕ
  -- the host's function is in front
  pub behind : a ≡ suc place
  pub entry : slice_get (first_store ds).functions a ≡ Some (Own place)
  pub type : type_of_function (lowered_all ds) place ≡ Some t
  pub code : code_of_function (lowered_all ds) place ≡ Some b

abbrev function_codes : List Declaration → Declaration → List Body
function_codes ds d = function_code_of ds d.definition

abbrev handler_codes : List Declaration → Declaration → List Body
handler_codes ds d = handler_code_of ds d.name d.definition

function_steps : (ds : List Declaration) (n : Counts) (d : Definition) → (counted n d).functions ≡ n.functions + length (function_code_of ds d)
function_steps ds n (definition.Effect k) = omega arith
function_steps ds n (definition.Function f) = omega arith
function_steps ds n (definition.Handler h) = omega arith
function_steps ds n (definition.Slots s) = omega arith

handler_steps : (ds : List Declaration) (x : Name) (n : Counts) (d : Definition) → (counted n d).handlers ≡ n.handlers + length (handler_code_of ds x d)
handler_steps ds x n (definition.Effect k) = omega arith
handler_steps ds x n (definition.Function f) = omega arith
handler_steps ds x n (definition.Handler h) = omega arith
handler_steps ds x n (definition.Slots s) = omega arith

-- the number of an entry
number_of : Option Entry → ℕ
number_of o = with_entry (λ (d : Definition) (n : ℕ). n) o

-- a function of the script
pub function_stored : (ds : List Declaration) (f : Name) (g : Function) → function_of ds f ≡ Some g
    → Stored ds (function_index ds f) (arrow (val_types g.parameters) (I64 ∷ [])) (function_code ds g)
unfolding number_of
function_stored ds f g e =
    let m = lowered_all ds in
    let q = found_function ds f g e in
    let c = found (function_codes ds) (λ (n : Counts). n.functions) (λ n d. function_steps ds n d.definition) no_counts ds f (definition.Function g) (function_code ds g)
    (is_function (definition_of ds f) g e) (λ x same n. ap (function_code_of ds) same) (λ n. refl) in
    let numbers : 0 + q.place ≡ 0 + c.place = ap number_of (sym q.entry ∙ c.entry) in
    let same : c.place ≡ q.place = omega (arith, numbers) in
    let at : slice_get m.functions q.place ≡ Some (function_type_index ds g.parameters) =
    get_left (for_each (function_types_of ds) ds) (for_each (handler_types_of ds) ds) q.place (function_type_index ds g.parameters) q.item in
    record {
      place = q.place;
      behind = function_index_is ds f g q;
      entry = ap (λ (i : ℕ). slice_get (first_store ds).functions i) (function_index_is ds f g q)
          ∙ own_behind ds q.place (slice_get_within m.functions q.place (function_type_index ds g.parameters) at);
      type = ap (λ (o : Option ℕ). type_at m o) at
          ∙ func_there (arrow (val_types g.parameters) (I64 ∷ [])) ds (context_of m) refl (function_type_there ds f g e);
      code = ap (λ (i : ℕ). slice_get m.codes i) (sym same)
          ∙ get_left (for_each (function_codes ds) ds) (for_each (handler_codes ds) ds) c.place (function_code ds g) c.item;
    }

-- a handler of the script
pub handler_stored : (ds : List Declaration) (h : Name) (i : Handler) → handler_of ds h ≡ Some i
    → Stored ds (handler_index ds h) (arrow (val_types i.parameters ++ to_continuation true computation_type ∷ []) (I64 ∷ [])) (handler_code ds h i)
unfolding number_of
handler_stored ds h i e =
    let m = lowered_all ds in
    let q = found_handler ds h i e in
    let c = found (handler_codes ds) (λ (n : Counts). n.handlers) (λ n d. handler_steps ds d.name n d.definition) no_counts ds h (definition.Handler i) (handler_code ds h i)
    (is_handler (definition_of ds h) i e) (λ d same n. ap (handler_code_of ds d.name) same ∙ ap (λ (x : Name). handler_code ds x i ∷ []) (sym n)) (λ n. refl) in
    let numbers : 0 + q.place ≡ 0 + c.place = ap number_of (sym q.entry ∙ c.entry) in
    let n = length (for_each (function_types_of ds) ds) in
    let before = handlers_behind ds in
    let coded : (counts_of ds).functions ≡ 0 + length (for_each (function_codes ds) ds) = all_made (function_codes ds) (λ (k : Counts). k.functions) (λ k d. function_steps ds k d.definition) no_counts ds in
    let behind : n + q.place ≡ length (for_each (function_codes ds) ds) + c.place = omega (arith, numbers, before, coded) in
    let at : slice_get m.functions (n + q.place) ≡ Some (handler_type_index ds i.parameters) =
    get_right (for_each (function_types_of ds) ds) (for_each (handler_types_of ds) ds) q.place (n + q.place) (handler_type_index ds i.parameters) refl q.item in
    record {
      place = n + q.place;
      behind = handler_index_is ds h i q;
      entry = ap (λ (k : ℕ). slice_get (first_store ds).functions k) (handler_index_is ds h i q)
          ∙ own_behind ds (n + q.place) (slice_get_within m.functions (n + q.place) (handler_type_index ds i.parameters) at);
      type = ap (λ (o : Option ℕ). type_at m o) at
          ∙ func_there (arrow (val_types i.parameters ++ to_continuation true computation_type ∷ []) (I64 ∷ [])) ds (context_of m) refl
          (handler_type_there ds h i (handler_type i.parameters) e (here (handler_type i.parameters) (clause_types i.clauses)));
      code = get_right (for_each (function_codes ds) ds) (for_each (handler_codes ds) ds) c.place (n + q.place) (handler_code ds h i) behind c.item;
    }

-- slots of the script
table_stored : (ts : List SyntaxTable) (x : ℕ) (t : SyntaxTable) → slice_get ts x ≡ Some t → slice_get (map empty_table ts) x ≡ Some (empty_table t)
table_stored [] x t e = absurd (cc)
table_stored (u ∷ ts) zero t e = let same : u ≡ t = cc in ap (λ (v : SyntaxTable). Some (empty_table v)) same
table_stored (u ∷ ts) (suc x) t e = table_stored ts x t e

pub slots_stored : (ds : List Declaration) (s : Name) (d : Slots) → slots_of ds s ≡ Some d → slice_get (first_store ds).tables (table_index ds s) ≡ Some (empty_table (slots_table d))
slots_stored ds s d e = table_stored (lowered_all ds).tables (table_index ds s) (slots_table d) (table_at ds s d e)
