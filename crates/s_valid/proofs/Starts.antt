-- A run of the module of a script begins: it invokes main in a store with the printer in front of the script's functions and handlers.
use Rattle.std.proofs.Common.{◌≡◌, ◌⊎◌, inl, inr, ℕ, zero, suc, ◌<◌, Bool, true, ◌&&◌, if◌then◌else◌, List, [], ◌∷◌, ◌++◌, map, length, codes, Option, Some, None, refl, sym, ap, ◌∙◌, arith, length-append}
use Rattle.std.specs.Prelude.{slice_get}
use Rattle.std.proofs.lemmas.Bool.{le-leb}
use Rattle.w_types.specs.declared.types.FuncType.{FuncType}
use Rattle.w_types.specs.declared.types.ValType.TheVariants.{I64}
use Rattle.w_syntax.specs.Functions.{func_type, function_type as function_type_in, type_at}
use Rattle.w_syntax.specs.declared.module.Elem.{Elem}
use Rattle.w_syntax.specs.declared.module.Module.{Module}
use Rattle.w_syntax.specs.declared.module.Table.{Table as SyntaxTable}
use Rattle.w_tables.specs.Elements.{table_limit}
use Rattle.w_tables.specs.declared.entries.FuncEntry.TheVariants as entry_of
use Rattle.w_tables.specs.declared.entries.Printer.TheVariants as printer
use Rattle.w_rules.specs.Spaces.{context_of}
use Rattle.w_reduce.specs.Constants.{value_of}
use Rattle.w_reduce.specs.declared.limit.StartLimit.{StartLimit}
use Rattle.w_reduce.specs.declared.limit.StartLimit.TheVariants as limit
use Rattle.w_reduce.specs.Store.{Store, Table, made, live}
use Rattle.w_reduce.specs.Program.{Program}
use Rattle.w_reduce.specs.Imports.{Found, All, of_type, printers_of, and_first}
use Rattle.w_reduce.specs.Start.{Ready, Start, own, entry, entry_at, none_above, exceeded, bare, table_of as table_in, with_tables, in_order, element_started, with_imports, with_entry, within_limits, with_elements_in}
use Rattle.s_syntax.specs.declared.script.Parameter.{Parameter}
use Rattle.s_syntax.specs.declared.script.Function.{Function}
use Rattle.s_syntax.specs.declared.script.Definition.{Definition}
use Rattle.s_syntax.specs.declared.script.Definition.TheVariants as definition
use Rattle.s_syntax.specs.declared.script.Declaration.{Declaration}
use Rattle.s_syntax.specs.declared.script.Script.{Script}
use Rattle.s_check.specs.Definitions.{function_of}
use Rattle.s_check.specs.Refusal.{Good}
use Rattle.s_index.specs.Handled.{handled}
use Rattle.s_index.specs.Indices.{function_type_index}
use Rattle.s_index.specs.Numbers.{function_index}
use Rattle.s_index.specs.Types.{from_to, val_types}
use Rattle.s_code.specs.Lowered.{slots_table, table_of, for_each, declared, lowered_all, lowered}
use Rattle.s_meaning.proofs.Good.{good_typed}
use Rattle.s_valid.specs.Offers.{arrow}
use Rattle.s_valid.specs.Beginning.{segments_left, empty_table, store_with, first_store, first_term}
use Rattle.s_valid.proofs.Declarations.{IsSmall, small}
use Rattle.s_valid.proofs.NumbersInModules.{get_left, get_right}
use Rattle.s_valid.proofs.TypeTable.{func_there, first_type}
use Rattle.s_valid.proofs.ModuleOffers.{tables_for, function_at, function_type_there}

-- ## Instantiation

-- the printer is found
printer_found : (ds : List Declaration) → printers_of (lowered_all ds) (lowered_all ds).imports ≡ All (printer.I64 ∷ [])
printer_found ds =
    let t : func_type (lowered_all ds) 4 ≡ Some (arrow (I64 ∷ []) []) = ap function_type_in (first_type (from_to (I64 ∷ []) []) ds (context_of (lowered_all ds)) refl (omega arith)) in
    ap (λ (o : Option FuncType). and_first (of_type (Some printer.I64) o) (All [])) t

-- main is found
main_found : (ds : List Declaration) (g : Function) → function_of ds (codes "main") ≡ Some g → g.parameters ≡ [] → entry (lowered_all ds) ≡ Some (function_index ds (codes "main"))
main_found ds g e none =
    let i = function_index ds (codes "main") in
    let typed : func_type (lowered_all ds) (function_type_index ds g.parameters) ≡ Some (arrow (val_types g.parameters) (I64 ∷ [])) =
    func_there (arrow (val_types g.parameters) (I64 ∷ [])) ds (context_of (lowered_all ds)) refl (function_type_there ds (codes "main") g e) in
    ap (λ (o : Option ℕ). entry_at i (type_at (lowered_all ds) o)) (function_at ds (codes "main") g e)
    ∙ ap (λ (o : Option FuncType). entry_at i o) typed
    ∙ ap (λ (ps : List Parameter). entry_at i (Some (arrow (val_types ps) (I64 ∷ [])))) none

abbrev program : List Declaration → (ℕ → ℕ → Bool) → Program
program ds matches = record { source = lowered_all ds; matches = matches }

-- the segment is dropped, where there is one
segments_started : (ds : List Declaration) (p : Program) (s : Store) (hs : List Declaration)
    → in_order (λ s y (e : Elem). element_started p s y e.mode) (Some (store_with ds (map (λ (e : Elem). map (value_of p s) e.items) (declared ds hs)))) 0 (declared ds hs)
    ≡ Some (store_with ds (segments_left hs))
segments_started ds p s [] = refl
segments_started ds p s (h ∷ hs) = refl

-- the tables are of slots, each of which begins empty
tables_filled : (p : Program) (s : Store) (es : List Declaration) → map (table_in p s) (for_each tables_for es) ≡ map empty_table (for_each tables_for es)
tables_filled p s [] = refl
tables_filled p s (e ∷ es) = by e.definition (tables_filled p s es)
  where
    by : (d : Definition) → map (table_in p s) (for_each tables_for es) ≡ map empty_table (for_each tables_for es)
        → map (table_in p s) (table_of d ++ for_each tables_for es) ≡ map empty_table (table_of d ++ for_each tables_for es)
    by (definition.Effect k) rest = rest
    by (definition.Function f) rest = rest
    by (definition.Handler h) rest = rest
    by (definition.Slots d) rest = ap (λ (ts : List Table). empty_table (slots_table d) ∷ ts) rest

-- and none is too large
tables_small : (es : List Declaration) → ((k : ℕ) (e : Declaration) → slice_get es k ≡ Some e → IsSmall e.definition)
    → none_above table_limit (map (λ (t : SyntaxTable). t.kind.limits.min) (for_each tables_for es)) ≡ true
tables_small [] few = refl
tables_small (e ∷ es) few = by e.definition (few 0 e refl) (tables_small es (λ k d at. few (suc k) d at))
  where
    by : (d : Definition) → IsSmall d → none_above table_limit (map (λ (t : SyntaxTable). t.kind.limits.min) (for_each tables_for es)) ≡ true
        → none_above table_limit (map (λ (t : SyntaxTable). t.kind.limits.min) (table_of d ++ for_each tables_for es)) ≡ true
    by (definition.Effect k) few rest = rest
    by (definition.Function f) few rest = rest
    by (definition.Handler h) few rest = rest
    by (definition.Slots d) few rest =
        ap (λ (b : Bool). b && none_above table_limit (map (λ (t : SyntaxTable). t.kind.limits.min) (for_each tables_for es))) (le-leb d.places.value table_limit (omega (arith, few))) ∙ rest

none_exceeded : (p : Script) → Good p → exceeded (lowered p) ≡ None
none_exceeded p good = ap (λ (b : Bool). if b then None else Some limit.Table) (tables_small p.declarations (small p good))

started : (script : Script) → Good script → (matches : ℕ → ℕ → Bool) (g : Function) → function_of script.declarations (codes "main") ≡ Some g → g.parameters ≡ []
    → Start (program script.declarations matches) ≡ Ready (first_store script.declarations) (first_term script.declarations)
started script good matches g e none =
    let ds = script.declarations in
    let p = program ds matches in
    let main = function_index ds (codes "main") in
    let raw = with_tables p (bare (lowered_all ds) (printer.I64 ∷ [])) in
    let segments = map (λ (e : Elem). map (value_of p raw) e.items) (lowered_all ds).elements in
    ap (λ (f : Found). with_imports p f) (printer_found ds)
    ∙ ap (λ (o : Option ℕ). with_entry p (printer.I64 ∷ []) o) (main_found ds g e none)
    ∙ ap (λ (o : Option StartLimit). within_limits p (printer.I64 ∷ []) main o) (none_exceeded script good)
    ∙ ap (λ (ts : List Table). with_elements_in p main (in_order (λ s y (e : Elem). element_started p s y e.mode) (Some (record (store_with ds segments) { tables = ts })) 0 (lowered_all ds).elements))
    (tables_filled p (bare (lowered_all ds) (printer.I64 ∷ [])) ds)
    ∙ ap (λ (o : Option Store). with_elements_in p main o) (segments_started ds p raw (handled ds))

-- a run of the module begins
pub starts : (p : Script) → Good p → (P : Program) → P.source ≡ lowered p → Start P ≡ Ready (first_store p.declarations) (first_term p.declarations)
starts p good P is =
    let g = (good_typed p good).entry in
    ap (λ (m : Module). Start (record { source = m; matches = P.matches })) is
    ∙ started p good P.matches g.0 g.1 g.2

-- no continuation is made at first
pub none_made : (ds : List Declaration) → (made (first_store ds) ≡ 0) × (live (first_store ds) ≡ 0)
none_made ds = (refl, refl)

-- ## The functions of the first store

own_length : (n : ℕ) → length (own n) ≡ n
own_length zero = refl
own_length (suc n) = let q = own_length n in let l = length-append (own n) (entry_of.Own n ∷ []) in omega (arith, q, l)

-- a number below the next one is below this one, or is it
below_or_same : (n k : ℕ) → k < suc n → (k < n) ⊎ (k ≡ n)
below_or_same zero zero h = inr refl
below_or_same zero (suc k) h = absurd (omega (arith, h))
below_or_same (suc n) zero h = inl (omega arith)
below_or_same (suc n) (suc k) h = elim (below_or_same n k (omega (arith, h))) [ inl l ↦ inl (omega (arith, l)) | inr e ↦ inr (ap (λ (i : ℕ). suc i) e) ]

own_at : (n k : ℕ) → k < n → slice_get (own n) k ≡ Some (entry_of.Own k)
own_at zero k h = absurd (omega (arith, h))
own_at (suc n) k h = elim (below_or_same n k h) [
  | inl l ↦ get_left (own n) (entry_of.Own n ∷ []) k (entry_of.Own k) (own_at n k l)
  | inr e ↦
      let q = own_length n in
      get_right (own n) (entry_of.Own n ∷ []) 0 k (entry_of.Own k) (omega (arith, e, q)) (ap (λ (i : ℕ). Some (entry_of.Own i)) (sym e))
]

-- the printer is the first one
pub printer_first : (ds : List Declaration) → slice_get (first_store ds).functions 0 ≡ Some (entry_of.Printer printer.I64)
printer_first ds = refl

-- the module's functions stand behind it
pub own_behind : (ds : List Declaration) (k : ℕ) → k < length (lowered_all ds).functions → slice_get (first_store ds).functions (suc k) ≡ Some (entry_of.Own k)
own_behind ds k h = own_at (length (lowered_all ds).functions) k h
