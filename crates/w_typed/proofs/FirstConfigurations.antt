-- Where a run of a sound module begins, the configuration is typed.
use Rattle.std.proofs.Common.{◌≡◌, ℕ, Bool, true, false, IsTrue, if◌then◌else◌, nat_eq, eqb-true, List, [], ◌∷◌, ◌++◌, length, Option, Some, None, slice_get, codes, bytes_eq, refl, ap, sym, subst, subst₂, ◌∙◌, All, arith}
use Rattle.std.proofs.lemmas.List.Elements.{All-head, All-tail, All-nil, All-cons}
use Rattle.w_types.specs.declared.types.FuncType.{FuncType}
use Rattle.w_types.specs.declared.types.ValType.{ValType}
use Rattle.lists.specs.Rows.{Row, ε, ◌⧺◌, row_of}
use Rattle.lists.proofs.Rows.{unit_left}
use Rattle.w_syntax.specs.Code.{Done}
use Rattle.w_syntax.specs.Functions.{type_at}
use Rattle.w_syntax.specs.declared.module.Data as syntax_data
use Rattle.w_syntax.specs.declared.module.Elem.{Elem}
use Rattle.w_syntax.specs.declared.module.Export.{Export}
use Rattle.w_syntax.specs.declared.module.ExternIndex.{ExternIndex}
use Rattle.w_syntax.specs.declared.module.ExternIndex.TheVariants as extern
use Rattle.w_syntax.specs.declared.module.Module.{Module}
use Rattle.w_rules.specs.Context.{type_of_func}
use Rattle.w_rules.specs.Matching.{RowMatches, known}
use Rattle.w_rules.specs.Operands.{Operand}
use Rattle.w_rules.specs.Sound.{Sound}
use Rattle.w_rules.specs.Spaces.{context_of, functions_of}
use Rattle.w_rules.specs.Valid.{StartItem, StartValid}
use Rattle.w_rules.proofs.Preorder.{row_refl}
use Rattle.w_tables.specs.declared.entries.Printer.{Printer}
use Rattle.w_reduce.specs.declared.limit.StartLimit.{StartLimit}
use Rattle.w_reduce.specs.Store.{Store}
use Rattle.w_reduce.specs.Terms.{Administrative, Invoke, Term}
use Rattle.w_reduce.specs.Program.{Program, IsProgram}
use Rattle.w_reduce.specs.Imports.{Found, All as all_hosts, Missing, printers_of}
use Rattle.w_reduce.specs.Start.{Ready, are_integers, is_entry_type, entry_at, entry_of, entry_in, entry, exceeded, allocated, element_started, data_started, in_order, invokes, first_term, starts_of, start_term, with_datas, with_elements_in, within_limits, with_entry, with_imports, Start}
use Rattle.w_typed.specs.Values.{no_values}
use Rattle.w_typed.specs.Stores.{StoreTyped}
use Rattle.w_typed.specs.Contexts.{TermTyped, closed, RestTyped, code_alone, invoke_first, outside}
use Rattle.w_typed.specs.Configurations.{Typed, StartsTyped}
use Rattle.w_typed.proofs.OneWay.{both_hold, chosen}
use Rattle.w_typed.proofs.Holes.{subset_refl}
use Rattle.w_typed.proofs.HostFunctions.{all_imported}
use Rattle.w_typed.proofs.FirstStore.{allocated_typed}
use Rattle.w_typed.proofs.ActiveSegments.{elements_typed, datas_typed}

-- ## main

-- a function that takes no operands
pub record EntryAt (m : Module) (main : ℕ) : Type 0 where
  pub type : FuncType
  pub has_type : type_of_func (context_of m) main ≡ Some type
  pub no_params : type.params ≡ []

-- a function that takes no operands and gives none: it may run before main
pub record StartAt (m : Module) (a : ℕ) : Type 0 where
  pub type : FuncType
  pub has_type : type_of_func (context_of m) a ≡ Some type
  pub no_params : type.params ≡ []
  pub no_results : type.results ≡ []

none_long : {A : Type 0} (xs : List A) → IsTrue (nat_eq (length xs) 0) → xs ≡ []
none_long [] h = refl
none_long (x ∷ xs) h = absurd (omega (arith, eqb-true (length (x ∷ xs)) 0 h))

module _ (m : Module) where
  -- the type of a function by its index
  typed_as : (x : ℕ) (i : Option ℕ) (t : FuncType) → slice_get (functions_of m) x ≡ i → type_at m i ≡ Some t → type_of_func (context_of m) x ≡ Some t
  typed_as x None t is h = absurd (cc)
  typed_as x (Some i) t is h = rw is h

  entry_typed : (x main : ℕ) (o : Option FuncType) → type_at m (slice_get (functions_of m) x) ≡ o → entry_at x o ≡ Some main → EntryAt m main
  entry_typed x main None is h = absurd (cc)
  entry_typed x main (Some t) is h =
      let c = chosen (is_entry_type t) (Some x) main h in
      let same : x ≡ main = let a = c.1 in cc in
      subst (EntryAt m) same (record {
        type = t;
        has_type = typed_as x (slice_get (functions_of m) x) t refl is;
        no_params = none_long t.params (both_hold (nat_eq (length t.params) 0) (are_integers t.results) c.0).0;
      })

  exported_typed : (e : ExternIndex) (main : ℕ) → entry_of m e ≡ Some main → EntryAt m main
  exported_typed (extern.Func x) main h = entry_typed x main (type_at m (slice_get (functions_of m) x)) refl h
  exported_typed _ main h = absurd (cc)

  export_typed : (e : Export) (es : List Export) (main : ℕ) (b : Bool) → (entry_in m es ≡ Some main → EntryAt m main)
      → (if b then entry_of m e.index else entry_in m es) ≡ Some main → EntryAt m main
  export_typed e es main true k h = exported_typed e.index main h
  export_typed e es main false k h = k h

  -- what is exported as main is such a function
  pub entry_in_typed : (es : List Export) (main : ℕ) → entry_in m es ≡ Some main → EntryAt m main
  entry_in_typed [] main h = absurd (cc)
  entry_in_typed (e ∷ es) main h = export_typed e es main (bytes_eq e.name (codes "main")) (entry_in_typed es main) h

  -- ## The first term

  -- an invoke without params or results may stand in front
  pub invoke_typed : (a : ℕ) (t : FuncType) (ahead : List Administrative) (out us : Row Operand) → type_of_func (context_of m) a ≡ Some t → t.params ≡ []
      → known (row_of t.results) ≡ out → RestTyped m closed [] ahead Done out us → RestTyped m closed [] (Invoke a ∷ ahead) Done ε us
  invoke_typed a t ahead out us is e f h =
      let none : RowMatches m.types ε (ε ⧺ known (row_of t.params)) = rw e (row_refl m.types ε) in
      let given : out ≡ ε ⧺ known (row_of t.results) = sym f ∙ sym (unit_left (known (row_of t.results))) in
      invoke_first ε is none (subst (λ r. RestTyped m closed [] ahead Done r us) given h)

  -- main is invoked last
  pub main_typed : (main : ℕ) (f : EntryAt m main) → RestTyped m closed [] (Invoke main ∷ []) Done ε (known (row_of f.type.results))
  main_typed main f =
      invoke_typed main f.type [] (known (row_of f.type.results)) (known (row_of f.type.results)) f.has_type f.no_params refl
      (code_alone (record { derives = row_refl m.types (known (row_of f.type.results)); none = λ e. refl; fits = λ n. tt; low = λ n. absurd (n refl) }))

  -- functions that take and give nothing may run before main
  rest_typed : (starts : List ℕ) → All (StartAt m) starts → (main : ℕ) (f : EntryAt m main)
      → RestTyped m closed [] (invokes starts ++ Invoke main ∷ []) Done ε (known (row_of f.type.results))
  rest_typed [] h main f = main_typed main f
  rest_typed (a ∷ starts) h main f =
      let s : StartAt m a = All-head (StartAt m) a starts h in
      let none : known (row_of s.type.results) ≡ ε = ap (λ (l : List ValType). known (row_of l)) s.no_results in
      invoke_typed a s.type (invokes starts ++ Invoke main ∷ []) ε (known (row_of f.type.results)) s.has_type s.no_params none
      (rest_typed starts (All-tail (StartAt m) a starts h) main f)

  -- with such functions before main, the first term is of main's results
  pub first_term_typed : (starts : List ℕ) → All (StartAt m) starts → (main : ℕ) (f : EntryAt m main)
      → TermTyped m [] (known (row_of f.type.results)) (first_term starts main)
  first_term_typed starts h main f = record {
    scope = closed;
    set = [];
    now = [];
    still = subset_refl [];
    before = ε;
    after = known (row_of f.type.results);
    operands = no_values;
    rest = rest_typed starts h main f;
    around = outside (row_refl m.types (known (row_of f.type.results)));
  }

  -- the start function of a sound module is such a function
  start_there : Sound m → (o : Option ℕ) → m.start ≡ o → All (StartAt m) (starts_of o)
  start_there valid None is = All-nil (StartAt m)
  start_there valid (Some a) is =
      let v : StartValid m = valid.items StartItem refl (rw is refl) in
      let same : v.function ≡ a = let b = v.is in cc in
      let start : StartAt m v.function = record { type = v.type; has_type = v.has_type; no_params = v.no_params; no_results = v.no_results } in
      All-cons (StartAt m) a [] (subst (StartAt m) same start) (All-nil (StartAt m))

  -- so the first term of a sound module is typed
  start_term_typed : Sound m → (main : ℕ) (f : EntryAt m main) → TermTyped m [] (known (row_of f.type.results)) (start_term m main)
  start_term_typed valid main f = first_term_typed (starts_of m.start) (start_there valid m.start refl) main f

-- ## The start

module _ (p : Program) (valid : Sound p.source) (s : Store) (t : Term) where
  after_datas : (main : ℕ) (f : EntryAt p.source main) (o : Option Store) → ((r : Store) → o ≡ Some r → StoreTyped p.source [] r)
      → with_datas p main o ≡ Ready s t → StartsTyped p.source s t
  after_datas main f None k h = absurd (cc)
  after_datas main f (Some r) k h =
      let us : Row Operand = known (row_of f.type.results) in
      let first : Typed p.source [] us r (start_term p.source main) = record { store = k r refl; term = start_term_typed p.source valid main f } in
      let same_store : r ≡ s = cc in
      let same_term : start_term p.source main ≡ t = cc in
      record {
        main = main;
        type = f.type;
        has_type = f.has_type;
        no_params = f.no_params;
        begins = sym same_term;
        typed = subst₂ (λ (q : Store) (u : Term). Typed p.source [] us q u) same_store same_term first;
      }

  after_elements : (main : ℕ) (f : EntryAt p.source main) (o : Option Store) → ((r : Store) → o ≡ Some r → StoreTyped p.source [] r)
      → with_elements_in p main o ≡ Ready s t → StartsTyped p.source s t
  after_elements main f None k h = absurd (cc)
  after_elements main f (Some r) k h =
      after_datas main f (in_order (λ s y (d : syntax_data.Data). data_started p s y d.mode) (Some r) 0 p.source.datas)
      (λ q is. datas_typed p r q (k r refl) is) h

  inside_limits : (ps : List Printer) (main : ℕ) (f : EntryAt p.source main) (o : Option StartLimit) → exceeded p.source ≡ o
      → (exceeded p.source ≡ None → StoreTyped p.source [] (allocated p ps)) → within_limits p ps main o ≡ Ready s t → StartsTyped p.source s t
  inside_limits ps main f (Some l) is u h = absurd (cc)
  inside_limits ps main f None none u h =
      after_elements main f (in_order (λ s y (e : Elem). element_started p s y e.mode) (Some (allocated p ps)) 0 p.source.elements)
      (λ r is. elements_typed p valid (allocated p ps) r (u none) is) h

  having_entry : (ps : List Printer) (o : Option ℕ) → entry p.source ≡ o → (exceeded p.source ≡ None → StoreTyped p.source [] (allocated p ps)) → with_entry p ps o ≡ Ready s t
      → StartsTyped p.source s t
  having_entry ps None is u h = absurd (cc)
  having_entry ps (Some main) is u h = inside_limits ps main (entry_in_typed p.source p.source.exports main is) (exceeded p.source) refl u h

  having_imports : (f : Found) → printers_of p.source p.source.imports ≡ f → with_imports p f ≡ Ready s t → StartsTyped p.source s t
  having_imports (Missing i) is h = absurd (cc)
  having_imports (all_hosts ps) is h =
      having_entry ps (entry p.source) refl (allocated_typed p valid ps (all_imported p.source p.source.imports ps is)) h

-- where a run of a sound module begins, the configuration is typed
pub starts_typed : (p : Program) (s : Store) (t : Term) → IsProgram p → Sound p.source → Start p ≡ Ready s t → StartsTyped p.source s t
starts_typed p s t is_program valid h = having_imports p valid s t (printers_of p.source p.source.imports) refl h
