-- The functions of the first store: those of the host that imports name, and the module's own.
use Rattle.std.proofs.Common.{◌≡◌, ℕ, ◌&&◌, IsTrue, List, [], ◌∷◌, ◌++◌, length, map, flat_map, Option, Some, None, codes, bytes_eq, refl, subst}
use Rattle.w_types.specs.declared.types.FuncType.{FuncType}
use Rattle.w_types.specs.declared.types.ValType.{ValType}
use Rattle.w_types.specs.declared.types.ValType.TheVariants.{I32, I64}
use Rattle.w_syntax.specs.Functions.{func_type}
use Rattle.w_syntax.specs.declared.module.ExternType.{ExternType}
use Rattle.w_syntax.specs.declared.module.ExternType.TheVariants as imported
use Rattle.w_syntax.specs.declared.module.Import.{Import}
use Rattle.w_syntax.specs.declared.module.Module.{Module}
use Rattle.w_rules.specs.Spaces.{as_function, as_table, as_memory, as_global, as_tag}
use Rattle.w_tables.specs.declared.entries.FuncEntry.TheVariants as function
use Rattle.w_tables.specs.declared.entries.Printer.{Printer}
use Rattle.w_tables.specs.declared.entries.Printer.TheVariants as printer
use Rattle.w_reduce.specs.Imports.{is_i32, is_i64, are_none, are_taken_by, of_type, printer_named, printer_as, printer_of, Found, All, Missing, and_first, printers_of}
use Rattle.w_reduce.specs.Start.{own}
use Rattle.w_typed.specs.Stores.{Instances, no_instance, instances, printed_type, PrinterTyped, FunctionsTyped}
use Rattle.w_typed.proofs.OneWay.{both_hold, chosen}

-- ## One import

i32_alone : (ts : List ValType) → IsTrue (is_i32 ts) → ts ≡ I32 ∷ []
i32_alone (I32 ∷ []) h = refl
i32_alone _ h = absurd (cc)

i64_alone : (ts : List ValType) → IsTrue (is_i64 ts) → ts ≡ I64 ∷ []
i64_alone (I64 ∷ []) h = refl
i64_alone _ h = absurd (cc)

none_there : (ts : List ValType) → IsTrue (are_none ts) → ts ≡ []
none_there [] h = refl
none_there (t ∷ ts) h = absurd (cc)

printed_alone : (p : Printer) (ts : List ValType) → IsTrue (are_taken_by p ts) → ts ≡ printed_type p ∷ []
printed_alone printer.I32 ts h = i32_alone ts h
printed_alone printer.I64 ts h = i64_alone ts h
printed_alone printer.Byte ts h = i32_alone ts h

module _ (m : Module) where
  of_its_type : (x : ℕ) (o : Option Printer) (t : Option FuncType) (p : Printer) → func_type m x ≡ t → of_type o t ≡ Some p
      → PrinterTyped m p x
  of_its_type x None t p is h = absurd (cc)
  of_its_type x (Some q) None p is h = absurd (cc)
  of_its_type x (Some q) (Some t) p is h =
      let c = chosen (are_taken_by q t.params && are_none t.results) (Some q) p h in
      let both = both_hold (are_taken_by q t.params) (are_none t.results) c.0 in
      let same : q ≡ p = let e = c.1 in cc in
      record {
        type = t;
        has_type = is;
        params = subst (λ r. t.params ≡ printed_type r ∷ []) same (printed_alone q t.params both.0);
        results = none_there t.results both.1;
      }

  -- an import that names a function of the host's is a function
  pub record Names (e : ExternType) (p : Printer) : Type 0 where
    pub address : ℕ
    pub is : e ≡ imported.Func address
    pub typed : PrinterTyped m p address

  named : (name : List ℕ) (e : ExternType) (p : Printer) → printer_as m name e ≡ Some p → Names e p
  named name (imported.Func x) p h = record { address = x; is = refl; typed = of_its_type x (printer_named name) (func_type m x) p refl h }
  named name _ p h = absurd (cc)

  import_named : (i : Import) (p : Printer) → printer_of m i ≡ Some p → Names i.kind p
  import_named i p h = named i.item_name i.kind p (chosen (bytes_eq i.module_name (codes "host")) (printer_as m i.item_name i.kind) p h).1

  -- ## All imports

  -- each of these imports is a function of the host's
  pub record Imported (is : List Import) (ps : List Printer) : Type 0 where
    pub functions : Instances (PrinterTyped m) ps (flat_map (λ (i : Import). as_function i.kind) is)
    pub tables : flat_map (λ (i : Import). as_table i.kind) is ≡ []
    pub memories : flat_map (λ (i : Import). as_memory i.kind) is ≡ []
    pub globals : flat_map (λ (i : Import). as_global i.kind) is ≡ []
    pub tags : flat_map (λ (i : Import). as_tag i.kind) is ≡ []

  one_more : (i : Import) (is : List Import) (p : Printer) (ps : List Printer) → Names i.kind p → Imported is ps → Imported (i ∷ is) (p ∷ ps)
  one_more i is p ps n h = record {
    functions = rw (n.is) (instances n.typed h.functions);
    tables = rw (n.is) h.tables;
    memories = rw (n.is) h.memories;
    globals = rw (n.is) h.globals;
    tags = rw (n.is) h.tags;
  }

  first_and_rest : (i : Import) (is : List Import) (o : Option Printer) (f : Found) (ps : List Printer)
      → ((qs : List Printer) → f ≡ All qs → Imported is qs) → printer_of m i ≡ o → and_first o f ≡ All ps → Imported (i ∷ is) ps
  first_and_rest i is None f ps k a h = absurd (cc)
  first_and_rest i is (Some p) (Missing n) ps k a h = absurd (cc)
  first_and_rest i is (Some p) (All qs) ps k a h =
      let same : p ∷ qs ≡ ps = cc in
      subst (λ (rs : List Printer). Imported (i ∷ is) rs) same (one_more i is p qs (import_named i p a) (k qs refl))

  -- where no import is missing, each is a function of the host's
  pub all_imported : (is : List Import) (ps : List Printer) → printers_of m is ≡ All ps → Imported is ps
  all_imported [] ps h =
      let same : [] ≡ ps = cc in
      subst (λ (rs : List Printer). Imported [] rs) same (record { functions = no_instance; tables = refl; memories = refl; globals = refl; tags = refl })
  all_imported (i ∷ is) ps h = first_and_rest i is (printer_of m i) (printers_of m is) ps (all_imported is) refl h

  -- those of the host, and the module's own behind them
  pub functions_typed : (ps : List Printer) → Imported m.imports ps → FunctionsTyped m (map (λ (p : Printer). function.Printer p) ps ++ own (length m.functions))
  functions_typed ps h = record { host = ps; are = refl; typed = h.functions }
