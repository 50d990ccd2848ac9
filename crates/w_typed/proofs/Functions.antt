-- The functions of a typed store, by their declarations.
use Rattle.std.proofs.Common.{◌≡◌, ℕ, zero, suc, ◌≤◌, List, length, map, take, get_or, Some, slice_get, sym, subst, arith}
use Rattle.std.proofs.Math.Seq.{take-length, take-suc}
use Rattle.std.proofs.lemmas.Option.{slice_get-get_or}
use Rattle.w_syntax.specs.declared.module.Module.{Module}
use Rattle.w_rules.specs.Spaces.{functions_of}
use Rattle.w_tables.specs.declared.entries.FuncEntry.{FuncEntry}
use Rattle.w_tables.specs.declared.entries.FuncEntry.TheVariants as entry
use Rattle.w_tables.specs.declared.entries.Printer.{Printer}
use Rattle.w_reduce.specs.Start.{own as own_functions}
use Rattle.w_typed.specs.Stores.{Instances, no_instance, instances, PrinterTyped, FunctionsTyped}
use Rattle.w_typed.proofs.ManyInstances.{instances_beside}

-- a function is of the type of this index: one of the module's own, or one of the host's
pub data EntryTyped (m : Module) : FuncEntry → ℕ → Type 0 where
  own : {i x : ℕ} → slice_get m.functions i ≡ Some x → EntryTyped m (entry.Own i) x
  host : {p : Printer} {x : ℕ} → PrinterTyped m p x → EntryTyped m (entry.Printer p) x

module _ (m : Module) where
  hosts_typed : {ps : List Printer} {xs : List ℕ} → Instances (PrinterTyped m) ps xs → Instances (EntryTyped m) (map (λ (p : Printer). entry.Printer p) ps) xs
  hosts_typed no_instance = no_instance
  hosts_typed (instances h k) = instances (host h) (hosts_typed k)

  own_first : (n : ℕ) → n ≤ length m.functions → Instances (EntryTyped m) (own_functions n) (take n m.functions)
  own_first zero h = no_instance
  own_first (suc n) h =
      let last : EntryTyped m (entry.Own n) (get_or m.functions n 0) = own (slice_get-get_or m.functions n 0 h) in
      rw (take-suc m.functions n 0 h) (instances_beside (own_first n (omega arith)) (instances last no_instance))

  -- the function at an address is of the type that the module's function of this index has
  pub entries_typed : {functions : List FuncEntry} → FunctionsTyped m functions → Instances (EntryTyped m) functions (functions_of m)
  entries_typed f =
      let all = rw (take-length m.functions) at (own_first (length m.functions) (omega arith)) in
      subst (λ (l : List FuncEntry). Instances (EntryTyped m) l (functions_of m)) (sym f.are) (instances_beside (hosts_typed f.typed) all)
