-- What a run begins with, case by case.
use Rattle.std.proofs.Common.{◌≡◌, ℕ, List, sym, ap, ◌∙◌}
use Rattle.std.specs.Prelude.{Option, Some, None}
use Rattle.w_syntax.specs.declared.module.Data.{Data}
use Rattle.w_syntax.specs.declared.module.Elem.{Elem}
use Rattle.w_syntax.specs.declared.module.Module.{Module}
use Rattle.w_tables.specs.declared.entries.Printer.{Printer}
use Rattle.w_reduce.specs.declared.limit.StartLimit.{StartLimit}
use Rattle.w_reduce.specs.declared.trap.Trap.TheVariants as trap
use Rattle.w_reduce.specs.Store.{Store}
use Rattle.w_reduce.specs.Program.{Program}
use Rattle.w_reduce.specs.Imports.{Found, All, Missing, printers_of}
use Rattle.w_reduce.specs.Start.{Start, Ready, NoPrinter, NoEntry, Exceeds, StartTraps, start_term, entry, exceeded, allocated, in_order, element_started, data_started, with_imports, with_entry, within_limits, with_elements_in, with_datas}

-- the program's module, as it is at hand
module _ (p : Program) (m : Module) (e : p.source ≡ m) where
  -- imports come first
  imports_found : (found : Found) → printers_of m m.imports ≡ found → Start p ≡ with_imports p found
  imports_found found h = ap (with_imports p) (ap (λ (x : Module). printers_of x x.imports) e ∙ h)

  -- an import names no function of the host
  pub begins_without_import : (i : ℕ) → printers_of m m.imports ≡ Missing i → Start p ≡ NoPrinter i
  begins_without_import i h = imports_found (Missing i) h

  -- the entry comes next
  entry_found : (ps : List Printer) (o : Option ℕ) → printers_of m m.imports ≡ All ps → entry m ≡ o → Start p ≡ with_entry p ps o
  entry_found ps o h k = imports_found (All ps) h ∙ ap (with_entry p ps) (ap entry e ∙ k)

  -- there is no main
  pub begins_without_entry : (ps : List Printer) → printers_of m m.imports ≡ All ps → entry m ≡ None → Start p ≡ NoEntry
  begins_without_entry ps h k = entry_found ps None h k

  -- then the limits
  limit_found : (ps : List Printer) (main : ℕ) (l : Option StartLimit) → printers_of m m.imports ≡ All ps → entry m ≡ Some main → exceeded m ≡ l → Start p ≡ within_limits p ps main l
  limit_found ps main l h k x = entry_found ps (Some main) h k ∙ ap (within_limits p ps main) (ap exceeded e ∙ x)

  -- a limit is passed
  pub begins_too_large : (ps : List Printer) (main : ℕ) (l : StartLimit) → printers_of m m.imports ≡ All ps → entry m ≡ Some main → exceeded m ≡ Some l → Start p ≡ Exceeds l
  begins_too_large ps main l h k x = limit_found ps main (Some l) h k x

  -- element segments of the module, from this store on
  abbrev after_elements : Store → Option Store
  after_elements s = in_order (λ t y (x : Elem). element_started p t y x.mode) (Some s) 0 m.elements

  -- the same of data segments
  abbrev after_datas : Store → Option Store
  after_datas s = in_order (λ t y (x : Data). data_started p t y x.mode) (Some s) 0 m.datas

  -- then element segments
  elements_started : (ps : List Printer) (main : ℕ) (s : Store) (o : Option Store) → printers_of m m.imports ≡ All ps → entry m ≡ Some main → exceeded m ≡ None → s ≡ allocated p ps
      → after_elements s ≡ o → Start p ≡ with_elements_in p main o
  elements_started ps main s o h k x a f =
      limit_found ps main None h k x
      ∙ ap (λ (t : Store). with_elements_in p main (in_order (λ t y (d : Elem). element_started p t y d.mode) (Some t) 0 p.source.elements)) (sym a)
      ∙ ap (λ (q : Module). with_elements_in p main (in_order (λ t y (d : Elem). element_started p t y d.mode) (Some s) 0 q.elements)) e
      ∙ ap (with_elements_in p main) f

  -- one passes the end of its table
  pub begins_past_table : (ps : List Printer) (main : ℕ) (s : Store) → printers_of m m.imports ≡ All ps → entry m ≡ Some main → exceeded m ≡ None → s ≡ allocated p ps
      → after_elements s ≡ None → Start p ≡ StartTraps trap.TableOutOfBounds
  begins_past_table ps main s h k x a f = elements_started ps main s None h k x a f

  -- then data segments
  datas_started : (ps : List Printer) (main : ℕ) (s t : Store) (o : Option Store) → printers_of m m.imports ≡ All ps → entry m ≡ Some main → exceeded m ≡ None → s ≡ allocated p ps
      → after_elements s ≡ Some t → after_datas t ≡ o → Start p ≡ with_datas p main o
  datas_started ps main s t o h k x a f g =
      elements_started ps main s (Some t) h k x a f
      ∙ ap (λ (q : Module). with_datas p main (in_order (λ u y (d : Data). data_started p u y d.mode) (Some t) 0 q.datas)) e
      ∙ ap (with_datas p main) g

  -- one passes the end of its memory
  pub begins_past_memory : (ps : List Printer) (main : ℕ) (s t : Store) → printers_of m m.imports ≡ All ps → entry m ≡ Some main → exceeded m ≡ None → s ≡ allocated p ps
      → after_elements s ≡ Some t → after_datas t ≡ None → Start p ≡ StartTraps trap.MemoryOutOfBounds
  begins_past_memory ps main s t h k x a f g = datas_started ps main s t None h k x a f g

  -- no segment passes an end
  pub begins_ready : (ps : List Printer) (main : ℕ) (s t u : Store) → printers_of m m.imports ≡ All ps → entry m ≡ Some main → exceeded m ≡ None → s ≡ allocated p ps
      → after_elements s ≡ Some t → after_datas t ≡ Some u → Start p ≡ Ready u (start_term p.source main)
  begins_ready ps main s t u h k x a f g = datas_started ps main s t (Some u) h k x a f g
