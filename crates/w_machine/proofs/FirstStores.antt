-- What a start that is ready tells: the store is the first one, and the term invokes the start function and then main. A run begins so.
use Rattle.std.proofs.Common.{◌≡◌, ℕ, List, Option, Some, None, refl, sym, ap, ◌∙◌}
use Rattle.w_syntax.specs.declared.module.Data.{Data}
use Rattle.w_syntax.specs.declared.module.Elem.{Elem}
use Rattle.w_syntax.specs.declared.module.Module.{Module}
use Rattle.w_tables.specs.Store as instances
use Rattle.w_tables.specs.declared.entries.Printer.{Printer}
use Rattle.w_reduce.specs.declared.limit.StartLimit.{StartLimit}
use Rattle.w_reduce.specs.Imports.{Found, All as all_hosts, Missing, printers_of}
use Rattle.w_reduce.specs.Store.{Store}
use Rattle.w_reduce.specs.Terms.{Term}
use Rattle.w_reduce.specs.Program.{Program, IsProgram}
use Rattle.w_reduce.specs.Start.{Ready, entry, exceeded, allocated, element_started, data_started, in_order, start_term, with_datas, with_elements_in, within_limits, with_entry, with_imports, Start}
use Rattle.w_stands.specs.Values.{store_of}
use Rattle.w_machine.specs.Beginning.{origin_of, first_store, IsFirstStore, Begins, BeginsWith}

-- what a start that is ready tells
pub record StartsAt (p : Program) (s : Store) (t : Term) : Type 0 where
  pub store : IsFirstStore p s
  pub main : ℕ
  pub has_entry : entry p.source ≡ Some main
  pub term : t ≡ start_term p.source main

-- a start that is ready is of one store and one term
same_ready : {s v : Store} {t w : Term} → Ready s t ≡ Ready v w → (s ≡ v) × (t ≡ w)
same_ready e = ((let a = e in cc), (let a = e in cc))

-- active data segments are copied once all elements are, where that passes no end
abbrev datas_after : Program → Option Store → Option Store
datas_after p o = in_order (λ s y (d : Data). data_started p s y d.mode) o 0 p.source.datas

module _ (p : Program) (s : Store) (t : Term) where
  -- ## From the start

  -- where no data segment passes an end
  after_datas : (main : ℕ) (o : Option Store) → with_datas p main o ≡ Ready s t → (o ≡ Some s) × (t ≡ start_term p.source main)
  after_datas main None h = absurd (cc)
  after_datas main (Some v) h = let e = same_ready h in (ap (λ (x : Store). Some x) e.0, sym e.1)

  -- nor any element segment
  after_elements : (main : ℕ) (o : Option Store) → with_elements_in p main o ≡ Ready s t → (datas_after p o ≡ Some s) × (t ≡ start_term p.source main)
  after_elements main None h = absurd (cc)
  after_elements main (Some v) h = after_datas main (datas_after p (Some v)) h

  -- no limit is exceeded
  inside_limits : (hosts : List Printer) (main : ℕ) (o : Option StartLimit) → within_limits p hosts main o ≡ Ready s t → (first_store p hosts ≡ Some s) × (t ≡ start_term p.source main)
  inside_limits hosts main None h = after_elements main (in_order (λ s y (e : Elem). element_started p s y e.mode) (Some (allocated p hosts)) 0 p.source.elements) h
  inside_limits hosts main (Some l) h = absurd (cc)

  -- there is a main
  having_entry : (hosts : List Printer) (o : Option ℕ) → printers_of p.source p.source.imports ≡ all_hosts hosts → entry p.source ≡ o → with_entry p hosts o ≡ Ready s t → StartsAt p s t
  having_entry hosts None imports is h = absurd (cc)
  having_entry hosts (Some main) imports is h =
      let at = inside_limits hosts main (exceeded p.source) h in
      record { store = record { hosts = hosts; imports = imports; is = at.0 }; main = main; has_entry = is; term = at.1 }

  -- and its imports are functions of the host
  having_imports : (f : Found) → printers_of p.source p.source.imports ≡ f → with_imports p f ≡ Ready s t → StartsAt p s t
  having_imports (Missing i) is h = absurd (cc)
  having_imports (all_hosts hosts) is h = having_entry hosts (entry p.source) is refl h

  -- where a start is ready, its store is the first one, and its term is that of main
  pub starts_at : Start p ≡ Ready s t → StartsAt p s t
  starts_at h = having_imports (printers_of p.source p.source.imports) refl h

  -- so the run of a single file begins with them
  pub starts_begin : (m : Module) (main : ℕ) → p.source ≡ m → IsProgram p → entry m ≡ Some main → Start p ≡ Ready s t → Begins (origin_of m main) p s t
  starts_begin m main source program is h =
      let at = starts_at h in
      let same : at.main ≡ main = (let one = at.has_entry in let two = ap entry source ∙ is in cc) in
      record {
        source = source;
        program = program;
        store = at.store;
        term = at.term ∙ ap (λ (n : Module). start_term n at.main) source ∙ ap (start_term m) same;
      }

  -- ## Back to the start

  -- where no segment passes an end, the start is ready
  with_elements_there : (main : ℕ) (o : Option Store) → datas_after p o ≡ Some s → with_elements_in p main o ≡ Ready s (start_term p.source main)
  with_elements_there main None h = absurd (cc)
  with_elements_there main (Some v) h = ap (with_datas p main) h

  -- where a single file has a main, and no limit is exceeded, that with which its run begins is its start
  pub begins_starts : (m : Module) (main : ℕ) → entry m ≡ Some main → exceeded m ≡ None → Begins (origin_of m main) p s t → Start p ≡ Ready s t
  begins_starts m main is few begins =
      let there = begins.store in
      let has_entry : entry p.source ≡ Some main = ap entry begins.source ∙ is in
      let within : exceeded p.source ≡ None = ap exceeded begins.source ∙ few in
      let term : start_term p.source main ≡ t = ap (λ (n : Module). start_term n main) begins.source ∙ sym begins.term in
      ap (with_imports p) there.imports ∙ ap (with_entry p there.hosts) has_entry ∙ ap (within_limits p there.hosts main) within
      ∙ with_elements_there main (in_order (λ s y (e : Elem). element_started p s y e.mode) (Some (allocated p there.hosts)) 0 p.source.elements) there.is
      ∙ ap (Ready s) term

-- there is one first store
pub first_store_once : (p : Program) (s v : Store) → IsFirstStore p s → IsFirstStore p v → s ≡ v
first_store_once p s v h k =
    let hosts : h.hosts ≡ k.hosts = (let one = h.imports in let two = k.imports in cc) in
    let stores : Some s ≡ Some v = sym h.is ∙ ap (first_store p) hosts ∙ k.is in
    cc

-- ## Where it is known with what a single file's run begins

module _ (m : Module) (u : instances.Store) (main : ℕ) (with_this : BeginsWith m u main) (p : Program) (s : Store) (t : Term) where
  -- a start that is ready is where the run begins
  pub ready_begins : p.source ≡ m → IsProgram p → Start p ≡ Ready s t → Begins (origin_of m main) p s t
  ready_begins source program h =
      record { source = source; program = program; store = (starts_at p s t h).store; term = (same_ready (sym h ∙ with_this p source)).1 }

  -- and the other way round
  pub begins_ready : Begins (origin_of m main) p s t → Start p ≡ Ready s t
  begins_ready begins =
      let start = with_this p begins.source in
      let store = first_store_once p (store_of u) s (starts_at p (store_of u) (start_term m main) start).store begins.store in
      start ∙ ap (λ (v : Store). Ready v (start_term m main)) store ∙ ap (Ready s) (sym begins.term)
