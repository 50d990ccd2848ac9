-- The imports of a file, each with the address that it stands for.
use Rattle.std.specs.List.{range_with_len}
use Rattle.std.proofs.Common.{◌≡◌, ℕ, suc, ◌+◌, Bool, true, false, if◌then◌else◌, List, [], ◌∷◌, ◌++◌, length, flat_map, Option, Some, None, slice_get, codes, bytes_eq, refl, sym, ap, subst, subst₂, ◌∙◌, arith}
use Rattle.std.proofs.lemmas.Option.{get_or_from_slice_get}
use Rattle.w_syntax.specs.declared.module.Export.{Export}
use Rattle.w_syntax.specs.declared.module.ExternType.{ExternType}
use Rattle.w_syntax.specs.declared.module.ExternType.TheVariants as imported
use Rattle.w_syntax.specs.declared.module.Import.{Import}
use Rattle.w_syntax.specs.declared.module.Module.{Module}
use Rattle.w_tables.specs.declared.entries.Printer.{Printer}
use Rattle.w_reduce.specs.Imports.{printer_as, printer_of}
use Rattle.w_typed.specs.Stores.{Instances, no_instance, instances}
use Rattle.w_typed.proofs.Places.{instance_at}
use Rattle.w_link.specs.Resolved.{Instance, at}
use Rattle.w_linked.specs.Definitions.{Definitions, host_type, host_types}
use Rattle.w_linked.specs.Imports.{TypeTests, Address, function, fits, address_of, exported_in, file_name, Placed, exported, if_fits, of_export, of_host, Imported, all, missing, and_rest, and_next, imports_of}

-- a function of the host is imported as a function
printer_is_func : (m : Module) (i : Import) (p : Printer) → printer_of m i ≡ Some p → (x : ℕ) × (i.kind ≡ imported.Func x)
printer_is_func m i p e = by (bytes_eq i.module_name (codes "host")) i.kind e
  where
    by : (b : Bool) (k : ExternType) → (if b then printer_as m i.item_name k else None) ≡ Some p → (x : ℕ) × (k ≡ imported.Func x)
    by true (imported.Func x) e = (x, refl)
    by true _ e = absurd (cc)
    by false k e = absurd (cc)

no_host : (n : ℕ) (e : ExternType) → host_type n e None ≡ []
no_host n (imported.Func x) = refl
no_host n (imported.Table t) = refl
no_host n (imported.Memory l) = refl
no_host n (imported.Global g) = refl
no_host n (imported.Tag t) = refl

-- ## Exports of earlier files

-- what stands at the address is exported by one of these files
pub record ExportOf (earlier : List Placed) (a : Address) : Type 0 where
  pub front : List Placed
  pub file : Placed
  pub back : List Placed
  pub place : ℕ
  pub export : Export
  pub is : earlier ≡ front ++ file ∷ back
  pub there : slice_get file.source.exports place ≡ Some export
  pub address : a ≡ address_of file.instance export.index

-- by an export of this file
record ExportIn (i : Instance) (es : List Export) (a : Address) : Type 0 where
  place : ℕ
  export : Export
  there : slice_get es place ≡ Some export
  address : a ≡ address_of i export.index

export_by : (i : Instance) (x : Export) (es : List Export) (name : List ℕ) (a : Address) → (exported_in i es name ≡ Some a → ExportIn i es a) → (b : Bool)
    → (if b then Some (address_of i x.index) else exported_in i es name) ≡ Some a → ExportIn i (x ∷ es) a
export_by i x es name a again true e = record { place = 0; export = x; there = refl; address = (let s : address_of i x.index ≡ a = cc in sym s) }
export_by i x es name a again false e = let r = again e in record { place = suc r.place; export = r.export; there = r.there; address = r.address }

export_in : (i : Instance) (es : List Export) (name : List ℕ) (a : Address) → exported_in i es name ≡ Some a → ExportIn i es a
export_in i [] name a e = absurd (cc)
export_in i (x ∷ es) name a e = export_by i x es name a (λ h. export_in i es name a h) (bytes_eq x.name name) e

file_by : (f : ℕ) (p : Placed) (ps : List Placed) (file name : List ℕ) (a : Address) → (exported (suc f) ps file name ≡ Some a → ExportOf ps a) → (b : Bool)
    → (if b then exported_in p.instance p.source.exports name else exported (suc f) ps file name) ≡ Some a → ExportOf (p ∷ ps) a
file_by f p ps file name a again true e =
    let r = export_in p.instance p.source.exports name a e in
    record { front = []; file = p; back = ps; place = r.place; export = r.export; is = refl; there = r.there; address = r.address }
file_by f p ps file name a again false e =
    let r = again e in
    record { front = p ∷ r.front; file = r.file; back = r.back; place = r.place; export = r.export; is = ap (λ (l : List Placed). p ∷ l) r.is; there = r.there; address = r.address }

export_of : (f : ℕ) (ps : List Placed) (file name : List ℕ) (a : Address) → exported f ps file name ≡ Some a → ExportOf ps a
export_of f [] file name a e = absurd (cc)
export_of f (p ∷ ps) file name a e = file_by f p ps file name a (λ h. export_of (suc f) ps file name a h) (bytes_eq file (file_name f)) e

module _ (tests : TypeTests) (d : Definitions) (earlier : List Placed) (m : Module) (n : ℕ) where
  -- from the k-th function of the host on, to the l-th
  pub data ImportsFit : ℕ → List Import → List Address → ℕ → Type 0 where
    no_more : {k : ℕ} → ImportsFit k [] [] k
    from_host : {k l : ℕ} {i : Import} {is : List Import} {found : List Address} (x : ℕ) (p : Printer) → i.kind ≡ imported.Func x → printer_of m i ≡ Some p
        → ImportsFit (suc k) is found l → ImportsFit k (i ∷ is) (function k ∷ found) l
    from_file : {k l : ℕ} {i : Import} {is : List Import} {a : Address} {found : List Address} → printer_of m i ≡ None → fits tests d n i.kind a ≡ true
        → ExportOf earlier a → ImportsFit k is found l → ImportsFit k (i ∷ is) (a ∷ found) l

  -- an import, and then the others
  module _ (i : Import) (is : List Import)
      (again : (k : ℕ) (found : List Address) (l : ℕ) → imports_of tests d earlier m n k is ≡ all found l → ImportsFit k is found l) (k : ℕ) (found : List Address) (l : ℕ) where
    after_host : (x : ℕ) (p : Printer) (r : Imported) → i.kind ≡ imported.Func x → printer_of m i ≡ Some p → imports_of tests d earlier m n (suc k) is ≡ r
        → and_rest (function k) r ≡ all found l → ImportsFit k (i ∷ is) found l
    after_host x p (missing j) kind at h e = absurd (cc)
    after_host x p (all bs j) kind at h e =
        let a : function k ∷ bs ≡ found = cc in
        let b : j ≡ l = cc in
        subst₂ (λ (xs : List Address) (z : ℕ). ImportsFit k (i ∷ is) xs z) a b (from_host x p kind at (again (suc k) bs j h))

    after_file : (a : Address) (r : Imported) → printer_of m i ≡ None → fits tests d n i.kind a ≡ true → ExportOf earlier a → imports_of tests d earlier m n k is ≡ r
        → and_rest a r ≡ all found l → ImportsFit k (i ∷ is) found l
    after_file a (missing j) none fit from h e = absurd (cc)
    after_file a (all bs j) none fit from h e =
        let b : a ∷ bs ≡ found = cc in
        let c : j ≡ l = cc in
        subst₂ (λ (xs : List Address) (z : ℕ). ImportsFit k (i ∷ is) xs z) b c (from_file none fit from (again k bs j h))

    by_test : (a : Address) (b : Bool) → printer_of m i ≡ None → ExportOf earlier a → fits tests d n i.kind a ≡ b
        → and_next (if_fits b a k) (λ z. imports_of tests d earlier m n z is) ≡ all found l
        → ImportsFit k (i ∷ is) found l
    by_test a true none from fit e = after_file a (imports_of tests d earlier m n k is) none fit from refl e
    by_test a false none from fit e = absurd (cc)

    by_export : (o : Option Address) → printer_of m i ≡ None → exported 0 earlier i.module_name i.item_name ≡ o
        → and_next (of_export tests d n i.kind k o) (λ z. imports_of tests d earlier m n z is) ≡ all found l
        → ImportsFit k (i ∷ is) found l
    by_export None none at e = absurd (cc)
    by_export (Some a) none at e = by_test a (fits tests d n i.kind a) none (export_of 0 earlier i.module_name i.item_name a at) refl e

    by_printer : (o : Option Printer) → printer_of m i ≡ o → and_next (of_host tests d earlier n k i o) (λ z. imports_of tests d earlier m n z is) ≡ all found l
        → ImportsFit k (i ∷ is) found l
    by_printer (Some p) at e = let f = printer_is_func m i p at in after_host f.0 p (imports_of tests d earlier m n (suc k) is) f.1 at refl e
    by_printer None at e = by_export (exported 0 earlier i.module_name i.item_name) at refl e

  -- files that have all their imports
  pub imports_fit : (k : ℕ) (is : List Import) (found : List Address) (l : ℕ) → imports_of tests d earlier m n k is ≡ all found l → ImportsFit k is found l
  imports_fit k [] found l e =
      let a : [] ≡ found = cc in
      let b : k ≡ l = cc in
      subst₂ (λ (xs : List Address) (j : ℕ). ImportsFit k [] xs j) a b no_more
  imports_fit k (i ∷ is) found l e = by_printer i is (λ j bs z h. imports_fit j is bs z h) k found l (printer_of m i) refl e

  -- an import that names a function of the host gives its type
  pub host_first : (i : Import) (is : List Import) (x : ℕ) (p : Printer) → i.kind ≡ imported.Func x → printer_of m i ≡ Some p
      → host_types n m (i ∷ is) ≡ (n + x) ∷ host_types n m is
  host_first i is x p kind at =
      ap (λ (o : Option Printer). host_type n i.kind o ++ host_types n m is) at ∙ ap (λ (e : ExternType). host_type n e (Some p) ++ host_types n m is) kind

  host_later : (i : Import) (is : List Import) → printer_of m i ≡ None → host_types n m (i ∷ is) ≡ host_types n m is
  host_later i is none =
      ap (λ (o : Option Printer). host_type n i.kind o ++ host_types n m is) none ∙ ap (λ (l : List ℕ). l ++ host_types n m is) (no_host n i.kind)

  -- the functions of the host are counted
  pub hosts_counted : {k l : ℕ} {is : List Import} {found : List Address} → ImportsFit k is found l → l ≡ k + length (host_types n m is)
  hosts_counted no_more = omega arith
  hosts_counted (from_host {i = i} {is = is} x p kind at h) = omega (arith, hosts_counted h, ap length (host_first i is x p kind at))
  hosts_counted (from_file {i = i} {is = is} none fit from h) = omega (arith, hosts_counted h, ap length (host_later i is none))

  -- ## What each import of a kind stands for

  module _ {A : Type 0} (f : ExternType → List A) (g : Address → List ℕ) (R : ℕ → A → Type 0) where
    -- both are of the kind, or neither
    pub data Alike : List ℕ → List A → Type 0 where
      neither : Alike [] []
      one : {a : ℕ} {x : A} → R a x → Alike (a ∷ []) (x ∷ [])

    alike_beside : {xs zs : List ℕ} {ys ws : List A} → Alike xs ys → Instances R zs ws → Instances R (xs ++ zs) (ys ++ ws)
    alike_beside neither k = k
    alike_beside (one r) k = instances r k

    module _ (of_the_host : (x k : ℕ) → slice_get d.functions k ≡ Some (n + x) → Alike (g (function k)) (f (imported.Func x)))
        (of_the_file : (e : ExternType) (a : Address) → fits tests d n e a ≡ true → ExportOf earlier a → Alike (g a) (f e)) where
      pub imported_instances : {k l : ℕ} {is : List Import} {found : List Address} → ImportsFit k is found l
          → ((j z : ℕ) → slice_get (host_types n m is) j ≡ Some z → slice_get d.functions (k + j) ≡ Some z)
          → Instances R (flat_map g found) (flat_map (λ (i : Import). f i.kind) is)
      imported_instances no_more hosts = no_instance
      imported_instances {k = k} (from_host {i = i} {is = is} {found = found} x p kind at h) hosts =
          let first : slice_get d.functions k ≡ Some (n + x) = ap (slice_get d.functions) (omega arith) ∙ hosts 0 (n + x) (ap (λ (l : List ℕ). slice_get l 0) (host_first i is x p kind at)) in
          let later : (j z : ℕ) → slice_get (host_types n m is) j ≡ Some z → slice_get d.functions (suc k + j) ≡ Some z = λ j z e.
          ap (slice_get d.functions) (omega arith) ∙ hosts (suc j) z (ap (λ (l : List ℕ). slice_get l (suc j)) (host_first i is x p kind at) ∙ e) in
          subst (λ (e : ExternType). Instances R (g (function k) ++ flat_map g found) (f e ++ flat_map (λ (i : Import). f i.kind) is)) (sym kind)
          (alike_beside (of_the_host x k first) (imported_instances h later))
      imported_instances (from_file {i = i} {is = is} {a = a} none fit from h) hosts =
          alike_beside (of_the_file i.kind a fit from) (imported_instances h (λ j z e. hosts j z (ap (λ (l : List ℕ). slice_get l j) (host_later i is none) ∙ e)))

-- ## A file's own

-- they stand at the addresses from b on
pub own_instances : {A : Type 0} (R : ℕ → A → Type 0) (b : ℕ) (xs : List A) → ((k : ℕ) (x : A) → slice_get xs k ≡ Some x → R (b + k) x)
    → Instances R (range_with_len b (length xs)) xs
own_instances R b [] h = no_instance
own_instances R b (x ∷ xs) h = instances (subst (λ (z : ℕ). R z x) (omega arith) (h 0 x refl))
    (own_instances R (b + 1) xs (λ k y e. subst (λ (z : ℕ). R z y) (omega arith) (h (suc k) y e)))

-- what holds of an index holds of its address
pub at_address : {A : Type 0} (R : ℕ → A → Type 0) (addresses : List ℕ) (ys : List A) → Instances R addresses ys → (x : ℕ) (y : A) → slice_get ys x ≡ Some y
    → R (at addresses x) y
at_address R addresses ys h x y e =
    let i = instance_at x y h e in
    subst (λ (a : ℕ). R a y) (sym (get_or_from_slice_get addresses x i.item x i.is)) i.holds
