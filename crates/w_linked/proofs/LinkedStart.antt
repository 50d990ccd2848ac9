-- Where a run of several valid files begins, the configuration is typed.
use Rattle.std.proofs.Common.{◌≡◌, ℕ, suc, ◌+◌, List, [], ◌∷◌, ◌++◌, map, length, Option, Some, None, slice_get, refl, sym, ap, subst, subst₂, ◌∙◌, append_assoc, arith}
use Rattle.std.specs.Prelude.{◌↔◌, IsTrue, All}
use Rattle.std.proofs.lemmas.List.{length-map}
use Rattle.std.proofs.lemmas.List.Elements.{All-nil, All-cons}
use Rattle.w_types.specs.declared.types.FuncType.{FuncType}
use Rattle.w_types.specs.declared.types.RecGroup.{RecGroup}
use Rattle.w_types.specs.declared.types.ValType.{ValType}
use Rattle.lists.specs.Rows.{Row, row_of}
use Rattle.w_syntax.specs.declared.module.Data.{Data}
use Rattle.w_syntax.specs.declared.module.Elem.{Elem}
use Rattle.w_syntax.specs.declared.module.Module.{Module}
use Rattle.w_canon.specs.Matching.{IndexMatches, ResultMatches}
use Rattle.w_canon.specs.Supertypes.{KeepsKinds}
use Rattle.w_rules.specs.Context.{type_of_func, func_at}
use Rattle.w_rules.specs.Matching.{known}
use Rattle.w_rules.specs.Operands.{Operand}
use Rattle.w_rules.specs.Spaces.{context_of, functions_of}
use Rattle.w_rules.specs.Valid.{Valid, StartItem, StartValid, ElementValid, IsElemModeValid}
use Rattle.w_reduce.specs.declared.limit.StartLimit.{StartLimit}
use Rattle.w_reduce.specs.Imports.{Found, All as all_hosts, Missing, printers_of}
use Rattle.w_reduce.specs.Program.{Program, IsProgram}
use Rattle.w_reduce.specs.Start.{entry, allocated, element_started, data_started, in_order, exceeded, first_term}
use Rattle.w_reduce.specs.Store.{Store}
use Rattle.w_reduce.specs.Terms.{Term}
use Rattle.w_rules.specs.Sound.{Sound}
use Rattle.w_typed.specs.Stores.{StoreTyped}
use Rattle.w_typed.proofs.ActiveSegments.{StaysTyped, stays_typed, element_kept, data_kept, in_order_typed}
use Rattle.w_typed.proofs.KeptComposites.{keeps_kinds}
use Rattle.w_typed.proofs.FirstStore.{allocated_typed}
use Rattle.w_typed.proofs.HostFunctions.{all_imported}
use Rattle.w_typed.proofs.TypedRuns.{runs_are_typed}
use Rattle.w_typed.proofs.FirstConfigurations.{EntryAt, StartAt, entry_in_typed, first_term_typed}
use Rattle.w_link.specs.Shifted.{types_shifted}
use Rattle.w_link.specs.Resolved.{at}
use Rattle.w_link.specs.Fits.{There, Fits}
use Rattle.w_link.specs.Items.{resolved_elem, resolved_data}
use Rattle.w_linked.specs.Definitions.{Definitions, definitions, hosts}
use Rattle.w_linked.specs.Imports.{TypeTests, Placed}
use Rattle.w_linked.specs.Laws.{AreTestsOf, AreValid, LinkedStartsTyped, LinkedStartsAreTyped, LinkedRunsGoOn}
use Rattle.w_linked.specs.Linked.{Before, at_first, and_start, all_starts, Placing, placed, no_import, placing, linked, of_placed}
use Rattle.w_linked.specs.Starting.{Ready, last_entry, in_last, first_exceeded, Copied, copied, traps, and_datas, and_elements, all_copied, with_copied, with_hosts, within_limits, with_imports, with_entry}
use Rattle.w_linked.proofs.AllFit.{types_same}
use Rattle.w_linked.proofs.Counting.{elements_in, length_more}
use Rattle.w_linked.proofs.LinkedLimits.{IsWithin, all_within, linked_within}
use Rattle.w_linked.proofs.LinkedSound.{each_of_places, valid as file_valid, fits as file_fits, sound as linked_sound}
use Rattle.w_linked.proofs.Placings.{Places, no_file, a_file, placed_by}
use Rattle.w_linked.proofs.SoundFunctions.{among_all}
use Rattle.w_linked.proofs.SoundItems.{same_some, nothing_taken, start_there, element_sound}

-- ## The last file

record LastFile (ps : List Placed) (x : ℕ) : Type 0 where
  front : List Placed
  file : Placed
  is : ps ≡ front ++ file ∷ []
  entry_is : entry file.source ≡ Some x
  last : in_last ps x ≡ at file.instance.functions x

module _ (tests : TypeTests) (d : Definitions) where
  behind : (p : Placed) (x : ℕ) {earlier : List Placed} {b : Before} {n : Module} {ms : List Module} {ps : List Placed} → Places tests d earlier b (n ∷ ms) ps
      → LastFile ps x → LastFile (p ∷ ps) x
  behind p x (a_file found k is r) l = record {
    front = p ∷ l.front;
    file = l.file;
    is = ap (λ (ps : List Placed). p ∷ ps) l.is;
    entry_is = l.entry_is;
    last = l.last;
  }

  last_in : {earlier : List Placed} {b : Before} {ms : List Module} {ps : List Placed} → Places tests d earlier b ms ps → (x : ℕ) → last_entry ms ≡ Some x → LastFile ps x
  last_in no_file x e = absurd (cc)
  last_in (a_file {ms = []} found k is no_file) x e = record { front = []; file = _; is = refl; entry_is = e; last = refl }
  last_in (a_file {ms = n ∷ ms} found k is r) x e = behind _ x r (last_in r x e)

-- ## Stores

by_elements : (m : Module) (f : ℕ) (o : Option Store) (rest : Store → Copied) (r : Store) → StaysTyped m [] o
    → ((t : Store) → StoreTyped m [] t → rest t ≡ copied r → StoreTyped m [] r)
    → and_elements f o rest ≡ copied r → StoreTyped m [] r
by_elements m f None rest r k g is = absurd (cc)
by_elements m f (Some t) rest r k g is = g t (k t refl) is

by_datas : (m : Module) (f : ℕ) (o : Option Store) (rest : Store → Copied) (r : Store) → StaysTyped m [] o
    → ((t : Store) → StoreTyped m [] t → rest t ≡ copied r → StoreTyped m [] r)
    → and_datas f o rest ≡ copied r → StoreTyped m [] r
by_datas m f None rest r k g is = absurd (cc)
by_datas m f (Some t) rest r k g is = g t (k t refl) is

module _ (ms : List Module) (tests : TypeTests) (ps : List Placed) (h : Places tests (definitions ms) [] (at_first (hosts ms)) ms ps)
    (tells : AreTestsOf (definitions ms).types tests) (good : AreValid ms) where
  abbrev L : Module
  L = linked ps

  abbrev P : Program
  P = record { source = linked ps; matches = tests.matches }

  valid : (front back : List Placed) (p : Placed) → ps ≡ front ++ p ∷ back → Valid p.source
  valid = file_valid ms tests ps h tells good

  fits : (front back : List Placed) (p : Placed) → ps ≡ front ++ p ∷ back → Fits p.instance (context_of p.source) (context_of L)
  fits = file_fits ms tests ps h tells good

  sound : Sound L
  sound = linked_sound ms tests ps h tells good

  keeps : KeepsKinds L.types
  keeps = keeps_kinds L sound

  -- ## main

  entry_there : (p : Placed) → Fits p.instance (context_of p.source) (context_of L) → (x : ℕ) (t : FuncType) (o : Option ℕ) → slice_get (functions_of p.source) x ≡ o
      → func_at (context_of p.source) o ≡ Some t → t.params ≡ [] → There (type_of_func (context_of L) (at p.instance.functions x)) (λ (u : FuncType). u.params ≡ [])
  entry_there p f x t None is has params = absurd (cc)
  entry_there p f x t (Some y) is has params =
      let g = f.functions x y is in
      let u = g.holds.type t has in
      record {
        value = u.value;
        is = ap (func_at (context_of L)) g.is ∙ u.is;
        holds = nothing_taken ps keeps valid fits (subst (λ (l : List ValType). ResultMatches L.types (types_shifted p.instance.types l) u.value.params) params u.holds.params);
      }

  pub main_there : (x : ℕ) → last_entry ms ≡ Some x → EntryAt L (in_last ps x)
  main_there x e =
      let l = last_in tests (definitions ms) h x e in
      let p = l.file in
      let v : EntryAt p.source x = entry_in_typed p.source p.source.exports x l.entry_is in
      let u = entry_there p (fits l.front [] p l.is) x v.type (slice_get (functions_of p.source) x) refl v.has_type v.no_params in
      subst (EntryAt L) (sym l.last) (record { type = u.value; has_type = u.is; no_params = u.holds })

  -- ## The functions before it

  and_one : (front : List Placed) (p : Placed) (back : List Placed) → ps ≡ front ++ p ∷ back → (o : Option ℕ) → p.source.start ≡ o → All (StartAt L) (all_starts back)
      → All (StartAt L) (and_start o p.instance (all_starts back))
  and_one front p back e None is rest = rest
  and_one front p back e (Some x) is rest =
      let v : StartValid p.source = valid front back p e StartItem (rw is refl) in
      let one : v.function ≡ x = (let a = v.is in cc) in
      let u = start_there ps keeps valid fits p (fits front back p e) v.function v.type (slice_get (functions_of p.source) v.function) refl v.has_type v.no_params v.no_results in
      let start : StartAt L (at p.instance.functions v.function) = record { type = u.value; has_type = u.is; no_params = u.holds.0; no_results = u.holds.1 } in
      All-cons (StartAt L) (at p.instance.functions x) (all_starts back) (subst (λ (y : ℕ). StartAt L (at p.instance.functions y)) one start) rest

  pub starts_there : (front back : List Placed) → ps ≡ front ++ back → All (StartAt L) (all_starts back)
  starts_there front [] e = All-nil (StartAt L)
  starts_there front (p ∷ back) e =
      and_one front p back e p.source.start refl (starts_there (front ++ p ∷ []) back (e ∙ sym (append_assoc front (p ∷ []) back)))

  -- ## Active segments, file by file

  elements_kept : (front back : List Placed) (x : Placed) → ps ≡ front ++ x ∷ back → (y : ℕ) → y ≡ length (of_placed elements_in front) → (s : Store) → StoreTyped L [] s
      → StaysTyped L [] (in_order (λ s y (e : Elem). element_started P s y e.mode) (Some s) y (map (resolved_elem x.instance) x.source.elements))
  elements_kept front back x split y ey s u =
      let here : ℕ → Elem → Type 0 = λ y e. slice_get L.elements y ≡ Some e in
      in_order_typed L here (λ s y (e : Elem). element_started P s y e.mode) (λ s y e there v.
      let w : ElementValid L y = element_sound ps keeps valid fits y e there in
      let one : w.element ≡ e = same_some w.is there in
      let mode = subst (λ (z : Elem). IsElemModeValid L z.kind z.mode) one w.mode in
      element_kept P keeps y e there s e.mode mode v)
      y (map (resolved_elem x.instance) x.source.elements)
      (λ i e there. subst (λ (n : ℕ). here (n + i) e) (sym ey) (among_all elements_in ps front back x i e split there)) (Some s) (stays_typed L s u)

  datas_kept : (x : Placed) (z : ℕ) (s : Store) → StoreTyped L [] s
      → StaysTyped L [] (in_order (λ s y (d : Data). data_started P s y d.mode) (Some s) z (map (resolved_data x.instance) x.source.datas))
  datas_kept x z s u =
      in_order_typed L (λ y d. Unit {0}) (λ s y (d : Data). data_started P s y d.mode) (λ s y d t v. data_kept P s y d.mode v)
      z (map (resolved_data x.instance) x.source.datas) (λ i d there. tt) (Some s) (stays_typed L s u)

  files_kept : (f y z : ℕ) (front back : List Placed) → ps ≡ front ++ back → y ≡ length (of_placed elements_in front) → (s r : Store) → StoreTyped L [] s
      → all_copied P f y z back s ≡ copied r → StoreTyped L [] r
  files_kept f y z front [] split ey s r u e = let one : s ≡ r = cc in subst (StoreTyped L []) one u
  files_kept f y z front (x ∷ back) split ey s r u e =
      let next : y + length x.source.elements ≡ length (of_placed elements_in (front ++ x ∷ [])) =
      omega (arith, ey, length_more elements_in front x, length-map x.source.elements (resolved_elem x.instance)) in
      by_elements L f (in_order (λ s y (e : Elem). element_started P s y e.mode) (Some s) y (map (resolved_elem x.instance) x.source.elements)) _ r
      (elements_kept front back x split y ey s u) (λ t v is.
      by_datas L f (in_order (λ s y (d : Data). data_started P s y d.mode) (Some t) z (map (resolved_data x.instance) x.source.datas)) _ r
      (datas_kept x z t v) (λ q w is.
      files_kept (suc f) (y + length x.source.elements) (z + length x.source.datas) (front ++ x ∷ []) back (split ∙ sym (append_assoc front (x ∷ []) back)) next q r w is) is) e

  -- ## The start

  program_told : IsProgram P
  program_told = subst (λ (gs : List RecGroup). (i j : ℕ) → IsTrue (tests.matches i j) ↔ IndexMatches gs i j) (types_same ms tests ps h) tells.matches

  within : first_exceeded 0 ms ≡ None → exceeded L ≡ None
  within least = linked_within ps (each_of_places IsWithin tests ms h (all_within 0 ms least))

  module _ (p : Program) (s : Store) (t : Term) where
    having_copied : (x : ℕ) → last_entry ms ≡ Some x → (o : Copied) → ((r : Store) → o ≡ copied r → StoreTyped L [] r) → with_copied P ps x o ≡ Ready p s t
        → LinkedStartsTyped p s t
    having_copied x e (traps f k) g is = absurd (cc)
    having_copied x e (copied r) g is =
        let f = main_there x e in
        let us : Row Operand = known (row_of f.type.results) in
        let first : LinkedStartsTyped P r (first_term (all_starts ps) (in_last ps x)) = record {
          sound = sound;
          tells = program_told;
          type = f.type;
          typed = record { store = g r refl; term = first_term_typed L (all_starts ps) (starts_there [] ps refl) (in_last ps x) f };
        } in
        let same_program : P ≡ p = cc in
        let same_store : r ≡ s = cc in
        let same_term : first_term (all_starts ps) (in_last ps x) ≡ t = cc in
        subst (λ (p : Program). LinkedStartsTyped p s t) same_program
        (subst₂ (λ (s : Store) (t : Term). LinkedStartsTyped P s t) same_store same_term first)

    having_hosts : (x : ℕ) → last_entry ms ≡ Some x → first_exceeded 0 ms ≡ None → (o : Found) → printers_of L L.imports ≡ o
        → with_hosts P ps x o ≡ Ready p s t → LinkedStartsTyped p s t
    having_hosts x e least (Missing j) is k = absurd (cc)
    having_hosts x e least (all_hosts hs) is k =
        having_copied x e (all_copied P 0 0 0 ps (allocated P hs))
        (λ r e. files_kept 0 0 0 [] ps refl refl (allocated P hs) r (allocated_typed P sound hs (all_imported L L.imports hs is) (within least)) e) k

    having_limits : (x : ℕ) → last_entry ms ≡ Some x → (o : Option (ℕ × StartLimit)) → first_exceeded 0 ms ≡ o → within_limits P ps x o ≡ Ready p s t
        → LinkedStartsTyped p s t
    having_limits x e (Some l) is k = absurd (cc)
    having_limits x e None is k = having_hosts x e is (printers_of L L.imports) refl k

module _ (tests : TypeTests) (ms : List Module) (p : Program) (s : Store) (t : Term) (tells : AreTestsOf (definitions ms).types tests) (good : AreValid ms) where
  having_imports : (x : ℕ) → last_entry ms ≡ Some x → (o : Placing) → placing tests (definitions ms) [] (at_first (hosts ms)) ms ≡ o
      → with_imports tests ms x o ≡ Ready p s t
      → LinkedStartsTyped p s t
  having_imports x e (no_import f j) is k = absurd (cc)
  having_imports x e (placed qs) is k =
      let r = placed_by tests (definitions ms) [] (at_first (hosts ms)) ms qs is in
      let h : Places tests (definitions ms) [] (at_first (hosts ms)) ms qs = subst (Places tests (definitions ms) [] (at_first (hosts ms)) ms) (sym r.1) r.2 in
      having_limits ms tests qs h tells good p s t x e (first_exceeded 0 ms) refl k

  having_entry : (o : Option ℕ) → last_entry ms ≡ o → with_entry tests ms o ≡ Ready p s t → LinkedStartsTyped p s t
  having_entry None is k = absurd (cc)
  having_entry (Some x) is k = having_imports x is (placing tests (definitions ms) [] (at_first (hosts ms)) ms) refl k

-- where a run of files begins, the configuration is typed
pub linked_starts_typed : LinkedStartsAreTyped
linked_starts_typed tests ms p s t tells good k = having_entry tests ms p s t tells good (last_entry ms) refl k

-- so none is stuck
pub linked_runs_go_on : LinkedRunsGoOn
linked_runs_go_on tests ms p s t tells good k n =
    let u = linked_starts_typed tests ms p s t tells good k in
    let r = runs_are_typed p [] (known (row_of u.type.results)) s t u.tells u.sound u.typed n in
    r.never_stuck
