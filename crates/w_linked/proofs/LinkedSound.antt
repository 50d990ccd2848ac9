-- The module that files make together is what runs ask for.
use Rattle.std.proofs.Common.{◌≡◌, ◌⊎◌, inl, inr, ◌<◌, ◌≤◌, ◌+◌, ℕ, true, List, [], ◌∷◌, ◌++◌, length, Option, Some, None, slice_get, refl, sym, ap, subst, ◌∙◌, append_assoc, arith}
use Rattle.std.specs.Prelude.{All, IsSome}
use Rattle.std.proofs.lemmas.Bool.{cases_lt}
use Rattle.std.proofs.lemmas.List.{length-append, length-map}
use Rattle.std.proofs.lemmas.List.Elements.{All-head, All-tail, All-nil, All-cons, All-append}
use Rattle.std.proofs.lemmas.Option.{slice_get_past}
use Rattle.w_types.specs.declared.types.FuncType.{FuncType}
use Rattle.w_syntax.specs.Functions.{type_at}
use Rattle.w_syntax.specs.declared.module.Module.{Module}
use Rattle.w_canon.specs.Classed.{count}
use Rattle.w_canon.specs.Supertypes.{KeepsKinds}
use Rattle.w_rules.specs.Spaces.{context_of, functions_of}
use Rattle.w_rules.specs.Valid.{Item, TypeItem, ImportItem, TableItem, MemoryItem, TagItem, GlobalItem, ElementItem, DataItem, StartItem, ExportItem, FunctionItem, IsItem, ItemValid, Valid, FunctionValid, StartValid, MemoryValid, AreLimitsValid, most_pages}
use Rattle.w_rules.specs.Sound.{is_asked, Sound}
use Rattle.w_link.specs.Resolved.{Instance, at}
use Rattle.w_link.specs.Fits.{Fits}
use Rattle.w_link.specs.Items.{resolved_func}
use Rattle.w_linked.specs.Definitions.{definitions, hosts}
use Rattle.w_linked.specs.Imports.{TypeTests, Placed}
use Rattle.w_linked.specs.Laws.{AreTestsOf, AreValid, FilesFit, LinkedIsSound}
use Rattle.w_linked.specs.Linked.{Before, at_first, and_start, all_starts, first_of, of_placed, linked}
use Rattle.w_linked.proofs.AllFit.{some_at, types_same, none_before, file_fits}
use Rattle.w_linked.proofs.Counting.{groups_in, hosts_in, memories_in, IsAt, is_at}
use Rattle.w_linked.proofs.FilesFit.{KeepsFuncs}
use Rattle.w_linked.proofs.GlobalsBelow.{global_sound}
use Rattle.w_linked.proofs.Placings.{Places, no_file, a_file, placed_by}
use Rattle.w_linked.proofs.SoundFunctions.{AreFiles, functions_in, codes_in, function_sound}
use Rattle.w_linked.proofs.SoundItems.{tag_sound, table_sound, element_sound, data_sound, start_there}
use Rattle.w_linked.proofs.TypesSound.{types_sound, keeps_kinds, keeps_funcs}

-- ## What holds of each file

-- of each file that is placed
pub data Each (P : Module → Type 0) : List Placed → Type 0 where
  no_file_left : Each P []
  and_file_holds : {p : Placed} {ps : List Placed} → P p.source → Each P ps → Each P (p ∷ ps)

-- what holds of each file holds of each that is placed
pub each_of_places : (P : Module → Type 0) (tests : TypeTests) (ms₀ : List Module) {earlier : List Placed} {b : Before} {ms : List Module} {ps : List Placed}
    → Places tests (definitions ms₀) earlier b ms ps → All P ms → Each P ps
each_of_places P tests ms₀ no_file h = no_file_left
each_of_places P tests ms₀ (a_file {m = m} {ms = ms} found k is r) h = and_file_holds (All-head P m ms h) (each_of_places P tests ms₀ r (All-tail P m ms h))

each_at : {P : Module → Type 0} (front back : List Placed) (p : Placed) {ps : List Placed} → Each P ps → ps ≡ front ++ p ∷ back → P p.source
each_at [] back p no_file_left e = absurd (cc)
each_at (x ∷ front) back p no_file_left e = absurd (cc)
each_at {P} [] back p (and_file_holds {p = q} h r) e = let s : q ≡ p = cc in subst (λ (x : Placed). P x.source) s h
each_at (x ∷ front) back p (and_file_holds {ps = ps} h r) e = let s : ps ≡ front ++ p ∷ back = cc in each_at front back p r s

each_front : {P : Module → Type 0} (front back : List Placed) {ps : List Placed} → Each P ps → ps ≡ front ++ back → Each P front
each_front [] back h e = no_file_left
each_front (x ∷ front) back no_file_left e = absurd (cc)
each_front {P} (x ∷ front) back (and_file_holds {p = q} {ps = ps} h r) e =
    let s : q ≡ x = cc in
    let t : ps ≡ front ++ back = cc in
    and_file_holds (subst (λ (y : Placed). P y.source) s h) (each_front front back r t)

-- ## Functions and codes

no_type : (m : Module) (t : FuncType) (o : Option ℕ) → o ≡ None → type_at m o ≡ Some t → ⊥
no_type m t None is h = cc
no_type m t (Some x) is h = cc

as_many_codes : (m : Module) → Valid m → (length m.functions < length m.codes) ⊎ (length m.codes ≤ length m.functions)
    → (length m.codes < length m.functions) ⊎ (length m.functions ≤ length m.codes) → length m.functions ≡ length m.codes
as_many_codes m v (inl less) o =
    let f : FunctionValid m (length m.functions) = v (FunctionItem (length m.functions)) (inr less) in
    absurd (no_type m f.type (slice_get m.functions (length m.functions)) (slice_get_past m.functions (length m.functions) (omega arith)) f.has_type)
as_many_codes m v (inr le) (inl less) =
    let f : FunctionValid m (length m.codes) = v (FunctionItem (length m.codes)) (inl less) in
    absurd (let a = f.has_code in let b = slice_get_past m.codes (length m.codes) (omega arith) in cc)
as_many_codes m v (inr le) (inr ge) = omega (arith, le, ge)

one_count : (front : List Placed) → Each Valid front → length (of_placed functions_in front) ≡ length (of_placed codes_in front)
one_count [] h = refl
one_count (p ∷ front) (and_file_holds v r) =
    let m = p.source in
    let here = as_many_codes m v (cases_lt (length m.functions) (length m.codes)) (cases_lt (length m.codes) (length m.functions)) in
    omega (
      arith,
      here,
      one_count front r,
      length-append (functions_in p.instance m) (of_placed functions_in front),
      length-append (codes_in p.instance m) (of_placed codes_in front),
      length-map m.functions (λ (x : ℕ). p.instance.types + x),
      length-map m.codes (resolved_func p.instance),
    )

-- ## Memories

limits_valid : (ps : List Placed) → Each Valid ps → All (AreLimitsValid most_pages) (of_placed memories_in ps)
limits_valid [] h = All-nil (AreLimitsValid most_pages)
limits_valid (p ∷ ps) (and_file_holds v r) =
    let own : MemoryValid p.source = v MemoryItem tt in
    All-append (AreLimitsValid most_pages) p.source.memories (of_placed memories_in ps) own.limits (limits_valid ps r)

-- ## The first function that runs before main

record StartIn (ps : List Placed) : Type 0 where
  front : List Placed
  file : Placed
  back : List Placed
  index : ℕ
  is : ps ≡ front ++ file ∷ back
  starts : file.source.start ≡ Some index
  first : first_of (all_starts ps) ≡ Some (at file.instance.functions index)

start_by : (p : Placed) (ps : List Placed) → (IsSome (first_of (all_starts ps)) → StartIn ps) → (o : Option ℕ) → p.source.start ≡ o
    → IsSome (first_of (and_start o p.instance (all_starts ps))) → StartIn (p ∷ ps)
start_by p ps again (Some x) is h = record {
  front = [];
  file = p;
  back = ps;
  index = x;
  is = refl;
  starts = is;
  first = ap (λ (o : Option ℕ). first_of (and_start o p.instance (all_starts ps))) is;
}
start_by p ps again None is h =
    let r = again h in
    record {
      front = p ∷ r.front;
      file = r.file;
      back = r.back;
      index = r.index;
      is = ap (λ (l : List Placed). p ∷ l) r.is;
      starts = r.starts;
      first = ap (λ (o : Option ℕ). first_of (and_start o p.instance (all_starts ps))) is ∙ r.first;
    }

start_in : (ps : List Placed) → IsSome (first_of (all_starts ps)) → StartIn ps
start_in [] h = absurd (cc)
start_in (p ∷ ps) h = start_by p ps (start_in ps) p.source.start refl h

-- ## All

module _ (ms : List Module) (tests : TypeTests) (ps : List Placed) (h : Places tests (definitions ms) [] (at_first (hosts ms)) ms ps)
    (is : AreTestsOf (definitions ms).types tests) (good : AreValid ms) where
  abbrev L : Module
  L = linked ps

  each : Each Valid ps
  each = each_of_places Valid tests ms h good

  -- each file is valid
  pub valid : (front back : List Placed) (p : Placed) → ps ≡ front ++ p ∷ back → Valid p.source
  valid front back p split = each_at front back p each split

  numbers : (front back : List Placed) (p : Placed) → ps ≡ front ++ p ∷ back → p.instance.types ≡ count (of_placed groups_in front)
  numbers front back p split =
      let d = definitions ms in
      let many = length (of_placed hosts_in ps) in
      let a : IsAt tests d many front p = is_at tests d many h (none_before ms tests ps h) front back p split in
      ap (λ (i : Instance). i.types) a.instance_is ∙ a.counts.types

  keeps : KeepsKinds L.types
  keeps = keeps_kinds ps valid numbers

  funcs : KeepsFuncs (definitions ms).types
  funcs = subst KeepsFuncs (sym (types_same ms tests ps h)) (keeps_funcs ps valid numbers)

  -- and fits
  pub fits : (front back : List Placed) (p : Placed) → ps ≡ front ++ p ∷ back → Fits p.instance (context_of p.source) (context_of L)
  fits front back p split = file_fits ms tests ps h is funcs front back p split

  -- what is known of all types, and of each file
  pub files : AreFiles ps
  files = record {
    keeps = keeps;
    valid = valid;
    fits = fits;
    codes = λ front back p split. as_many_codes p.source (valid front back p split)
        (cases_lt (length p.source.functions) (length p.source.codes)) (cases_lt (length p.source.codes) (length p.source.functions));
    counts = λ front back split. one_count front (each_front front back each split);
  }

  same_count : length L.functions ≡ length L.codes
  same_count = one_count ps each

  function_item : (j : ℕ) → j < length L.functions → FunctionValid L j
  function_item j lt = let y = some_at L.functions j lt in function_sound ps files j y.0 y.1

  function_or : (j : ℕ) → (j < length L.functions) ⊎ (j < length L.codes) → FunctionValid L j
  function_or j (inl lt) = function_item j lt
  function_or j (inr lt) = function_item j (omega (arith, lt, same_count))

  start_sound : IsSome L.start → StartValid L
  start_sound some =
      let r = start_in ps some in
      let p = r.file in
      let v : StartValid p.source = valid r.front r.back p r.is StartItem (rw (r.starts) refl) in
      let one : v.function ≡ r.index = (let a = v.is in let b = r.starts in cc) in
      let u = start_there ps keeps valid fits p (fits r.front r.back p r.is) v.function v.type (slice_get (functions_of p.source) v.function) refl v.has_type v.no_params v.no_results in
      record {
        function = at p.instance.functions v.function;
        type = u.value;
        is = r.first ∙ ap (λ (x : ℕ). Some (at p.instance.functions x)) (sym one);
        has_type = u.is;
        no_params = u.holds.0;
        no_results = u.holds.1;
      }

  items : (x : Item) → is_asked x ≡ true → IsItem L x → ItemValid L x
  items (TypeItem i) a there = types_sound ps valid numbers i there
  items (ImportItem i) a there = absurd (cc)
  items (TableItem i) a there = let y = some_at L.tables i there in table_sound ps keeps valid fits i y.0 y.1
  items MemoryItem a there = absurd (cc)
  items (TagItem i) a there = let y = some_at L.tags i there in tag_sound ps keeps valid fits i y.0 y.1
  items (GlobalItem i) a there = let y = some_at L.globals i there in global_sound ms tests ps h is funcs keeps valid i y.0 y.1
  items (ElementItem i) a there = let y = some_at L.elements i there in element_sound ps keeps valid fits i y.0 y.1
  items (DataItem i) a there = let y = some_at L.datas i there in data_sound ps keeps valid fits i y.0 y.1
  items StartItem a there = start_sound there
  items (ExportItem i) a there = absurd (cc)
  items (FunctionItem i) a there = function_or i there

  pub sound : Sound L
  sound = record { items = items; memories = limits_valid ps each }

-- the module that valid files make is sound
pub linked_is_sound : LinkedIsSound
linked_is_sound tests ms ps is good e =
    let r = placed_by tests (definitions ms) [] (at_first (hosts ms)) ms ps e in
    subst (λ (qs : List Placed). Sound (linked qs)) (sym r.1) (sound ms tests r.0 r.2 is good)

-- what holds of each file by its place holds of all
all_by_places : (P : Placed → Type 0) (ps front back : List Placed) → ps ≡ front ++ back
    → ((front back : List Placed) (p : Placed) → ps ≡ front ++ p ∷ back → P p) → All P back
all_by_places P ps front [] e h = All-nil P
all_by_places P ps front (p ∷ back) e h =
    All-cons P p back (h front back p e) (all_by_places P ps (front ++ p ∷ []) back (e ∙ sym (append_assoc front (p ∷ []) back)) h)

-- the indices of each file fit
pub files_fit : FilesFit
files_fit tests ms ps is good e =
    let r = placed_by tests (definitions ms) [] (at_first (hosts ms)) ms ps e in
    subst (λ (qs : List Placed). All (λ (p : Placed). Fits p.instance (context_of p.source) (context_of (linked qs))) qs) (sym r.1)
    (all_by_places (λ (p : Placed). Fits p.instance (context_of p.source) (context_of (linked r.0))) r.0 [] r.0 refl (fits ms tests r.0 r.2 is good))
