-- Each file of those that have all their imports fits the linked module.
use Rattle.std.proofs.Common.{◌≡◌, ◌<◌, ◌+◌, ℕ, zero, suc, true, false, List, [], ◌∷◌, ◌++◌, map, length, Some, slice_get, refl, sym, ap, subst, ◌∙◌, arith}
use Rattle.std.specs.Prelude.{option_map, slice_index_or}
use Rattle.std.proofs.lemmas.List.{length-append, length-map}
use Rattle.std.proofs.lemmas.Option.{slice_get-map, slice_get_within, get_or_from_slice_get}
use Rattle.w_types.specs.declared.types.RecGroup.{RecGroup}
use Rattle.w_types.specs.declared.types.RefType.{RefType}
use Rattle.w_syntax.specs.declared.module.Elem.{Elem}
use Rattle.w_syntax.specs.declared.module.GlobalType.{GlobalType}
use Rattle.w_syntax.specs.declared.module.Limits.{Limits}
use Rattle.w_syntax.specs.declared.module.Module.{Module}
use Rattle.w_syntax.specs.declared.module.TableType.{TableType}
use Rattle.w_syntax.specs.declared.module.Tag.{Tag}
use Rattle.w_rules.specs.Context.{Context}
use Rattle.w_rules.proofs.Marks.{declared_decided}
use Rattle.w_rules.specs.Spaces.{IsDeclared, context_of, declared_of, functions_of, tables_of, memories_of, globals_of, tags_of}
use Rattle.w_link.specs.Shifted.{ref_shifted}
use Rattle.w_link.specs.Resolved.{Instance, at}
use Rattle.w_link.specs.Fits.{Fits}
use Rattle.w_canon.proofs.Places.{subtypes_of-nil}
use Rattle.w_link.specs.Items.{resolved_elem, resolved_data}
use Rattle.w_linked.specs.Definitions.{Definitions, definitions, hosts, of_files, host_types, own_functions}
use Rattle.w_linked.specs.Imports.{TypeTests, Placed}
use Rattle.w_linked.specs.Laws.{AreTestsOf}
use Rattle.w_linked.specs.Linked.{instance_of, at_first, of_placed, linked}
use Rattle.w_linked.proofs.Counting.{groups_in, hosts_in, memories_in, tags_in, elements_in, datas_in, CountsOf, IsAt, is_at}
use Rattle.w_linked.proofs.Declared.{declared_there}
use Rattle.w_linked.proofs.FilesFit.{KeepsFuncs, stands, function_fits, functions_fit, tables_fit, memories_fit, globals_fit, tags_fit}
use Rattle.w_linked.proofs.ImportsFit.{at_address}
use Rattle.w_linked.proofs.Lists.{functions_are, table_types_in, tables_are, memories_are, global_types_in, globals_are, tags_are}
use Rattle.w_linked.proofs.Placings.{Places, aligned}
use Rattle.w_linked.proofs.SoundFunctions.{of_both, among_all, functions_in, mapped_there}

-- what stands at a place that is there
pub some_at : {A : Type 0} (xs : List A) (x : ℕ) → x < length xs → (y : A) × (slice_get xs x ≡ Some y)
some_at [] x h = absurd (omega (arith, h))
some_at (y ∷ ys) zero h = (y, refl)
some_at (y ∷ ys) (suc x) h = some_at ys x (omega (arith, h))

-- ## The lists that imports were matched with are those of the linked module

module _ (ms : List Module) (tests : TypeTests) where
  abbrev d : Definitions
  d = definitions ms

  module _ (ps : List Placed) (h : Places tests d [] (at_first (hosts ms)) ms ps) where
    abbrev L : Module
    L = linked ps

    pub types_same : d.types ≡ L.types
    types_same = aligned tests d (λ n m. _) groups_in (λ i m. refl) h

    pub hosts_same : hosts ms ≡ length (of_placed hosts_in ps)
    hosts_same = ap length (aligned tests d (λ n m. _) hosts_in (λ i m. refl) h)

    pub functions_same : d.functions ≡ functions_of L
    functions_same =
        ap (λ (l : List ℕ). l ++ of_files own_functions 0 ms) (aligned tests d (λ n m. host_types n m m.imports) hosts_in (λ i m. refl) h)
        ∙ ap (λ (l : List ℕ). of_placed hosts_in ps ++ l) (aligned tests d own_functions functions_in (λ i m. refl) h) ∙ sym (functions_are ps)

    pub tables_same : d.tables ≡ tables_of L
    tables_same = aligned tests d (λ n m. _) table_types_in (λ i m. refl) h ∙ sym (tables_are ps)

    pub memories_same : d.memories ≡ memories_of L
    memories_same = aligned tests d (λ n m. _) memories_in (λ i m. refl) h ∙ sym (memories_are ps)

    pub globals_same : d.globals ≡ globals_of L
    globals_same = aligned tests d (λ n m. _) global_types_in (λ i m. refl) h ∙ sym (globals_are ps)

    pub tags_same : d.tags ≡ tags_of L
    tags_same = aligned tests d (λ n m. _) tags_in (λ i m. refl) h ∙ sym (tags_are ps)

    -- the context in which imports were matched
    abbrev matched : Context
    matched = record (context_of L) { types = d.types; functions = d.functions; tables = d.tables; memories = d.memories; globals = d.globals; tags = d.tags }

    matched_is : matched ≡ context_of L
    matched_is =
        ap (λ (x : List RecGroup). let c : Context = record matched { types = x } in c) types_same
        ∙ ap (λ (x : List ℕ). let c : Context = record matched { types = L.types; functions = x } in c) functions_same
        ∙ ap (λ (x : List TableType). let c : Context = record matched { types = L.types; functions = functions_of L; tables = x } in c) tables_same
        ∙ ap (λ (x : List Limits). let c : Context = record (context_of L) { memories = x; globals = d.globals; tags = d.tags } in c) memories_same
        ∙ ap (λ (x : List GlobalType). let c : Context = record (context_of L) { globals = x; tags = d.tags } in c) globals_same
        ∙ ap (λ (x : List Tag). let c : Context = record (context_of L) { tags = x } in c) tags_same

    pub none_before : CountsOf (length (of_placed hosts_in ps)) [] (at_first (hosts ms))
    none_before = record {
      types = sym (ap length subtypes_of-nil);
      printers = refl;
      functions = omega (arith, hosts_same);
      tables = refl;
      memories = refl;
      globals = refl;
      tags = refl;
      elements = refl;
      datas = refl;
    }

    -- each file fits
    module _ (is : AreTestsOf d.types tests) (funcs : KeepsFuncs d.types) (front back : List Placed) (p : Placed) (split : ps ≡ front ++ p ∷ back) where
      pub there : IsAt tests d (length (of_placed hosts_in ps)) front p
      there = is_at tests d (length (of_placed hosts_in ps)) h none_before front back p split

      abbrev i : Instance
      i = instance_of there.before there.addresses p.source

      element_fits : (y : ℕ) (r : RefType) → slice_get (map (λ (e : Elem). e.kind) p.source.elements) y ≡ Some r
          → slice_get (map (λ (e : Elem). e.kind) L.elements) (there.before.elements + y) ≡ Some (ref_shifted there.before.types r)
      element_fits y r e =
          let x = mapped_there (λ (e : Elem). e.kind) p.source.elements y r e in
          let number : p.instance.types ≡ there.before.types = ap (λ (i : Instance). i.types) there.instance_is in
          let own : slice_get (elements_in p.instance p.source) y ≡ Some (resolved_elem p.instance x.0) =
          slice_get-map (resolved_elem p.instance) p.source.elements y ∙ ap (option_map (resolved_elem p.instance)) x.1 in
          slice_get-map (λ (e : Elem). e.kind) L.elements (there.before.elements + y)
          ∙ ap (λ (k : ℕ). option_map (λ (e : Elem). e.kind) (slice_get L.elements (k + y))) there.counts.elements
          ∙ ap (option_map (λ (e : Elem). e.kind)) (among_all elements_in ps front back p y (resolved_elem p.instance x.0) split own)
          ∙ ap (λ (k : ℕ). Some (ref_shifted k x.0.kind)) number
          ∙ ap (λ (q : RefType). Some (ref_shifted there.before.types q)) x.2

      data_fits : (y : ℕ) → y < length p.source.datas → there.before.datas + y < length L.datas
      data_fits y lt =
          let all = ap (λ (l : List Placed). length (of_placed datas_in l)) split ∙ ap length (of_both datas_in front (p ∷ back))
          ∙ length-append (of_placed datas_in front) (of_placed datas_in (p ∷ back)) in
          omega (arith, lt, all, length-append (datas_in p.instance p.source) (of_placed datas_in back), length-map p.source.datas (resolved_data p.instance), there.counts.datas)

      function_there : (x y : ℕ) → slice_get (functions_of p.source) x ≡ Some y
          → function_fits tests d ps front back p split there is funcs types_same functions_same tables_same memories_same globals_same tags_same (at i.functions x) y
      function_there x y e = at_address _ i.functions (functions_of p.source)
          (functions_fit tests d ps front back p split there is funcs types_same functions_same tables_same memories_same globals_same tags_same) x y e

      function_within : (x y : ℕ) → slice_get (functions_of p.source) x ≡ Some y → at i.functions x < length (functions_of L)
      function_within x y e =
          let f = function_there x y e in
          let w = slice_get_within d.functions (at i.functions x) f.value f.is in
          subst (λ (l : List ℕ). at i.functions x < length l) functions_same w

      declared_fits : (x : ℕ) → slice_get (declared_of p.source) x ≡ Some true → slice_get (declared_of L) (at i.functions x) ≡ Some true
      declared_fits x e =
          let flag : true ≡ slice_index_or (declared_of p.source) x false = sym (get_or_from_slice_get (declared_of p.source) x true false e) in
          let named : IsDeclared p.source x = (declared_decided p.source x true flag).0 refl in
          let y = some_at (functions_of p.source) x named.is_there in
          let same_functions : i.functions ≡ p.instance.functions = ap (λ (j : Instance). j.functions) (sym there.instance_is) in
          let within = subst (λ (l : List ℕ). at l x < length (functions_of L)) same_functions (function_within x y.0 y.1) in
          ap (λ (l : List ℕ). slice_get (declared_of L) (at l x)) same_functions ∙ declared_there ps front back p split x within e

      matched_fits : Fits i (context_of p.source) matched
      matched_fits = record {
        types = stands tests d ps front back p split there is funcs types_same functions_same tables_same memories_same globals_same tags_same;
        functions = function_there;
        tables = λ x t e. at_address _ i.tables (tables_of p.source)
            (tables_fit tests d ps front back p split there is funcs types_same functions_same tables_same memories_same globals_same tags_same) x t e;
        memories = λ x lt. let y = some_at (memories_of p.source) x lt in at_address _ i.memories (memories_of p.source)
            (memories_fit tests d ps front back p split there is funcs types_same functions_same tables_same memories_same globals_same tags_same) x y.0 y.1;
        globals = λ x g e. at_address _ i.globals (globals_of p.source)
            (globals_fit tests d ps front back p split there is funcs types_same functions_same tables_same memories_same globals_same tags_same) x g e;
        tags = λ x g e. at_address _ i.tags (tags_of p.source)
            (tags_fit tests d ps front back p split there is funcs types_same functions_same tables_same memories_same globals_same tags_same) x g e;
        elements = element_fits;
        datas = data_fits;
        declared = declared_fits;
        locals = refl;
        results = refl;
        labels = refl;
      }

      pub file_fits : Fits p.instance (context_of p.source) (context_of L)
      file_fits = subst (λ (j : Instance). Fits j (context_of p.source) (context_of L)) (sym there.instance_is)
          (subst (λ (e : Context). Fits i (context_of p.source) e) matched_is matched_fits)
