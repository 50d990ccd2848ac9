-- The first store, before segments are put anywhere, is of the module's types.
use Rattle.std.proofs.Common.{◌≡◌, ℕ, inl, ◌<◌, List, [], ◌∷◌, ◌++◌, length, map, take, length-append, append_assoc, append-nil, Option, Some, None, slice_get, refl, ap, sym, subst, subst₂, ◌∙◌, All, arith}
use Rattle.std.proofs.lemmas.List.{map-append}
use Rattle.std.proofs.lemmas.List.Elements.{All-head, All-tail}
use Rattle.std.proofs.lemmas.Option.{slice_get_within}
use Rattle.w_types.specs.declared.types.RefType.{RefType}
use Rattle.w_types.specs.declared.types.ValType.{ValType}
use Rattle.w_types.specs.declared.types.ValType.TheVariants.{Ref}
use Rattle.w_syntax.specs.Code.{Code}
use Rattle.w_syntax.specs.declared.module.Data.{Data}
use Rattle.w_syntax.specs.declared.module.Elem.{Elem}
use Rattle.w_syntax.specs.declared.module.GlobalType.{GlobalType}
use Rattle.w_syntax.specs.declared.module.GlobalVariable.{GlobalVariable}
use Rattle.w_syntax.specs.declared.module.Limits.{Limits}
use Rattle.w_syntax.specs.declared.module.Module.{Module}
use Rattle.w_syntax.specs.declared.module.Table as syntax_table
use Rattle.w_syntax.specs.declared.module.TableType.{TableType}
use Rattle.w_syntax.specs.declared.module.Tag.{Tag}
use Rattle.w_memory.specs.Memory.{Memory, fresh}
use Rattle.w_canon.specs.Supertypes.{KeepsKinds}
use Rattle.w_rules.specs.Bodies.{ConstTyped}
use Rattle.w_rules.specs.Sound.{Sound}
use Rattle.w_rules.specs.Spaces.{as_global, imports_by, context_of, globals_of, globals_below}
use Rattle.w_rules.specs.Valid.{GlobalItem, TableItem, ElementItem, most_elements, most_pages, AreLimitsValid, GlobalValid, TableValid, ElementValid, IsInitValid}
use Rattle.w_tables.specs.declared.entries.Printer.{Printer}
use Rattle.w_reduce.specs.Values.{Val}
use Rattle.w_reduce.specs.Store.{Store}
use Rattle.w_reduce.specs.Terms.{Continuation}
use Rattle.w_reduce.specs.Program.{Program}
use Rattle.w_reduce.specs.Constants.{value_of}
use Rattle.w_reduce.specs.Start.{bare, with_globals, filling, table_of, with_tables, allocated, exceeded}
use Rattle.w_typed.specs.Values.{ValueTyped, a_null, AllTyped}
use Rattle.w_typed.specs.Ranges.{ConstantsFit, InitFits, NumbersFit}
use Rattle.w_typed.specs.Stores.{Instances, no_instance, instances, TableTyped, MemoryTyped, GlobalTyped, SegmentTyped, DataTyped, ContTyped, StoreTyped}
use Rattle.w_typed.proofs.KeptComposites.{keeps_kinds}
use Rattle.w_typed.proofs.ConstantValues.{knowing, Holding, value_typed}
use Rattle.w_typed.proofs.ManyInstances.{seam, instances_beside, instances_made, instances_of}
use Rattle.w_typed.proofs.Pages.{fresh_typed}
use Rattle.w_typed.proofs.Places.{all_there}
use Rattle.w_typed.proofs.SizedTables.{first_table}
use Rattle.w_typed.proofs.StartLimits.{first_pages, first_elements}
use Rattle.w_typed.proofs.HostFunctions.{Imported, functions_typed}

-- ## Globals

-- their types
abbrev kinds : List GlobalVariable → List GlobalType
kinds gs = map (λ (g : GlobalVariable). g.kind) gs

-- what is imported, and these
abbrev before : Module → List GlobalVariable → List GlobalType
before m done = imports_by as_global m ++ kinds done

-- those that stand in front
front_kinds : (done rest : List GlobalVariable) → take (length done) (kinds (done ++ rest)) ≡ kinds done
front_kinds [] rest = refl
front_kinds (g ∷ done) rest = ap (λ (l : List GlobalType). g.kind ∷ l) (front_kinds done rest)

-- one more
one_kind_more : (m : Module) (done : List GlobalVariable) (g : GlobalVariable) → before m done ++ g.kind ∷ [] ≡ before m (done ++ g ∷ [])
one_kind_more m done g =
    append_assoc (imports_by as_global m) (kinds done) (g.kind ∷ [])
    ∙ ap (λ (l : List GlobalType). imports_by as_global m ++ l) (sym (map-append (λ (g : GlobalVariable). g.kind) done (g ∷ [])))

module _ (p : Program) (valid : Sound p.source) where
  keeps : KeepsKinds p.source.types
  keeps = keeps_kinds p.source valid

  -- where a store has the globals in front of one, the value of this one is of its type
  global_valued : (s : Store) (done : List GlobalVariable) (g : GlobalVariable) (rest : List GlobalVariable) → p.source.globals ≡ done ++ g ∷ rest
      → Holding p.source [] (before p.source done) s → ValueTyped p.source [] (value_of p s g.init) g.kind.kind
  global_valued s done g rest e u =
      let within : length done < length p.source.globals = omega (arith, ap length e, length-append done (g ∷ rest)) in
      let v : GlobalValid p.source (length done) = valid.items (GlobalItem (length done)) refl within in
      let here = ap (λ (l : List GlobalVariable). slice_get l (length done)) e ∙ seam done g rest in
      let same : v.global ≡ g = let a = v.is in cc in
      let below = knowing p.source (globals_below p.source (length done)) in
      let typed = subst (λ (x : GlobalVariable). ConstTyped below x.init x.kind.kind) same v.init in
      let few : globals_below p.source (length done) ≡ before p.source done =
      ap (λ (l : List GlobalVariable). imports_by as_global p.source ++ take (length done) (kinds l)) e
      ∙ ap (λ (l : List GlobalType). imports_by as_global p.source ++ l) (front_kinds done (g ∷ rest)) in
      value_typed p keeps (before p.source done) s u g.init g.kind.kind
      (λ n. all_there (λ (x : GlobalVariable). ConstantsFit x.init) p.source.globals (length done) g n.globals here)
      (subst (λ (l : List GlobalType). ConstTyped (knowing p.source l) g.init g.kind.kind) few typed)

  -- with the globals that are left, a store has all
  globals_valued : (rest done : List GlobalVariable) (s : Store) → p.source.globals ≡ done ++ rest → Holding p.source [] (before p.source done) s
      → Holding p.source [] (globals_of p.source) (with_globals p s rest)
  globals_valued [] done s e u =
      let same : before p.source done ≡ globals_of p.source = ap (before p.source) (sym (append-nil done) ∙ sym e) in
      subst (λ (l : List GlobalType). Holding p.source [] l s) same u
  globals_valued (g ∷ rest) done s e u =
      let last : GlobalTyped p.source [] (value_of p s g.init) g.kind = global_valued s done g rest e u in
      let values : List Val = s.globals ++ value_of p s g.init ∷ [] in
      globals_valued rest (done ++ g ∷ []) (record s { globals = values }) (e ∙ sym (append_assoc done (g ∷ []) rest)) (record {
        functions = u.functions;
        globals = subst (λ (l : List GlobalType). Instances (GlobalTyped p.source []) values l) (one_kind_more p.source done g)
            (instances_beside u.globals (instances last no_instance));
      })

  -- ## Tables and element segments

  filled_typed : (s : Store) (r : RefType) (init : Option Code) → Holding p.source [] (globals_of p.source) s → (NumbersFit p.source → InitFits init)
      → IsInitValid p.source r init → ValueTyped p.source [] (filling p s init) (Ref r)
  filled_typed s r None u fits h = a_null h
  filled_typed s r (Some k) u fits h = value_typed p keeps (globals_of p.source) s u k (Ref r) fits h

  tables_made : (s : Store) → exceeded p.source ≡ None → Holding p.source [] (globals_of p.source) s
      → Instances (TableTyped p.source []) (map (table_of p s) p.source.tables) (map (λ (t : syntax_table.Table). t.kind) p.source.tables)
  tables_made s none u = instances_made (table_of p s) (λ (t : syntax_table.Table). t.kind) p.source.tables (λ i t is.
      let v : TableValid p.source i = valid.items (TableItem i) refl (slice_get_within p.source.tables i t is) in
      let same : v.table ≡ t = let a = v.is in cc in
      let init = subst (λ (x : syntax_table.Table). IsInitValid p.source x.kind.element x.init) same v.init in
      let limits = subst (λ (x : syntax_table.Table). AreLimitsValid most_elements x.kind.limits) same v.valid.limits in
      let few = first_elements p.source none most_elements i t is limits.max in
      let fits = λ (n : NumbersFit p.source). all_there (λ (x : syntax_table.Table). InitFits x.init) p.source.tables i t n.tables is in
      first_table p.source [] t.kind (filling p s t.init) few (filled_typed s t.kind.element t.init u fits init))

  items_typed : (s : Store) (t : ValType) (ks : List Code) → Holding p.source [] (globals_of p.source) s → (NumbersFit p.source → All ConstantsFit ks)
      → All (λ (k : Code). ConstTyped (context_of p.source) k t) ks → AllTyped p.source [] t (map (value_of p s) ks)
  items_typed s t [] u fits h = tt
  items_typed s t (k ∷ ks) u fits h =
      let P : Code → Type 0 = λ k. ConstTyped (context_of p.source) k t in (
        value_typed p keeps (globals_of p.source) s u k t (λ n. All-head ConstantsFit k ks (fits n)) (All-head P k ks h),
        items_typed s t ks u (λ n. All-tail ConstantsFit k ks (fits n)) (All-tail P k ks h),
      )

  segments_made : (s : Store) → Holding p.source [] (globals_of p.source) s
      → Instances (SegmentTyped p.source []) (map (λ (e : Elem). map (value_of p s) e.items) p.source.elements)
      (map (λ (e : Elem). e.kind) p.source.elements)
  segments_made s u = instances_made (λ (e : Elem). map (value_of p s) e.items) (λ (e : Elem). e.kind) p.source.elements (λ i e is.
      let v : ElementValid p.source i = valid.items (ElementItem i) refl (slice_get_within p.source.elements i e is) in
      let same : v.element ≡ e = let a = v.is in cc in
      let items = subst (λ (x : Elem). All (λ (k : Code). ConstTyped (context_of p.source) k (Ref x.kind)) x.items) same v.items in
      let fits = λ (n : NumbersFit p.source). all_there (λ (x : Elem). All ConstantsFit x.items) p.source.elements i e n.elements is in
      items_typed s (Ref e.kind) e.items u fits items)

  -- ## Memories and data segments

  memories_made : exceeded p.source ≡ None → Instances (MemoryTyped p.source) (map (λ (l : Limits). fresh l.min l.max) p.source.memories) p.source.memories
  memories_made none = instances_of (λ (l : Limits). fresh l.min l.max) p.source.memories (λ i l is.
      let v : AreLimitsValid most_pages l = all_there (AreLimitsValid most_pages) p.source.memories i l valid.memories is in
      fresh_typed p.source l (first_pages p.source none most_pages i l is v.max))

  datas_made : Instances DataTyped (map (λ (d : Data). d.bytes) p.source.datas) p.source.datas
  datas_made = instances_of (λ (d : Data). d.bytes) p.source.datas (λ i d is. inl refl)

  -- ## All of it

  -- globals leave memories, tags and data segments as they are
  memories_kept : (s : Store) (gs : List GlobalVariable) → (with_globals p s gs).memories ≡ s.memories
  memories_kept s [] = refl
  memories_kept s (g ∷ gs) = memories_kept (record s { globals = s.globals ++ value_of p s g.init ∷ [] }) gs

  tags_kept : (s : Store) (gs : List GlobalVariable) → (with_globals p s gs).tags ≡ s.tags
  tags_kept s [] = refl
  tags_kept s (g ∷ gs) = tags_kept (record s { globals = s.globals ++ value_of p s g.init ∷ [] }) gs

  datas_kept : (s : Store) (gs : List GlobalVariable) → (with_globals p s gs).datas ≡ s.datas
  datas_kept s [] = refl
  datas_kept s (g ∷ gs) = datas_kept (record s { globals = s.globals ++ value_of p s g.init ∷ [] }) gs

  -- nor do they make a continuation
  conts_kept : (s : Store) (gs : List GlobalVariable) → (with_globals p s gs).conts ≡ s.conts
  conts_kept s [] = refl
  conts_kept s (g ∷ gs) = conts_kept (record s { globals = s.globals ++ value_of p s g.init ∷ [] }) gs

  -- the first store of a module whose imports are all functions of the host's, and which passes no limit
  pub allocated_typed : (ps : List Printer) → Imported p.source p.source.imports ps → exceeded p.source ≡ None → StoreTyped p.source [] (allocated p ps)
  allocated_typed ps h within =
      let none : before p.source [] ≡ [] = append-nil (imports_by as_global p.source) ∙ h.globals in
      let first : Holding p.source [] (before p.source []) (bare p.source ps) = record {
        functions = functions_typed p.source ps h;
        globals = subst (λ (l : List GlobalType). Instances (GlobalTyped p.source []) [] l) (sym none) no_instance;
      } in
      let all = globals_valued p.source.globals [] (bare p.source ps) refl first in
      let s : Store = with_globals p (bare p.source ps) p.source.globals in
      let tables = map (table_of p s) p.source.tables in
      let table_kinds = map (λ (t : syntax_table.Table). t.kind) p.source.tables in
      record {
        functions = all.functions;
        tables = subst (λ (l : List TableType). Instances (TableTyped p.source []) tables (l ++ table_kinds)) (sym h.tables) (tables_made s within all);
        memories = subst₂ (λ (ms : List Memory) (l : List Limits). Instances (MemoryTyped p.source) ms (l ++ p.source.memories))
            (sym (memories_kept (bare p.source ps) p.source.globals)) (sym h.memories) (memories_made within);
        globals = all.globals;
        tags = tags_kept (bare p.source ps) p.source.globals
            ∙ ap (λ (l : List Tag). map (λ (t : Tag). t.type_index) (l ++ p.source.tags)) (sym h.tags);
        elements = segments_made (with_tables p s) (record { functions = all.functions; globals = all.globals });
        datas = subst (λ (bs : List (List ℕ)). Instances DataTyped bs p.source.datas) (sym (datas_kept (bare p.source ps) p.source.globals)) datas_made;
        conts = subst (λ (ks : List (Option Continuation)). Instances (ContTyped p.source []) ks []) (sym (conts_kept (bare p.source ps) p.source.globals)) no_instance;
      }
