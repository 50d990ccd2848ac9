-- One file whose imports are all functions of the host: what it makes alone is the file, and its run is the file's.
use Rattle.std.proofs.Common.{◌≡◌, ℕ, Bool, true, false, IsTrue, zero, suc, ◌+◌, List, [], ◌∷◌, ◌++◌, map, flat_map, length, append-nil, Option, Some, None, refl, sym, ap, subst, ◌∙◌, arith}
use Rattle.std.specs.List.{range_with_len}
use Rattle.std.specs.Prelude.{◌↔◌, option_map, slice_index_or}
use Rattle.std.proofs.Math.Path.{fun_ext}
use Rattle.w_types.specs.declared.types.HeapType.{HeapType}
use Rattle.w_types.specs.declared.types.RefType.{RefType}
use Rattle.w_syntax.specs.Code.{Code}
use Rattle.w_syntax.specs.declared.module.Data as syntax_data
use Rattle.w_syntax.specs.declared.module.DataMode.{DataMode}
use Rattle.w_syntax.specs.declared.module.DataMode.TheVariants as data_mode
use Rattle.w_syntax.specs.declared.module.Elem as syntax_elem
use Rattle.w_syntax.specs.declared.module.ElemMode.{ElemMode}
use Rattle.w_syntax.specs.declared.module.ElemMode.TheVariants as elem_mode
use Rattle.w_syntax.specs.declared.module.Export.{Export}
use Rattle.w_syntax.specs.declared.module.ExternIndex.{ExternIndex}
use Rattle.w_syntax.specs.declared.module.ExternIndex.TheVariants as index
use Rattle.w_syntax.specs.declared.module.ExternType.{ExternType}
use Rattle.w_syntax.specs.declared.module.ExternType.TheVariants as imported
use Rattle.w_syntax.specs.declared.module.Func.{Func}
use Rattle.w_syntax.specs.declared.module.GlobalVariable.{GlobalVariable}
use Rattle.w_syntax.specs.declared.module.Import.{Import}
use Rattle.w_syntax.specs.declared.module.Module.{Module}
use Rattle.w_syntax.specs.declared.module.Table as syntax_table
use Rattle.w_syntax.specs.declared.module.Tag.{Tag}
use Rattle.w_canon.specs.Matching.{IndexMatches}
use Rattle.w_tables.specs.declared.entries.Printer.{Printer}
use Rattle.w_reduce.specs.declared.limit.StartLimit.{StartLimit}
use Rattle.w_reduce.specs.Imports.{Found, All as all_hosts, Missing, and_first, printer_of, printers_of}
use Rattle.w_reduce.specs.Program.{Program, IsProgram}
use Rattle.w_reduce.specs.Start as start
use Rattle.w_reduce.specs.Start.{entry, exceeded, allocated, element_started, data_started, in_order, invokes, first_term, starts_of, start_term}
use Rattle.w_reduce.specs.Store.{Store}
use Rattle.w_reduce.specs.Terms.{Term}
use Rattle.w_link.specs.Shifted.{ref_shifted, group_shifted}
use Rattle.w_link.specs.Resolved.{Instance, IsWhole, at, run_shifted, code_resolved}
use Rattle.w_link.proofs.Identity.{each_same, none_before, heap_same, type_same, group_same, run_same, code_same}
use Rattle.w_link.specs.Items.{tag_shifted, resolved_table, resolved_global, resolved_index, resolved_export, resolved_elem_mode, resolved_elem, resolved_data_mode, resolved_data, resolved_func}
use Rattle.w_linked.specs.Definitions.{Definitions, definitions, hosts, host_types}
use Rattle.w_linked.specs.Imports.{TypeTests, Address, function, Placed, of_host, Imported, all as all_found, and_rest, and_next, imports_of}
use Rattle.w_linked.specs.Laws.{AreTestsOf, alone, OneFileStarts, OneFileRuns, OneFileRunsAlone}
use Rattle.w_linked.specs.Linked.{at_first, as_function, as_table, as_memory, as_global, as_tag, instance_of, placed, and_files, placing, host_import, host_imports, and_start, first_of, linked}
use Rattle.w_linked.specs.Starting.{StartedL, Ready, or_next, Copied, copied, and_elements, and_datas, with_copied, with_hosts, within_limits, program_of, with_imports, with_entry, RunL}
use Rattle.w_linked.proofs.ImportsFit.{ImportsFit, no_more, from_host, from_file, imports_fit, host_first}

-- ## What a file is with its own indices is itself

module _ (m : Module) (i : Instance) (w : IsWhole i) (imports : host_imports i.types m m.imports ≡ m.imports) where
  all : {A : Type 0} (f : A → A) → ((x : A) → f x ≡ x) → (xs : List A) → map f xs ++ [] ≡ xs
  all f e xs = append-nil (map f xs) ∙ each_same f e xs

  ref_same : (r : RefType) → ref_shifted i.types r ≡ r
  ref_same r = ap (λ (h : HeapType). record r { heap = h }) (heap_same i.types w.types r.heap)

  tag_same : (t : Tag) → tag_shifted i.types t ≡ t
  tag_same t = ap (λ (x : ℕ). record t { type_index = x }) (omega (arith, w.types))

  init_same : (o : Option Code) → option_map (code_resolved i) o ≡ o
  init_same None = refl
  init_same (Some k) = ap (λ (k : Code). Some k) (code_same i w k)

  table_same : (t : syntax_table.Table) → resolved_table i t ≡ t
  table_same t = rw (ref_same t.kind.element, init_same t.init) refl

  global_same : (g : GlobalVariable) → resolved_global i g ≡ g
  global_same g = rw (type_same i.types w.types g.kind.kind, code_same i w g.init) refl

  index_same : (x : ExternIndex) → resolved_index i x ≡ x
  index_same (index.Func x) = ap index.Func (w.functions x)
  index_same (index.Table x) = ap index.Table (w.tables x)
  index_same (index.Memory x) = ap index.Memory (w.memories x)
  index_same (index.Global x) = ap index.Global (w.globals x)
  index_same (index.Tag x) = ap index.Tag (w.tags x)

  export_same : (e : Export) → resolved_export i e ≡ e
  export_same e = ap (λ (x : ExternIndex). record e { index = x }) (index_same e.index)

  elem_mode_same : (x : ElemMode) → resolved_elem_mode i x ≡ x
  elem_mode_same (elem_mode.Active x k) = rw (w.tables x, code_same i w k) refl
  elem_mode_same elem_mode.Passive = refl
  elem_mode_same elem_mode.Declarative = refl

  elem_same : (e : syntax_elem.Elem) → resolved_elem i e ≡ e
  elem_same e = rw (ref_same e.kind, each_same (code_resolved i) (code_same i w) e.items, elem_mode_same e.mode) refl

  data_mode_same : (x : DataMode) → resolved_data_mode i x ≡ x
  data_mode_same (data_mode.Active x k) = rw (w.memories x, code_same i w k) refl
  data_mode_same data_mode.Passive = refl

  data_same : (d : syntax_data.Data) → resolved_data i d ≡ d
  data_same d = ap (λ (x : DataMode). record d { mode = x }) (data_mode_same d.mode)

  func_code_same : (f : Func) → resolved_func i f ≡ f
  func_code_same f = rw (each_same (run_shifted i.types) (run_same i.types w.types) f.locals, code_same i w f.body) refl

  start_same : (o : Option ℕ) → first_of (and_start o i []) ≡ o
  start_same None = refl
  start_same (Some x) = ap (λ (x : ℕ). Some x) (w.functions x)

  abbrev L : Module
  L = linked (record { source = m; instance = i } ∷ [])

  -- so is all that it makes alone
  pub linked_same : L ≡ m
  linked_same = rw (
    all (group_shifted i.types) (group_same i.types w.types) m.types,
    append-nil (host_imports i.types m m.imports) ∙ imports,
    all (λ (x : ℕ). i.types + x) (λ x. none_before i.types x w.types) m.functions,
    all (resolved_table i) table_same m.tables,
    append-nil m.memories,
    all (tag_shifted i.types) tag_same m.tags,
    all (resolved_global i) global_same m.globals,
    all (resolved_export i) export_same m.exports,
    start_same m.start,
    all (resolved_elem i) elem_same m.elements,
    all (resolved_func i) func_code_same m.codes,
    all (resolved_data i) data_same m.datas,
  ) refl

  -- so is its first term
  pub term_same : (o : Option ℕ) (x : ℕ) → first_term (and_start o i []) (at i.functions x) ≡ first_term (starts_of o) x
  term_same None x = ap (λ (y : ℕ). first_term [] y) (w.functions x)
  term_same (Some a) x = rw (w.functions x, w.functions a) refl

  pub elements_same : map (resolved_elem i) m.elements ≡ m.elements
  elements_same = each_same (resolved_elem i) elem_same m.elements

  pub datas_same : map (resolved_data i) m.datas ≡ m.datas
  datas_same = each_same (resolved_data i) data_same m.datas

-- ## Its indices are its own

range_append : (a b k : ℕ) → range_with_len k a ++ range_with_len (k + a) b ≡ range_with_len k (a + b)
range_append zero b k = ap (λ (z : ℕ). range_with_len z b) (let e : k + 0 ≡ k = omega arith in e) ∙ ap (range_with_len k) (let e : b ≡ 0 + b = omega arith in e)
range_append (suc a) b k =
    ap (λ (z : ℕ). k ∷ (range_with_len (k + 1) a ++ range_with_len z b)) (let e : k + suc a ≡ (k + 1) + a = omega arith in e) ∙ ap (λ (l : List ℕ). k ∷ l) (range_append a b (k + 1))
    ∙ ap (range_with_len k) (let e : suc (a + b) ≡ suc a + b = omega arith in e)

at_range : (n k x : ℕ) → slice_index_or (range_with_len k n) x (k + x) ≡ k + x
at_range zero k x = refl
at_range (suc n) k zero = omega arith
at_range (suc n) k (suc x) =
    let e : k + suc x ≡ (k + 1) + x = omega arith in
    ap (λ (z : ℕ). slice_index_or (range_with_len (k + 1) n) x z) e ∙ at_range n (k + 1) x ∙ sym e

at_zero : (n x : ℕ) → slice_index_or (range_with_len 0 n) x x ≡ x
at_zero n x = subst (λ (z : ℕ). slice_index_or (range_with_len 0 n) x z ≡ z) (let e : 0 + x ≡ x = omega arith in e) (at_range n 0 x)

nothing_before : {A : Type 0} (x : A) (front back : List A) → [] ≡ front ++ x ∷ back → ⊥
nothing_before x [] back e = cc
nothing_before x (y ∷ front) back e = cc

module _ (tests : TypeTests) (d : Definitions) (m : Module) where
  record OnlyHosts (k : ℕ) (is : List Import) (found : List Address) : Type 0 where
    functions : flat_map as_function found ≡ range_with_len k (length (host_types 0 m is))
    tables : flat_map as_table found ≡ []
    memories : flat_map as_memory found ≡ []
    globals : flat_map as_global found ≡ []
    tags : flat_map as_tag found ≡ []
    imports : host_imports 0 m is ≡ is

  only_hosts : {k l : ℕ} {is : List Import} {found : List Address} → ImportsFit tests d [] m 0 k is found l → OnlyHosts k is found
  only_hosts no_more = record { functions = refl; tables = refl; memories = refl; globals = refl; tags = refl; imports = refl }
  only_hosts (from_file none fit from h) = absurd (nothing_before from.file from.front from.back from.is)
  only_hosts (from_host {k = k} {i = i} {is = is} x p kind at_it h) =
      let r = only_hosts h in
      record {
        functions = ap (λ (l : List ℕ). k ∷ l) (r.functions ∙ ap (λ (z : ℕ). range_with_len z (length (host_types 0 m is))) (let e : suc k ≡ k + 1 = omega arith in e))
            ∙ ap (λ (l : List ℕ). range_with_len k (length l)) (sym (host_first tests d [] m 0 i is x p kind at_it));
        tables = r.tables;
        memories = r.memories;
        globals = r.globals;
        tags = r.tags;
        imports = ap (λ (o : Option Printer). host_import 0 i i.kind o ++ host_imports 0 m is) at_it
            ∙ ap (λ (e : ExternType). host_import 0 i e (Some p) ++ host_imports 0 m is) kind
            ∙ ap (λ (z : ℕ). record i { kind = imported.Func z } ∷ host_imports 0 m is) (let e : 0 + x ≡ x = omega arith in e)
            ∙ ap (λ (e : ExternType). record i { kind = e } ∷ host_imports 0 m is) (sym kind) ∙ ap (λ (l : List Import). i ∷ l) r.imports;
      }

  own_at : (found : List ℕ) (n : ℕ) → found ≡ [] → (x : ℕ) → at (found ++ range_with_len 0 n) x ≡ x
  own_at found n e x = ap (λ (l : List ℕ). at (l ++ range_with_len 0 n) x) e ∙ at_zero n x

  is_whole : (h : ℕ) (found : List Address) → h ≡ length (host_types 0 m m.imports) → OnlyHosts 0 m.imports found → IsWhole (instance_of (at_first h) found m)
  is_whole h found e o = record {
    types = refl;
    functions = λ x. ap (λ (l : List ℕ). at (l ++ range_with_len h (length m.functions)) x) (o.functions ∙ ap (range_with_len 0) (sym e))
        ∙ ap (λ (l : List ℕ). at l x) (ap (λ (z : ℕ). range_with_len 0 h ++ range_with_len z (length m.functions)) (let e : h ≡ 0 + h = omega arith in e)
        ∙ range_append h (length m.functions) 0) ∙ at_zero (h + length m.functions) x;
    tables = own_at (flat_map as_table found) (length m.tables) o.tables;
    memories = own_at (flat_map as_memory found) (length m.memories) o.memories;
    globals = own_at (flat_map as_global found) (length m.globals) o.globals;
    tags = own_at (flat_map as_tag found) (length m.tags) o.tags;
    elements = refl;
    datas = refl;
  }

-- all its imports are there
module _ (tests : TypeTests) (d : Definitions) (m : Module) where
  abbrev AllFound : ℕ → List Import → Type 0
  AllFound k is = (found : List Address) × (l : ℕ) × (imports_of tests d [] m 0 k is ≡ all_found found l)

  one_found : (k : ℕ) (i : Import) (is : List Import) (hs : List Printer) → ((hs : List Printer) → printers_of m is ≡ all_hosts hs → AllFound (suc k) is)
      → (o : Option Printer)
      → printer_of m i ≡ o → (r : Found) → printers_of m is ≡ r → and_first o r ≡ all_hosts hs → AllFound k (i ∷ is)
  one_found k i is hs again None at_it r rest e = absurd (cc)
  one_found k i is hs again (Some p) at_it (Missing j) rest e = absurd (cc)
  one_found k i is hs again (Some p) at_it (all_hosts later) rest e =
      let f = again later rest in (
        function k ∷ f.0,
        f.1,
        ap (λ (o : Option Printer). and_next (of_host tests d [] 0 k i o) (λ l. imports_of tests d [] m 0 l is)) at_it ∙ ap (and_rest (function k)) f.2,
      )

  all_hosts_found : (k : ℕ) (is : List Import) (hs : List Printer) → printers_of m is ≡ all_hosts hs → AllFound k is
  all_hosts_found k [] hs e = ([], k, refl)
  all_hosts_found k (i ∷ is) hs e = one_found k i is hs (λ later rest. all_hosts_found (suc k) is later rest) (printer_of m i) refl (printers_of m is) refl e

-- ## Its start

module _ (tests : TypeTests) (m : Module) (hs : List Printer) (all_are : printers_of m m.imports ≡ all_hosts hs) where
  abbrev M : Program
  M = program_of tests m

  abbrev h : ℕ
  h = hosts (m ∷ [])

  module _ (x : ℕ) (found : List Address) (w : IsWhole (instance_of (at_first h) found m)) (imports : host_imports 0 m m.imports ≡ m.imports) where
    abbrev i : Instance
    i = instance_of (at_first h) found m

    abbrev q : Placed
    q = record { source = m; instance = i }

    after_datas : (o : Option Store) → with_copied M (q ∷ []) x (and_datas 0 o (λ u. copied u)) ≡ alone M (start.with_datas M x o)
    after_datas None = refl
    after_datas (Some u) = ap (Ready M u) (term_same m i w imports m.start x)

    after_elements : (o : Option Store)
        → with_copied M (q ∷ []) x (and_elements 0 o (λ r. and_datas 0 (in_order (λ s y (d : syntax_data.Data). data_started M s y d.mode) (Some r) 0 m.datas) (λ u. copied u)))
        ≡ alone M (start.with_elements_in M x o)
    after_elements None = refl
    after_elements (Some r) = after_datas (in_order (λ s y (d : syntax_data.Data). data_started M s y d.mode) (Some r) 0 m.datas)

    abbrev in_lists : List syntax_elem.Elem → List syntax_data.Data → Copied
    in_lists es ds =
        and_elements 0 (in_order (λ s y (e : syntax_elem.Elem). element_started M s y e.mode) (Some (allocated M hs)) 0 es)
        (λ r. and_datas 0 (in_order (λ s y (d : syntax_data.Data). data_started M s y d.mode) (Some r) 0 ds) (λ u. copied u))

    -- its segments are copied
    after_limits : with_hosts (program_of tests (linked (q ∷ []))) (q ∷ []) x (printers_of (linked (q ∷ [])) (linked (q ∷ [])).imports) ≡ alone M (start.within_limits M hs x None)
    after_limits =
        ap (λ (n : Module). with_hosts (program_of tests n) (q ∷ []) x (printers_of n n.imports)) (linked_same m i w imports)
        ∙ ap (with_hosts M (q ∷ []) x) all_are
        ∙ ap (λ (es : List syntax_elem.Elem). with_copied M (q ∷ []) x (in_lists es (map (resolved_data i) m.datas))) (elements_same m i w imports)
        ∙ ap (λ (ds : List syntax_data.Data). with_copied M (q ∷ []) x (in_lists m.elements ds)) (datas_same m i w imports)
        ∙ after_elements (in_order (λ s y (e : syntax_elem.Elem). element_started M s y e.mode) (Some (allocated M hs)) 0 m.elements)

    having_limits : (o : Option StartLimit) → within_limits (program_of tests (linked (q ∷ []))) (q ∷ []) x (or_next 0 o None) ≡ alone M (start.within_limits M hs x o)
    having_limits None = after_limits
    having_limits (Some l) = refl

  -- its imports are found
  having_imports : (x : ℕ)
      → with_imports tests (m ∷ []) x (placing tests (definitions (m ∷ [])) [] (at_first h) (m ∷ [])) ≡ alone M (start.within_limits M hs x (exceeded m))
  having_imports x =
      let d = definitions (m ∷ []) in
      let f = all_hosts_found tests d m 0 m.imports hs all_are in
      let o = only_hosts tests d m (imports_fit tests d [] m 0 0 m.imports f.0 f.1 f.2) in
      let count : h ≡ length (host_types 0 m m.imports) = ap length (append-nil (host_types 0 m m.imports)) in
      ap (λ (r : Imported). with_imports tests (m ∷ []) x (and_files 0 (at_first h) m r (λ c p. placed ([] ++ p ∷ [])))) f.2
      ∙ having_limits x f.0 (is_whole tests d m h f.0 count o) o.imports (exceeded m)

  having_entry : (o : Option ℕ) → with_entry tests (m ∷ []) o ≡ alone M (start.with_entry M hs o)
  having_entry None = refl
  having_entry (Some x) = having_imports x

-- one file starts as it does by itself
pub one_file_starts : OneFileStarts
one_file_starts tests m hs all_are =
    having_entry tests m hs all_are (entry m) ∙ ap (λ (f : Found). alone (program_of tests m) (start.with_imports (program_of tests m) f)) (sym all_are)

ready_alone : (m p : Program) (o : start.Started) (s : Store) (t : Term) → alone m o ≡ Ready p s t → (m ≡ p) × (o ≡ start.Ready s t)
ready_alone m p (start.Ready u v) s t e =
    let a : u ≡ s = cc in
    let b : v ≡ t = cc in
    (cc, ap (λ (z : Store). start.Ready z v) a ∙ ap (start.Ready s) b)
ready_alone m p (start.NoPrinter i) s t e = absurd (cc)
ready_alone m p start.NoEntry s t e = absurd (cc)
ready_alone m p (start.Exceeds l) s t e = absurd (cc)
ready_alone m p (start.StartTraps r) s t e = absurd (cc)

-- its run is the file's
pub one_file_runs : OneFileRuns
one_file_runs tests m hs p s t tells valid all_are e =
    let r = ready_alone (program_of tests m) p (start.Start (program_of tests m)) s t (sym (one_file_starts tests m hs all_are) ∙ e) in
    (sym (ap (λ (z : Program). z.source) r.0), subst (λ (z : Program). start.Start z ≡ start.Ready s t) r.0 r.1)

-- tests of one fact agree
agree : (P : Type 0) (a b : Bool) → IsTrue a ↔ P → IsTrue b ↔ P → a ≡ b
agree P true true h k = refl
agree P true false h k = absurd (let e = k.1 (h.0 refl) in cc)
agree P false true h k = absurd (let e = h.1 (k.0 refl) in cc)
agree P false false h k = refl

-- a program knows of its types what the tests tell
one_program : (tests : TypeTests) (p : Program) → AreTestsOf p.source.types tests → IsProgram p → program_of tests p.source ≡ p
one_program tests p tells is =
    ap (λ (f : ℕ → ℕ → Bool). let q : Program = record { source = p.source; matches = f } in q)
    (fun_ext (λ i. fun_ext (λ j. agree (IndexMatches p.source.types i j) (tests.matches i j) (p.matches i j) (tells.matches i j) (is i j))))

-- so `RunL` of one file is its `Run`
pub one_file_runs_alone : OneFileRunsAlone
one_file_runs_alone tests p hs s t tells is all_are e n =
    let q = program_of tests p.source in
    let same : q ≡ p = one_program tests p tells is in
    ap (λ (o : StartedL). RunL o n) (one_file_starts tests p.source hs all_are)
    ∙ ap (λ (z : Program). RunL (alone z (start.Start z)) n) same
    ∙ ap (λ (o : start.Started). RunL (alone p o) n) e
