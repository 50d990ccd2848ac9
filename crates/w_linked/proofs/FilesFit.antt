-- The indices of each file stand for addresses of the linked module where what is there fits.
use Rattle.std.specs.List.{range_with_len}
use Rattle.std.proofs.Common.{◌≡◌, ◌<◌, ◌+◌, ℕ, Bool, true, ◌&&◌, List, [], ◌∷◌, ◌++◌, map, length, Option, Some, None, slice_get, refl, sym, ap, subst, subst₂, ◌∙◌, arith}
use Rattle.std.specs.Prelude.{option_map}
use Rattle.std.proofs.lemmas.List.{length-append, length-map}
use Rattle.std.proofs.lemmas.Option.{slice_get-map, slice_get_within}
use Rattle.lists.proofs.Lists.{get-front, get-behind}
use Rattle.lists.proofs.Tests.{each_of}
use Rattle.w_types.specs.declared.types.CompType.{CompType}
use Rattle.w_types.specs.declared.types.CompType.TheVariants as comp
use Rattle.w_types.specs.declared.types.FuncType.{FuncType}
use Rattle.w_types.specs.declared.types.HeapType.TheVariants.{Index}
use Rattle.w_types.specs.declared.types.RecGroup.{RecGroup}
use Rattle.w_types.specs.declared.types.RefType.{RefType}
use Rattle.w_types.specs.declared.types.ValType.{ValType}
use Rattle.w_types.specs.declared.types.ValType.TheVariants as val
use Rattle.w_types.specs.Groups.{types_of}
use Rattle.w_syntax.specs.Functions.{function_type}
use Rattle.w_syntax.specs.declared.module.ExternType.{ExternType}
use Rattle.w_syntax.specs.declared.module.ExternType.TheVariants as imported
use Rattle.w_syntax.specs.declared.module.GlobalType.{GlobalType}
use Rattle.w_syntax.specs.declared.module.GlobalVariable.{GlobalVariable}
use Rattle.w_syntax.specs.declared.module.Limits.{Limits}
use Rattle.w_syntax.specs.declared.module.Module.{Module}
use Rattle.w_syntax.specs.declared.module.Mutability.{Mutability}
use Rattle.w_syntax.specs.declared.module.Mutability.TheVariants as mutability
use Rattle.w_syntax.specs.declared.module.Table.{Table}
use Rattle.w_syntax.specs.declared.module.TableType.{TableType}
use Rattle.w_syntax.specs.declared.module.Tag.{Tag}
use Rattle.w_canon.specs.Equality.{RefEqual, ValEqual, ResultEqual}
use Rattle.w_canon.specs.Equality as equality
use Rattle.w_canon.specs.Equivalence.{SameIndex}
use Rattle.w_canon.specs.Matching.{IndexMatches, HeapMatches, ValMatches, FuncMatches}
use Rattle.w_canon.specs.Matching as matching
use Rattle.w_canon.proofs.EqualTypes.{val_equal_refl, result_equal_refl}
use Rattle.w_canon.proofs.Preorder.{heap_refl, val_refl, func_refl}
use Rattle.w_canon.specs.Classed.{count}
use Rattle.w_rules.specs.Spaces.{as_function, as_table, as_memory, as_global, as_tag, functions_of, tables_of, memories_of, globals_of, tags_of}
use Rattle.w_typed.specs.Stores.{Instances}
use Rattle.w_typed.proofs.ManyInstances.{instances_beside}
use Rattle.w_link.specs.Shifted.{ref_shifted, type_shifted, types_shifted, func_shifted, group_shifted, among}
use Rattle.w_link.specs.Resolved.{Instance}
use Rattle.w_link.specs.Fits.{There, Stands, func_in, FunctionFits, KindFits, GlobalFits, TagFits}
use Rattle.w_link.proofs.ShiftedTypes.{stand_among}
use Rattle.w_link.proofs.ShiftedMatching.{composite_there}
use Rattle.w_link.specs.Items.{table_type_shifted, global_type_shifted, tag_shifted}
use Rattle.w_linked.specs.Definitions.{Definitions, host_types}
use Rattle.w_linked.specs.Imports.{TypeTests, Address, function, table, memory, global, tag, Placed, holds_of, limits_fit, ref_equals, kind_fits, fits}
use Rattle.w_linked.specs.Laws.{AreTestsOf}
use Rattle.w_linked.specs.Linked.{Before, instance_of, as_function as function_address, as_table as table_address, as_memory as memory_address, as_global as global_address, as_tag as tag_address, of_placed, linked}
use Rattle.w_linked.proofs.Counting.{groups_in, hosts_in, tables_in, memories_in, globals_in, tags_in, IsAt}
use Rattle.w_linked.proofs.ImportsFit.{ExportOf, Alike, neither, one, imported_instances, own_instances}
use Rattle.w_linked.proofs.Lists.{functions_are, table_types_in, tables_are, memories_are, global_types_in, globals_are, tags_are}
use Rattle.w_linked.proofs.SoundFunctions.{of_both, among_all, functions_in}
use Rattle.w_linked.proofs.Told.{type_told, ref_equal_told, type_equal_told}

-- what a test that holds finds
holds_told : {A : Type 0} (o : Option A) (f : A → Bool) → holds_of o f ≡ true → There o (λ (a : A). f a ≡ true)
holds_told None f e = absurd (cc)
holds_told (Some a) f e = record { value = a; is = refl; holds = e }

-- lists of one length in each file are of one length in all
one_length : {A B : Type 0} (f : Instance → Module → List A) (g : Instance → Module → List B)
    → ((i : Instance) (m : Module) → length (f i m) ≡ length (g i m)) → (ps : List Placed)
    → length (of_placed f ps) ≡ length (of_placed g ps)
one_length f g e [] = refl
one_length f g e (p ∷ ps) = omega (
  arith,
  length-append (f p.instance p.source) (of_placed f ps),
  length-append (g p.instance p.source) (of_placed g ps),
  e p.instance p.source,
  one_length f g e ps,
)

-- ## Function types

-- equivalent types are of funcs function types
pub record SameFunc (gs : List RecGroup) (x : ℕ) (f : FuncType) : Type 0 where
  pub type : FuncType
  pub is : func_in gs x ≡ Some type
  pub params : ResultEqual gs type.params f.params
  pub results : ResultEqual gs type.results f.results

pub record KeepsFuncs (gs : List RecGroup) : Type 0 where
  pub same : (x y : ℕ) → SameIndex gs x y → (f : FuncType) → func_in gs y ≡ Some f → SameFunc gs x f
  -- one that matches is of a function type that matches
  pub below : (x y : ℕ) → IndexMatches gs x y → (f : FuncType) → func_in gs y ≡ Some f → There (func_in gs x) (λ (g : FuncType). FuncMatches gs g f)

module _ (n : ℕ) (gs hs : List RecGroup) (stand : Stands n gs hs) (funcs : KeepsFuncs hs) where
  func_by : (x : ℕ) (o : Option CompType) (t : FuncType) → slice_get (types_of gs) x ≡ o → function_type o ≡ Some t → func_in hs (n + x) ≡ Some (func_shifted n t)
  func_by x None t is h = absurd (cc)
  func_by x (Some (comp.Func f)) t is h = let e : f ≡ t = cc in ap function_type (composite_there n gs hs stand x (comp.Func f) is) ∙ ap (λ (g : FuncType). Some (func_shifted n g)) e
  func_by x (Some (comp.Cont y)) t is h = absurd (cc)

  func_there : (x : ℕ) (t : FuncType) → func_in gs x ≡ Some t → func_in hs (n + x) ≡ Some (func_shifted n t)
  func_there x t h = func_by x (slice_get (types_of gs) x) t refl h

  -- the type itself fits
  own_function : (x : ℕ) → FunctionFits n gs hs x (n + x)
  own_function x = record {
    matches = heap_refl hs (Index (n + x));
    type = λ t h. record { value = func_shifted n t; is = func_there x t h; holds = func_refl hs (func_shifted n t) };
  }

  -- and so does one that matches
  matching_function : (y z : ℕ) → IndexMatches hs z (n + y) → FunctionFits n gs hs y z
  matching_function y z h = record {
    matches = matching.HeapMatches.index h;
    type = λ t is. funcs.below z (n + y) h (func_shifted n t) (func_there y t is);
  }

  own_tag : (g : Tag) → TagFits n gs hs g (tag_shifted n g)
  own_tag g = record {
    type = λ t h. record {
      value = func_shifted n t;
      is = func_there g.type_index t h;
      holds = record { params = result_equal_refl hs (types_shifted n t.params); results = result_equal_refl hs (types_shifted n t.results) };
    };
  }

  equal_tag : (g h : Tag) → SameIndex hs h.type_index (n + g.type_index) → TagFits n gs hs g h
  equal_tag g h s = record {
    type = λ t is.
        let q = funcs.same h.type_index (n + g.type_index) s (func_shifted n t) (func_there g.type_index t is) in
        record { value = q.type; is = q.is; holds = record { params = q.params; results = q.results } };
  }

  own_kind : (m : Mutability) (t : ValType) → KindFits hs m (type_shifted n t) (type_shifted n t)
  own_kind mutability.Const t = val_refl hs (type_shifted n t)
  own_kind mutability.Var t = val_equal_refl hs (type_shifted n t)

  own_global : (g : GlobalType) → GlobalFits n hs g (global_type_shifted n g)
  own_global g = record { mutability = refl; kind = own_kind g.mutability g.kind }

  ref_part : {r q : RefType} → ValEqual hs (val.Ref r) (val.Ref q) → RefEqual hs r q
  ref_part (equality.ValEqual.ref h) = h

  own_table : (t : TableType) → RefEqual hs (ref_shifted n t.element) (ref_shifted n t.element)
  own_table t = ref_part (val_equal_refl hs (val.Ref (ref_shifted n t.element)))

-- ## A global that was imported

module _ (gs : List RecGroup) (tests : TypeTests) (is : AreTestsOf gs tests) where
  kind_told : (m k : Mutability) (wanted t : ValType) → kind_fits tests (types_of gs) m k wanted t ≡ true → (k ≡ m) × KindFits gs m wanted t
  kind_told mutability.Const mutability.Const wanted t e = (refl, type_told gs tests is t wanted e)
  kind_told mutability.Var mutability.Var wanted t e = (refl, type_equal_told gs tests is t wanted e)
  kind_told _ _ wanted t e = absurd (cc)

-- ## The fields

-- file p of these, which stands behind `front`; what files define is what the linked module has
module _ (tests : TypeTests) (d : Definitions) (ps front back : List Placed) (p : Placed) (split : ps ≡ front ++ p ∷ back)
    (stands_at : IsAt tests d (length (of_placed hosts_in ps)) front p) (is : AreTestsOf d.types tests) (funcs : KeepsFuncs d.types)
    (types_same : d.types ≡ (linked ps).types) (functions_same : d.functions ≡ functions_of (linked ps)) (tables_same : d.tables ≡ tables_of (linked ps))
    (memories_same : d.memories ≡ memories_of (linked ps)) (globals_same : d.globals ≡ globals_of (linked ps)) (tags_same : d.tags ≡ tags_of (linked ps)) where
  abbrev m : Module
  m = p.source

  abbrev before : Before
  before = stands_at.before

  abbrev n : ℕ
  n = before.types

  -- types
  pub stands : Stands n m.types d.types
  stands =
      let front_groups = of_placed groups_in front in
      let all_groups : of_placed groups_in ps ≡ front_groups ++ (groups_in p.instance m ++ of_placed groups_in back) =
      ap (of_placed groups_in) split ∙ of_both groups_in front (p ∷ back) in
      let types_are : p.instance.types ≡ count front_groups = ap (λ (i : Instance). i.types) stands_at.instance_is ∙ stands_at.counts.types in
      let groups_are : d.types ≡ among front_groups m.types (of_placed groups_in back) =
      types_same ∙ all_groups ∙ ap (λ (k : ℕ). front_groups ++ (map (group_shifted k) m.types ++ of_placed groups_in back)) types_are in
      subst₂ (λ (k : ℕ) (l : List RecGroup). Stands k m.types l) (sym stands_at.counts.types) (sym groups_are) (stand_among front_groups m.types (of_placed groups_in back))

  type_number : p.instance.types ≡ n
  type_number = ap (λ (i : Instance). i.types) stands_at.instance_is

  -- ## Functions

  -- what stands at an address fits a function of this type
  abbrev pub function_fits : ℕ → ℕ → Type 0
  function_fits a y = There (slice_get d.functions a) (FunctionFits n m.types d.types y)

  -- the functions of the host that the file names stand behind those of the files before
  pub hosts_there : (j z : ℕ) → slice_get (host_types n m m.imports) j ≡ Some z → slice_get d.functions (before.printers + j) ≡ Some z
  hosts_there j z e =
      let all = of_placed hosts_in ps in
      let own : slice_get (hosts_in p.instance m) j ≡ Some z = ap (λ (k : ℕ). slice_get (host_types k m m.imports) j) type_number ∙ e in
      let there = among_all hosts_in ps front back p j z split own in
      ap (λ (l : List ℕ). slice_get l (before.printers + j)) (functions_same ∙ functions_are ps)
      ∙ ap (λ (k : ℕ). slice_get (all ++ of_placed functions_in ps) (k + j)) stands_at.counts.printers
      ∙ get-front all (of_placed functions_in ps) (length (of_placed hosts_in front) + j) (slice_get_within all (length (of_placed hosts_in front) + j) z there)
      ∙ there

  function_of_host : (x k : ℕ) → slice_get d.functions k ≡ Some (n + x) → Alike tests d front m n as_function function_address function_fits (k ∷ []) (x ∷ [])
  function_of_host x k e = one (record { value = n + x; is = e; holds = own_function n m.types d.types stands funcs x })

  function_of_file : (e : ExternType) (a : Address) → fits tests d n e a ≡ true → ExportOf front a
      → Alike tests d front m n as_function function_address function_fits (function_address a) (as_function e)
  function_of_file (imported.Func x) (function a) fit from =
      let h = holds_told (slice_get d.functions a) (λ z. tests.matches z (n + x)) fit in
      one (record { value = h.value; is = h.is; holds = matching_function n m.types d.types stands funcs x h.value ((is.matches h.value (n + x)).0 h.holds) })
  function_of_file (imported.Table t) (table a) fit from = neither
  function_of_file (imported.Memory l) (memory a) fit from = neither
  function_of_file (imported.Global g) (global a) fit from = neither
  function_of_file (imported.Tag t) (tag a) fit from = neither
  function_of_file _ _ fit from = absurd (cc)

  function_own : (k y : ℕ) → slice_get m.functions k ≡ Some y → function_fits (before.functions + k) y
  function_own k y e =
      let all = of_placed hosts_in ps in
      let moved : slice_get (functions_in p.instance m) k ≡ Some (n + y) =
      slice_get-map (λ (x : ℕ). p.instance.types + x) m.functions k ∙ ap (option_map (λ (x : ℕ). p.instance.types + x)) e ∙ ap (λ (z : ℕ). Some (z + y)) type_number in
      record {
        value = n + y;
        is = ap (λ (l : List ℕ). slice_get l (before.functions + k)) (functions_same ∙ functions_are ps)
            ∙ ap (slice_get (all ++ of_placed functions_in ps)) (omega (arith, stands_at.counts.functions))
            ∙ get-behind all (of_placed functions_in ps) (length (of_placed functions_in front) + k)
            ∙ among_all functions_in ps front back p k (n + y) split moved;
        holds = own_function n m.types d.types stands funcs y;
      }

  pub functions_fit : Instances function_fits (instance_of before stands_at.addresses m).functions (functions_of m)
  functions_fit = instances_beside
      (imported_instances tests d front m n as_function function_address function_fits function_of_host function_of_file stands_at.fit hosts_there)
      (own_instances function_fits before.functions m.functions function_own)

  -- ## Tables

  -- a table of this type
  abbrev pub table_fits : ℕ → TableType → Type 0
  table_fits a t = There (slice_get d.tables a) (λ (u : TableType). RefEqual d.types u.element (ref_shifted n t.element))

  table_of_file : (e : ExternType) (a : Address) → fits tests d n e a ≡ true → ExportOf front a
      → Alike tests d front m n as_table table_address table_fits (table_address a) (as_table e)
  table_of_file (imported.Table t) (table a) fit from =
      let h = holds_told (slice_get d.tables a) (λ (u : TableType). ref_equals tests.same u.element (ref_shifted n t.element) && limits_fit t.limits u.limits) fit in
      let both = each_of (ref_equals tests.same h.value.element (ref_shifted n t.element)) (limits_fit t.limits h.value.limits) h.holds in
      one (record { value = h.value; is = h.is; holds = ref_equal_told d.types tests is h.value.element (ref_shifted n t.element) both.0 })
  table_of_file (imported.Func x) (function a) fit from = neither
  table_of_file (imported.Memory l) (memory a) fit from = neither
  table_of_file (imported.Global g) (global a) fit from = neither
  table_of_file (imported.Tag t) (tag a) fit from = neither
  table_of_file _ _ fit from = absurd (cc)

  table_own : (k : ℕ) (t : TableType) → slice_get (map (λ (t : Table). t.kind) m.tables) k ≡ Some t → table_fits (before.tables + k) t
  table_own k t e =
      let moved : slice_get (table_types_in p.instance m) k ≡ Some (table_type_shifted n t) =
      slice_get-map (λ (t : Table). table_type_shifted p.instance.types t.kind) m.tables k
      ∙ kinds (slice_get m.tables k) (sym (slice_get-map (λ (t : Table). t.kind) m.tables k) ∙ e) in
      record {
        value = table_type_shifted n t;
        is = ap (λ (l : List TableType). slice_get l (before.tables + k)) (tables_same ∙ tables_are ps)
            ∙ ap (λ (z : ℕ). slice_get (of_placed table_types_in ps) (z + k)) (stands_at.counts.tables ∙ lengths)
            ∙ among_all table_types_in ps front back p k (table_type_shifted n t) split moved;
        holds = own_table n m.types d.types stands funcs t;
      }
    where
      kinds : (o : Option Table) → option_map (λ (t : Table). t.kind) o ≡ Some t
          → option_map (λ (t : Table). table_type_shifted p.instance.types t.kind) o ≡ Some (table_type_shifted n t)
      kinds None e = absurd (cc)
      kinds (Some u) e = let s : u.kind ≡ t = cc in ap (λ (z : TableType). Some (table_type_shifted p.instance.types z)) s ∙ ap (λ (z : ℕ). Some (table_type_shifted z t)) type_number

      lengths : length (of_placed tables_in front) ≡ length (of_placed table_types_in front)
      lengths = one_length tables_in table_types_in (λ i x. length-map x.tables _ ∙ sym (length-map x.tables _)) front

  pub tables_fit : Instances table_fits (instance_of before stands_at.addresses m).tables (tables_of m)
  tables_fit = instances_beside
      (imported_instances tests d front m n as_table table_address table_fits (λ x k e. neither) table_of_file stands_at.fit hosts_there)
      (subst (λ (k : ℕ). Instances table_fits (range_with_len before.tables k) (map (λ (t : Table). t.kind) m.tables)) (length-map m.tables (λ (t : Table). t.kind))
      (own_instances table_fits before.tables (map (λ (t : Table). t.kind) m.tables) table_own))

  -- ## Memories

  -- a memory
  abbrev pub memory_fits : ℕ → Limits → Type 0
  memory_fits a l = a < length d.memories

  memory_of_file : (e : ExternType) (a : Address) → fits tests d n e a ≡ true → ExportOf front a
      → Alike tests d front m n as_memory memory_address memory_fits (memory_address a) (as_memory e)
  memory_of_file (imported.Memory l) (memory a) fit from = let h = holds_told (slice_get d.memories a) (limits_fit l) fit in one (slice_get_within d.memories a h.value h.is)
  memory_of_file (imported.Func x) (function a) fit from = neither
  memory_of_file (imported.Table t) (table a) fit from = neither
  memory_of_file (imported.Global g) (global a) fit from = neither
  memory_of_file (imported.Tag t) (tag a) fit from = neither
  memory_of_file _ _ fit from = absurd (cc)

  memory_own : (k : ℕ) (l : Limits) → slice_get m.memories k ≡ Some l → memory_fits (before.memories + k) l
  memory_own k l e =
      let there = among_all memories_in ps front back p k l split e in
      let within = slice_get_within (of_placed memories_in ps) (length (of_placed memories_in front) + k) l there in
      omega (arith, within, stands_at.counts.memories, ap length (memories_same ∙ memories_are ps))

  pub memories_fit : Instances memory_fits (instance_of before stands_at.addresses m).memories (memories_of m)
  memories_fit = instances_beside
      (imported_instances tests d front m n as_memory memory_address memory_fits (λ x k e. neither) memory_of_file stands_at.fit hosts_there)
      (own_instances memory_fits before.memories m.memories memory_own)

  -- ## Globals

  -- a global of this type
  abbrev pub global_fits : ℕ → GlobalType → Type 0
  global_fits a g = There (slice_get d.globals a) (GlobalFits n d.types g)

  global_of_file : (e : ExternType) (a : Address) → fits tests d n e a ≡ true → ExportOf front a
      → Alike tests d front m n as_global global_address global_fits (global_address a) (as_global e)
  global_of_file (imported.Global g) (global a) fit from =
      let h = holds_told (slice_get d.globals a) (λ (h : GlobalType). kind_fits tests (types_of d.types) g.mutability h.mutability (type_shifted n g.kind) h.kind) fit in
      let k = kind_told d.types tests is g.mutability h.value.mutability (type_shifted n g.kind) h.value.kind h.holds in
      one (record { value = h.value; is = h.is; holds = record { mutability = k.0; kind = k.1 } })
  global_of_file (imported.Func x) (function a) fit from = neither
  global_of_file (imported.Table t) (table a) fit from = neither
  global_of_file (imported.Memory l) (memory a) fit from = neither
  global_of_file (imported.Tag t) (tag a) fit from = neither
  global_of_file _ _ fit from = absurd (cc)

  global_own : (k : ℕ) (g : GlobalType) → slice_get (map (λ (g : GlobalVariable). g.kind) m.globals) k ≡ Some g → global_fits (before.globals + k) g
  global_own k g e =
      let moved : slice_get (global_types_in p.instance m) k ≡ Some (global_type_shifted n g) =
      slice_get-map (λ (g : GlobalVariable). global_type_shifted p.instance.types g.kind) m.globals k
      ∙ kinds (slice_get m.globals k) (sym (slice_get-map (λ (g : GlobalVariable). g.kind) m.globals k) ∙ e) in
      record {
        value = global_type_shifted n g;
        is = ap (λ (l : List GlobalType). slice_get l (before.globals + k)) (globals_same ∙ globals_are ps)
            ∙ ap (λ (z : ℕ). slice_get (of_placed global_types_in ps) (z + k)) (stands_at.counts.globals ∙ lengths)
            ∙ among_all global_types_in ps front back p k (global_type_shifted n g) split moved;
        holds = own_global n m.types d.types stands funcs g;
      }
    where
      kinds : (o : Option GlobalVariable) → option_map (λ (g : GlobalVariable). g.kind) o ≡ Some g
          → option_map (λ (g : GlobalVariable). global_type_shifted p.instance.types g.kind) o ≡ Some (global_type_shifted n g)
      kinds None e = absurd (cc)
      kinds (Some u) e = let s : u.kind ≡ g = cc in ap (λ (z : GlobalType). Some (global_type_shifted p.instance.types z)) s ∙ ap (λ (z : ℕ). Some (global_type_shifted z g)) type_number

      lengths : length (of_placed globals_in front) ≡ length (of_placed global_types_in front)
      lengths = one_length globals_in global_types_in (λ i x. length-map x.globals _ ∙ sym (length-map x.globals _)) front

  pub globals_fit : Instances global_fits (instance_of before stands_at.addresses m).globals (globals_of m)
  globals_fit = instances_beside
      (imported_instances tests d front m n as_global global_address global_fits (λ x k e. neither) global_of_file stands_at.fit hosts_there)
      (subst (λ (k : ℕ). Instances global_fits (range_with_len before.globals k) (map (λ (g : GlobalVariable). g.kind) m.globals)) (length-map m.globals (λ (g : GlobalVariable). g.kind))
      (own_instances global_fits before.globals (map (λ (g : GlobalVariable). g.kind) m.globals) global_own))

  -- ## Tags

  -- a tag of this type
  abbrev pub tag_fits : ℕ → Tag → Type 0
  tag_fits a g = There (slice_get d.tags a) (TagFits n m.types d.types g)

  tag_of_file : (e : ExternType) (a : Address) → fits tests d n e a ≡ true → ExportOf front a
      → Alike tests d front m n as_tag tag_address tag_fits (tag_address a) (as_tag e)
  tag_of_file (imported.Tag t) (tag a) fit from =
      let h = holds_told (slice_get d.tags a) (λ (u : Tag). tests.same u.type_index (n + t.type_index)) fit in
      one (record { value = h.value; is = h.is; holds = equal_tag n m.types d.types stands funcs t h.value ((is.same h.value.type_index (n + t.type_index)).0 h.holds) })
  tag_of_file (imported.Func x) (function a) fit from = neither
  tag_of_file (imported.Table t) (table a) fit from = neither
  tag_of_file (imported.Memory l) (memory a) fit from = neither
  tag_of_file (imported.Global g) (global a) fit from = neither
  tag_of_file _ _ fit from = absurd (cc)

  tag_own : (k : ℕ) (g : Tag) → slice_get m.tags k ≡ Some g → tag_fits (before.tags + k) g
  tag_own k g e =
      let moved : slice_get (tags_in p.instance m) k ≡ Some (tag_shifted n g) =
      slice_get-map (tag_shifted p.instance.types) m.tags k ∙ ap (option_map (tag_shifted p.instance.types)) e ∙ ap (λ (z : ℕ). Some (tag_shifted z g)) type_number in
      record {
        value = tag_shifted n g;
        is = ap (λ (l : List Tag). slice_get l (before.tags + k)) (tags_same ∙ tags_are ps)
            ∙ ap (λ (z : ℕ). slice_get (of_placed tags_in ps) (z + k)) stands_at.counts.tags
            ∙ among_all tags_in ps front back p k (tag_shifted n g) split moved;
        holds = own_tag n m.types d.types stands funcs g;
      }

  pub tags_fit : Instances tag_fits (instance_of before stands_at.addresses m).tags (tags_of m)
  tags_fit = instances_beside
      (imported_instances tests d front m n as_tag tag_address tag_fits (λ x k e. neither) tag_of_file stands_at.fit hosts_there)
      (own_instances tag_fits before.tags m.tags tag_own)
