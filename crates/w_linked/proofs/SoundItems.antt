-- The items of the linked module are valid, as those of its files are.
use Rattle.std.proofs.Common.{◌≡◌, ℕ, List, [], ◌∷◌, ◌++◌, map, Option, Some, None, slice_get, refl, sym, ap, subst, ◌∙◌}
use Rattle.std.specs.Prelude.{All, option_map}
use Rattle.std.proofs.lemmas.List.Elements.{All-head, All-tail, All-nil, All-cons}
use Rattle.std.proofs.lemmas.Option.{slice_get_within}
use Rattle.w_types.specs.declared.types.FuncType.{FuncType}
use Rattle.w_types.specs.declared.types.RecGroup.{RecGroup}
use Rattle.w_types.specs.declared.types.RefType.{RefType}
use Rattle.w_types.specs.declared.types.ValType.{ValType}
use Rattle.w_types.specs.declared.types.ValType.TheVariants as val
use Rattle.w_syntax.specs.Code.{Code}
use Rattle.w_syntax.specs.Functions.{func_type}
use Rattle.w_syntax.specs.declared.module.Data as syntax_data
use Rattle.w_syntax.specs.declared.module.DataMode.{DataMode}
use Rattle.w_syntax.specs.declared.module.DataMode.TheVariants as data_mode
use Rattle.w_syntax.specs.declared.module.Elem.{Elem}
use Rattle.w_syntax.specs.declared.module.ElemMode.{ElemMode}
use Rattle.w_syntax.specs.declared.module.ElemMode.TheVariants as elem_mode
use Rattle.w_syntax.specs.declared.module.Module.{Module}
use Rattle.w_syntax.specs.declared.module.Table.{Table}
use Rattle.w_syntax.specs.declared.module.TableType.{TableType}
use Rattle.w_syntax.specs.declared.module.Tag.{Tag}
use Rattle.w_canon.specs.Matching.{RefMatches, ResultMatches}
use Rattle.w_canon.specs.Supertypes.{KeepsKinds}
use Rattle.w_canon.specs.Relations.{none}
use Rattle.w_canon.proofs.Preorder.{ref_trans}
use Rattle.w_rules.specs.Bodies.{ConstTyped}
use Rattle.w_rules.specs.Context.{type_of_func, func_at}
use Rattle.w_rules.specs.Spaces.{context_of, functions_of, tables_of}
use Rattle.w_rules.specs.Valid.{Valid, TableItem, TagItem, ElementItem, DataItem, TableValid, TagValid, ElementValid, DataValid, IsInitValid, IsElemModeValid, IsDataModeValid}
use Rattle.w_link.specs.Shifted.{ref_shifted, func_shifted, types_shifted}
use Rattle.w_link.specs.Resolved.{at, code_resolved}
use Rattle.w_link.specs.Fits.{There, Fits}
use Rattle.w_link.proofs.Conditions.{at_some, of_some, taken, refs}
use Rattle.w_link.proofs.FineInstructions.{type_has, func_there}
use Rattle.w_link.specs.Items.{tag_shifted, resolved_table, resolved_elem_mode, resolved_elem, resolved_data_mode, resolved_data}
use Rattle.w_linked.specs.Imports.{Placed}
use Rattle.w_linked.specs.Linked.{linked}
use Rattle.w_linked.proofs.Constants.{const_carried}
use Rattle.w_linked.proofs.Counting.{tables_in, tags_in, elements_in, datas_in}
use Rattle.w_linked.proofs.SoundFunctions.{in_file, mapped_there}

-- what stands at one place is one
pub same_some : {A : Type 0} {a b : A} {o : Option A} → o ≡ Some a → o ≡ Some b → a ≡ b
same_some e h = cc

module _ (ps : List Placed) (keeps : KeepsKinds (linked ps).types) (valid : (front back : List Placed) (p : Placed) → ps ≡ front ++ p ∷ back → Valid p.source)
    (fits : (front back : List Placed) (p : Placed) → ps ≡ front ++ p ∷ back → Fits p.instance (context_of p.source) (context_of (linked ps))) where
  abbrev L : Module
  L = linked ps

  -- ## Tags

  -- tag j
  pub tag_sound : (j : ℕ) (x : Tag) → slice_get L.tags j ≡ Some x → TagValid L j
  tag_sound j x is =
      let r = in_file tags_in ps j x is in
      let p = r.file in
      let g = mapped_there (tag_shifted p.instance.types) p.source.tags r.index x r.there in
      let v : TagValid p.source r.index = valid r.front r.back p r.is (TagItem r.index) (slice_get_within p.source.tags r.index g.0 g.1) in
      let same : v.tag ≡ g.0 = same_some v.is g.1 in
      let has : func_type p.source g.0.type_index ≡ Some v.type = subst (λ (t : Tag). func_type p.source t.type_index ≡ Some v.type) same v.has_type in
      record {
        tag = x;
        type = func_shifted p.instance.types v.type;
        is = is;
        has_type = ap (λ (t : Tag). func_type L t.type_index) (sym g.2)
            ∙ func_there p.instance (context_of p.source) (context_of L) (fits r.front r.back p r.is) g.0.type_index v.type has;
      }

  -- ## Tables

  init_sound : (p : Placed) → Fits p.instance (context_of p.source) (context_of L) → (r : RefType) (o : Option Code) → IsInitValid p.source r o
      → IsInitValid L (ref_shifted p.instance.types r) (option_map (code_resolved p.instance) o)
  init_sound p f r (Some k) h = const_carried p.instance (context_of p.source) (context_of L) keeps f k (val.Ref r) h
  init_sound p f r None h = h

  -- table j
  pub table_sound : (j : ℕ) (x : Table) → slice_get L.tables j ≡ Some x → TableValid L j
  table_sound j x is =
      let r = in_file tables_in ps j x is in
      let p = r.file in
      let f = fits r.front r.back p r.is in
      let t = mapped_there (resolved_table p.instance) p.source.tables r.index x r.there in
      let v : TableValid p.source r.index = valid r.front r.back p r.is (TableItem r.index) (slice_get_within p.source.tables r.index t.0 t.1) in
      let same : resolved_table p.instance v.table ≡ x = ap (resolved_table p.instance) (same_some v.is t.1) ∙ t.2 in
      record {
        table = resolved_table p.instance v.table;
        is = is ∙ ap (λ (y : Table). Some y) (sym same);
        valid = record {
          limits = v.valid.limits;
          element = type_has p.instance (context_of p.source) (context_of L) f (val.Ref v.table.kind.element) v.valid.element;
        };
        init = init_sound p f v.table.kind.element v.table.init v.init;
      }

  -- ## Segments

  mode_sound : (p : Placed) → Fits p.instance (context_of p.source) (context_of L) → (r : RefType) (o : ElemMode) → IsElemModeValid p.source r o
      → IsElemModeValid L (ref_shifted p.instance.types r) (resolved_elem_mode p.instance o)
  mode_sound p f r (elem_mode.Active x k) h =
      let i = p.instance in
      let c = context_of p.source in
      let d = context_of L in (
        of_some (slice_get (tables_of p.source) x) (λ (t : TableType). RefMatches p.source.types r t.element) _ h.0 (λ t is m.
            let u = f.tables x t is in
            at_some (slice_get (tables_of L) (at i.tables x)) u.value (λ (w : TableType). RefMatches L.types (ref_shifted i.types r) w.element) u.is
            (ref_trans L.types keeps (ref_shifted i.types r) (ref_shifted i.types t.element) u.value.element (refs i c d f r t.element m) (taken i c d f t.element u.value.element u.holds))),
        const_carried i c d keeps f k val.I32 h.1,
      )
  mode_sound p f r elem_mode.Passive h = tt
  mode_sound p f r elem_mode.Declarative h = tt

  items_sound : (p : Placed) → Fits p.instance (context_of p.source) (context_of L) → (r : RefType) (ks : List Code)
      → All (λ (k : Code). ConstTyped (context_of p.source) k (val.Ref r)) ks
      → All (λ (k : Code). ConstTyped (context_of L) k (val.Ref (ref_shifted p.instance.types r))) (map (code_resolved p.instance) ks)
  items_sound p f r [] h = All-nil (λ (k : Code). ConstTyped (context_of L) k (val.Ref (ref_shifted p.instance.types r)))
  items_sound p f r (k ∷ ks) h =
      let P = λ (k : Code). ConstTyped (context_of p.source) k (val.Ref r) in
      All-cons (λ (k : Code). ConstTyped (context_of L) k (val.Ref (ref_shifted p.instance.types r))) (code_resolved p.instance k) (map (code_resolved p.instance) ks)
      (const_carried p.instance (context_of p.source) (context_of L) keeps f k (val.Ref r) (All-head P k ks h)) (items_sound p f r ks (All-tail P k ks h))

  -- element segment j
  pub element_sound : (j : ℕ) (x : Elem) → slice_get L.elements j ≡ Some x → ElementValid L j
  element_sound j x is =
      let r = in_file elements_in ps j x is in
      let p = r.file in
      let f = fits r.front r.back p r.is in
      let t = mapped_there (resolved_elem p.instance) p.source.elements r.index x r.there in
      let v : ElementValid p.source r.index = valid r.front r.back p r.is (ElementItem r.index) (slice_get_within p.source.elements r.index t.0 t.1) in
      let same : resolved_elem p.instance v.element ≡ x = ap (resolved_elem p.instance) (same_some v.is t.1) ∙ t.2 in
      record {
        element = resolved_elem p.instance v.element;
        is = is ∙ ap (λ (y : Elem). Some y) (sym same);
        valid = type_has p.instance (context_of p.source) (context_of L) f (val.Ref v.element.kind) v.valid;
        mode = mode_sound p f v.element.kind v.element.mode v.mode;
        items = items_sound p f v.element.kind v.element.items v.items;
      }

  data_mode_sound : (p : Placed) → Fits p.instance (context_of p.source) (context_of L) → (o : DataMode) → IsDataModeValid p.source o
      → IsDataModeValid L (resolved_data_mode p.instance o)
  data_mode_sound p f (data_mode.Active x k) h = (f.memories x h.0, const_carried p.instance (context_of p.source) (context_of L) keeps f k val.I32 h.1)
  data_mode_sound p f data_mode.Passive h = tt

  -- data segment j
  pub data_sound : (j : ℕ) (x : syntax_data.Data) → slice_get L.datas j ≡ Some x → DataValid L j
  data_sound j x is =
      let r = in_file datas_in ps j x is in
      let p = r.file in
      let f = fits r.front r.back p r.is in
      let t = mapped_there (resolved_data p.instance) p.source.datas r.index x r.there in
      let v : DataValid p.source r.index = valid r.front r.back p r.is (DataItem r.index) (slice_get_within p.source.datas r.index t.0 t.1) in
      let same : resolved_data p.instance v.segment ≡ x = ap (resolved_data p.instance) (same_some v.is t.1) ∙ t.2 in
      record {
        segment = resolved_data p.instance v.segment;
        is = is ∙ ap (λ (y : syntax_data.Data). Some y) (sym same);
        mode = data_mode_sound p f v.segment.mode v.mode;
      }

  -- ## Functions that run before main

  -- a type that matches one without parameters has none
  pub nothing_taken : {gs : List RecGroup} {us : List ValType} → ResultMatches gs [] us → us ≡ []
  nothing_taken none = refl

  nothing_given : {gs : List RecGroup} {us : List ValType} → ResultMatches gs us [] → us ≡ []
  nothing_given none = refl

  -- a function of a file that takes and gives nothing is one of all
  pub start_there : (p : Placed) → Fits p.instance (context_of p.source) (context_of L) → (x : ℕ) (t : FuncType) (o : Option ℕ) → slice_get (functions_of p.source) x ≡ o
      → func_at (context_of p.source) o ≡ Some t → t.params ≡ [] → t.results ≡ []
      → There (type_of_func (context_of L) (at p.instance.functions x)) (λ (u : FuncType). (u.params ≡ []) × (u.results ≡ []))
  start_there p f x t None is has params results = absurd (cc)
  start_there p f x t (Some y) is has params results =
      let h = f.functions x y is in
      let u = h.holds.type t has in
      let n = p.instance.types in
      record {
        value = u.value;
        is = ap (func_at (context_of L)) h.is ∙ u.is;
        holds = (
          nothing_taken (subst (λ (l : List ValType). ResultMatches L.types (types_shifted n l) u.value.params) params u.holds.params),
          nothing_given (subst (λ (l : List ValType). ResultMatches L.types u.value.results (types_shifted n l)) results u.holds.results),
        );
      }
