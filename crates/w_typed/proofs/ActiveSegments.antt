-- Active segments keep a store of the module's types.
use Rattle.std.proofs.Common.{◌≡◌, ℕ, zero, suc, ◌+◌, List, [], ◌∷◌, length, map, Option, Some, None, slice_get, option_map, refl, ap, subst, ◌∙◌, arith}
use Rattle.std.proofs.lemmas.Option.{slice_get-map, slice_get_within}
use Rattle.w_types.specs.declared.types.ValType.TheVariants.{Ref}
use Rattle.w_syntax.specs.declared.module.Data as syntax_data
use Rattle.w_syntax.specs.declared.module.DataMode.{DataMode}
use Rattle.w_syntax.specs.declared.module.DataMode.TheVariants as data_mode
use Rattle.w_syntax.specs.declared.module.Elem.{Elem}
use Rattle.w_syntax.specs.declared.module.ElemMode.{ElemMode}
use Rattle.w_syntax.specs.declared.module.ElemMode.TheVariants as elem_mode
use Rattle.w_syntax.specs.declared.module.Limits.{Limits}
use Rattle.w_syntax.specs.declared.module.Module.{Module}
use Rattle.w_syntax.specs.declared.module.TableType.{TableType}
use Rattle.w_memory.specs.Memory.{Memory, init}
use Rattle.w_memory.specs.Parts.{copied}
use Rattle.w_canon.specs.Matching.{RefMatches, ref}
use Rattle.w_canon.specs.Supertypes.{KeepsKinds}
use Rattle.w_rules.specs.Conditions.{Holds}
use Rattle.w_rules.specs.Sound.{Sound}
use Rattle.w_rules.specs.Spaces.{tables_of, memories_of}
use Rattle.w_rules.specs.Valid.{ElementItem, ElementValid, IsElemModeValid}
use Rattle.w_reduce.specs.Values.{Val}
use Rattle.w_reduce.specs.Store.{Store, Table}
use Rattle.w_reduce.specs.Program.{Program}
use Rattle.w_reduce.specs.Constants.{value_of, number_in}
use Rattle.w_reduce.specs.Memories.{with_memory, without_data}
use Rattle.w_reduce.specs.Tables.{with_elements, without_elements}
use Rattle.w_reduce.specs.Start as start
use Rattle.w_reduce.specs.Start.{elements_copied, element_started, data_put, data_copied, data_started, in_order}
use Rattle.w_typed.specs.Values.{Arrows}
use Rattle.w_typed.specs.Stores.{TableTyped, MemoryTyped, SegmentTyped, StoreTyped}
use Rattle.w_typed.proofs.KeptComposites.{keeps_kinds}
use Rattle.w_typed.proofs.Elements.{all_sub}
use Rattle.w_typed.proofs.Memories.{memory_put, data_dropped}
use Rattle.w_typed.proofs.Pages.{init_typed, data_bytes}
use Rattle.w_typed.proofs.Places.{instance_at, declaration_of}
use Rattle.w_typed.proofs.SizedTables.{table_copied}
use Rattle.w_typed.proofs.Tables.{elements_put, elements_dropped}

-- where there is a store, it is of the module's types
abbrev pub StaysTyped : Module → Arrows → Option Store → Type 0
StaysTyped m K o = (s : Store) → o ≡ Some s → StoreTyped m K s

-- a store is itself
pub stays_typed : (m : Module) {K : Arrows} (s : Store) → StoreTyped m K s → StaysTyped m K (Some s)
stays_typed m {K} s u r is = subst (StoreTyped m K) (cc) u

none_stays_typed : (m : Module) {K : Arrows} → StaysTyped m K None
none_stays_typed m r is = absurd (cc)

-- ## Element segments

module _ (p : Program) (y : ℕ) (e : Elem) (there : slice_get p.source.elements y ≡ Some e) where
  -- its type
  kind_there : slice_get (map (λ (e : Elem). e.kind) p.source.elements) y ≡ Some e.kind
  kind_there = slice_get-map (λ (e : Elem). e.kind) p.source.elements y ∙ ap (option_map (λ (e : Elem). e.kind)) there

module _ (p : Program) (keeps : KeepsKinds p.source.types) {K : Arrows} (y : ℕ) (e : Elem) (there : slice_get p.source.elements y ≡ Some e) where
  -- the segment may be dropped
  dropped : (s : Store) → StoreTyped p.source K s → StoreTyped p.source K (without_elements s y)
  dropped s u = elements_dropped p.source y e.kind s u (kind_there p y e there)

  -- what was copied is of the table's type
  put_typed : (s : Store) (x : ℕ) (t : Table) (k : TableType) (segment : List Val) (d : ℕ) (o : Option (List Val))
      → copied t.elements segment d 0 (length segment) ≡ o → slice_get (tables_of p.source) x ≡ Some k → RefMatches p.source.types e.kind k.element
      → TableTyped p.source K t k → SegmentTyped p.source K segment e.kind → StoreTyped p.source K s → StaysTyped p.source K (start.elements_put s x y t segment o)
  put_typed s x t k segment d None is at q h w u = none_stays_typed p.source
  put_typed s x t k segment d (Some vs) is at q h w u =
      let sub = all_sub p.source keeps K (Ref e.kind) (Ref k.element) segment (ref q) w in
      let new = table_copied p.source K k t h d 0 (length segment) segment vs sub is in
      stays_typed p.source (without_elements (with_elements s x t vs) y) (dropped (with_elements s x t vs) (elements_put p.source x k t vs s u at new))

  copied_typed : (s : Store) (x d : ℕ) (t : Option Table) (segment : Option (List Val)) (k : Option TableType) → slice_get s.tables x ≡ t
      → slice_get s.elements y ≡ segment → slice_get (tables_of p.source) x ≡ k
      → Holds k (λ (t : TableType). RefMatches p.source.types e.kind t.element) → StoreTyped p.source K s
      → StaysTyped p.source K (elements_copied s x y d t segment)
  copied_typed s x d None segment k a b at q u = none_stays_typed p.source
  copied_typed s x d (Some t) None k a b at q u = none_stays_typed p.source
  copied_typed s x d (Some t) (Some segment) None a b at q u = absurd q
  copied_typed s x d (Some t) (Some segment) (Some k) a b at q u =
      let f = instance_at x k u.tables at in
      let g = instance_at y e.kind u.elements (kind_there p y e there) in
      let same_table : f.item ≡ t = let i = f.is in cc in
      let table : TableTyped p.source K t k = subst (λ (t : Table). TableTyped p.source K t k) same_table f.holds in
      let same_values : g.item ≡ segment = let i = g.is in cc in
      let values : SegmentTyped p.source K segment e.kind = subst (λ (vs : List Val). SegmentTyped p.source K vs e.kind) same_values g.holds in
      put_typed s x t k segment d (copied t.elements segment d 0 (length segment)) refl at q table values u

  -- what a segment's mode asks for is done
  pub element_kept : (s : Store) (mode : ElemMode) → IsElemModeValid p.source e.kind mode → StoreTyped p.source K s
      → StaysTyped p.source K (element_started p s y mode)
  element_kept s (elem_mode.Active x offset) q u =
      let d = number_in (value_of p s offset) in
      copied_typed s x d (slice_get s.tables x) (slice_get s.elements y) (slice_get (tables_of p.source) x) refl refl refl q.0 u
  element_kept s elem_mode.Passive q u = stays_typed p.source s u
  element_kept s elem_mode.Declarative q u = stays_typed p.source (without_elements s y) (dropped s u)

-- ## Data segments

module _ (p : Program) {K : Arrows} where
  bytes_put : (s : Store) (x y : ℕ) (l : Limits) (d : syntax_data.Data) (o : Option Memory) → slice_get (memories_of p.source) x ≡ Some l
      → slice_get p.source.datas y ≡ Some d → ((new : Memory) → o ≡ Some new → MemoryTyped p.source new l) → StoreTyped p.source K s
      → StaysTyped p.source K (data_put s x y o)
  bytes_put s x y l d None at is h u = none_stays_typed p.source
  bytes_put s x y l d (Some n) at is h u =
      stays_typed p.source (without_data (with_memory s x n) y)
      (data_dropped p.source y d (with_memory s x n) (memory_put p.source x l n s u at (h n refl)) is)

  bytes_there : (s : Store) (x y d : ℕ) (m : Option Memory) (bytes : Option (List ℕ)) → slice_get s.memories x ≡ m → slice_get s.datas y ≡ bytes
      → StoreTyped p.source K s → StaysTyped p.source K (data_copied s x y d m bytes)
  bytes_there s x y d (Some n) (Some bytes) a b u =
      let f = declaration_of x n u.memories a in
      let g = declaration_of y bytes u.datas b in
      bytes_put s x y f.item g.item (init n bytes d 0 (length bytes)) f.is g.is
      (λ new is. init_typed p.source f.item n f.holds bytes d 0 (length bytes) new (data_bytes p.source y g.item bytes g.is g.holds) is) u
  bytes_there s x y d (Some n) None a b u = none_stays_typed p.source
  bytes_there s x y d None bytes a b u = none_stays_typed p.source

  pub data_kept : (s : Store) (y : ℕ) (mode : DataMode) → StoreTyped p.source K s → StaysTyped p.source K (data_started p s y mode)
  data_kept s y (data_mode.Active x offset) u =
      bytes_there s x y (number_in (value_of p s offset)) (slice_get s.memories x) (slice_get s.datas y) refl refl u
  data_kept s y data_mode.Passive u = stays_typed p.source s u

-- ## All of them

-- Where each step keeps a store's types, all of them do. Q is what is known of the items by their places.
pub in_order_typed : {A : Type 0} (m : Module) {K : Arrows} (Q : ℕ → A → Type 0) (f : Store → ℕ → A → Option Store)
    → ((s : Store) (y : ℕ) (x : A) → Q y x → StoreTyped m K s → StaysTyped m K (f s y x)) → (y : ℕ) (xs : List A)
    → ((i : ℕ) (x : A) → slice_get xs i ≡ Some x → Q (y + i) x) → (o : Option Store) → StaysTyped m K o → StaysTyped m K (in_order f o y xs)
in_order_typed m Q f k y xs q None u = none_stays_typed m
in_order_typed m Q f k y [] q (Some s) u = u
in_order_typed m Q f k y (x ∷ xs) q (Some s) u =
    let first : Q y x = subst (λ n. Q n x) (omega arith) (q zero x refl) in
    let rest : (i : ℕ) (z : _) → slice_get xs i ≡ Some z → Q (suc y + i) z = λ i z is. subst (λ n. Q n z) (omega arith) (q (suc i) z is) in
    in_order_typed m Q f k (suc y) xs rest (f s y x) (k s y x first (u s refl))

module _ (p : Program) {K : Arrows} where
  -- with all active element segments put in their tables, a store keeps its types
  pub elements_typed : Sound p.source → (s r : Store) → StoreTyped p.source K s
      → in_order (λ s y (e : Elem). element_started p s y e.mode) (Some s) 0 p.source.elements ≡ Some r → StoreTyped p.source K r
  elements_typed valid s r u is =
      let here : ℕ → Elem → Type 0 = λ y e. slice_get p.source.elements y ≡ Some e in
      in_order_typed p.source here (λ s y (e : Elem). element_started p s y e.mode) (λ s y e there v.
      let w : ElementValid p.source y = valid.items (ElementItem y) refl (slice_get_within p.source.elements y e there) in
      let same : w.element ≡ e = let a = w.is in cc in
      let mode = subst (λ (x : Elem). IsElemModeValid p.source x.kind x.mode) same w.mode in
      element_kept p (keeps_kinds p.source valid) y e there s e.mode mode v)
      0 p.source.elements (λ i e there. subst (λ n. here n e) (omega arith) there) (Some s) (stays_typed p.source s u) r is

  -- and with all active data segments in their memories
  pub datas_typed : (s r : Store) → StoreTyped p.source K s
      → in_order (λ s y (d : syntax_data.Data). data_started p s y d.mode) (Some s) 0 p.source.datas ≡ Some r → StoreTyped p.source K r
  datas_typed s r u is =
      in_order_typed p.source (λ y d. Unit {0}) (λ s y (d : syntax_data.Data). data_started p s y d.mode) (λ s y d t v. data_kept p s y d.mode v)
      0 p.source.datas (λ i d there. tt) (Some s) (stays_typed p.source s u) r is
