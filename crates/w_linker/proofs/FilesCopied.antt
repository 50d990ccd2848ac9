-- Active segments of several files: that which is done file by file leads to the store with which a run of the linked module begins.
use Rattle.std.proofs.Common.{◌≡◌, ℕ, zero, suc, slice_get, ◌+◌, ◌-◌, ◌<◌, List, [], ◌∷◌, ◌++◌, map, length, take, drop, Option, Some, None, refl, sym, ap, subst, ◌∙◌, append_assoc, arith}
use Rattle.std.specs.Prelude.{All, slice_range}
use Rattle.std.proofs.lemmas.List.{length-append, length-map, take_at, drop_at}
use Rattle.std.proofs.lemmas.Option.{get_or_from_slice_get}
use Rattle.w_syntax.specs.declared.module.Data.{Data}
use Rattle.w_syntax.specs.declared.module.DataMode.{DataMode}
use Rattle.w_syntax.specs.declared.module.DataMode.TheVariants as data_mode
use Rattle.w_syntax.specs.declared.module.Elem.{Elem}
use Rattle.w_syntax.specs.declared.module.ElemMode.{ElemMode}
use Rattle.w_syntax.specs.declared.module.ElemMode.TheVariants as elem_mode
use Rattle.w_syntax.specs.declared.module.Module.{Module}
use Rattle.w_types.specs.declared.types.RefType.{RefType}
use Rattle.w_tables.specs.declared.entries.Printer.{Printer}
use Rattle.w_rules.specs.Sound.{Sound}
use Rattle.w_rules.specs.Spaces.{context_of}
use Rattle.w_rules.specs.Valid.{IsElemModeValid, IsDataModeValid, ElementItem, DataItem, ElementValid, DataValid}
use Rattle.w_reduce.specs.Program.{Program}
use Rattle.w_reduce.specs.Start.{in_order, allocated}
use Rattle.w_reduce.specs.Store.{Store}
use Rattle.w_link.specs.Items.{resolved_elem, resolved_data}
use Rattle.w_linked.specs.Imports.{Placed}
use Rattle.w_linked.specs.Linked.{of_placed, linked}
use Rattle.w_linked.specs.Starting.{Copied, copied, and_datas, and_elements, all_copied}
use Rattle.w_linked.proofs.Counting.{elements_in, datas_in, length_more}
use Rattle.w_linked.proofs.SoundFunctions.{of_both}
use Rattle.w_inst.specs.Segments.{IsElemConstant, IsDataConstant}
use Rattle.w_inst.specs.Instances.{IsPart}
use Rattle.w_machine.specs.Beginning.{first_store}
use Rattle.w_linker.specs.declared.starting.Sizes.{Sizes}
use Rattle.w_linker.specs.Segments.{sizes_of, element_count, data_count, elements_started, datas_started, parts_copied}
use Rattle.w_linker.proofs.OneByOne.{all_front, all_behind}
use Rattle.w_linker.proofs.SegmentsApart.{by_element, by_data, in_order-append, ElementsFirst, elements_first}

-- ## Constant offsets

element_constant : (m : Module) (r : RefType) (mode : ElemMode) → IsElemModeValid m r mode → IsElemConstant mode
element_constant m r (elem_mode.Active x k) h = record { within = context_of m; constant = h.1.constant }
element_constant m r elem_mode.Passive h = tt
element_constant m r elem_mode.Declarative h = tt

data_constant : (m : Module) (mode : DataMode) → IsDataModeValid m mode → IsDataConstant mode
data_constant m (data_mode.Active x k) h = record { within = context_of m; constant = h.1.constant }
data_constant m data_mode.Passive h = tt

abbrev ElementsConstant : List Elem → Type 0
ElementsConstant es = All (λ (e : Elem). IsElemConstant e.mode) es

abbrev DatasConstant : List Data → Type 0
DatasConstant ds = All (λ (d : Data). IsDataConstant d.mode) ds

-- those of a sound module
elements_constant : (m : Module) → Sound m → ElementsConstant m.elements
elements_constant m sound k d lt =
    let w : ElementValid m k = sound.items (ElementItem k) refl lt in
    subst (λ (e : Elem). IsElemConstant e.mode) (sym (get_or_from_slice_get m.elements k w.element d w.is)) (element_constant m w.element.kind w.element.mode w.mode)

datas_constant : (m : Module) → Sound m → DatasConstant m.datas
datas_constant m sound k d lt =
    let w : DataValid m k = sound.items (DataItem k) refl lt in
    subst (λ (e : Data). IsDataConstant e.mode) (sym (get_or_from_slice_get m.datas k w.segment d w.is)) (data_constant m w.segment.mode w.mode)

-- ## All element segments first

-- a file's elements were started, and the rest was done
record AndRest (o : Option Store) (rest : Store → Copied) (r : Store) : Type 0 where
  next : Store
  is : o ≡ Some next
  goes : rest next ≡ copied r

elements_done : (f : ℕ) (o : Option Store) (rest : Store → Copied) (r : Store) → and_elements f o rest ≡ copied r → AndRest o rest r
elements_done f None rest r e = absurd (cc)
elements_done f (Some s) rest r e = record { next = s; is = refl; goes = e }

datas_done : (f : ℕ) (o : Option Store) (rest : Store → Copied) (r : Store) → and_datas f o rest ≡ copied r → AndRest o rest r
datas_done f None rest r e = absurd (cc)
datas_done f (Some s) rest r e = record { next = s; is = refl; goes = e }

module _ (p : Program) where
  -- where no file's segments pass an end, all element segments and then all data segments lead to the same store
  files_first : (f y z : ℕ) (xs : List Placed) (s r : Store) → ElementsConstant (of_placed elements_in xs) → DatasConstant (of_placed datas_in xs)
      → all_copied p f y z xs s ≡ copied r → ElementsFirst p s r z (of_placed datas_in xs) y (of_placed elements_in xs)
  files_first f y z [] s r he hd e = let one : s ≡ r = cc in record { between = s; elements = refl; datas = ap (λ (t : Store). Some t) one }
  files_first f y z (x ∷ xs) s r he hd e =
      let es = elements_in x.instance x.source in
      let ds = datas_in x.instance x.source in
      let es_behind = of_placed elements_in xs in
      let ds_behind = of_placed datas_in xs in
      let a = elements_done f (in_order (by_element p) (Some s) y es) _ r e in
      let b = datas_done f (in_order (by_data p) (Some a.next) z ds) _ r a.goes in
      let c = files_first (suc f) (y + length x.source.elements) (z + length x.source.datas) xs b.next r
      (all_behind (λ (e : Elem). IsElemConstant e.mode) es es_behind he) (all_behind (λ (d : Data). IsDataConstant d.mode) ds ds_behind hd) b.goes in
      let w = elements_first p a.next b.next c.between z ds (y + length x.source.elements) es_behind
      (all_front (λ (d : Data). IsDataConstant d.mode) ds ds_behind hd) (all_behind (λ (e : Elem). IsElemConstant e.mode) es es_behind he) b.is c.elements in
      record {
        between = w.between;
        elements =
            in_order-append (by_element p) (Some s) y es es_behind
            ∙ ap (λ (o : Option Store). in_order (by_element p) o (y + length es) es_behind) a.is
            ∙ ap (λ (k : ℕ). in_order (by_element p) (Some a.next) (y + k) es_behind) (length-map x.source.elements (resolved_elem x.instance))
            ∙ w.elements;
        datas =
            in_order-append (by_data p) (Some w.between) z ds ds_behind
            ∙ ap (λ (o : Option Store). in_order (by_data p) o (z + length ds) ds_behind) w.datas
            ∙ ap (λ (k : ℕ). in_order (by_data p) (Some c.between) (z + k) ds_behind) (length-map x.source.datas (resolved_data x.instance))
            ∙ c.datas;
      }

  -- this is the first store of the linked module
  pub first_store_there : (ps : List Placed) (hosts : List Printer) (r : Store) → Sound (linked ps) → p.source ≡ linked ps → all_copied p 0 0 0 ps (allocated p hosts) ≡ copied r
      → first_store p hosts ≡ Some r
  first_store_there ps hosts r sound source e =
      let w = files_first 0 0 0 ps (allocated p hosts) r (elements_constant (linked ps) sound) (datas_constant (linked ps) sound) e in
      ap (λ (m : Module). in_order (by_data p) (in_order (by_element p) (Some (allocated p hosts)) 0 m.elements) 0 m.datas) source
      ∙ ap (λ (o : Option Store). in_order (by_data p) o 0 (linked ps).datas) w.elements ∙ w.datas

-- ## By how many segments each file has

-- what was started is said of the segments of a program
pub elements_went : (p : Program) (m : Module) (y n end : ℕ) (s : Store) (o : Option Store) (all : List Elem) → p.source ≡ m → all ≡ m.elements → end ≡ y + n
    → in_order (by_element p) (Some s) y (slice_range all y end) ≡ o → elements_started p y n s ≡ o
elements_went p m y n end s o all source there e done =
    ap (λ (l : List Elem). in_order (by_element p) (Some s) y l)
    (ap (λ (x : Module). slice_range x.elements y (y + n)) source ∙ ap (λ (l : List Elem). slice_range l y (y + n)) (sym there) ∙ ap (slice_range all y) (sym e)) ∙ done

pub datas_went : (p : Program) (m : Module) (z n end : ℕ) (s : Store) (o : Option Store) (all : List Data) → p.source ≡ m → all ≡ m.datas → end ≡ z + n
    → in_order (by_data p) (Some s) z (slice_range all z end) ≡ o → datas_started p z n s ≡ o
datas_went p m z n end s o all source there e done =
    ap (λ (l : List Data). in_order (by_data p) (Some s) z l)
    (ap (λ (x : Module). slice_range x.datas z (z + n)) source ∙ ap (λ (l : List Data). slice_range l z (z + n)) (sym there) ∙ ap (slice_range all z) (sym e)) ∙ done

none_taken : (A : Type 0) (n : ℕ) → length (take {A = A} n []) ≡ 0
none_taken A zero = refl
none_taken A (suc n) = refl

taken_there : {A : Type 0} (xs : List A) (n j : ℕ) → j < length (take n xs) → slice_get (take n xs) j ≡ slice_get xs j
taken_there {A} [] n j lt = absurd (omega (arith, lt, none_taken A n))
taken_there (x ∷ xs) zero j lt = absurd (omega (arith, lt))
taken_there (x ∷ xs) (suc n) zero lt = refl
taken_there (x ∷ xs) (suc n) (suc j) lt = taken_there xs n j (omega (arith, lt))

dropped_there : {A : Type 0} (xs : List A) (y j : ℕ) → slice_get (drop y xs) j ≡ slice_get xs (y + j)
dropped_there xs zero j = ap (slice_get xs) (omega arith)
dropped_there [] (suc y) j = refl
dropped_there (x ∷ xs) (suc y) j = dropped_there xs y j ∙ ap (slice_get (x ∷ xs)) (let e : suc (y + j) ≡ suc y + j = omega arith in e)

-- a range is a part
pub range_is_part : {A : Type 0} (part all : List A) (y end : ℕ) → part ≡ all → IsPart y (slice_range part y end) all
range_is_part part all y end e j lt = taken_there (drop y part) (end - y) j lt ∙ dropped_there part y j ∙ ap (λ l. slice_get l (y + j)) e

-- the items of the second list
range_here : {A : Type 0} (front own back : List A) (y n : ℕ) → y ≡ length front → n ≡ length own → slice_range (front ++ (own ++ back)) y (y + n) ≡ own
range_here {A} front own back y n ya nb =
    let count : (y + n) - y ≡ n = omega arith in
    ap (λ (l : List A). take ((y + n) - y) l) (drop_at front (own ++ back) y (sym ya)) ∙ ap (λ (k : ℕ). take k (own ++ back)) count ∙ take_at own back n (sym nb)

elements_here : (ps front back : List Placed) (x : Placed) (y : ℕ) → ps ≡ front ++ x ∷ back → y ≡ length (of_placed elements_in front)
    → slice_range (linked ps).elements y (y + length x.source.elements) ≡ elements_in x.instance x.source
elements_here ps front back x y split ye =
    ap (λ (l : List Elem). slice_range l y (y + length x.source.elements)) (ap (of_placed elements_in) split ∙ of_both elements_in front (x ∷ back))
    ∙ range_here (of_placed elements_in front) (elements_in x.instance x.source) (of_placed elements_in back) y (length x.source.elements) ye
    (sym (length-map x.source.elements (resolved_elem x.instance)))

datas_here : (ps front back : List Placed) (x : Placed) (z : ℕ) → ps ≡ front ++ x ∷ back → z ≡ length (of_placed datas_in front)
    → slice_range (linked ps).datas z (z + length x.source.datas) ≡ datas_in x.instance x.source
datas_here ps front back x z split ze =
    ap (λ (l : List Data). slice_range l z (z + length x.source.datas)) (ap (of_placed datas_in) split ∙ of_both datas_in front (x ∷ back))
    ∙ range_here (of_placed datas_in front) (datas_in x.instance x.source) (of_placed datas_in back) z (length x.source.datas) ze
    (sym (length-map x.source.datas (resolved_data x.instance)))

-- how many segments each file has that is placed
abbrev pub placed_sizes : List Placed → List Sizes
placed_sizes ps = map (λ (x : Placed). sizes_of x.source) ps

elements_alike : (f : ℕ) (o : Option Store) (g h : Store → Copied) → ((t : Store) → g t ≡ h t) → and_elements f o g ≡ and_elements f o h
elements_alike f None g h e = refl
elements_alike f (Some t) g h e = e t

datas_alike : (f : ℕ) (o : Option Store) (g h : Store → Copied) → ((t : Store) → g t ≡ h t) → and_datas f o g ≡ and_datas f o h
datas_alike f None g h e = refl
datas_alike f (Some t) g h e = e t

module _ (p : Program) (ps : List Placed) (source : p.source ≡ linked ps) where
  parts_from : (f y z : ℕ) (front xs : List Placed) → ps ≡ front ++ xs → y ≡ length (of_placed elements_in front) → z ≡ length (of_placed datas_in front)
      → (s : Store) → parts_copied p f y z (placed_sizes xs) s ≡ all_copied p f y z xs s
  parts_from f y z front [] split ye ze s = refl
  parts_from f y z front (x ∷ xs) split ye ze s =
      let n = length x.source.elements in
      let k = length x.source.datas in
      let es : slice_range p.source.elements y (y + n) ≡ elements_in x.instance x.source =
      ap (λ (m : Module). slice_range m.elements y (y + n)) source ∙ elements_here ps front xs x y split ye in
      let ds : slice_range p.source.datas z (z + k) ≡ datas_in x.instance x.source =
      ap (λ (m : Module). slice_range m.datas z (z + k)) source ∙ datas_here ps front xs x z split ze in
      let split_next = split ∙ sym (append_assoc front (x ∷ []) xs) in
      let y_next : y + n ≡ length (of_placed elements_in (front ++ x ∷ [])) = omega (arith, ye, length_more elements_in front x, length-map x.source.elements (resolved_elem x.instance)) in
      let z_next : z + k ≡ length (of_placed datas_in (front ++ x ∷ [])) = omega (arith, ze, length_more datas_in front x, length-map x.source.datas (resolved_data x.instance)) in
      let rest : Store → Copied = λ u. parts_copied p (suc f) (y + n) (z + k) (placed_sizes xs) u in
      let last : Store → Copied = λ u. all_copied p (suc f) (y + n) (z + k) xs u in
      ap (λ (l : List Elem). and_elements f (in_order (by_element p) (Some s) y l) (λ t. and_datas f (datas_started p z k t) rest)) es
      ∙ elements_alike f (in_order (by_element p) (Some s) y (elements_in x.instance x.source)) (λ t. and_datas f (datas_started p z k t) rest)
      (λ t. and_datas f (in_order (by_data p) (Some t) z (datas_in x.instance x.source)) last)
      (λ t. ap (λ (l : List Data). and_datas f (in_order (by_data p) (Some t) z l) rest) ds
      ∙ datas_alike f (in_order (by_data p) (Some t) z (datas_in x.instance x.source)) rest last (parts_from (suc f) (y + n) (z + k) (front ++ x ∷ []) xs split_next y_next z_next))

  -- so it is that which is done file by file
  pub parts_are_files : (s : Store) → parts_copied p 0 0 0 (placed_sizes ps) s ≡ all_copied p 0 0 0 ps s
  parts_are_files s = parts_from 0 0 0 [] ps refl refl refl s

-- how many there are
pub elements_counted : (ps : List Placed) → element_count (placed_sizes ps) ≡ length (linked ps).elements
elements_counted [] = refl
elements_counted (x ∷ xs) =
    omega (arith, elements_counted xs, length-append (elements_in x.instance x.source) (of_placed elements_in xs), length-map x.source.elements (resolved_elem x.instance))

pub datas_counted : (ps : List Placed) → data_count (placed_sizes ps) ≡ length (linked ps).datas
datas_counted [] = refl
datas_counted (x ∷ xs) =
    omega (arith, datas_counted xs, length-append (datas_in x.instance x.source) (of_placed datas_in xs), length-map x.source.datas (resolved_data x.instance))
