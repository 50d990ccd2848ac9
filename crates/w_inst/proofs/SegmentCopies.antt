-- Copies of whole segments.
use Rattle.std.proofs.Common.{◌≡◌, ℕ, zero, suc, ◌+◌, ◌<◌, List, [], ◌∷◌, ◌++◌, length, take, drop, map, refl, sym, ap, ◌∙◌, subst, arith}
use Rattle.std.specs.Prelude.{Bool, true, false, ◌&&◌, if◌then◌else◌, nat_le, Option, Some, None, option_map, slice_get, slice_set}
use Rattle.std.proofs.lemmas.Bool.{leb-true}
use Rattle.std.proofs.lemmas.List.{map-append, take-map, drop-map, length-set}
use Rattle.std.proofs.lemmas.Option.{same_Some, get_or_from_slice_get, slice_get-get_or, slice_get-map}
use Rattle.w_types.specs.declared.value.Value.{Value}
use Rattle.w_memory.specs.Memory.{Memory, init, with_bytes}
use Rattle.w_memory.specs.Parts.{part, written, copied}
use Rattle.w_tables.specs.Store as instances
use Rattle.w_tables.specs.Outcomes.{outcome}
use Rattle.w_tables.specs.Operations as op
use Rattle.w_reduce.specs.Values.{Val, val}
use Rattle.w_reduce.specs.Store.{Store, Table}
use Rattle.w_reduce.specs.Program.{Program}
use Rattle.w_syntax.specs.declared.module.ElemMode.{ElemMode}
use Rattle.w_syntax.specs.declared.module.ElemMode.TheVariants as elem_mode
use Rattle.w_stands.specs.Values.{vals, table_of, store_of}
use Rattle.w_stands.proofs.Locals.{mapped_set}
use Rattle.w_reduce.specs.Tables.{with_elements, without_elements}
use Rattle.w_reduce.specs.Start.{element_started, elements_copied, elements_put}
use Rattle.w_inst.specs.Segments.{element_length, KeepsSizes}

-- a test that is not passed fails
false_of : (b : Bool) → (b ≡ true → ⊥) → b ≡ false
false_of true h = absurd (h refl)
false_of false h = refl

-- a number that is above another is not at most it
no_room : (a b : ℕ) → b < a → nat_le a b ≡ false
no_room a b h = false_of (nat_le a b) (λ e. let k = leb-true a b e in omega (arith, h, k))

-- more than there are have no place
copied_past : {A : Type 0} (xs ys : List A) (to n : ℕ) → length xs < n → copied xs ys to 0 n ≡ None
copied_past xs ys to n h = rw (no_room (to + n) (length xs) (omega (arith, h))) refl

-- bytes that are more than the memory has
pub init_past : (m : Memory) (bs : List ℕ) (to : ℕ) → length m.bytes < length bs → init m bs to 0 (length bs) ≡ None
unfolding init
init_past m bs to h = ap (option_map (with_bytes m)) (copied_past m.bytes bs to (length bs) h)

-- elements that are more than the table has
pub table_init_past : (s : instances.Store) (x y to n : ℕ) → op.table_size s x < n → op.table_init s x y to 0 n ≡ (None, s)
unfolding op.table_init
table_init_past s x y to n h = ap (outcome s (op.with_elements s x)) (copied_past (op.elements_at s.tables x) (op.elem_at s.elems y) to n h)

-- ## Element segments

-- a list whose length is known is there
has_length : (o : Option (List Value)) (n : ℕ) → option_map length o ≡ Some n → (vs : List Value) × (o ≡ Some vs) × (length vs ≡ n)
has_length (Some vs) n e = (vs, refl, same_Some (length vs) n e)
has_length None n e = absurd (cc)

-- the segment whose length is known
pub segment_there : (s : instances.Store) (y n : ℕ) → element_length s y ≡ Some n → (vs : List Value) × (slice_get s.elems y ≡ Some vs) × (length vs ≡ n)
segment_there s y n e = has_length (slice_get s.elems y) n e

-- as many
pub mapped_length : {A B : Type 0} (f : A → B) (xs : List A) → length (map f xs) ≡ length xs
mapped_length f [] = refl
mapped_length f (x ∷ xs) = ap suc (mapped_length f xs)

module _ {A B : Type 0} (f : A → B) where
  -- a part, as it is seen
  part_mapped : (ys : List A) (from n : ℕ) → part (map f ys) from n ≡ map f (part ys from n)
  part_mapped ys from n = ap (take n) (drop-map f from ys) ∙ take-map f n (drop from ys)

  -- a list that was written to, as it is seen
  written_mapped : (xs new : List A) (to : ℕ) → written (map f xs) to (map f new) ≡ map f (written xs to new)
  written_mapped xs new to =
      ap (λ (l : List B). l ++ map f new ++ drop (to + length (map f new)) (map f xs)) (take-map f to xs)
      ∙ ap (λ i. map f (take to xs) ++ map f new ++ drop (to + i) (map f xs)) (mapped_length f new)
      ∙ ap (λ (l : List B). map f (take to xs) ++ map f new ++ l) (drop-map f (to + length new) xs)
      ∙ ap (λ (l : List B). l ++ map f (drop (to + length new) xs)) (sym (map-append f (take to xs) new))
      ∙ sym (map-append f (take to xs ++ new) (drop (to + length new) xs))

  -- a test, and what follows where it is passed
  tested : (a b : Bool) (new : List A) → (if a && b then Some (map f new) else None) ≡ option_map (map f) (if a && b then Some new else None)
  tested true true new = refl
  tested true false new = refl
  tested false b new = refl

  -- elements are copied as they are seen
  copied_mapped : (xs ys : List A) (to from n : ℕ) → copied (map f xs) (map f ys) to from n ≡ option_map (map f) (copied xs ys to from n)
  copied_mapped xs ys to from n =
      ap (λ i. if nat_le (to + n) i && nat_le (from + n) (length (map f ys)) then Some (written (map f xs) to (part (map f ys) from n)) else None) (mapped_length f xs)
      ∙ ap (λ i. if nat_le (to + n) (length xs) && nat_le (from + n) i then Some (written (map f xs) to (part (map f ys) from n)) else None) (mapped_length f ys)
      ∙ ap (λ (l : List B). if nat_le (to + n) (length xs) && nat_le (from + n) (length ys) then Some l else None)
      (ap (written (map f xs) to) (part_mapped ys from n) ∙ written_mapped xs (part ys from n) to)
      ∙ tested (nat_le (to + n) (length xs)) (nat_le (from + n) (length ys)) (written xs to (part ys from n))

-- the store after a copy and a drop
dropped_after : (s : instances.Store) (x y : ℕ) (ws : List Value) → let t = op.table_at s.tables x in
    without_elements (with_elements (store_of s) x (table_of t) (vals ws)) y ≡ store_of (op.elem_drop (op.with_elements s x ws) y)
dropped_after s x y ws =
    let t = op.table_at s.tables x in
    ap (λ (l : List Table). without_elements (record (store_of s) { tables = l }) y) (sym (mapped_set table_of s.tables x (record t { elements = ws })))
    ∙ ap (λ (l : List (List Val)). record (store_of (op.with_elements s x ws)) { elements = l }) (sym (mapped_set vals s.elems y []))

-- what a copy answered
abbrev After : instances.Store → ℕ → Option (Unit {0}) → Option Store
After t y r = option_map (λ (u : Unit {0}). store_of (op.elem_drop t y)) r

-- the definition answers what the copy answered
put_as : (s t : instances.Store) (x y : ℕ) (vs : List Value) (r : Option (Unit {0})) (o : Option (List Value)) → outcome s (op.with_elements s x) o ≡ (r, t)
    → elements_put (store_of s) x y (table_of (op.table_at s.tables x)) (vals vs) (option_map vals o) ≡ After t y r
put_as s t x y vs r None e = ap (λ (q : Option (Unit {0}) × instances.Store). After q.1 y q.0) e
put_as s t x y vs r (Some ws) e = ap Some (dropped_after s x y ws) ∙ ap (λ (q : Option (Unit {0}) × instances.Store). After q.1 y q.0) e

-- and so it does of the table and the segment that are there
pub elements_as : (s t : instances.Store) (x y d n : ℕ) (r : Option (Unit {0})) → x < length s.tables → element_length s y ≡ Some n → op.table_init s x y d 0 n ≡ (r, t)
    → elements_copied (store_of s) x y d (slice_get (store_of s).tables x) (slice_get (store_of s).elements y) ≡ After t y r
unfolding op.table_init
elements_as s t x y d n r h e f =
    let at = op.table_at s.tables x in
    let w = segment_there s y n e in
    let vs = w.0 in
    let table_seen : slice_get (map table_of s.tables) x ≡ Some (table_of at) = slice_get-map table_of s.tables x ∙ ap (option_map table_of) (slice_get-get_or s.tables x _ h) in
    let segment_seen : slice_get (map vals s.elems) y ≡ Some (vals vs) = slice_get-map vals s.elems y ∙ ap (option_map vals) w.1 in
    let same : op.elem_at s.elems y ≡ vs = get_or_from_slice_get s.elems y vs [] w.1 in
    ap (λ (o : Option Table). elements_copied (store_of s) x y d o (slice_get (store_of s).elements y)) table_seen
    ∙ ap (elements_copied (store_of s) x y d (Some (table_of at))) segment_seen
    ∙ ap (λ i. elements_put (store_of s) x y (table_of at) (vals vs) (copied (vals at.elements) (vals vs) d 0 i)) (mapped_length val vs ∙ w.2)
    ∙ ap (elements_put (store_of s) x y (table_of at) (vals vs)) (copied_mapped val at.elements vs d 0 n)
    ∙ put_as s t x y vs r (copied at.elements vs d 0 n) (ap (λ (l : List Value). outcome s (op.with_elements s x) (copied at.elements l d 0 n)) (sym same) ∙ f)

-- ## What stays

-- one change after another
pub keeps_again : (s t u : instances.Store) → KeepsSizes s t → KeepsSizes t u → KeepsSizes s u
keeps_again s t u h k = record {
  functions = k.functions ∙ h.functions;
  globals = k.globals ∙ h.globals;
  tables = k.tables ∙ h.tables;
  memories = k.memories ∙ h.memories;
  elements = k.elements ∙ h.elements;
  datas = k.datas ∙ h.datas;
}

-- no change
pub keeps_itself : (s : instances.Store) → KeepsSizes s s
keeps_itself s = record { functions = refl; globals = refl; tables = refl; memories = refl; elements = refl; datas = refl }

-- an element segment is dropped
pub elem_drop_keeps : (s : instances.Store) (y : ℕ) → KeepsSizes s (op.elem_drop s y)
elem_drop_keeps s y = record { functions = refl; globals = refl; tables = refl; memories = refl; elements = length-set s.elems y []; datas = refl }

-- sizes, and the element segments
pub record KeepsSegments (s t : instances.Store) : Type 0 where
  pub sizes : KeepsSizes s t
  pub segments : t.elems ≡ s.elems

-- a change of elements, or none
outcome_keeps : (s t : instances.Store) (x : ℕ) (r : Option (Unit {0})) (o : Option (List Value)) → outcome s (op.with_elements s x) o ≡ (r, t) → KeepsSegments s t
outcome_keeps s t x r None e = subst (KeepsSegments s) (ap (λ (q : Option (Unit {0}) × instances.Store). q.1) e) (record { sizes = keeps_itself s; segments = refl })
outcome_keeps s t x r (Some ws) e = subst (KeepsSegments s) (ap (λ (q : Option (Unit {0}) × instances.Store). q.1) e) (record {
  sizes = record { functions = refl; globals = refl; tables = length-set s.tables x _; memories = refl; elements = refl; datas = refl };
  segments = refl;
})

-- a copy into a table
pub table_init_keeps : (s t : instances.Store) (x y d n : ℕ) (r : Option (Unit {0})) → op.table_init s x y d 0 n ≡ (r, t) → KeepsSegments s t
unfolding op.table_init
table_init_keeps s t x y d n r e = outcome_keeps s t x r (copied (op.elements_at s.tables x) (op.elem_at s.elems y) d 0 n) e

-- behind the place that was set
set_before : {A : Type 0} (xs : List A) (y j : ℕ) (v : A) → y < j → slice_get (slice_set xs y v) j ≡ slice_get xs j
set_before [] y j v h = refl
set_before (x ∷ xs) zero zero v h = absurd (omega (arith, h))
set_before (x ∷ xs) zero (suc j) v h = refl
set_before (x ∷ xs) (suc y) zero v h = absurd (omega (arith, h))
set_before (x ∷ xs) (suc y) (suc j) v h = set_before xs y j v (omega (arith, h))

-- the element segments behind the one that is dropped
pub elem_drop_later : (s t u : instances.Store) (y j : ℕ) → t.elems ≡ s.elems → u ≡ op.elem_drop t y → y < j → element_length u j ≡ element_length s j
elem_drop_later s t u y j e f h =
    ap (λ (w : instances.Store). element_length w j) f ∙ ap (option_map length) (set_before t.elems y j [] h ∙ ap (λ (l : List (List Value)). slice_get l j) e)

-- ## Element segments that are copied and dropped

-- no end was passed
pub elements_done : (s t u : instances.Store) (x y d n : ℕ) (r : Option (Unit {0})) → x < length s.tables → element_length s y ≡ Some n → op.table_init s x y d 0 n ≡ (r, t)
    → r ≡ Some tt → u ≡ op.elem_drop t y → elements_copied (store_of s) x y d (slice_get (store_of s).tables x) (slice_get (store_of s).elements y) ≡ Some (store_of u)
elements_done s t u x y d n r h e f g k =
    elements_as s t x y d n r h e f ∙ ap (After t y) g ∙ ap (λ (w : instances.Store). Some (store_of w)) (sym k)

-- an end was passed
pub elements_trap : (s t : instances.Store) (x y d n : ℕ) (r : Option (Unit {0})) → x < length s.tables → element_length s y ≡ Some n → op.table_init s x y d 0 n ≡ (r, t)
    → r ≡ None → elements_copied (store_of s) x y d (slice_get (store_of s).tables x) (slice_get (store_of s).elements y) ≡ None
elements_trap s t x y d n r h e f g = elements_as s t x y d n r h e f ∙ ap (After t y) g

-- the sizes stay
pub elements_keep : (s t u : instances.Store) (x y d n : ℕ) (r : Option (Unit {0})) → op.table_init s x y d 0 n ≡ (r, t) → u ≡ op.elem_drop t y → KeepsSizes s u
elements_keep s t u x y d n r f k = subst (KeepsSizes s) (sym k) (keeps_again s t (op.elem_drop t y) (table_init_keeps s t x y d n r f).sizes (elem_drop_keeps t y))

-- a declarative segment
pub declared_as : (p : Program) (s t : instances.Store) (y : ℕ) (m : ElemMode) → m ≡ elem_mode.Declarative → t ≡ op.elem_drop s y → element_started p (store_of s) y m ≡ Some (store_of t)
declared_as p s t y m e f =
    ap (element_started p (store_of s) y) e
    ∙ ap (λ (l : List (List Val)). Some (record (store_of s) { elements = l })) (sym (mapped_set vals s.elems y []))
    ∙ ap (λ (w : instances.Store). Some (store_of w)) (sym f)
