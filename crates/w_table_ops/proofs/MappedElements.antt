-- What is done to the elements of a table is the same with the elements that they stand for.
use Rattle.std.proofs.Common.{◌≡◌, ℕ, zero, suc, ◌+◌, ◌<◌, Bool, true, false, ◌&&◌, if◌then◌else◌, List, [], ◌∷◌, ◌++◌, length, take, drop, map, Option, Some, None, refl, sym, ap, ◌∙◌}
use Rattle.std.specs.Prelude.{nat_le, nat_lt, replicate, slice_get, slice_set}
use Rattle.std.specs.Option.{option_map}
use Rattle.std.proofs.lemmas.List.{take-map, drop-map, length-map, map-append}
use Rattle.std.proofs.lemmas.Option.{slice_get-get_or}
use Rattle.w_memory.specs.Parts.{is_within, part, written}
use Rattle.w_types.specs.declared.value.Value.{Value}
use Rattle.w_tables.specs.Elements.{replaced, filled, copied, most_elements, grown}
use Rattle.w_tables.specs.Operations as on
use Rattle.w_tables.specs.Store as instances
use Rattle.w_reduce.specs.Values.{Val, val}
use Rattle.w_reduce.specs.Store.{Store, Table}
use Rattle.w_reduce.specs.Tables.{with_elements, without_elements}
use Rattle.w_reduce.specs.Variable.{with_global}
use Rattle.w_stands.specs.Values.{vals, table_of, store_of}
use Rattle.w_stands.proofs.Locals.{mapped_get, mapped_set}

-- what a test allows stands for what the same test allows of what others stand for
guarded : {A B : Type 0} (h : A → B) (b b' : Bool) (x : A) (y : B) → b' ≡ b → y ≡ h x → (if b' then Some y else None) ≡ option_map h (if b then Some x else None)
guarded {A} {B} h b b' x y e g =
    let cases : (t : Bool) → (if t then Some (h x) else None) ≡ option_map h (if t then Some x else None) =
    λ t. elim t as (λ t. (if t then Some (h x) else None) ≡ option_map h (if t then Some x else None)) [ true ↦ refl | false ↦ refl ] in
    ap (λ (t : Bool). if t then Some y else None) e ∙ ap (λ (z : B). if b then Some z else None) g ∙ cases b

module _ {A B : Type 0} (f : A → B) where
  -- the same value, again and again
  mapped_replicate : (n : ℕ) (v : A) → map f (replicate n v) ≡ replicate n (f v)
  mapped_replicate zero v = refl
  mapped_replicate (suc n) v = ap (λ (l : List B). f v ∷ l) (mapped_replicate n v)

  -- written over a part
  mapped_written : (xs : List A) (at : ℕ) (new : List A) → written (map f xs) at (map f new) ≡ map f (written xs at new)
  mapped_written xs at new = simp (take-map, drop-map, length-map, map-append)

  -- the same ranges pass an end
  mapped_within : (at n : ℕ) (xs : List A) → is_within at n (map f xs) ≡ is_within at n xs
  mapped_within at n xs = ap (λ (k : ℕ). nat_le (at + n) k) (length-map xs f)

  -- so what each operation makes of what others stand for is what its result stands for
  pub mapped_replaced : (xs : List A) (at : ℕ) (v : A) → replaced (map f xs) at (f v) ≡ option_map (map f) (replaced xs at v)
  mapped_replaced xs at v =
      guarded (map f) (nat_lt at (length xs)) (nat_lt at (length (map f xs))) (slice_set xs at v) (slice_set (map f xs) at (f v))
      (ap (λ (k : ℕ). nat_lt at k) (length-map xs f)) (sym (mapped_set f xs at v))

  pub mapped_filled : (xs : List A) (at : ℕ) (v : A) (n : ℕ) → filled (map f xs) at (f v) n ≡ option_map (map f) (filled xs at v n)
  mapped_filled xs at v n =
      guarded (map f) (is_within at n xs) (is_within at n (map f xs)) (written xs at (replicate n v)) (written (map f xs) at (replicate n (f v)))
      (mapped_within at n xs) (ap (written (map f xs) at) (sym (mapped_replicate n v)) ∙ mapped_written xs at (replicate n v))

  pub mapped_copied : (xs ys : List A) (d j n : ℕ) → copied (map f xs) (map f ys) d j n ≡ option_map (map f) (copied xs ys d j n)
  mapped_copied xs ys d j n =
      guarded (map f) (is_within d n xs && is_within j n ys) (is_within d n (map f xs) && is_within j n (map f ys)) (written xs d (part ys j n)) (written (map f xs) d (part (map f ys) j n))
      (ap (λ (b : Bool). b && is_within j n (map f ys)) (mapped_within d n xs) ∙ ap (λ (b : Bool). is_within d n xs && b) (mapped_within j n ys))
      (ap (written (map f xs) d) (ap (take n) (drop-map f j ys) ∙ take-map f n (drop j ys)) ∙ mapped_written xs d (part ys j n))

  pub mapped_grown : (xs : List A) (max : Option ℕ) (v : A) (n : ℕ) → grown (map f xs) max (f v) n ≡ option_map (map f) (grown xs max v n)
  mapped_grown xs max v n =
      guarded (map f) (nat_le (length xs + n) (most_elements max)) (nat_le (length (map f xs) + n) (most_elements max)) (xs ++ replicate n v) (map f xs ++ replicate n (f v))
      (ap (λ (k : ℕ). nat_le (k + n) (most_elements max)) (length-map xs f))
      (ap (λ (l : List B). map f xs ++ l) (sym (mapped_replicate n v)) ∙ sym (map-append f xs (replicate n v)))

-- ## Stores

-- a table that is there
pub table_there : (u : instances.Store) (x : ℕ) → x < length u.tables → slice_get (map table_of u.tables) x ≡ Some (table_of (on.table_at u.tables x))
table_there u x h = mapped_get table_of u.tables x ∙ ap (option_map table_of) (slice_get-get_or u.tables x _ h)

-- an element segment that is there
pub segment_there : (u : instances.Store) (y : ℕ) → y < length u.elems → slice_get (map vals u.elems) y ≡ Some (vals (on.elem_at u.elems y))
segment_there u y h = mapped_get vals u.elems y ∙ ap (option_map vals) (slice_get-get_or u.elems y _ h)

-- other elements of a table
pub store_written : (u : instances.Store) (x : ℕ) (new : List Value) →
    with_elements (store_of u) x (table_of (on.table_at u.tables x)) (vals new) ≡ store_of (on.with_elements u x new)
store_written u x new =
    ap (λ (ts : List Table). let s : Store = record (store_of u) { tables = ts } in s) (sym (mapped_set table_of u.tables x (record (on.table_at u.tables x) { elements = new })))

-- a segment that was dropped
pub store_dropped : (u : instances.Store) (y : ℕ) → without_elements (store_of u) y ≡ store_of (on.elem_drop u y)
store_dropped u y = ap (λ (vss : List (List Val)). let s : Store = record (store_of u) { elements = vss } in s) (sym (mapped_set vals u.elems y []))

-- a global that was set
pub store_set : (u : instances.Store) (x : ℕ) (v : Value) → with_global (store_of u) x (val v) ≡ store_of (on.global_set u x v)
store_set u x v = ap (λ (vs : List Val). let s : Store = record (store_of u) { globals = vs } in s) (sym (mapped_set val u.globals x v))
