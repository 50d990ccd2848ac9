-- Element segments change tables alone and data segments memories alone, so that it makes no difference which are started first.
use Rattle.std.proofs.Common.{◌≡◌, ℕ, suc, ◌+◌, List, [], ◌∷◌, ◌++◌, length, Option, Some, None, slice_get, refl, sym, ap, subst, ◌∙◌, arith}
use Rattle.std.specs.Prelude.{All, option_map}
use Rattle.std.proofs.lemmas.List.Elements.{All-head, All-tail}
use Rattle.w_memory.specs.Memory.{Memory, init}
use Rattle.w_syntax.specs.declared.module.Data.{Data}
use Rattle.w_syntax.specs.declared.module.DataMode.{DataMode}
use Rattle.w_syntax.specs.declared.module.DataMode.TheVariants as data_mode
use Rattle.w_syntax.specs.declared.module.Elem.{Elem}
use Rattle.w_syntax.specs.declared.module.ElemMode.{ElemMode}
use Rattle.w_syntax.specs.declared.module.ElemMode.TheVariants as elem_mode
use Rattle.w_tables.specs.Elements.{copied}
use Rattle.w_reduce.specs.Values.{Val}
use Rattle.w_reduce.specs.Store.{Store, Table}
use Rattle.w_reduce.specs.Program.{Program}
use Rattle.w_reduce.specs.Constants.{value_of, number_in}
use Rattle.w_reduce.specs.Start.{elements_put, elements_copied, element_started, data_put, data_copied, data_started, in_order}
use Rattle.w_inst.specs.Segments.{IsElemConstant, IsDataConstant}
use Rattle.w_linker.proofs.SameValues.{value_same}

-- ## Steps that leave a part of the store as it is

-- W u s is s with that part of u, and V u s is s with the other part of u
module _ {A : Type 0} (f : Store → ℕ → A → Option Store) (Q : A → Type 0) (W V : Store → Store → Store)
    (apart : (u s : Store) (y : ℕ) (x : A) → Q x → f (W u s) y x ≡ option_map (W u) (f s y x))
    (keeps : (s t : Store) (y : ℕ) (x : A) → f s y x ≡ Some t → t ≡ V t s)
    (itself : (s : Store) → s ≡ V s s) (twice : (t r s : Store) → V t (V r s) ≡ V t s) where
  -- they do the same with that part of another
  runs_apart : (u : Store) (o : Option Store) (y : ℕ) (xs : List A) → All Q xs → in_order f (option_map (W u) o) y xs ≡ option_map (W u) (in_order f o y xs)
  runs_apart u None y xs h = refl
  runs_apart u (Some s) y [] h = refl
  runs_apart u (Some s) y (x ∷ xs) h =
      ap (λ (o : Option Store). in_order f o (suc y) xs) (apart u s y x (All-head Q x xs h)) ∙ runs_apart u (f s y x) (suc y) xs (All-tail Q x xs h)

  one_more : (s t : Store) (y : ℕ) (x : A) (xs : List A) (o : Option Store) → ((r : Store) → in_order f (Some r) (suc y) xs ≡ Some t → t ≡ V t r)
      → f s y x ≡ o → in_order f o (suc y) xs ≡ Some t → t ≡ V t s
  one_more s t y x xs None again is e = absurd (cc)
  one_more s t y x xs (Some r) again is e = again r e ∙ ap (V t) (keeps s r y x is) ∙ twice t r s

  -- and leave it
  runs_keep : (s t : Store) (y : ℕ) (xs : List A) → in_order f (Some s) y xs ≡ Some t → t ≡ V t s
  runs_keep s t y [] e = let one : s ≡ t = cc in subst (λ (r : Store). r ≡ V r s) one (itself s)
  runs_keep s t y (x ∷ xs) e = one_more s t y x xs (f s y x) (λ r k. runs_keep r t (suc y) xs k) refl e

-- those of two lists
pub in_order-append : {A : Type 0} (f : Store → ℕ → A → Option Store) (o : Option Store) (y : ℕ) (xs ys : List A)
    → in_order f o y (xs ++ ys) ≡ in_order f (in_order f o y xs) (y + length xs) ys
in_order-append f None y xs ys = refl
in_order-append f (Some s) y [] ys = ap (λ (k : ℕ). in_order f (Some s) k ys) (omega arith)
in_order-append f (Some s) y (x ∷ xs) ys =
    in_order-append f (f s y x) (suc y) xs ys ∙ ap (λ (k : ℕ). in_order f (in_order f (f s y x) (suc y) xs) k ys) (omega arith)

-- ## Both parts

-- the second store, with the tables of the first
abbrev with_tables_of : Store → Store → Store
with_tables_of u s = record s { tables = u.tables; elements = u.elements }

-- the second store, with the memories of the first
abbrev with_memories_of : Store → Store → Store
with_memories_of u s = record s { memories = u.memories; datas = u.datas }

-- ## Element segments

abbrev pub by_element : Program → Store → ℕ → Elem → Option Store
by_element p s y e = element_started p s y e.mode

put_apart : (u s : Store) (x y : ℕ) (t : Table) (segment : List Val) (o : Option (List Val))
    → elements_put (with_memories_of u s) x y t segment o ≡ option_map (with_memories_of u) (elements_put s x y t segment o)
put_apart u s x y t segment None = refl
put_apart u s x y t segment (Some vs) = refl

copied_apart : (u s : Store) (x y d : ℕ) (t : Option Table) (segment : Option (List Val))
    → elements_copied (with_memories_of u s) x y d t segment ≡ option_map (with_memories_of u) (elements_copied s x y d t segment)
copied_apart u s x y d None segment = refl
copied_apart u s x y d (Some t) None = refl
copied_apart u s x y d (Some t) (Some segment) = put_apart u s x y t segment (copied t.elements segment d 0 (length segment))

mode_apart : (p : Program) (u s : Store) (y : ℕ) (mode : ElemMode) → IsElemConstant mode
    → element_started p (with_memories_of u s) y mode ≡ option_map (with_memories_of u) (element_started p s y mode)
mode_apart p u s y (elem_mode.Active x k) h =
    ap (λ (v : Val). elements_copied (with_memories_of u s) x y (number_in v) (slice_get s.tables x) (slice_get s.elements y)) (value_same p (with_memories_of u s) s refl refl k h)
    ∙ copied_apart u s x y (number_in (value_of p s k)) (slice_get s.tables x) (slice_get s.elements y)
mode_apart p u s y elem_mode.Passive h = refl
mode_apart p u s y elem_mode.Declarative h = refl

-- a store that differs in its tables alone
tables_alone : (s r t : Store) → r ≡ with_tables_of r s → Some r ≡ Some t → t ≡ with_tables_of t s
tables_alone s r t h e = let one : r ≡ t = cc in subst (λ (q : Store). q ≡ with_tables_of q s) one h

put_keeps : (s r : Store) (x y : ℕ) (t : Table) (segment : List Val) (o : Option (List Val)) → elements_put s x y t segment o ≡ Some r → r ≡ with_tables_of r s
put_keeps s r x y t segment None e = absurd (cc)
put_keeps s r x y t segment (Some vs) e = tables_alone s _ r refl e

copied_keeps : (s r : Store) (x y d : ℕ) (t : Option Table) (segment : Option (List Val)) → elements_copied s x y d t segment ≡ Some r → r ≡ with_tables_of r s
copied_keeps s r x y d None segment e = absurd (cc)
copied_keeps s r x y d (Some t) None e = absurd (cc)
copied_keeps s r x y d (Some t) (Some segment) e = put_keeps s r x y t segment (copied t.elements segment d 0 (length segment)) e

mode_keeps : (p : Program) (s r : Store) (y : ℕ) (mode : ElemMode) → element_started p s y mode ≡ Some r → r ≡ with_tables_of r s
mode_keeps p s r y (elem_mode.Active x k) e = copied_keeps s r x y (number_in (value_of p s k)) (slice_get s.tables x) (slice_get s.elements y) e
mode_keeps p s r y elem_mode.Passive e = tables_alone s s r refl e
mode_keeps p s r y elem_mode.Declarative e = tables_alone s _ r refl e

-- ## Data segments

abbrev pub by_data : Program → Store → ℕ → Data → Option Store
by_data p s y d = data_started p s y d.mode

bytes_apart : (u s : Store) (x y : ℕ) (o : Option Memory) → data_put (with_tables_of u s) x y o ≡ option_map (with_tables_of u) (data_put s x y o)
bytes_apart u s x y None = refl
bytes_apart u s x y (Some m) = refl

data_apart : (u s : Store) (x y d : ℕ) (m : Option Memory) (bytes : Option (List ℕ))
    → data_copied (with_tables_of u s) x y d m bytes ≡ option_map (with_tables_of u) (data_copied s x y d m bytes)
data_apart u s x y d None bytes = refl
data_apart u s x y d (Some m) None = refl
data_apart u s x y d (Some m) (Some bytes) = bytes_apart u s x y (init m bytes d 0 (length bytes))

data_mode_apart : (p : Program) (u s : Store) (y : ℕ) (mode : DataMode) → IsDataConstant mode
    → data_started p (with_tables_of u s) y mode ≡ option_map (with_tables_of u) (data_started p s y mode)
data_mode_apart p u s y (data_mode.Active x k) h =
    ap (λ (v : Val). data_copied (with_tables_of u s) x y (number_in v) (slice_get s.memories x) (slice_get s.datas y)) (value_same p (with_tables_of u s) s refl refl k h)
    ∙ data_apart u s x y (number_in (value_of p s k)) (slice_get s.memories x) (slice_get s.datas y)
data_mode_apart p u s y data_mode.Passive h = refl

-- a store that differs in its memories alone
memories_alone : (s r t : Store) → r ≡ with_memories_of r s → Some r ≡ Some t → t ≡ with_memories_of t s
memories_alone s r t h e = let one : r ≡ t = cc in subst (λ (q : Store). q ≡ with_memories_of q s) one h

bytes_keep : (s r : Store) (x y : ℕ) (o : Option Memory) → data_put s x y o ≡ Some r → r ≡ with_memories_of r s
bytes_keep s r x y None e = absurd (cc)
bytes_keep s r x y (Some m) e = memories_alone s _ r refl e

data_keeps : (s r : Store) (x y d : ℕ) (m : Option Memory) (bytes : Option (List ℕ)) → data_copied s x y d m bytes ≡ Some r → r ≡ with_memories_of r s
data_keeps s r x y d None bytes e = absurd (cc)
data_keeps s r x y d (Some m) None e = absurd (cc)
data_keeps s r x y d (Some m) (Some bytes) e = bytes_keep s r x y (init m bytes d 0 (length bytes)) e

data_mode_keeps : (p : Program) (s r : Store) (y : ℕ) (mode : DataMode) → data_started p s y mode ≡ Some r → r ≡ with_memories_of r s
data_mode_keeps p s r y (data_mode.Active x k) e = data_keeps s r x y (number_in (value_of p s k)) (slice_get s.memories x) (slice_get s.datas y) e
data_mode_keeps p s r y data_mode.Passive e = memories_alone s s r refl e

-- ## One after the other

module _ (p : Program) where
  elements_apart : (u s : Store) (y : ℕ) (es : List Elem) → All (λ (e : Elem). IsElemConstant e.mode) es
      → in_order (by_element p) (Some (with_memories_of u s)) y es ≡ option_map (with_memories_of u) (in_order (by_element p) (Some s) y es)
  elements_apart u s y es h = runs_apart (by_element p) (λ (e : Elem). IsElemConstant e.mode) with_memories_of with_tables_of
      (λ u s y e k. mode_apart p u s y e.mode k) (λ s t y e k. mode_keeps p s t y e.mode k) (λ s. refl) (λ t r s. refl) u (Some s) y es h

  elements_keep : (s t : Store) (y : ℕ) (es : List Elem) → in_order (by_element p) (Some s) y es ≡ Some t → t ≡ with_tables_of t s
  elements_keep s t y es e = runs_keep (by_element p) (λ (e : Elem). IsElemConstant e.mode) with_memories_of with_tables_of
      (λ u s y e k. mode_apart p u s y e.mode k) (λ s t y e k. mode_keeps p s t y e.mode k) (λ s. refl) (λ t r s. refl) s t y es e

  datas_apart : (u s : Store) (z : ℕ) (ds : List Data) → All (λ (d : Data). IsDataConstant d.mode) ds
      → in_order (by_data p) (Some (with_tables_of u s)) z ds ≡ option_map (with_tables_of u) (in_order (by_data p) (Some s) z ds)
  datas_apart u s z ds h = runs_apart (by_data p) (λ (d : Data). IsDataConstant d.mode) with_tables_of with_memories_of
      (λ u s y d k. data_mode_apart p u s y d.mode k) (λ s t y d k. data_mode_keeps p s t y d.mode k) (λ s. refl) (λ t r s. refl) u (Some s) z ds h

  datas_keep : (s t : Store) (z : ℕ) (ds : List Data) → in_order (by_data p) (Some s) z ds ≡ Some t → t ≡ with_memories_of t s
  datas_keep s t z ds e = runs_keep (by_data p) (λ (d : Data). IsDataConstant d.mode) with_tables_of with_memories_of
      (λ u s y d k. data_mode_apart p u s y d.mode k) (λ s t y d k. data_mode_keeps p s t y d.mode k) (λ s. refl) (λ t r s. refl) s t z ds e

  -- with element segments started first, data segments lead to the same store
  pub record ElementsFirst (t w : Store) (z : ℕ) (ds : List Data) (y : ℕ) (es : List Elem) : Type 0 where
    pub between : Store
    pub elements : in_order (by_element p) (Some t) y es ≡ Some between
    pub datas : in_order (by_data p) (Some between) z ds ≡ Some w

  turned : (t u w : Store) (z : ℕ) (ds : List Data) (y : ℕ) (es : List Elem) (o : Option Store) → All (λ (d : Data). IsDataConstant d.mode) ds
      → in_order (by_data p) (Some t) z ds ≡ Some u → in_order (by_element p) (Some t) y es ≡ o → option_map (with_memories_of u) o ≡ Some w → ElementsFirst t w z ds y es
  turned t u w z ds y es None h first is e = absurd (cc)
  turned t u w z ds y es (Some v) h first is e =
      let kept : v ≡ with_tables_of v t = elements_keep t v y es is in
      let changed : u ≡ with_memories_of u t = datas_keep t u z ds first in
      let last : with_memories_of u v ≡ w = cc in
      record {
        between = v;
        elements = is;
        datas =
            ap (λ (s : Store). in_order (by_data p) (Some s) z ds) kept
            ∙ datas_apart v t z ds h
            ∙ ap (option_map (with_tables_of v)) first
            ∙ ap (λ (s : Store). Some (with_tables_of v s)) changed
            ∙ ap (λ (s : Store). Some (with_memories_of u s)) (sym kept)
            ∙ ap (λ (s : Store). Some s) last;
      }

  pub elements_first : (t u w : Store) (z : ℕ) (ds : List Data) (y : ℕ) (es : List Elem) → All (λ (d : Data). IsDataConstant d.mode) ds → All (λ (e : Elem). IsElemConstant e.mode) es
      → in_order (by_data p) (Some t) z ds ≡ Some u → in_order (by_element p) (Some u) y es ≡ Some w → ElementsFirst t w z ds y es
  elements_first t u w z ds y es h k first then_these =
      let changed : u ≡ with_memories_of u t = datas_keep t u z ds first in
      let apart : option_map (with_memories_of u) (in_order (by_element p) (Some t) y es) ≡ Some w =
      sym (elements_apart u t y es k) ∙ ap (λ (s : Store). in_order (by_element p) (Some s) y es) (sym changed) ∙ then_these in
      turned t u w z ds y es (in_order (by_element p) (Some t) y es) h first refl apart
