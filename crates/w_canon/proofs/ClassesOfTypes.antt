-- Types have one class exactly where they are equivalent.
use Rattle.std.proofs.Common.{◌≡◌, ◌↔◌, ◌⊎◌, inl, inr, ℕ, zero, suc, ◌+◌, ◌-◌, ◌<◌, ◌≤◌, List, [], ◌∷◌, ◌++◌, length, map, take, get_or, Some, None, slice_get, refl, sym, ap, subst, ◌∙◌, append_assoc, arith}
use Rattle.std.proofs.lemmas.Bool.{cases_lt}
use Rattle.std.proofs.lemmas.List.{length-append, length-map, length-take-le, take-append-le, take_more, take_all, take_at, map-append, append-nil}
use Rattle.std.proofs.lemmas.Option.{slice_get_within}
use Rattle.w_types.specs.declared.types.SubType.{SubType}
use Rattle.w_types.specs.declared.types.RecGroup.{RecGroup}
use Rattle.w_types.specs.Groups.{subtypes_of, composite_of, types_of}
use Rattle.w_canon.specs.declared.entry.Class.{Class}
use Rattle.w_canon.specs.declared.entry.Kind.{Kind}
use Rattle.w_canon.specs.declared.entry.Entry.{Entry}
use Rattle.w_canon.specs.declared.key.Word.{Word}
use Rattle.w_canon.specs.Classed.{Numbers, count, key_at, EntryAt, FirstAt, Classed}
use Rattle.w_canon.specs.Entries.{kind_of, entries_from}
use Rattle.w_canon.specs.Relations.{Pairwise}
use Rattle.w_canon.specs.Equivalence.{AlikeGroup, Place, AtOnePosition, Same, SameIndex}
use Rattle.w_canon.specs.Keys.{group_words}
use Rattle.w_canon.specs.Numbers.{number_of, Finds}
use Rattle.w_canon.specs.IsClassesOf.{OneClass, first_of, HaveFirsts, IsClassesOf}
use Rattle.w_canon.proofs.EntriesOfTypes.{kinds-entries_from, class-entries_from}
use Rattle.w_canon.proofs.KeysOfGroups.{ClassedBy, one_key}
use Rattle.w_canon.proofs.Orders.{one_class}
use Rattle.lists.proofs.Lists.{get-front, get-behind}
use Rattle.w_canon.proofs.Places.{subtypes_of-append, subtypes_of-cons, subtypes_of-nil, count-append, count-split, within_all, front_within, place, place_wider, one_place}

-- ## Lists

get-take : {A : Type 0} (s : ℕ) (xs : List A) (x : ℕ) (a : A) → slice_get (take s xs) x ≡ Some a → (x < s) × (slice_get xs x ≡ Some a)
get-take zero xs x a h = absurd (cc)
get-take (suc s) [] x a h = absurd (cc)
get-take (suc s) (y ∷ xs) zero a h = (omega arith, h)
get-take (suc s) (y ∷ xs) (suc x) a h = let r = get-take s xs x a h in (omega (arith, r.0), r.1)

entry_at : (es : List Entry) (i : ℕ) → i < length es → (a : Entry) × (slice_get es i ≡ Some a)
entry_at [] i h = absurd (omega arith)
entry_at (e ∷ es) zero h = (e, refl)
entry_at (e ∷ es) (suc i) h = entry_at es i (omega arith)

-- there are as many entries as types
as_many : (gs : List RecGroup) (es : List Entry) → map (λ (e : Entry). e.kind) es ≡ map kind_of (types_of gs) → length es ≡ count gs
as_many gs es h = sym (length-map es (λ (e : Entry). e.kind)) ∙ ap (λ (l : List Kind). length l) h ∙ length-map (types_of gs) kind_of ∙ length-map (subtypes_of gs) composite_of

-- ## No groups

no_number : (m : Numbers) (q : List Word) (n : ℕ) → m.entries ≡ [] → number_of m q ≡ Some n → ⊥
no_number m q n none h = let z : number_of m q ≡ None = rw none refl in cc

pub classed_none : (m : Numbers) → m.entries ≡ [] → Classed m [] []
classed_none m none = record {
  kinds = ap (λ (l : List SubType). map kind_of (map composite_of l)) (sym subtypes_of-nil);
  entries = λ i h. absurd (let n = ap (λ (l : List SubType). length l) subtypes_of-nil in omega arith);
  once = λ q r n h k. absurd (no_number m q n none h);
  below = λ q n h. absurd (no_number m q n none h);
  firsts = λ q n h. absurd (no_number m q n none h);
}

-- ## One group more

entry_before : (m n : Numbers) (gs : List RecGroup) (es more : List Entry) (g : RecGroup) (number first : ℕ) (i : ℕ)
    → length es ≡ count gs → Finds m n (group_words es g) number first → EntryAt m gs es i → EntryAt n (gs ++ g ∷ []) (es ++ more) i
entry_before m n gs es more g number first i len f E =
    let s = count-split gs E.place.front E.place.group E.place.back E.place.is in
    let t : take (count E.place.front) (es ++ more) ≡ take (count E.place.front) es = take-append-le (count E.place.front) es more (omega arith) in
    record {
      place = place_wider (gs ++ g ∷ []) gs (g ∷ []) i refl E.place;
      entry = E.entry;
      is = get-front es more i (slice_get_within es i E.entry E.is) ∙ E.is;
      position = E.position;
      named = f.stays (key_at (es ++ more) E.place.front E.place.group) E.entry.class.group (ap (λ (l : List Entry). number_of m (group_words l E.place.group)) t ∙ E.named);
      early = E.early;
    }

entry_now : (m n : Numbers) (gs : List RecGroup) (es : List Entry) (g : RecGroup) (number first : ℕ) (i : ℕ)
    → length es ≡ count gs → Finds m n (group_words es g) number first → first ≤ count gs → count gs ≤ i → i - count gs < length g.types → EntryAt n (gs ++ g ∷ []) (es ++ entries_from first 0 g.types) i
entry_now m n gs es g number first i len f no_later le lt =
    let p = i - count gs in
    let more = entries_from first 0 g.types in
    let e = class-entries_from first 0 g.types p lt in
    let t : take (count gs) (es ++ more) ≡ es = take_at es more (count gs) len in
    let j : i ≡ length es + p = omega arith in
    record {
      place = record { front = gs; group = g; back = []; position = p; is = refl; counts = omega arith; within = lt };
      entry = e.0;
      is = ap (slice_get (es ++ more)) j ∙ get-behind es more p ∙ e.1;
      position = e.3 ∙ omega arith;
      named = ap (λ (l : List Entry). number_of n (group_words l g)) t ∙ f.found ∙ ap (λ (x : ℕ). Some x) (sym e.2);
      early = omega (arith, e.2);
    }

entry_by : (m n : Numbers) (gs : List RecGroup) (es : List Entry) (g : RecGroup) (number first : ℕ)
    → Classed m gs es → Finds m n (group_words es g) number first → first ≤ count gs → (i : ℕ) → i < count (gs ++ g ∷ []) → (i < count gs) ⊎ (count gs ≤ i) → EntryAt n (gs ++ g ∷ []) (es ++ entries_from first 0 g.types) i
entry_by m n gs es g number first c f no_later i h (inl lt) = entry_before m n gs es (entries_from first 0 g.types) g number first i (as_many gs es c.kinds) f (c.entries i lt)
entry_by m n gs es g number first c f no_later i h (inr le) =
    let a = count-append gs (g ∷ []) in
    let b = ap (λ (l : List SubType). length l) (subtypes_of-cons g []) ∙ length-append g.types (subtypes_of []) in
    let z = ap (λ (l : List SubType). length l) subtypes_of-nil in
    entry_now m n gs es g number first i (as_many gs es c.kinds) f no_later le (omega arith)

-- the types of one group more
types_more : (gs : List RecGroup) (g : RecGroup) → subtypes_of (gs ++ g ∷ []) ≡ subtypes_of gs ++ g.types
types_more gs g =
    subtypes_of-append gs (g ∷ []) ∙ ap (λ (l : List SubType). subtypes_of gs ++ l) (subtypes_of-cons g [] ∙ ap (λ (l : List SubType). g.types ++ l) subtypes_of-nil ∙ append-nil g.types)

count_more : (gs : List RecGroup) (g : RecGroup) → count (gs ++ g ∷ []) ≡ count gs + length g.types
count_more gs g = ap (λ (l : List SubType). length l) (types_more gs g) ∙ length-append (subtypes_of gs) g.types

kinds_more : (gs : List RecGroup) (es : List Entry) (g : RecGroup) (first : ℕ) → map (λ (e : Entry). e.kind) es ≡ map kind_of (types_of gs)
    → map (λ (e : Entry). e.kind) (es ++ entries_from first 0 g.types) ≡ map kind_of (types_of (gs ++ g ∷ []))
kinds_more gs es g first h =
    map-append (λ (e : Entry). e.kind) es (entries_from first 0 g.types)
    ∙ ap (λ (ks : List Kind). ks ++ map (λ (e : Entry). e.kind) (entries_from first 0 g.types)) h
    ∙ ap (λ (ks : List Kind). map kind_of (types_of gs) ++ ks) (kinds-entries_from first 0 g.types)
    ∙ sym (map-append kind_of (types_of gs) (map composite_of g.types))
    ∙ ap (map kind_of) (sym (map-append composite_of (subtypes_of gs) g.types))
    ∙ ap (λ (l : List SubType). map kind_of (map composite_of l)) (sym (types_more gs g))

-- two keys with one number, each new or not
once_by : (m : Numbers) (gs : List RecGroup) (es : List Entry) (q r key : List Word) (k : ℕ) → Classed m gs es
    → (number_of m q ≡ Some k) ⊎ ((q ≡ key) × (k ≡ count gs)) → (number_of m r ≡ Some k) ⊎ ((r ≡ key) × (k ≡ count gs)) → q ≡ r
once_by m gs es q r key k c (inl a) (inl b) = c.once q r k a b
once_by m gs es q r key k c (inl a) (inr b) = absurd (let z = c.below q k a in omega (arith, b.1))
once_by m gs es q r key k c (inr a) (inl b) = absurd (let z = c.below r k b in omega (arith, a.1))
once_by m gs es q r key k c (inr a) (inr b) = a.0 ∙ sym b.0

below_by : (m : Numbers) (gs : List RecGroup) (es : List Entry) (q key : List Word) (k n : ℕ) → 0 < n → Classed m gs es
    → (number_of m q ≡ Some k) ⊎ ((q ≡ key) × (k ≡ count gs)) → k < count gs + n
below_by m gs es q key k n some c (inl a) = let z = c.below q k a in omega arith
below_by m gs es q key k n some c (inr a) = omega (arith, a.1)

-- the key of a group in front stays, where more types come behind
key_kept : (es more : List Entry) (gs front : List RecGroup) (g : RecGroup) (back : List RecGroup) → length es ≡ count gs → gs ≡ front ++ g ∷ back
    → key_at (es ++ more) front g ≡ key_at es front g
key_kept es more gs front g back len is =
    let s = count-split gs front g back is in
    ap (λ (l : List Entry). group_words l g) (take-append-le (count front) es more (omega arith))

first_by : (m : Numbers) (gs : List RecGroup) (es more : List Entry) (g : RecGroup) (q : List Word) (k : ℕ) → 0 < length g.types → Classed m gs es
    → (number_of m q ≡ Some k) ⊎ ((q ≡ group_words es g) × (k ≡ count gs)) → FirstAt (gs ++ g ∷ []) (es ++ more) q k
first_by m gs es more g q k some c (inl a) =
    let f = c.firsts q k a in
    record {
      front = f.front;
      group = f.group;
      back = f.back ++ g ∷ [];
      is = ap (λ (l : List RecGroup). l ++ g ∷ []) f.is ∙ append_assoc f.front (f.group ∷ f.back) (g ∷ []);
      begins = f.begins;
      key = key_kept es more gs f.front f.group f.back (as_many gs es c.kinds) f.is ∙ f.key;
      some = f.some;
    }
first_by m gs es more g q k some c (inr a) = record {
  front = gs;
  group = g;
  back = [];
  is = refl;
  begins = sym a.1;
  key = ap (λ (l : List Entry). group_words l g) (take_at es more (count gs) (as_many gs es c.kinds)) ∙ sym a.0;
  some = some;
}

-- one group more, which has types
pub classed_more : (m n : Numbers) (gs : List RecGroup) (es : List Entry) (g : RecGroup) (first : ℕ) → 0 < length g.types
    → Classed m gs es → Finds m n (group_words es g) (count gs) first → Classed n (gs ++ g ∷ []) (es ++ entries_from first 0 g.types)
classed_more m n gs es g first some c f =
    let key = group_words es g in
    let no_later : first ≤ count gs = elim (f.added key first f.found) [ inl a ↦ (let z = c.below key first a in omega arith) | inr b ↦ omega (arith, b.1) ] in
    record {
      kinds = kinds_more gs es g first c.kinds;
      entries = λ i h. entry_by m n gs es g (count gs) first c f no_later i h (cases_lt i (count gs));
      once = λ q r k h j. once_by m gs es q r key k c (f.added q k h) (f.added r k j);
      below = λ q k h. let b = below_by m gs es q key k (length g.types) some c (f.added q k h) in let l = count_more gs g in omega arith;
      firsts = λ q k h. first_by m gs es (entries_from first 0 g.types) g q k some c (f.added q k h);
    }

-- one group more, which has none
pub classed_none_more : (m : Numbers) (gs : List RecGroup) (es : List Entry) (g : RecGroup) → length g.types ≡ 0 → Classed m gs es → Classed m (gs ++ g ∷ []) es
classed_none_more m gs es g none c =
    let l = count_more gs g in
    let empty : g.types ≡ [] = no_items g.types none in
    let same : subtypes_of (gs ++ g ∷ []) ≡ subtypes_of gs = types_more gs g ∙ ap (λ (ts : List SubType). subtypes_of gs ++ ts) empty ∙ append-nil (subtypes_of gs) in
    record {
      kinds = c.kinds ∙ ap (λ (ts : List SubType). map kind_of (map composite_of ts)) (sym same);
      entries = λ i h.
          let E = c.entries i (omega (arith, l, none)) in
          record { place = place_wider (gs ++ g ∷ []) gs (g ∷ []) i refl E.place; entry = E.entry; is = E.is; position = E.position; named = E.named; early = E.early };
      once = c.once;
      below = λ q k h. let z = c.below q k h in omega (arith, z, l);
      firsts = λ q k h.
          let f = c.firsts q k h in
          record {
            front = f.front;
            group = f.group;
            back = f.back ++ g ∷ [];
            is = ap (λ (x : List RecGroup). x ++ g ∷ []) f.is ∙ append_assoc f.front (f.group ∷ f.back) (g ∷ []);
            begins = f.begins;
            key = f.key;
            some = f.some;
          };
    }
  where
    no_items : (ts : List SubType) → length ts ≡ 0 → ts ≡ []
    no_items [] e = refl
    no_items (t ∷ ts) e = absurd (omega arith)

-- the same, by what a program finds
pub classed_add : (m n : Numbers) (es new : List Entry) (g : RecGroup) (key : List Word) (number first : ℕ) → 0 < length g.types → key ≡ group_words es g → number ≡ length es
    → Finds m n key number first → new ≡ es ++ entries_from first 0 g.types → (gs : List RecGroup) → Classed m gs es → Classed n (gs ++ g ∷ []) new
classed_add m n es new g key number first some k l f e gs c =
    let len : number ≡ count gs = l ∙ as_many gs es c.kinds in
    let finds = subst (λ (x : ℕ). Finds m n (group_words es g) x first) len (subst (λ (q : List Word). Finds m n q number first) k f) in
    subst (Classed n (gs ++ g ∷ [])) (sym e) (classed_more m n gs es g first some c finds)

-- the first groups, and one more
pub classed_next : (m n : Numbers) (gs : List RecGroup) (i : ℕ) (es new : List Entry) (g : RecGroup) → i < length gs → g ≡ get_or gs i g
    → ((fs : List RecGroup) → Classed m fs es → Classed n (fs ++ g ∷ []) new) → Classed m (take i gs) es → Classed n (take (i + 1) gs) new
classed_next m n gs i es new g lt is next c =
    let t : take (i + 1) gs ≡ take i gs ++ g ∷ [] = take_more gs i g lt ∙ ap (λ (x : RecGroup). take i gs ++ x ∷ []) (sym is) in
    subst (λ (x : List RecGroup). Classed n x new) (sym t) (next (take i gs) c)

-- ## Classes and equivalence

-- what the class of a type says
record ClassAt (m : Numbers) (gs : List RecGroup) (es : List Entry) (i : ℕ) (P : Place gs i) (a : Entry) : Type 0 where
  pub position : a.class.position ≡ P.position
  pub named : number_of m (key_at es P.front P.group) ≡ Some a.class.group

class_at : (m : Numbers) (gs : List RecGroup) (es : List Entry) (i : ℕ) (P : Place gs i) (a : Entry) → Classed m gs es → slice_get es i ≡ Some a → ClassAt m gs es i P a
class_at m gs es i P a c h =
    let E = c.entries i (within_all gs i P) in
    let s : E.entry ≡ a = let e = E.is in cc in
    let u = one_place gs i E.place P in
    let k : key_at es E.place.front E.place.group ≡ key_at es P.front P.group =
    ap (λ (fr : List RecGroup). key_at es fr E.place.group) u.front ∙ ap (key_at es P.front) u.group in
    record {
      position = sym (ap (λ (e : Entry). e.class.position) s) ∙ E.position ∙ u.position;
      named = sym (ap (number_of m) k) ∙ E.named ∙ ap (λ (e : Entry). Some e.class.group) s;
    }

-- types have one class exactly where they are equivalent, as far as the first n groups go
abbrev ClassedTo : ℕ → List RecGroup → List Entry → Type 0
ClassedTo n gs es = (i j : ℕ) (a b : Entry) (P : Place gs i) (Q : Place gs j) → length P.front < n → length Q.front < n
    → slice_get es i ≡ Some a → slice_get es j ≡ Some b → (a.class ≡ b.class) ↔ Same n gs i j

-- the types in front of two groups
in_front : (n : ℕ) (gs : List RecGroup) (es : List Entry) → ClassedTo n gs es → (i j : ℕ) (P : Place gs i) (Q : Place gs j) → length P.front ≤ n → length Q.front ≤ n
    → ClassedBy (Same n gs) (take (count P.front) es) (take (count Q.front) es)
in_front n gs es again i j P Q p q x y a b h k =
    let f = get-take (count P.front) es x a h in
    let g = get-take (count Q.front) es y b k in
    let X = place P.front x f.0 in
    let Y = place Q.front y g.0 in
    let lx = front_within P.front x X in
    let ly = front_within Q.front y Y in
    again x y a b (place_wider gs P.front (P.group ∷ P.back) x P.is X) (place_wider gs Q.front (Q.group ∷ Q.back) y Q.is Y) (omega arith) (omega arith) f.1 g.1

-- the keys of two groups
keys_alike : (n : ℕ) (gs : List RecGroup) (es : List Entry) → length es ≡ count gs → ClassedTo n gs es → (i j : ℕ) (P : Place gs i) (Q : Place gs j) → length P.front ≤ n → length Q.front ≤ n
    → (key_at es P.front P.group ≡ key_at es Q.front Q.group) ↔ AlikeGroup (Same n gs) (count P.front) (count Q.front) P.group Q.group
keys_alike n gs es len again i j P Q p q =
    let s = count-split gs P.front P.group P.back P.is in
    let t = count-split gs Q.front Q.group Q.back Q.is in
    let k = one_key (Same n gs) (take (count P.front) es) (take (count Q.front) es) (in_front n gs es again i j P Q p q) P.group Q.group in
    let u : length (take (count P.front) es) ≡ count P.front = length-take-le (count P.front) es (omega arith) in
    let v : length (take (count Q.front) es) ≡ count Q.front = length-take-le (count Q.front) es (omega arith) in
    let A : ℕ → ℕ → Type 0 = λ x y. (key_at es P.front P.group ≡ key_at es Q.front Q.group) ↔ AlikeGroup (Same n gs) x y P.group Q.group in
    subst (A (count P.front)) v (subst (λ (x : ℕ). A x (length (take (count Q.front) es))) u k)

next : (m : Numbers) (gs : List RecGroup) (es : List Entry) → Classed m gs es → (n : ℕ) → ClassedTo n gs es → ClassedTo (suc n) gs es
next m gs es c n again i j a b P Q p q h k =
    let len = as_many gs es c.kinds in (
      λ (e : a.class ≡ b.class).
          let x = class_at m gs es i P a c h in
          let y = class_at m gs es j Q b c k in
          let g : a.class.group ≡ b.class.group = ap (λ (z : Class). z.group) e in
          let o = c.once (key_at es P.front P.group) (key_at es Q.front Q.group) a.class.group x.named (y.named ∙ ap (λ (z : ℕ). Some z) (sym g)) in
          record {
            one = P;
            other = Q;
            one_early = omega arith;
            other_early = omega arith;
            position = sym x.position ∙ ap (λ (z : Class). z.position) e ∙ y.position;
            groups = (keys_alike n gs es len again i j P Q (omega arith) (omega arith)).0 o;
          },
      λ (s : AtOnePosition (Same n gs) n gs i j).
          let x = class_at m gs es i s.one a c h in
          let y = class_at m gs es j s.other b c k in
          let o = (keys_alike n gs es len again i j s.one s.other s.one_early s.other_early).1 s.groups in
          let z = ap (number_of m) o in
          let g : a.class.group ≡ b.class.group = let f = x.named in let t = y.named in cc in
          one_class a.class b.class g (x.position ∙ s.position ∙ sym y.position),
    )

classed_to : (m : Numbers) (gs : List RecGroup) (es : List Entry) → Classed m gs es → (n : ℕ) → ClassedTo n gs es
classed_to m gs es c zero = λ i j a b P Q p q h k. absurd (omega arith)
classed_to m gs es c (suc n) = next m gs es c n (classed_to m gs es c n)

pub stands_at : (m : Numbers) (gs : List RecGroup) (es : List Entry) → Classed m gs es → (i j : ℕ) (a b : Entry) → slice_get es i ≡ Some a → slice_get es j ≡ Some b → (a.class ≡ b.class) ↔ SameIndex gs i j
stands_at m gs es c i j a b h k =
    let len = as_many gs es c.kinds in
    let x = slice_get_within es i a h in
    let y = slice_get_within es j b k in
    let P = place gs i (omega arith) in
    let Q = place gs j (omega arith) in
    let t = classed_to m gs es c (length gs) i j a b P Q (front_within gs i P) (front_within gs j Q) h k in (
      λ e. inr (t.0 e),
      λ s. elim s [ inl e ↦ (let f : Some a ≡ Some b = sym h ∙ ap (slice_get es) e ∙ k in let g : a ≡ b = cc in ap (λ (z : Entry). z.class) g) | inr r ↦ t.1 r ],
    )

-- when all groups were classed
pub classed_all : (m : Numbers) (gs : List RecGroup) (i : ℕ) (es : List Entry) → length gs ≤ i → Classed m (take i gs) es → Classed m gs es
classed_all m gs i es le c = subst (λ (x : List RecGroup). Classed m x es) (take_all i gs le) c

-- ## The first types of classes

-- as many items
one_length : {A : Type 0} {R : A → A → Type 0} {xs ys : List A} → Pairwise R xs ys → length xs ≡ length ys
one_length Pairwise.none = refl
one_length (Pairwise.more h t) = ap suc (one_length t)

-- the first type of a class is in front of each other
pub first_early : (m : Numbers) (gs : List RecGroup) (es : List Entry) → Classed m gs es → (i : ℕ) (a : Entry) → slice_get es i ≡ Some a → first_of a.class ≤ i
first_early m gs es c i a h =
    let len = as_many gs es c.kinds in
    let E = c.entries i (omega (arith, len, slice_get_within es i a h)) in
    let same : E.entry ≡ a = let e = E.is in cc in
    let g = ap (λ (e : Entry). e.class.group) same in
    let p = ap (λ (e : Entry). e.class.position) same in
    let early = E.early in
    let position = E.position in
    let counts = E.place.counts in
    omega (arith, g, p, early, position, counts)

-- the first type of a class is of it
pub first_alike : (m : Numbers) (gs : List RecGroup) (es : List Entry) → Classed m gs es → HaveFirsts es
first_alike m gs es c i a h =
    let len = as_many gs es c.kinds in
    let P = place gs i (omega (arith, len, slice_get_within es i a h)) in
    let x = class_at m gs es i P a c h in
    let f = c.firsts (key_at es P.front P.group) a.class.group x.named in
    let at_front : length f.front < length gs = let e = ap length f.is in let l = length-append f.front (f.group ∷ f.back) in omega arith in
    let again = classed_to m gs es c (length gs) in
    let begins : Place gs (count f.front) = record {
      front = f.front;
      group = f.group;
      back = f.back;
      position = 0;
      is = f.is;
      counts = omega arith;
      within = f.some;
    } in
    let alike = (keys_alike (length gs) gs es len again (count f.front) i begins P (omega (arith, at_front)) (omega (arith, front_within gs i P))).0 f.key in
    let long = one_length alike in
    let within = P.within in
    let Q : Place gs (first_of a.class) = record {
      front = f.front;
      group = f.group;
      back = f.back;
      position = a.class.position;
      is = f.is;
      counts = ap (λ n. n + a.class.position) (sym f.begins);
      within = omega (arith, long, within, x.position);
    } in
    let all = within_all gs (first_of a.class) Q in
    let b = entry_at es (first_of a.class) (omega (arith, all, len)) in
    let y = class_at m gs es (first_of a.class) Q b.0 c b.1 in
    let g : Some a.class.group ≡ Some b.0.class.group = sym x.named ∙ ap (number_of m) (sym f.key) ∙ y.named in
    (a, b.0, h, b.1, one_class a.class b.0.class (cc) (sym y.position))

-- ## Telling whether types are equivalent

-- types that are equivalent by their groups are types of the module
same_within : (n : ℕ) (gs : List RecGroup) (i j : ℕ) → Same n gs i j → (i < count gs) × (j < count gs)
same_within zero gs i j h = absurd h
same_within (suc n) gs i j h = (within_all gs i h.one, within_all gs j h.other)

-- they have one class
classed_alike : (gs : List RecGroup) (es : List Entry) (i j : ℕ) → IsClassesOf gs es → Same (length gs) gs i j → OneClass es i j
classed_alike gs es i j h s =
    let w = same_within (length gs) gs i j s in
    let len = as_many gs es h.kinds in
    let a = entry_at es i (omega (arith, w.0)) in
    let b = entry_at es j (omega (arith, w.1)) in
    (a.0, b.0, a.1, b.1, (h.classes i j a.0 b.0 a.1 b.1).1 (inr s))

-- different types are equivalent exactly where they have one class
pub decided_by_class : (gs : List RecGroup) (es : List Entry) (i j : ℕ) → IsClassesOf gs es → (i ≡ j → ⊥) → OneClass es i j ↔ SameIndex gs i j
decided_by_class gs es i j h apart = (
  λ (o : OneClass es i j). (h.classes i j o.0 o.1 o.2 o.3).0 o.4,
  λ (s : SameIndex gs i j). elim s [ inl e ↦ absurd (apart e) | inr r ↦ classed_alike gs es i j h r ],
)
