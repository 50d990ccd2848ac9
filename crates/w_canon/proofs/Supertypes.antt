-- Supertypes of equivalent types are equivalent; so matching of indices is transitive, and keeps to equivalent types.
use Rattle.std.proofs.Common.{◌≡◌, ◌⊎◌, inl, inr, ℕ, zero, suc, ◌-◌, ◌<◌, ◌≤◌, List, [], ◌∷◌, length, map, Some, slice_get, refl, sym, ap, subst, ◌∙◌, arith}
use Rattle.std.specs.Option.{option_map}
use Rattle.std.proofs.lemmas.List.{length-map}
use Rattle.std.proofs.lemmas.Option.{slice_get_within}
use Rattle.w_types.specs.declared.types.HeapType.{HeapType}
use Rattle.w_types.specs.declared.types.ValType.{ValType}
use Rattle.w_types.specs.declared.types.CompType.{CompType}
use Rattle.w_types.specs.declared.types.SubType.{SubType}
use Rattle.w_types.specs.declared.types.RecGroup.{RecGroup}
use Rattle.w_types.specs.Groups.{subtypes_of, composite_of, types_of}
use Rattle.w_canon.specs.declared.entry.Kind.{Kind}
use Rattle.w_canon.specs.declared.entry.Entry.{Entry}
use Rattle.w_canon.specs.Classed.{count}
use Rattle.w_canon.specs.Entries.{kind_of}
use Rattle.w_canon.specs.IsClassesOf.{IsClassesOf}
use Rattle.w_canon.specs.Relations.{Pairwise, none, more, IsTransitive}
use Rattle.w_canon.specs.Equivalence.{AlikeIndex, inside, outside, AlikeHeap, AlikeVal, AlikeComp, AlikeSub, Place, AtOnePosition, Same, SameIndex}
use Rattle.w_canon.specs.Equivalence as alike
use Rattle.w_canon.specs.Matching.{HasSupertype, IndexMatches, same, above}
use Rattle.w_canon.specs.Supertypes.{KeepsKinds}
use Rattle.w_canon.proofs.Equivalent.{transitive, one_kind}
use Rattle.w_canon.proofs.Laminar.{item_at}
use Rattle.w_canon.proofs.Places.{within_all, type_at_place}

-- ## Related lists

each : {A : Type 0} {R Q : A → A → Type 0} → ((x y : A) → R x y → Q x y) → {xs ys : List A} → Pairwise R xs ys → Pairwise Q xs ys
each f none = none
each f (more {x} {y} h t) = more (f x y h) (each f t)

-- the item at a place of a list, related to that of another
pub record Related {A : Type 0} (R : A → A → Type 0) (xs : List A) (p : ℕ) (y : A) : Type 0 where
  pub item : A
  pub there : slice_get xs p ≡ Some item
  pub related : R item y

-- related lists have related items at each place
pub related_at : {A : Type 0} {R : A → A → Type 0} {xs ys : List A} (p : ℕ) (y : A) → Pairwise R xs ys → slice_get ys p ≡ Some y → Related R xs p y
related_at p y none is = absurd (cc)
related_at {A} {R} zero y (more {x = x} h k) is = record { item = x; there = refl; related = subst (λ (z : A). R x z) (cc) h }
related_at (suc p) y (more h k) is = let r = related_at p y k is in record { item = r.item; there = r.there; related = r.related }

-- a list that is related to one of one item
one_related : {R : ℕ → ℕ → Type 0} {xs : List ℕ} (z : ℕ) → Pairwise R xs (z ∷ []) → (v : ℕ) × (xs ≡ v ∷ []) × R v z
one_related z (more {x = v} h none) = (v, refl, h)

-- ## Where more is equivalent, more is alike

module _ (S T : ℕ → ℕ → Type 0) (s t : ℕ) (wider : (x y : ℕ) → S x y → T x y) where
  wider_index : (x y : ℕ) → AlikeIndex S s t x y → AlikeIndex T s t x y
  wider_index x y (inside p q h) = inside p q h
  wider_index x y (outside p q h) = outside p q (wider x y h)

  wider_heap : {h k : HeapType} → AlikeHeap S s t h k → AlikeHeap T s t h k
  wider_heap alike.AlikeHeap.func = alike.AlikeHeap.func
  wider_heap alike.AlikeHeap.no_func = alike.AlikeHeap.no_func
  wider_heap alike.AlikeHeap.cont = alike.AlikeHeap.cont
  wider_heap alike.AlikeHeap.no_cont = alike.AlikeHeap.no_cont
  wider_heap (alike.AlikeHeap.index {x} {y} h) = alike.AlikeHeap.index (wider_index x y h)

  wider_val : (v w : ValType) → AlikeVal S s t v w → AlikeVal T s t v w
  wider_val _ _ alike.AlikeVal.i32 = alike.AlikeVal.i32
  wider_val _ _ alike.AlikeVal.i64 = alike.AlikeVal.i64
  wider_val _ _ (alike.AlikeVal.ref h) = alike.AlikeVal.ref (record { nullable = h.nullable; heap = wider_heap h.heap })

  wider_comp : (a b : CompType) → AlikeComp S s t a b → AlikeComp T s t a b
  wider_comp _ _ (alike.AlikeComp.func h) = alike.AlikeComp.func (record { params = each wider_val h.params; results = each wider_val h.results })
  wider_comp _ _ (alike.AlikeComp.cont {x} {y} h) = alike.AlikeComp.cont (wider_index x y h)

  wider_sub : (a b : SubType) → AlikeSub S s t a b → AlikeSub T s t a b
  wider_sub a b h = record { is_final = h.is_final; supertypes = each wider_index h.supertypes; composite = wider_comp a.composite b.composite h.composite }

-- types equivalent among the first n groups are so among more
pub same_wider : (n k : ℕ) (gs : List RecGroup) → n ≤ k → (i j : ℕ) → Same n gs i j → Same k gs i j
same_wider zero k gs le i j h = absurd h
same_wider (suc n) zero gs le i j h = absurd (omega arith)
same_wider (suc n) (suc k) gs le i j h = record {
  one = h.one;
  other = h.other;
  one_early = let e = h.one_early in omega arith;
  other_early = let e = h.other_early in omega arith;
  position = h.position;
  groups = each (wider_sub (Same n gs) (Same k gs) (count h.one.front) (count h.other.front) (same_wider n k gs (omega arith))) h.groups;
}

-- ## Supertypes

-- another type of the group
abbrev pub at_index : (gs : List RecGroup) (i x : ℕ) (P : Place gs i) → count P.front ≤ x → x - count P.front < length P.group.types → Place gs x
at_index gs i x P le lt = record {
  front = P.front;
  group = P.group;
  back = P.back;
  position = x - count P.front;
  is = P.is;
  counts = omega arith;
  within = lt;
}

module _ (gs : List RecGroup) where
  -- an index in front of a type is alike one in front of another type at the same position: it is in front of it, and they are equivalent
  before_alike : (n : ℕ) → n < length gs → (x y : ℕ) (h : AtOnePosition (Same n gs) n gs x y) (v z : ℕ) → z < y
      → AlikeIndex (Same n gs) (count h.one.front) (count h.other.front) v z → (v < x) × SameIndex gs v z
  before_alike n le x y h v z lt (outside p q s) = (let c = h.one.counts in omega arith, inr (same_wider n (length gs) gs (omega arith) v z s))
  before_alike n le x y h v z lt (inside p q e) =
      let c = h.one.counts in
      let d = h.other.counts in
      let w = h.one.within in
      let u = h.other.within in
      let f = h.position in
      let at : AtOnePosition (Same n gs) n gs v z = record {
        one = at_index gs x v h.one p (omega arith);
        other = at_index gs y z h.other q (omega arith);
        one_early = h.one_early;
        other_early = h.other_early;
        position = e;
        groups = h.groups;
      } in
      (omega arith, inr (same_wider (suc n) (length gs) gs (omega arith) v z at))

  supertype_alike : (n : ℕ) → n ≤ length gs → (x y z : ℕ) → Same n gs x y → HasSupertype gs y z → (v : ℕ) × HasSupertype gs x v × SameIndex gs v z
  supertype_alike zero le x y z h k = absurd h
  supertype_alike (suc n) le x y z h k =
      let here : slice_get h.other.group.types h.other.position ≡ Some k.type = sym (type_at_place gs y h.other) ∙ k.is in
      let r = related_at h.other.position k.type h.groups here in
      let there : slice_get (subtypes_of gs) x ≡ Some r.item = type_at_place gs x h.one ∙ ap (slice_get h.one.group.types) h.position ∙ r.there in
      let supers : Pairwise (AlikeIndex (Same n gs) (count h.one.front) (count h.other.front)) r.item.supertypes (z ∷ []) =
      subst (λ (zs : List ℕ). Pairwise (AlikeIndex (Same n gs) (count h.one.front) (count h.other.front)) r.item.supertypes zs) k.alone r.related.supertypes in
      let w = one_related z supers in
      let b = before_alike n (omega arith) x y h w.0 z k.before w.2 in
      (w.0, record { type = r.item; is = there; alone = w.1; before = b.0 }, b.1)

  -- a type that is equivalent to one with a supertype has an equivalent one
  pub supertype_same : (x y z : ℕ) → SameIndex gs x y → HasSupertype gs y z → (v : ℕ) × HasSupertype gs x v × SameIndex gs v z
  supertype_same x y z (inl e) k = (z, subst (λ (w : ℕ). HasSupertype gs w z) (sym e) k, inl refl)
  supertype_same x y z (inr h) k = supertype_alike (length gs) (omega arith) x y z h k

  -- ## Matching of indices

  index_before : (x y z : ℕ) → SameIndex gs x y → IndexMatches gs y z → IndexMatches gs x z
  index_before x y z s (same t) = same (transitive gs x y z s t)
  index_before x y z s (above {z = u} k m) = let v = supertype_same x y u s k in above v.1 (index_before v.0 u z v.2 m)

  pub index_joined : {x y z : ℕ} → IndexMatches gs x y → IndexMatches gs y z → IndexMatches gs x z
  index_joined (same {x} {y} s) k = index_before x y _ s k
  index_joined (above h m) k = above h (index_joined m k)

  -- types that match are of one kind, where supertypes are
  pub index_kinds : KeepsKinds gs → {x y : ℕ} → IndexMatches gs x y → option_map kind_of (slice_get (types_of gs) x) ≡ option_map kind_of (slice_get (types_of gs) y)
  index_kinds keeps (same {x} {y} s) = one_kind gs x y s
  index_kinds keeps (above {x} {z = u} h m) = keeps x u h ∙ index_kinds keeps m

  same_within : (n : ℕ) (i j : ℕ) → Same n gs i j → (i < count gs) × (j < count gs)
  same_within zero i j h = absurd h
  same_within (suc n) i j h = (within_all gs i h.one, within_all gs j h.other)

  -- an index that matches another is it, or both are of types
  pub matches_within : {x y : ℕ} → IndexMatches gs x y → (x ≡ y) ⊎ ((x < count gs) × (y < count gs))
  matches_within (same (inl e)) = inl e
  matches_within (same {x} {y} (inr h)) = inr (same_within (length gs) x y h)
  matches_within (above {x} {y} {z = u} h m) =
      let w = slice_get_within (subtypes_of gs) x h.type h.is in
      let b = h.before in
      elim (matches_within m) [
        | inl e ↦ inr (w, omega (arith, w, b, e))
        | inr k ↦ inr (w, k.1)
      ]

pub index_trans : (gs : List RecGroup) → IsTransitive (IndexMatches gs)
index_trans gs x y z h k = index_joined gs h k

-- ## Entries

-- there are as many entries as types
pub as_many_entries : (gs : List RecGroup) (es : List Entry) → map (λ (e : Entry). e.kind) es ≡ map kind_of (types_of gs) → length es ≡ count gs
as_many_entries gs es h =
    sym (length-map es (λ (e : Entry). e.kind)) ∙ ap (λ (l : List Kind). length l) h ∙ length-map (types_of gs) kind_of ∙ length-map (subtypes_of gs) composite_of

-- each type has an entry
pub entry_there : (gs : List RecGroup) (es : List Entry) (i : ℕ) → IsClassesOf gs es → i < count gs → (a : Entry) × (slice_get es i ≡ Some a)
entry_there gs es i h lt = let n = as_many_entries gs es h.kinds in item_at es i (omega arith)
