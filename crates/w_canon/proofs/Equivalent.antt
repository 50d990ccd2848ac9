-- Equivalence of types is one, and equivalent types are of one kind.
use Rattle.std.proofs.Common.{◌≡◌, inl, inr, ℕ, zero, suc, List, length, Option, Some, None, slice_get, refl, sym, ap, subst, ◌∙◌, arith}
use Rattle.std.specs.Option.{option_map}
use Rattle.std.proofs.lemmas.Option.{slice_get-map}
use Rattle.w_canon.specs.declared.entry.Kind.{Kind}
use Rattle.w_types.specs.declared.types.HeapType.{HeapType}
use Rattle.w_types.specs.declared.types.ValType.{ValType}
use Rattle.w_types.specs.declared.types.CompType.{CompType}
use Rattle.w_types.specs.declared.types.SubType.{SubType}
use Rattle.w_types.specs.declared.types.RecGroup.{RecGroup}
use Rattle.w_types.specs.Groups.{subtypes_of, composite_of, types_of}
use Rattle.w_canon.specs.Entries.{kind_of}
use Rattle.w_canon.specs.Relations.{Pairwise, none, more, IsReflexive, IsSymmetric, IsTransitive}
use Rattle.w_canon.specs.Equivalence.{AlikeIndex, inside, outside, AlikeHeap, AlikeRef, AlikeVal, AlikeFunc, AlikeComp, AlikeSub, AlikeGroup, AtOnePosition, Same, SameIndex}
use Rattle.w_canon.specs.Equivalence as alike
use Rattle.w_canon.specs.Classed.{count}
use Rattle.w_canon.proofs.Places.{one_place, type_at_place}

-- ## Lists, item by item

pub turned : {A : Type 0} {R Q : A → A → Type 0} → ((x y : A) → R x y → Q y x) → {xs ys : List A} → Pairwise R xs ys → Pairwise Q ys xs
turned f none = none
turned f (more {x} {y} h t) = more (f x y h) (turned f t)

pub joined : {A : Type 0} {R Q P : A → A → Type 0} → ((x y z : A) → R x y → Q y z → P x z) → {xs ys zs : List A} → Pairwise R xs ys → Pairwise Q ys zs → Pairwise P xs zs
joined f none none = none
joined f (more {x} {y} h t) (more {y = z} k u) = more (f x y z h k) (joined f t u)

-- ## The other way round

module _ (S T : ℕ → ℕ → Type 0) (s t : ℕ) (turn : (x y : ℕ) → S x y → T y x) where
  turn_index : (x y : ℕ) → AlikeIndex S s t x y → AlikeIndex T t s y x
  turn_index x y (inside p q h) = inside q p (sym h)
  turn_index x y (outside p q h) = outside q p (turn x y h)

  turn_heap : (h k : HeapType) → AlikeHeap S s t h k → AlikeHeap T t s k h
  turn_heap _ _ alike.AlikeHeap.func = alike.AlikeHeap.func
  turn_heap _ _ alike.AlikeHeap.no_func = alike.AlikeHeap.no_func
  turn_heap _ _ alike.AlikeHeap.cont = alike.AlikeHeap.cont
  turn_heap _ _ alike.AlikeHeap.no_cont = alike.AlikeHeap.no_cont
  turn_heap _ _ (alike.AlikeHeap.index {x} {y} h) = alike.AlikeHeap.index (turn_index x y h)

  turn_val : (v w : ValType) → AlikeVal S s t v w → AlikeVal T t s w v
  turn_val _ _ alike.AlikeVal.i32 = alike.AlikeVal.i32
  turn_val _ _ alike.AlikeVal.i64 = alike.AlikeVal.i64
  turn_val _ _ (alike.AlikeVal.ref {r} {q} h) = alike.AlikeVal.ref (record { nullable = sym h.nullable; heap = turn_heap r.heap q.heap h.heap })

  turn_comp : (a b : CompType) → AlikeComp S s t a b → AlikeComp T t s b a
  turn_comp _ _ (alike.AlikeComp.func h) = alike.AlikeComp.func (record { params = turned turn_val h.params; results = turned turn_val h.results })
  turn_comp _ _ (alike.AlikeComp.cont {x} {y} h) = alike.AlikeComp.cont (turn_index x y h)

  turn_sub : (a b : SubType) → AlikeSub S s t a b → AlikeSub T t s b a
  turn_sub a b h = record { is_final = sym h.is_final; supertypes = turned turn_index h.supertypes; composite = turn_comp a.composite b.composite h.composite }

-- ## One after the other

module _ (S T U : ℕ → ℕ → Type 0) (s t u : ℕ) (join : (x y z : ℕ) → S x y → T y z → U x z) where
  join_index : (x y z : ℕ) → AlikeIndex S s t x y → AlikeIndex T t u y z → AlikeIndex U s u x z
  join_index x y z (inside p q h) (inside r o k) = inside p o (h ∙ k)
  join_index x y z (outside p q h) (outside r o k) = outside p o (join x y z h k)
  join_index x y z (inside p q h) (outside r o k) = absurd (omega arith)
  join_index x y z (outside p q h) (inside r o k) = absurd (omega arith)

  join_heap : (h k l : HeapType) → AlikeHeap S s t h k → AlikeHeap T t u k l → AlikeHeap U s u h l
  join_heap _ _ _ alike.AlikeHeap.func alike.AlikeHeap.func = alike.AlikeHeap.func
  join_heap _ _ _ alike.AlikeHeap.no_func alike.AlikeHeap.no_func = alike.AlikeHeap.no_func
  join_heap _ _ _ alike.AlikeHeap.cont alike.AlikeHeap.cont = alike.AlikeHeap.cont
  join_heap _ _ _ alike.AlikeHeap.no_cont alike.AlikeHeap.no_cont = alike.AlikeHeap.no_cont
  join_heap _ _ _ (alike.AlikeHeap.index {x} {y} h) (alike.AlikeHeap.index {y = z} k) = alike.AlikeHeap.index (join_index x y z h k)

  join_val : (v w z : ValType) → AlikeVal S s t v w → AlikeVal T t u w z → AlikeVal U s u v z
  join_val _ _ _ alike.AlikeVal.i32 alike.AlikeVal.i32 = alike.AlikeVal.i32
  join_val _ _ _ alike.AlikeVal.i64 alike.AlikeVal.i64 = alike.AlikeVal.i64
  join_val _ _ _ (alike.AlikeVal.ref {r} {q} h) (alike.AlikeVal.ref {q = o} k) = alike.AlikeVal.ref (record { nullable = h.nullable ∙ k.nullable; heap = join_heap r.heap q.heap o.heap h.heap k.heap })

  join_comp : (a b c : CompType) → AlikeComp S s t a b → AlikeComp T t u b c → AlikeComp U s u a c
  join_comp _ _ _ (alike.AlikeComp.func h) (alike.AlikeComp.func k) =
      alike.AlikeComp.func (record { params = joined join_val h.params k.params; results = joined join_val h.results k.results })
  join_comp _ _ _ (alike.AlikeComp.cont {x} {y} h) (alike.AlikeComp.cont {y = z} k) = alike.AlikeComp.cont (join_index x y z h k)

  join_sub : (a b c : SubType) → AlikeSub S s t a b → AlikeSub T t u b c → AlikeSub U s u a c
  join_sub a b c h k = record {
    is_final = h.is_final ∙ k.is_final;
    supertypes = joined join_index h.supertypes k.supertypes;
    composite = join_comp a.composite b.composite c.composite h.composite k.composite;
  }

-- ## Equivalence

same_turned : (n : ℕ) (gs : List RecGroup) (i j : ℕ) → Same n gs i j → Same n gs j i
same_turned zero gs i j h = absurd h
same_turned (suc n) gs i j h = record {
  one = h.other;
  other = h.one;
  one_early = h.other_early;
  other_early = h.one_early;
  position = sym h.position;
  groups = turned (turn_sub (Same n gs) (Same n gs) (count h.one.front) (count h.other.front) (same_turned n gs)) h.groups;
}

same_joined : (n : ℕ) (gs : List RecGroup) (i j k : ℕ) → Same n gs i j → Same n gs j k → Same n gs i k
same_joined zero gs i j k h l = absurd h
same_joined (suc n) gs i j k h l =
    let S = Same n gs in
    let u = one_place gs j l.one h.other in
    let g : AlikeGroup S (count h.other.front) (count l.other.front) h.other.group l.other.group =
    subst (λ (g : RecGroup). AlikeGroup S (count h.other.front) (count l.other.front) g l.other.group) u.group
    (subst (λ (fr : List RecGroup). AlikeGroup S (count fr) (count l.other.front) l.one.group l.other.group) u.front l.groups) in
    record {
      one = h.one;
      other = l.other;
      one_early = h.one_early;
      other_early = l.other_early;
      position = h.position ∙ sym u.position ∙ l.position;
      groups = joined (join_sub S S S (count h.one.front) (count h.other.front) (count l.other.front) (same_joined n gs)) h.groups g;
    }

pub reflexive : (gs : List RecGroup) → IsReflexive (SameIndex gs)
reflexive gs i = inl refl

pub symmetric : (gs : List RecGroup) → IsSymmetric (SameIndex gs)
symmetric gs i j (inl e) = inl (sym e)
symmetric gs i j (inr h) = inr (same_turned (length gs) gs i j h)

pub transitive : (gs : List RecGroup) → IsTransitive (SameIndex gs)
transitive gs i j k (inl e) h = subst (λ (x : ℕ). SameIndex gs x k) (sym e) h
transitive gs i j k (inr h) (inl e) = inr (subst (Same (length gs) gs i) e h)
transitive gs i j k (inr h) (inr l) = inr (same_joined (length gs) gs i j k h l)

-- ## Kinds

alike_kinds : {S : ℕ → ℕ → Type 0} {s t : ℕ} {a b : CompType} → AlikeComp S s t a b → kind_of a ≡ kind_of b
alike_kinds (alike.AlikeComp.func h) = refl
alike_kinds (alike.AlikeComp.cont h) = refl

-- the kind of a type
abbrev kind_in : SubType → Kind
kind_in t = kind_of t.composite

kinds_at : {S : ℕ → ℕ → Type 0} {s t : ℕ} {ts us : List SubType} (p : ℕ) → Pairwise (AlikeSub S s t) ts us → option_map kind_in (slice_get ts p) ≡ option_map kind_in (slice_get us p)
kinds_at p none = refl
kinds_at zero (more h k) = ap (λ z. Some z) (alike_kinds h.composite)
kinds_at (suc p) (more h k) = kinds_at p k

mapped_twice : (o : Option SubType) → option_map kind_of (option_map composite_of o) ≡ option_map kind_in o
mapped_twice None = refl
mapped_twice (Some t) = refl

-- the kind of type i
kind_here : (gs : List RecGroup) (i : ℕ) → option_map kind_of (slice_get (types_of gs) i) ≡ option_map kind_in (slice_get (subtypes_of gs) i)
kind_here gs i = ap (option_map kind_of) (slice_get-map composite_of (subtypes_of gs) i) ∙ mapped_twice (slice_get (subtypes_of gs) i)

same_kinds : (n : ℕ) (gs : List RecGroup) (i j : ℕ) → Same n gs i j → option_map kind_of (slice_get (types_of gs) i) ≡ option_map kind_of (slice_get (types_of gs) j)
same_kinds zero gs i j h = absurd h
same_kinds (suc n) gs i j h =
    kind_here gs i
    ∙ ap (option_map kind_in) (type_at_place gs i h.one)
    ∙ kinds_at h.one.position h.groups
    ∙ ap (λ (p : ℕ). option_map kind_in (slice_get h.other.group.types p)) h.position
    ∙ ap (option_map kind_in) (sym (type_at_place gs j h.other))
    ∙ sym (kind_here gs j)

-- equivalent types are of one kind
pub one_kind : (gs : List RecGroup) (i j : ℕ) → SameIndex gs i j → option_map kind_of (slice_get (types_of gs) i) ≡ option_map kind_of (slice_get (types_of gs) j)
one_kind gs i j (inl e) = ap (λ (x : ℕ). option_map kind_of (slice_get (types_of gs) x)) e
one_kind gs i j (inr h) = same_kinds (length gs) gs i j h
