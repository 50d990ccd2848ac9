-- Types that are equivalent in one file are so among those of all files.
use Rattle.std.proofs.Common.{◌≡◌, inl, inr, ℕ, zero, suc, ◌+◌, ◌≤◌, List, [], ◌∷◌, ◌++◌, map, length, Some, slice_get, refl, sym, ap, subst₂, ◌∙◌, append_assoc, arith}
use Rattle.std.specs.Prelude.{option_map}
use Rattle.std.proofs.lemmas.List.{length-append, length-map, map-append}
use Rattle.std.proofs.lemmas.Option.{slice_get-map, slice_get_within}
use Rattle.lists.proofs.Lists.{get-front, get-behind}
use Rattle.w_types.specs.declared.types.CompType.{CompType}
use Rattle.w_types.specs.declared.types.HeapType.{HeapType}
use Rattle.w_types.specs.declared.types.RecGroup.{RecGroup}
use Rattle.w_types.specs.declared.types.SubType.{SubType}
use Rattle.w_types.specs.declared.types.ValType.{ValType}
use Rattle.w_types.specs.Groups.{subtypes_of, composite_of}
use Rattle.w_canon.specs.Relations.{Pairwise, none, more}
use Rattle.w_canon.specs.Equivalence.{AlikeIndex, inside, outside, AlikeHeap, AlikeVal, AlikeComp, AlikeSub, AlikeGroup, Place, Same, SameIndex}
use Rattle.w_canon.specs.Equivalence as alike
use Rattle.w_canon.specs.Classed.{count}
use Rattle.w_canon.proofs.Places.{subtypes_of-append, count-append}
use Rattle.w_link.specs.Shifted.{heap_shifted, type_shifted, comp_shifted, sub_shifted, group_shifted, among}
use Rattle.w_link.specs.Fits.{Stands}

-- ## Lists

pub mapped : {A B : Type 0} {R : A → A → Type 0} {Q : B → B → Type 0} (f : A → B) → ((x y : A) → R x y → Q (f x) (f y)) → {xs ys : List A} → Pairwise R xs ys
    → Pairwise Q (map f xs) (map f ys)
mapped f carry none = none
mapped f carry (more {x} {y} h t) = more (carry x y h) (mapped f carry t)

-- the types of shifted groups
pub shifted_types : (n : ℕ) (gs : List RecGroup) → subtypes_of (map (group_shifted n) gs) ≡ map (sub_shifted n) (subtypes_of gs)
unfolding subtypes_of
shifted_types n [] = refl
shifted_types n (g ∷ gs) = ap (λ (ts : List SubType). map (sub_shifted n) g.types ++ ts) (shifted_types n gs) ∙ sym (map-append (sub_shifted n) g.types (subtypes_of gs))

pub shifted_count : (n : ℕ) (gs : List RecGroup) → count (map (group_shifted n) gs) ≡ count gs
shifted_count n gs = ap (λ (l : List SubType). length l) (shifted_types n gs) ∙ length-map (subtypes_of gs) (sub_shifted n)

-- ## Alike

module _ (S T : ℕ → ℕ → Type 0) (n s t : ℕ) (carry : (x y : ℕ) → S x y → T (n + x) (n + y)) where
  shift_index : {x y : ℕ} → AlikeIndex S s t x y → AlikeIndex T (n + s) (n + t) (n + x) (n + y)
  shift_index (inside p q h) = inside (omega (arith, p)) (omega (arith, q)) (omega (arith, p, q, h))
  shift_index {x} {y} (outside p q h) = outside (omega (arith, p)) (omega (arith, q)) (carry x y h)

  shift_heap : {h k : HeapType} → AlikeHeap S s t h k → AlikeHeap T (n + s) (n + t) (heap_shifted n h) (heap_shifted n k)
  shift_heap alike.AlikeHeap.func = alike.AlikeHeap.func
  shift_heap alike.AlikeHeap.no_func = alike.AlikeHeap.no_func
  shift_heap alike.AlikeHeap.cont = alike.AlikeHeap.cont
  shift_heap alike.AlikeHeap.no_cont = alike.AlikeHeap.no_cont
  shift_heap (alike.AlikeHeap.index h) = alike.AlikeHeap.index (shift_index h)

  shift_val : (v w : ValType) → AlikeVal S s t v w → AlikeVal T (n + s) (n + t) (type_shifted n v) (type_shifted n w)
  shift_val _ _ alike.AlikeVal.i32 = alike.AlikeVal.i32
  shift_val _ _ alike.AlikeVal.i64 = alike.AlikeVal.i64
  shift_val _ _ (alike.AlikeVal.ref h) = alike.AlikeVal.ref (record { nullable = h.nullable; heap = shift_heap h.heap })

  shift_comp : (a b : CompType) → AlikeComp S s t a b → AlikeComp T (n + s) (n + t) (comp_shifted n a) (comp_shifted n b)
  shift_comp _ _ (alike.AlikeComp.func h) =
      alike.AlikeComp.func (record { params = mapped (type_shifted n) shift_val h.params; results = mapped (type_shifted n) shift_val h.results })
  shift_comp _ _ (alike.AlikeComp.cont h) = alike.AlikeComp.cont (shift_index h)

  shift_sub : (a b : SubType) → AlikeSub S s t a b → AlikeSub T (n + s) (n + t) (sub_shifted n a) (sub_shifted n b)
  shift_sub a b h = record {
    is_final = h.is_final;
    supertypes = mapped (λ (x : ℕ). n + x) (λ x y k. shift_index k) h.supertypes;
    composite = shift_comp a.composite b.composite h.composite;
  }

-- ## Equivalence, where groups stand behind some and before others

module _ (front gs back : List RecGroup) where
  abbrev all : List RecGroup
  all = among front gs back

  abbrev place_shifted : (i : ℕ) → Place gs i → Place all (count front + i)
  place_shifted i P = record {
    front = front ++ map (group_shifted (count front)) P.front;
    group = group_shifted (count front) P.group;
    back = map (group_shifted (count front)) P.back ++ back;
    position = P.position;
    is = ap (λ (l : List RecGroup). front ++ (map (group_shifted (count front)) l ++ back)) P.is
        ∙ ap (λ (l : List RecGroup). front ++ (l ++ back)) (map-append (group_shifted (count front)) P.front (P.group ∷ P.back))
        ∙ ap (λ (l : List RecGroup). front ++ l) (append_assoc (map (group_shifted (count front)) P.front) (map (group_shifted (count front)) (P.group ∷ P.back)) back)
        ∙ sym (append_assoc front (map (group_shifted (count front)) P.front) (map (group_shifted (count front)) (P.group ∷ P.back) ++ back));
    counts = omega (arith, P.counts, count-append front (map (group_shifted (count front)) P.front), shifted_count (count front) P.front);
    within = omega (arith, P.within, length-map P.group.types (sub_shifted (count front)));
  }

  front_count : (i : ℕ) (P : Place gs i) → count front + count P.front ≡ count (front ++ map (group_shifted (count front)) P.front)
  front_count i P = omega (arith, count-append front (map (group_shifted (count front)) P.front), shifted_count (count front) P.front)

  front_length : (i : ℕ) (P : Place gs i) → length (front ++ map (group_shifted (count front)) P.front) ≡ length front + length P.front
  front_length i P = length-append front (map (group_shifted (count front)) P.front) ∙ ap (λ (k : ℕ). length front + k) (length-map P.front (group_shifted (count front)))

  same_shifted : (k m : ℕ) → length front + k ≤ m → (i j : ℕ) → Same k gs i j → Same m all (count front + i) (count front + j)
  same_shifted zero m le i j h = absurd h
  same_shifted (suc k) zero le i j h = absurd (omega (arith, le))
  same_shifted (suc k) (suc m) le i j h = record {
    one = place_shifted i h.one;
    other = place_shifted j h.other;
    one_early = omega (arith, le, h.one_early, front_length i h.one);
    other_early = omega (arith, le, h.other_early, front_length j h.other);
    position = h.position;
    groups = subst₂ (λ (s t : ℕ). AlikeGroup (Same m all) s t (group_shifted (count front) h.one.group) (group_shifted (count front) h.other.group))
        (front_count i h.one) (front_count j h.other)
        (mapped (sub_shifted (count front))
        (shift_sub (Same k gs) (Same m all) (count front) (count h.one.front) (count h.other.front) (same_shifted k m (omega (arith, le)))) h.groups);
  }

  length_among : length all ≡ length front + (length gs + length back)
  length_among = length-append front (map (group_shifted (count front)) gs ++ back)
      ∙ ap (λ (k : ℕ). length front + k) (length-append (map (group_shifted (count front)) gs) back ∙ ap (λ (k : ℕ). k + length back) (length-map gs (group_shifted (count front))))

  same_index_shifted : (i j : ℕ) → SameIndex gs i j → SameIndex all (count front + i) (count front + j)
  same_index_shifted i j (inl e) = inl (ap (λ (x : ℕ). count front + x) e)
  same_index_shifted i j (inr h) = inr (same_shifted (length gs) (length all) (omega (arith, length_among)) i j h)

  types_among : subtypes_of all ≡ subtypes_of front ++ (map (sub_shifted (count front)) (subtypes_of gs) ++ subtypes_of back)
  types_among = subtypes_of-append front (map (group_shifted (count front)) gs ++ back)
      ∙ ap (λ (l : List SubType). subtypes_of front ++ l)
      (subtypes_of-append (map (group_shifted (count front)) gs) back ∙ ap (λ (l : List SubType). l ++ subtypes_of back) (shifted_types (count front) gs))

  type_there : (x : ℕ) (t : SubType) → slice_get (subtypes_of gs) x ≡ Some t → slice_get (subtypes_of all) (count front + x) ≡ Some (sub_shifted (count front) t)
  type_there x t is =
      let moved = map (sub_shifted (count front)) (subtypes_of gs) in
      ap (λ (l : List SubType). slice_get l (count front + x)) types_among
      ∙ get-behind (subtypes_of front) (moved ++ subtypes_of back) x
      ∙ get-front moved (subtypes_of back) x (omega (arith, slice_get_within (subtypes_of gs) x t is, length-map (subtypes_of gs) (sub_shifted (count front))))
      ∙ slice_get-map (sub_shifted (count front)) (subtypes_of gs) x
      ∙ ap (option_map (sub_shifted (count front))) is

  count_among : count front + count gs ≤ count all
  count_among = omega (
    arith,
    count-append front (map (group_shifted (count front)) gs ++ back),
    count-append (map (group_shifted (count front)) gs) back,
    shifted_count (count front) gs,
  )

  -- they stand there
  pub stand_among : Stands (count front) gs all
  stand_among = record {
    same = same_index_shifted;
    type = type_there;
    count = rw (length-map (subtypes_of gs) composite_of, length-map (subtypes_of all) composite_of) count_among;
  }
