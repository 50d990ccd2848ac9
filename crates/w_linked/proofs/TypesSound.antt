-- The types of the linked module are valid, as those of its files are; so equivalent ones are of equal function types, and those that match of
-- function types that match.
use Rattle.std.proofs.Common.{◌≡◌, ◌⊎◌, inl, inr, ◌<◌, ◌≤◌, ◌+◌, ◌-◌, ℕ, List, [], ◌∷◌, ◌++◌, map, length, Some, slice_get, refl, sym, ap, subst, subst₂, ◌∙◌, append_assoc, arith}
use Rattle.std.specs.Prelude.{All, option_map}
use Rattle.std.proofs.lemmas.Bool.{cases_lt, ltb-true, lt-ltb}
use Rattle.std.proofs.lemmas.List.{length-append, length-map, map-append}
use Rattle.std.proofs.lemmas.List.Elements.{All-head, All-tail, All-nil, All-cons}
use Rattle.std.proofs.lemmas.Option.{slice_get-map, slice_get_within}
use Rattle.lists.proofs.Lists.{get-front, get-behind}
use Rattle.w_types.specs.declared.types.CompType.{CompType}
use Rattle.w_types.specs.declared.types.CompType.TheVariants as comp
use Rattle.w_types.specs.declared.types.HeapType.{HeapType}
use Rattle.w_types.specs.declared.types.HeapType.TheVariants as heap
use Rattle.w_types.specs.declared.types.RecGroup.{RecGroup}
use Rattle.w_types.specs.declared.types.SubType.{SubType}
use Rattle.w_types.specs.declared.types.ValType.{ValType}
use Rattle.w_types.specs.declared.types.ValType.TheVariants as val
use Rattle.w_types.specs.Groups.{subtypes_of, composite_of, types_of}
use Rattle.w_canon.specs.Classed.{count}
use Rattle.w_canon.proofs.Places.{subtypes_of-nil, count-append}
use Rattle.w_canon.specs.Matching.{CompMatches}
use Rattle.w_canon.specs.Supertypes.{KeepsKinds}
use Rattle.w_rules.specs.Types.{IsValidHeap, IsValidType, IsValidCompType, IsSupertype, AreSupertypes, with_ends}
use Rattle.w_rules.specs.Valid.{Valid, TypeItem, TypeValid}
use Rattle.w_rules.proofs.ValidTypes.{length-ends, kinds_of_valid}
use Rattle.w_typed.proofs.KeptComposites.{TypesValid}
use Rattle.w_typed.proofs.SameTypes.{equal_function, function_matches}
use Rattle.w_link.specs.Shifted.{heap_shifted, type_shifted, types_shifted, func_shifted, comp_shifted, sub_shifted, group_shifted, among}
use Rattle.w_link.specs.Fits.{Stands}
use Rattle.w_link.proofs.ShiftedMatching.{composite_there, func_carried, index_carried}
use Rattle.w_link.proofs.ShiftedTypes.{shifted_count, stand_among}
use Rattle.w_linked.specs.Imports.{Placed}
use Rattle.w_linked.specs.Linked.{of_placed, linked}
use Rattle.w_linked.proofs.Counting.{groups_in}
use Rattle.w_linked.proofs.FilesFit.{KeepsFuncs}
use Rattle.w_linked.proofs.SoundFunctions.{of_both}

-- ## Types with the ends of their groups

abbrev Ended : Type 0
Ended = ℕ × SubType

ends_append : (s : ℕ) (xs ys : List RecGroup) → with_ends s (xs ++ ys) ≡ with_ends s xs ++ with_ends (s + count xs) ys
unfolding with_ends subtypes_of
ends_append s [] ys = ap (λ (k : ℕ). with_ends k ys) (omega arith)
ends_append s (x ∷ xs) ys =
    let n = s + length x.types in
    let e : n + count xs ≡ s + length (x.types ++ subtypes_of xs) = omega (arith, length-append x.types (subtypes_of xs)) in
    ap (λ (l : List Ended). map (λ t. (n, t)) x.types ++ l) (ends_append n xs ys ∙ ap (λ (k : ℕ). with_ends n xs ++ with_ends k ys) e)
    ∙ sym (append_assoc (map (λ t. (n, t)) x.types) (with_ends n xs) (with_ends (s + length (x.types ++ subtypes_of xs)) ys))

abbrev ended_shifted : ℕ → Ended → Ended
ended_shifted n p = (n + p.0, sub_shifted n p.1)

pairs_shifted : (n k z : ℕ) (ts : List SubType) → z ≡ n + k → map (λ t. (z, t)) (map (sub_shifted n) ts) ≡ map (ended_shifted n) (map (λ t. (k, t)) ts)
pairs_shifted n k z [] e = refl
pairs_shifted n k z (t ∷ ts) e = rw (pairs_shifted n k z ts e) (ap (λ (j : ℕ). let q : Ended = (j, sub_shifted n t) in q ∷ map (ended_shifted n) (map (λ t. (k, t)) ts)) e)

ends_shifted : (n s z : ℕ) (gs : List RecGroup) → z ≡ n + s → with_ends z (map (group_shifted n) gs) ≡ map (ended_shifted n) (with_ends s gs)
unfolding with_ends
ends_shifted n s z [] e = refl
ends_shifted n s z (g ∷ gs) e =
    let k = s + length g.types in
    let y = z + length (map (sub_shifted n) g.types) in
    let ends : y ≡ n + k = omega (arith, e, length-map g.types (sub_shifted n)) in
    ap (λ (l : List Ended). l ++ with_ends y (map (group_shifted n) gs)) (pairs_shifted n k y g.types ends)
    ∙ ap (λ (l : List Ended). map (ended_shifted n) (map (λ t. (k, t)) g.types) ++ l) (ends_shifted n k y gs ends)
    ∙ sym (map-append (ended_shifted n) (map (λ t. (k, t)) g.types) (with_ends k gs))

-- those of the groups of a file among all
ends_among : (F gs B : List RecGroup) → with_ends 0 (among F gs B)
    ≡ with_ends 0 F ++ (map (ended_shifted (count F)) (with_ends 0 gs) ++ with_ends (count F + count (map (group_shifted (count F)) gs)) B)
ends_among F gs B =
    let n = count F in
    let moved = map (group_shifted n) gs in
    let behind = with_ends (n + count moved) B in
    ends_append 0 F (moved ++ B)
    ∙ ap (λ (k : ℕ). with_ends 0 F ++ with_ends k (moved ++ B)) (omega arith)
    ∙ ap (λ (l : List Ended). with_ends 0 F ++ l) (ends_append n moved B ∙ ap (λ (l : List Ended). l ++ behind) (ends_shifted n 0 n gs (omega arith)))

-- a type of the file, with the end of its group
ended_there : (F gs B : List RecGroup) (k end : ℕ) (t : SubType) → slice_get (with_ends 0 gs) k ≡ Some (end, t)
    → slice_get (with_ends 0 (among F gs B)) (count F + k) ≡ Some (count F + end, sub_shifted (count F) t)
ended_there F gs B k end t is =
    let n = count F in
    let own = map (ended_shifted n) (with_ends 0 gs) in
    let behind = with_ends (n + count (map (group_shifted n) gs)) B in
    let few : k < length own = omega (arith, slice_get_within (with_ends 0 gs) k (end, t) is, length-map (with_ends 0 gs) (ended_shifted n)) in
    ap (λ (l : List Ended). slice_get l (n + k)) (ends_among F gs B)
    ∙ ap (λ (x : ℕ). slice_get (with_ends 0 F ++ (own ++ behind)) (x + k)) (sym (length-ends 0 F))
    ∙ get-behind (with_ends 0 F) (own ++ behind) k
    ∙ get-front own behind k few
    ∙ slice_get-map (ended_shifted n) (with_ends 0 gs) k
    ∙ ap (option_map (ended_shifted n)) is

-- ## Valid types

heap_valid : (n end : ℕ) (h : HeapType) → IsValidHeap end h → IsValidHeap (n + end) (heap_shifted n h)
heap_valid n end heap.Func e = refl
heap_valid n end heap.NoFunc e = refl
heap_valid n end heap.Cont e = refl
heap_valid n end heap.NoCont e = refl
heap_valid n end (heap.Index x) e = lt-ltb (n + x) (n + end) (omega (arith, ltb-true x end e))

type_valid : (n end : ℕ) (t : ValType) → IsValidType end t → IsValidType (n + end) (type_shifted n t)
type_valid n end val.I32 e = refl
type_valid n end val.I64 e = refl
type_valid n end (val.Ref r) e = heap_valid n end r.heap e

all_valid : (n end : ℕ) (ts : List ValType) → All (IsValidType end) ts → All (IsValidType (n + end)) (types_shifted n ts)
all_valid n end [] h = All-nil (IsValidType (n + end))
all_valid n end (t ∷ ts) h = All-cons (IsValidType (n + end)) (type_shifted n t) (types_shifted n ts)
    (type_valid n end t (All-head (IsValidType end) t ts h)) (all_valid n end ts (All-tail (IsValidType end) t ts h))

module _ (n : ℕ) (gs hs : List RecGroup) (stand : Stands n gs hs) where
  comp_valid : (end : ℕ) (t : CompType) → IsValidCompType (types_of gs) end t → IsValidCompType (types_of hs) (n + end) (comp_shifted n t)
  comp_valid end (comp.Func t) h = (all_valid n end t.params h.0, all_valid n end t.results h.1)
  comp_valid end (comp.Cont x) h = (omega (arith, h.0), func_shifted n h.1, composite_there n gs hs stand x (comp.Func h.1) h.2)

  comp_matches : {t u : CompType} → CompMatches gs t u → CompMatches hs (comp_shifted n t) (comp_shifted n u)
  comp_matches (CompMatches.func {f} {g} h) = CompMatches.func (func_carried n gs hs stand f g h)
  comp_matches (CompMatches.cont h) = CompMatches.cont (index_carried n gs hs stand h)

  supertype_valid : (i : ℕ) (t : CompType) (z : ℕ) → IsSupertype gs i t z → IsSupertype hs (n + i) (comp_shifted n t) (n + z)
  supertype_valid i t z h = record {
    type = sub_shifted n h.type;
    is = stand.type z h.type h.is;
    before = omega (arith, h.before);
    is_open = h.is_open;
    matches = comp_matches h.matches;
  }

  supertypes_valid : (i : ℕ) (t : CompType) (zs : List ℕ) → AreSupertypes gs i t zs → AreSupertypes hs (n + i) (comp_shifted n t) (map (λ (z : ℕ). n + z) zs)
  supertypes_valid i t [] h = tt
  supertypes_valid i t (z ∷ []) h = supertype_valid i t z h
  supertypes_valid i t (z ∷ y ∷ zs) h = absurd h

-- ## Which file a type is of

-- type j is type `index` of a file
record TypeIn (ps : List Placed) (j : ℕ) : Type 0 where
  front : List Placed
  file : Placed
  back : List Placed
  index : ℕ
  is : ps ≡ front ++ file ∷ back
  counts : j ≡ count (of_placed groups_in front) + index
  within : index < count file.source.types

first_or_later : (p : Placed) (ps : List Placed) (j : ℕ) → ((k : ℕ) → k < count (of_placed groups_in ps) → TypeIn ps k) → j < count (of_placed groups_in (p ∷ ps))
    → (j < count p.source.types) ⊎ (count p.source.types ≤ j) → TypeIn (p ∷ ps) j
first_or_later p ps j again lt (inl low) = record {
  front = [];
  file = p;
  back = ps;
  index = j;
  is = refl;
  counts = omega (arith, ap (λ (ts : List SubType). length ts) subtypes_of-nil);
  within = low;
}
first_or_later p ps j again lt (inr high) =
    let own = groups_in p.instance p.source in
    let all = count-append own (of_placed groups_in ps) in
    let few = shifted_count p.instance.types p.source.types in
    let r = again (j - count p.source.types) (omega (arith, lt, high, all, few)) in
    record {
      front = p ∷ r.front;
      file = r.file;
      back = r.back;
      index = r.index;
      is = ap (λ (l : List Placed). p ∷ l) r.is;
      counts = omega (arith, high, few, r.counts, count-append own (of_placed groups_in r.front));
      within = r.within;
    }

type_in : (ps : List Placed) (j : ℕ) → j < count (of_placed groups_in ps) → TypeIn ps j
type_in [] j lt = absurd (omega (arith, lt, ap (λ (ts : List SubType). length ts) subtypes_of-nil))
type_in (p ∷ ps) j lt = first_or_later p ps j (λ k. type_in ps k) lt (cases_lt j (count p.source.types))

-- ## All of them

module _ (ps : List Placed) (valid : (front back : List Placed) (p : Placed) → ps ≡ front ++ p ∷ back → Valid p.source)
    (numbers : (front back : List Placed) (p : Placed) → ps ≡ front ++ p ∷ back → p.instance.types ≡ count (of_placed groups_in front)) where
  -- the groups of a file stand among all
  groups_of_file : {j : ℕ} (r : TypeIn ps j) → (linked ps).types ≡ among (of_placed groups_in r.front) r.file.source.types (of_placed groups_in r.back)
  groups_of_file r =
      let front = of_placed groups_in r.front in
      ap (of_placed groups_in) r.is ∙ of_both groups_in r.front (r.file ∷ r.back)
      ∙ ap (λ (k : ℕ). front ++ (map (group_shifted k) r.file.source.types ++ of_placed groups_in r.back)) (numbers r.front r.back r.file r.is)

  type_of_file : (j : ℕ) → TypeIn ps j → TypeValid (linked ps) j
  type_of_file j r =
      let m = r.file.source in
      let front = of_placed groups_in r.front in
      let n = count front in
      let all = among front m.types (of_placed groups_in r.back) in
      let stand = stand_among front m.types (of_placed groups_in r.back) in
      let v : TypeValid m r.index = valid r.front r.back r.file r.is (TypeItem r.index) (omega (arith, r.within, length-map (subtypes_of m.types) composite_of)) in
      let c = v.type.composite in
      let e = sym (groups_of_file r) in
      record {
        type = sub_shifted n v.type;
        end = n + v.end;
        is = subst₂ (λ (gs : List RecGroup) (k : ℕ). slice_get (with_ends 0 gs) k ≡ Some (n + v.end, sub_shifted n v.type)) e (sym r.counts)
            (ended_there front m.types (of_placed groups_in r.back) r.index v.end v.type v.is);
        valid = subst (λ (gs : List RecGroup). IsValidCompType (types_of gs) (n + v.end) (comp_shifted n c)) e (comp_valid n m.types all stand v.end c v.valid);
        supertypes = subst₂ (λ (gs : List RecGroup) (k : ℕ). AreSupertypes gs k (comp_shifted n c) (map (λ (z : ℕ). n + z) v.type.supertypes)) e (sym r.counts)
            (supertypes_valid n m.types all stand r.index c v.type.supertypes v.supertypes);
      }

  type_sound : (j : ℕ) → j < length (types_of (linked ps).types) → TypeValid (linked ps) j
  type_sound j lt = type_of_file j (type_in ps j (omega (arith, lt, length-map (subtypes_of (linked ps).types) composite_of)))

  -- each type of the linked module is valid
  pub types_sound : TypesValid (linked ps)
  types_sound = type_sound

  -- each supertype is of the kind of the types below it
  pub keeps_kinds : KeepsKinds (linked ps).types
  keeps_kinds = kinds_of_valid (linked ps) type_sound

  -- equivalent ones are of equal function types, and those that match of function types that match
  pub keeps_funcs : KeepsFuncs (linked ps).types
  keeps_funcs = record {
    same = λ x y s f is.
        let e = equal_function (linked ps) types_sound x y s f is in
        record { type = e.type; is = e.has_type; params = e.params; results = e.results };
    below = λ x y s f is.
        let e = function_matches (linked ps) types_sound s f is in
        record { value = e.type; is = e.has_type; holds = record { params = e.params; results = e.results } };
  }
