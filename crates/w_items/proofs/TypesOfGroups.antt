-- The types of a module, group after group, each with the end of its group.
use Rattle.std.proofs.Common.{◌≡◌, ℕ, true, zero, suc, ◌+◌, ◌-◌, ◌<◌, ◌≤◌, List, [], ◌∷◌, ◌++◌, length, drop, Option, Some, None, refl, sym, ap, subst, ◌∙◌, ◌⊎◌, inl, inr, arith}
use Rattle.std.specs.Prelude.{slice_get, option_map, get_or}
use Rattle.std.proofs.lemmas.Bool.{cases_lt}
use Rattle.std.proofs.lemmas.List.{length-append, length-map, drop_more}
use Rattle.std.proofs.lemmas.Option.{slice_get-map, slice_get_within, slice_get-get_or}
use Rattle.lists.proofs.Lists.{get-front}
use Rattle.w_types.specs.declared.types.SubType.{SubType}
use Rattle.w_types.specs.declared.types.CompType.TheVariants as comp
use Rattle.w_types.specs.declared.types.RecGroup.{RecGroup}
use Rattle.w_types.specs.Groups.{subtypes_of, composite_of, types_of}
use Rattle.w_syntax.specs.declared.module.Module.{Module}
use Rattle.w_canon.proofs.Places.{subtypes_of-cons}
use Rattle.w_rules.specs.Types.{with_ends}
use Rattle.w_rules.specs.Valid.{TypeValid}
use Rattle.w_rules.proofs.ValidTypes.{paired, length-paired, ends_of_group, length-ends}
use Rattle.w_items.specs.Firsts.{IsFirstFailing}
use Rattle.w_items.specs.SubTypes.{IsValidSubType}

abbrev IsValidOf : Module → ℕ → ℕ × SubType → Type 0
IsValidOf m i p = IsValidSubType m p.0 i p.1

-- each type below an index is valid
abbrev pub ValidBelow : Module → ℕ → Type 0
ValidBelow m n = (i : ℕ) (p : ℕ × SubType) → i < n → slice_get (with_ends 0 m.types) i ≡ Some p → IsValidOf m i p

-- from an index on stand the types of these groups, and so many types in all
pub record Left (gs : List RecGroup) (start : ℕ) (rest : List RecGroup) : Type 0 where
  pub stand : drop start (with_ends 0 gs) ≡ with_ends start rest
  pub count : start + length (subtypes_of rest) ≡ length (subtypes_of gs)

pub all_left : (gs : List RecGroup) → Left gs 0 gs
all_left gs = record { stand = refl; count = omega arith }

-- ## Items of lists

get_drop : {A : Type 0} (n : ℕ) (xs : List A) (i j : ℕ) → j ≡ n + i → slice_get (drop n xs) i ≡ slice_get xs j
get_drop zero xs i j e = let same : i ≡ j = omega (arith, e) in ap (slice_get xs) same
get_drop (suc n) [] i j e = refl
get_drop (suc n) (x ∷ xs) i zero e = absurd (omega (arith, e))
get_drop (suc n) (x ∷ xs) i (suc j) e = get_drop n xs i j (omega (arith, e))

drop_front : {A : Type 0} (xs ys : List A) → drop (length xs) (xs ++ ys) ≡ ys
drop_front [] ys = refl
drop_front (x ∷ xs) ys = drop_front xs ys

drop_none : {A : Type 0} (k : ℕ) → ◌≡◌ {A = List A} (drop k []) []
drop_none zero = refl
drop_none (suc k) = refl

drop_twice : {A : Type 0} (n k j : ℕ) (xs : List A) → j ≡ n + k → drop k (drop n xs) ≡ drop j xs
drop_twice zero k j xs e = let same : k ≡ j = omega (arith, e) in ap (λ (i : ℕ). drop i xs) same
drop_twice (suc n) k zero xs e = absurd (omega (arith, e))
drop_twice (suc n) k (suc j) [] e = drop_none k
drop_twice (suc n) k (suc j) (x ∷ xs) e = drop_twice n k j xs (omega (arith, e))

-- ## A group more

-- the type at a position of the first group that is left
at_position : (gs : List RecGroup) (start : ℕ) (g : RecGroup) (rest : List RecGroup) (k : ℕ) (t : SubType) → Left gs start (g ∷ rest) → slice_get g.types k ≡ Some t → slice_get (with_ends 0 gs) (start + k) ≡ Some (start + length g.types, t)
at_position gs start g rest k t l e =
    let end = start + length g.types in
    let within : k < length (paired end g.types) = omega (arith, slice_get_within g.types k t e, length-paired end g.types) in
    sym (get_drop start (with_ends 0 gs) k (start + k) refl) ∙ ap (λ xs. slice_get xs k) (l.stand ∙ ends_of_group start g rest) ∙ get-front (paired end g.types) (with_ends end rest) k within
    ∙ slice_get-map (λ u. (end, u)) g.types k ∙ ap (option_map (λ u. (end, u))) e

pub fewer_left : (gs : List RecGroup) (start : ℕ) (g : RecGroup) (rest : List RecGroup) → Left gs start (g ∷ rest) → Left gs (start + length g.types) rest
fewer_left gs start g rest l =
    let end = start + length g.types in
    let n : length (paired end g.types) ≡ length g.types = length-paired end g.types in
    record {
      stand = sym (drop_twice start (length g.types) end (with_ends 0 gs) refl) ∙ ap (drop (length g.types)) (l.stand ∙ ends_of_group start g rest)
          ∙ ap (λ (j : ℕ). drop j (paired end g.types ++ with_ends end rest)) (sym n) ∙ drop_front (paired end g.types) (with_ends end rest);
      count = omega (arith, l.count, ap length (subtypes_of-cons g rest), length-append g.types (subtypes_of rest));
    }

-- so many types are not more than there are
pub within_count : (gs : List RecGroup) (start : ℕ) (g : RecGroup) (rest : List RecGroup) → Left gs start (g ∷ rest) → start + length g.types ≤ length (types_of gs)
within_count gs start g rest l = omega (arith, (fewer_left gs start g rest l).count, length-map (subtypes_of gs) composite_of)

-- ## What is found of a group

same_type : (m : Module) (i end : ℕ) (t : SubType) → slice_get (with_ends 0 m.types) i ≡ Some (end, t) → TypeValid m i → IsValidSubType m end i t
same_type m i end t is h =
    let same : ◌≡◌ {A = ℕ × SubType} (h.end, h.type) (end, t) = let f = h.is in cc in
    subst (IsValidOf m i) same (h.valid, h.supertypes)

abbrev pub IsFailing : Module → ℕ → ℕ → List SubType → Option ℕ → Type 0
IsFailing m start end ts o = IsFirstFailing (λ (k : ℕ). IsValidSubType m end (start + k)) ts o

-- a type at a position of the first group that is left, which is not valid
pub not_typed : (m : Module) (start k : ℕ) (g : RecGroup) (rest : List RecGroup) → Left m.types start (g ∷ rest) → IsFailing m start (start + length g.types) g.types (Some k) → TypeValid m (start + k) → ⊥
not_typed m start k g rest l f h = f.2 (same_type m (start + k) (start + length g.types) f.0 (at_position m.types start g rest k f.0 l f.1) h)

-- an index among the first items of a group
split : (m : Module) (start n : ℕ) (g : RecGroup) (rest : List RecGroup) → Left m.types start (g ∷ rest) → ValidBelow m start → n ≤ length g.types
    → ((k : ℕ) (t : SubType) → k < n → slice_get g.types k ≡ Some t → IsValidSubType m (start + length g.types) (start + k) t) → ValidBelow m (start + n)
split m start n g rest l below le group i p lt is = by (cases_lt i start)
  where
    by : (i < start) ⊎ (start ≤ i) → IsValidOf m i p
    by (inl h) = below i p h is
    by (inr h) =
        let k = i - start in
        let at : i ≡ start + k = omega arith in
        let few : k < length g.types = omega arith in
        let t = get_or g.types k p.1 in
        let there : slice_get g.types k ≡ Some t = slice_get-get_or g.types k p.1 few in
        let found = at_position m.types start g rest k t l there in
        let same : ◌≡◌ {A = Option (ℕ × SubType)} (Some (start + length g.types, t)) (Some p) = sym found ∙ ap (slice_get (with_ends 0 m.types)) (sym at) ∙ is in
        let pair : (start + length g.types, t) ≡ p = cc in
        subst (λ (j : ℕ). IsValidOf m j p) (sym at) (subst (IsValidOf m (start + k)) pair (group k t (omega arith) there))

-- all types of the first group that is left are valid
pub group_valid : (m : Module) (start : ℕ) (g : RecGroup) (rest : List RecGroup) → Left m.types start (g ∷ rest) → ValidBelow m start → IsFailing m start (start + length g.types) g.types None → ValidBelow m (start + length g.types)
group_valid m start g rest l below f = split m start (length g.types) g rest l below (omega arith) (λ k t lt is. f k t is)

-- and those before one that is not
pub before_valid : (m : Module) (start k : ℕ) (g : RecGroup) (rest : List RecGroup) → Left m.types start (g ∷ rest) → ValidBelow m start → IsFailing m start (start + length g.types) g.types (Some k) → ValidBelow m (start + k)
before_valid m start k g rest l below f = split m start k g rest l below (omega (arith, slice_get_within g.types k f.0 f.1)) (λ j t lt is. f.3 j t lt is)

-- a type below a bound of valid ones is typed
pub typed_below : (m : Module) (n : ℕ) → ValidBelow m n → (j : ℕ) → j < n → j < length (types_of m.types) → TypeValid m j
typed_below m n below j lt item =
    let l = with_ends 0 m.types in
    let inside : j < length l = omega (arith, length-ends 0 m.types, length-map (subtypes_of m.types) composite_of) in
    let some : ℕ × SubType = (0, record { is_final = true; supertypes = []; composite = comp.Cont 0 }) in
    let p = get_or l j some in
    let is = slice_get-get_or l j some inside in
    let h = below j p lt is in
    record { type = p.1; end = p.0; is = is; valid = h.0; supertypes = h.1 }

-- no group is left
pub none_left : (gs : List RecGroup) (start : ℕ) → Left gs start [] → start ≡ length (types_of gs)
unfolding subtypes_of
none_left gs start l = omega (arith, l.count, length-map (subtypes_of gs) composite_of)

-- the first group that is left
pub next_left : (gs : List RecGroup) (start : ℕ) (items : List RecGroup) (i : ℕ) (g : RecGroup) → items ≡ gs → i < length items → g ≡ get_or items i g → Left gs start (drop i gs) → Left gs start (g ∷ drop (i + 1) gs)
next_left gs start items i g same lt is l =
    let inside : i < length gs = omega (arith, lt, ap length same) in
    let there : g ≡ get_or gs i g = subst (λ (xs : List RecGroup). g ≡ get_or xs i g) same is in
    subst (Left gs start) (drop_more gs i g inside ∙ ap (λ (x : RecGroup). x ∷ drop (i + 1) gs) (sym there)) l

-- a position where a type stands is below the length
pub position_below : (items ts : List SubType) (k : ℕ) (t : SubType) → items ≡ ts → slice_get items k ≡ Some t → k < length ts
position_below items ts k t same is = omega (arith, slice_get_within items k t is, ap length same)

-- one type more that is valid
pub one_more : (P : ℕ → SubType → Type 0) (ts : List SubType) (n : ℕ) (t : SubType) → slice_get ts n ≡ Some t → P n t
    → ((i : ℕ) (u : SubType) → i < n → slice_get ts i ≡ Some u → P i u) → (i : ℕ) (u : SubType) → i < n + 1 → slice_get ts i ≡ Some u → P i u
one_more P ts n t there holds before i u lt is = elim (cases_lt i n) [
  | inl h ↦ before i u h is
  | inr h ↦ let at : i ≡ n = omega arith in let found : slice_get ts n ≡ Some u = sym (ap (slice_get ts) at) ∙ is in let same : t ≡ u = cc in subst (λ (j : ℕ). P j u) (sym at) (subst (P n) same holds)
]
