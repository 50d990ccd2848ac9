-- Where types stand.
use Rattle.std.proofs.Common.{◌≡◌, ◌⊎◌, inl, inr, ℕ, ◌+◌, ◌-◌, ◌<◌, ◌≤◌, List, [], ◌∷◌, ◌++◌, length, slice_get, refl, sym, ap, ◌∙◌, append_assoc, arith}
use Rattle.std.proofs.lemmas.Bool.{cases_lt}
use Rattle.std.proofs.lemmas.List.{length-append}
use Rattle.lists.proofs.Lists.{get-front, get-behind}
use Rattle.w_types.specs.declared.types.SubType.{SubType}
use Rattle.w_types.specs.declared.types.RecGroup.{RecGroup}
use Rattle.w_types.specs.Groups.{subtypes_of}
use Rattle.w_canon.specs.Classed.{count}
use Rattle.w_canon.specs.Equivalence.{Place}

-- ## Counts of types

pub subtypes_of-cons : (x : RecGroup) (xs : List RecGroup) → subtypes_of (x ∷ xs) ≡ x.types ++ subtypes_of xs
unfolding subtypes_of
subtypes_of-cons x xs = refl

pub subtypes_of-nil : subtypes_of [] ≡ []
unfolding subtypes_of
subtypes_of-nil = refl

pub subtypes_of-append : (xs ys : List RecGroup) → subtypes_of (xs ++ ys) ≡ subtypes_of xs ++ subtypes_of ys
unfolding subtypes_of
subtypes_of-append [] ys = refl
subtypes_of-append (x ∷ xs) ys = ap (λ (l : List SubType). x.types ++ l) (subtypes_of-append xs ys) ∙ sym (append_assoc x.types (subtypes_of xs) (subtypes_of ys))

count-cons : (x : RecGroup) (xs : List RecGroup) → count (x ∷ xs) ≡ length x.types + count xs
unfolding subtypes_of
count-cons x xs = length-append x.types (subtypes_of xs)

count-nil : count [] ≡ 0
unfolding subtypes_of
count-nil = refl

pub count-append : (xs ys : List RecGroup) → count (xs ++ ys) ≡ count xs + count ys
count-append xs ys = ap (λ (l : List SubType). length l) (subtypes_of-append xs ys) ∙ length-append (subtypes_of xs) (subtypes_of ys)

-- the types in front of a group and those of the group are among all
pub count-split : (gs front : List RecGroup) (g : RecGroup) (back : List RecGroup) → gs ≡ front ++ g ∷ back → count front + length g.types ≤ count gs
count-split gs front g back is =
    let a = count-append front (g ∷ back) in
    let b = count-cons g back in
    let c = ap count is in
    omega arith

-- ## A place is there for each type, and is the only one

pub within_all : (gs : List RecGroup) (i : ℕ) (P : Place gs i) → i < count gs
within_all gs i P = let s = count-split gs P.front P.group P.back P.is in let c = P.counts in let w = P.within in omega arith

pub front_within : (gs : List RecGroup) (i : ℕ) (P : Place gs i) → length P.front < length gs
front_within gs i P = let e = ap length P.is in let l = length-append P.front (P.group ∷ P.back) in omega arith

further : (x : RecGroup) (xs : List RecGroup) (i : ℕ) → length x.types ≤ i → Place xs (i - length x.types) → Place (x ∷ xs) i
further x xs i h P = record {
  front = x ∷ P.front;
  group = P.group;
  back = P.back;
  position = P.position;
  is = ap (λ (l : List RecGroup). x ∷ l) P.is;
  counts = let c = P.counts in let n = count-cons x P.front in omega arith;
  within = P.within;
}

place_by : (x : RecGroup) (xs : List RecGroup) (i : ℕ) → ((j : ℕ) → j < count xs → Place xs j) → i < count (x ∷ xs) → (i < length x.types) ⊎ (length x.types ≤ i) → Place (x ∷ xs) i
place_by x xs i again h (inl w) = record { front = []; group = x; back = xs; position = i; is = refl; counts = let n = count-nil in omega arith; within = w }
place_by x xs i again h (inr w) = let n = count-cons x xs in further x xs i w (again (i - length x.types) (omega arith))

-- each type has a place
pub place : (gs : List RecGroup) (i : ℕ) → i < count gs → Place gs i
place [] i h = absurd (let n = count-nil in omega arith)
place (x ∷ xs) i h = place_by x xs i (place xs) h (cases_lt i (length x.types))

-- a type of the groups in front has the same place among all
abbrev pub place_wider : (gs front more : List RecGroup) (i : ℕ) → gs ≡ front ++ more → Place front i → Place gs i
place_wider gs front more i is P = record {
  front = P.front;
  group = P.group;
  back = P.back ++ more;
  position = P.position;
  is = is ∙ ap (λ (l : List RecGroup). l ++ more) P.is ∙ append_assoc P.front (P.group ∷ P.back) more;
  counts = P.counts;
  within = P.within;
}

-- the parts of a place
pub record IsSame (fr fr' : List RecGroup) (g g' : RecGroup) (p p' : ℕ) : Type 0 where
  pub front : fr ≡ fr'
  pub group : g ≡ g'
  pub position : p ≡ p'

same_parts : (fr fr' : List RecGroup) (g g' : RecGroup) (bk bk' : List RecGroup) (p p' : ℕ) → fr ++ g ∷ bk ≡ fr' ++ g' ∷ bk' → count fr + p ≡ count fr' + p' → p < length g.types → p' < length g'.types → IsSame fr fr' g g' p p'
same_parts [] [] g g' bk bk' p p' e n w w' = record { front = refl; group = cc; position = let c = count-nil in omega (arith, n) }
same_parts [] (x ∷ fr') g g' bk bk' p p' e n w w' =
    let s : g ≡ x = cc in
    let l : length g.types ≡ length x.types = ap (λ (y : RecGroup). length y.types) s in
    let c = count-cons x fr' in
    let z = count-nil in
    absurd (omega arith)
same_parts (x ∷ fr) [] g g' bk bk' p p' e n w w' =
    let s : g' ≡ x = cc in
    let l : length g'.types ≡ length x.types = ap (λ (y : RecGroup). length y.types) s in
    let c = count-cons x fr in
    let z = count-nil in
    absurd (omega arith)
same_parts (x ∷ fr) (y ∷ fr') g g' bk bk' p p' e n w w' =
    let s : x ≡ y = cc in
    let l : length x.types ≡ length y.types = ap (λ (z : RecGroup). length z.types) s in
    let c = count-cons x fr in
    let d = count-cons y fr' in
    let r = same_parts fr fr' g g' bk bk' p p' (cc) (omega arith) w w' in
    let f = r.front in
    record { front = cc; group = r.group; position = r.position }

-- a type has one place
pub one_place : (gs : List RecGroup) (i : ℕ) (P Q : Place gs i) → IsSame P.front Q.front P.group Q.group P.position Q.position
one_place gs i P Q = same_parts P.front Q.front P.group Q.group P.back Q.back P.position Q.position (sym P.is ∙ Q.is) (sym P.counts ∙ Q.counts) P.within Q.within

-- ## The type at a place

-- it is the one of its group at its position
pub type_at_place : (gs : List RecGroup) (i : ℕ) (P : Place gs i) → slice_get (subtypes_of gs) i ≡ slice_get P.group.types P.position
type_at_place gs i P =
    ap (λ (l : List RecGroup). slice_get (subtypes_of l) i) P.is
    ∙ ap (λ (l : List SubType). slice_get l i) (subtypes_of-append P.front (P.group ∷ P.back) ∙ ap (λ (l : List SubType). subtypes_of P.front ++ l) (subtypes_of-cons P.group P.back))
    ∙ ap (slice_get (subtypes_of P.front ++ (P.group.types ++ subtypes_of P.back))) P.counts
    ∙ get-behind (subtypes_of P.front) (P.group.types ++ subtypes_of P.back) P.position
    ∙ get-front P.group.types (subtypes_of P.back) P.position P.within
