-- The places of types lead to the types.
use Rattle.std.proofs.Common.{◌≡◌, ◌⊎◌, inl, inr, ℕ, zero, suc, ◌+◌, ◌-◌, ◌<◌, ◌≤◌, List, [], ◌∷◌, ◌++◌, length, drop, Option, Some, None, get_or, slice_get, refl, sym, ap, subst, ◌∙◌, append_assoc, arith}
use Rattle.std.proofs.lemmas.Bool.{cases_lt}
use Rattle.std.proofs.lemmas.List.{append-nil, length-append, length-map, drop_more, drop_all}
use Rattle.lists.proofs.Lists.{get-front, get-behind}
use Rattle.w_types.specs.declared.types.RecGroup.{RecGroup}
use Rattle.w_types.specs.declared.groups.Place.{Place}
use Rattle.w_types.specs.Groups.{subtypes_of, composite_of, types_of, places_in, places_of, in_group, type_at}

length-places_in : (g p n : ℕ) → length (places_in g p n) ≡ n
unfolding places_in
length-places_in g p zero = refl
length-places_in g p (suc n) = omega (arith, length-places_in g (suc p) n)

-- there are as many places as types
pub as_many_places : (g : ℕ) (gs : List RecGroup) → length (places_of g gs) ≡ length (subtypes_of gs)
unfolding places_of subtypes_of
as_many_places g [] = refl
as_many_places g (x ∷ xs) =
    omega (
      arith,
      length-append (places_in g 0 (length x.types)) (places_of (suc g) xs),
      length-append x.types (subtypes_of xs),
      length-places_in g 0 (length x.types),
      as_many_places (suc g) xs,
    )

get-places_in : (g p n i : ℕ) → i < n → slice_get (places_in g p n) i ≡ Some (record { group = g; position = p + i })
unfolding places_in
get-places_in g p zero i h = absurd (omega arith)
get-places_in g p (suc n) zero h = let e : p + 0 ≡ p = omega arith in rw e refl
get-places_in g p (suc n) (suc i) h = let e : p + suc i ≡ suc p + i = omega arith in rw e (get-places_in g (suc p) n i (omega arith))

-- a place, where the first group has number g, is that of the type of the index
abbrev Leads : ℕ → List RecGroup → ℕ → Option Place → Type 0
Leads g gs i None = slice_get (subtypes_of gs) i ≡ None
Leads g gs i (Some q) = (k : ℕ) × (q.group ≡ g + k) × (slice_get (subtypes_of gs) i ≡ in_group (slice_get gs k) q.position)

further : (g : ℕ) (x : RecGroup) (xs : List RecGroup) (i : ℕ) (o : Option Place) → Leads (suc g) xs i o → Leads g (x ∷ xs) (length x.types + i) o
unfolding subtypes_of
further g x xs i None h = get-behind x.types (subtypes_of xs) i ∙ h
further g x xs i (Some q) h = (suc h.0, omega (arith, h.1), get-behind x.types (subtypes_of xs) i ∙ h.2)

leads_by : (g : ℕ) (x : RecGroup) (xs : List RecGroup) (i : ℕ) → ((j : ℕ) → Leads (suc g) xs j (slice_get (places_of (suc g) xs) j)) → (i < length x.types) ⊎ (length x.types ≤ i) → Leads g (x ∷ xs) i (slice_get (places_of g (x ∷ xs)) i)
unfolding places_of subtypes_of
leads_by g x xs i again (inl h) =
    let z : 0 + i ≡ i = omega arith in
    let first : slice_get (places_in g 0 (length x.types) ++ places_of (suc g) xs) i ≡ Some (record { group = g; position = i }) =
    get-front (places_in g 0 (length x.types)) (places_of (suc g) xs) i (omega (arith, length-places_in g 0 (length x.types))) ∙ get-places_in g 0 (length x.types) i h ∙ ap (λ (n : ℕ). Some (record { group = g; position = n })) z in
    rw first (0, omega arith, get-front x.types (subtypes_of xs) i h)
leads_by g x xs i again (inr h) =
    let j = i - length x.types in
    let n : i ≡ length x.types + j = omega arith in
    let m : i ≡ length (places_in g 0 (length x.types)) + j = omega (arith, length-places_in g 0 (length x.types)) in
    let behind : slice_get (places_in g 0 (length x.types) ++ places_of (suc g) xs) i ≡ slice_get (places_of (suc g) xs) j =
    ap (slice_get (places_in g 0 (length x.types) ++ places_of (suc g) xs)) m ∙ get-behind (places_in g 0 (length x.types)) (places_of (suc g) xs) j in
    let there = further g x xs j (slice_get (places_of (suc g) xs) j) (again j) in
    rw behind (subst (λ (k : ℕ). Leads g (x ∷ xs) k (slice_get (places_of (suc g) xs) j)) (sym n) there)

leads : (g : ℕ) (gs : List RecGroup) (i : ℕ) → Leads g gs i (slice_get (places_of g gs) i)
unfolding places_of subtypes_of
leads g [] i = refl
leads g (x ∷ xs) i = leads_by g x xs i (leads (suc g) xs) (cases_lt i (length x.types))

found_at : (gs : List RecGroup) (i : ℕ) (q : Place) → Leads 0 gs i (Some q) → slice_get (subtypes_of gs) i ≡ type_at gs q
found_at gs i q h = let e : h.0 ≡ q.group = omega (arith, h.1) in h.2 ∙ ap (λ (k : ℕ). in_group (slice_get gs k) q.position) e

-- the type of an index is that at its place
pub found : (gs : List RecGroup) (i : ℕ) (q : Place) → slice_get (places_of 0 gs) i ≡ Some q → type_at gs q ≡ slice_get (subtypes_of gs) i
found gs i q e = sym (found_at gs i q (subst (Leads 0 gs i) e (leads 0 gs i)))

-- an index without a place has no type
pub missing : (gs : List RecGroup) (i : ℕ) → slice_get (places_of 0 gs) i ≡ None → slice_get (subtypes_of gs) i ≡ None
missing gs i e = subst (Leads 0 gs i) e (leads 0 gs i)

-- places of a group, with one more
pub next_place : (g n i : ℕ) (ps all : List Place) → i < n → ps ++ places_in g i (n - i) ≡ all → (ps ++ record { group = g; position = i } ∷ []) ++ places_in g (i + 1) (n - (i + 1)) ≡ all
unfolding places_in
next_place g n i ps all lt h =
    let e : n - i ≡ suc (n - (i + 1)) = omega arith in
    let f : i + 1 ≡ suc i = omega arith in
    append_assoc ps (record { group = g; position = i } ∷ []) (places_in g (i + 1) (n - (i + 1))) ∙ (ap (λ (m : ℕ). ps ++ record { group = g; position = i } ∷ places_in g m (n - (i + 1))) f ∙ subst (λ (m : ℕ). ps ++ places_in g i m ≡ all) e h)

-- when all places of a group are there
pub all_places : (g n i : ℕ) (ps all : List Place) → n ≤ i → ps ++ places_in g i (n - i) ≡ all → ps ≡ all
unfolding places_in
all_places g n i ps all le h = let e : n - i ≡ 0 = omega arith in sym (append-nil ps) ∙ subst (λ (m : ℕ). ps ++ places_in g i m ≡ all) e h

-- the places of groups, with those of one group more
pub next_group : (gs its : List RecGroup) (i : ℕ) (x : RecGroup) (ps all : List Place) → its ≡ gs → x ≡ get_or its i x → i < length its → ps ++ places_of i (drop i gs) ≡ all
    → (ps ++ places_in i 0 (length x.types)) ++ places_of (i + 1) (drop (i + 1) gs) ≡ all
unfolding places_of
next_group gs its i x ps all same is lt h =
    let d : drop i gs ≡ x ∷ drop (i + 1) gs = drop_more gs i x (subst (λ (l : List RecGroup). i < length l) same lt) ∙ ap (λ (y : RecGroup). y ∷ drop (i + 1) gs) (sym (is ∙ ap (λ (l : List RecGroup). get_or l i x) same)) in
    let f : i + 1 ≡ suc i = omega arith in
    append_assoc ps (places_in i 0 (length x.types)) (places_of (i + 1) (drop (i + 1) gs))
    ∙ ap (λ (n : ℕ). ps ++ (places_in i 0 (length x.types) ++ places_of n (drop (i + 1) gs))) f
    ∙ sym (ap (λ (l : List RecGroup). ps ++ places_of i l) d) ∙ h

-- when all groups have their places
pub all_groups : (gs its : List RecGroup) (i : ℕ) (ps all : List Place) → its ≡ gs → length its ≤ i → ps ++ places_of i (drop i gs) ≡ all → ps ≡ all
unfolding places_of
all_groups gs its i ps all same le h = sym (append-nil ps) ∙ sym (ap (λ (l : List RecGroup). ps ++ places_of i l) (drop_all i gs (subst (λ (l : List RecGroup). length l ≤ i) same le))) ∙ h

-- there are as many places as composite types
pub as_many_types : (g : ℕ) (gs : List RecGroup) → length (places_of g gs) ≡ length (types_of gs)
as_many_types g gs = as_many_places g gs ∙ sym (length-map (subtypes_of gs) composite_of)
