-- Lists of what stands above types, as they grow.
use Rattle.std.proofs.Common.{◌≡◌, ◌+◌, ◌<◌, ◌≤◌, ℕ, suc, List, [], ◌∷◌, ◌++◌, length, drop, take, get_or, Option, sym, ap, subst, ◌∙◌, append_assoc, append-nil, arith}
use Rattle.std.proofs.lemmas.List.{drop_more, drop_all, take_more, take_all, length-append, length-drop, take-append-drop}
use Rattle.w_types.specs.declared.types.SubType.{SubType}
use Rattle.w_types.specs.declared.types.RecGroup.{RecGroup}
use Rattle.w_types.specs.Groups.{subtypes_of}
use Rattle.w_canon.specs.Classed.{count}
use Rattle.w_canon.specs.declared.entry.Entry.{Entry}
use Rattle.w_canon.specs.Parents.{parent_by, parents_from}
use Rattle.w_canon.proofs.Places.{subtypes_of-append, subtypes_of-cons, subtypes_of-nil, count-append}
use Rattle.w_canon.proofs.SpansOfTypes.{length-parents_from}

-- ## The types of one group

-- with one more
pub next_parent : (es : List Entry) (ts its : List SubType) (i : ℕ) (t : SubType) (ps all : List (Option ℕ)) (o : Option ℕ) → its ≡ ts → t ≡ get_or its i t → i < length its
    → o ≡ parent_by es (length ps) t.supertypes → ps ++ parents_from es (length ps) (drop i ts) ≡ all
    → (ps ++ o ∷ []) ++ parents_from es (length (ps ++ o ∷ [])) (drop (i + 1) ts) ≡ all
next_parent es ts its i t ps all o same is lt found h =
    let d : drop i ts ≡ t ∷ drop (i + 1) ts = drop_more ts i t (subst (λ (l : List SubType). i < length l) same lt) ∙ ap (λ (y : SubType). y ∷ drop (i + 1) ts) (sym (is ∙ ap (λ (l : List SubType). get_or l i t) same)) in
    let f : length (ps ++ o ∷ []) ≡ suc (length ps) = omega (arith, length-append ps (o ∷ [])) in
    append_assoc ps (o ∷ []) (parents_from es (length (ps ++ o ∷ [])) (drop (i + 1) ts))
    ∙ ap (λ (n : ℕ). ps ++ o ∷ parents_from es n (drop (i + 1) ts)) f
    ∙ ap (λ (q : Option ℕ). ps ++ q ∷ parents_from es (suc (length ps)) (drop (i + 1) ts)) found
    ∙ sym (ap (λ (l : List SubType). ps ++ parents_from es (length ps) l) d) ∙ h

-- there is room for one more
pub next_within : (ts its : List SubType) (i n m : ℕ) → its ≡ ts → i < length its → n + length (drop i ts) ≤ m → n < m
next_within ts its i n m same lt h = omega (arith, length-drop i ts, ap length same)

pub fewer_within : (ts its : List SubType) (i n k m : ℕ) → its ≡ ts → i < length its → k ≡ n + 1 → n + length (drop i ts) ≤ m → k + length (drop (i + 1) ts) ≤ m
fewer_within ts its i n k m same lt e h = omega (arith, length-drop i ts, length-drop (i + 1) ts, ap length same)

-- when all are there
pub all_parents : (es : List Entry) (ts its : List SubType) (i : ℕ) (ps all : List (Option ℕ)) → its ≡ ts → length its ≤ i → ps ++ parents_from es (length ps) (drop i ts) ≡ all → ps ≡ all
all_parents es ts its i ps all same le h =
    sym (append-nil ps) ∙ sym (ap (λ (l : List SubType). ps ++ parents_from es (length ps) l) (drop_all i ts (subst (λ (l : List SubType). length l ≤ i) same le))) ∙ h

-- ## The types of groups

parents_from-append : (es : List Entry) (x : ℕ) (ts us : List SubType) → parents_from es x (ts ++ us) ≡ parents_from es x ts ++ parents_from es (x + length ts) us
parents_from-append es x [] us = let e : x ≡ x + 0 = omega arith in ap (λ (n : ℕ). parents_from es n us) e
parents_from-append es x (t ∷ ts) us =
    let e : suc x + length ts ≡ x + suc (length ts) = omega arith in
    ap (λ (l : List (Option ℕ)). parent_by es x t.supertypes ∷ l) (parents_from-append es (suc x) ts us ∙ ap (λ (n : ℕ). parents_from es (suc x) ts ++ parents_from es n us) e)

-- with one group more
pub next_group : (es : List Entry) (gs : List RecGroup) (i : ℕ) (g : RecGroup) (ps new : List (Option ℕ)) → i < length gs → g ≡ get_or gs i g
    → ps ≡ parents_from es 0 (subtypes_of (take i gs)) → new ≡ ps ++ parents_from es (length ps) g.types → new ≡ parents_from es 0 (subtypes_of (take (i + 1) gs))
next_group es gs i g ps new lt is h e =
    let ts = subtypes_of (take i gs) in
    let n : length ps ≡ 0 + length ts = omega (arith, ap length h, length-parents_from es 0 ts) in
    let more : subtypes_of (take (i + 1) gs) ≡ ts ++ g.types =
    ap subtypes_of (take_more gs i g lt ∙ ap (λ (x : RecGroup). take i gs ++ x ∷ []) (sym is)) ∙ subtypes_of-append (take i gs) (g ∷ [])
    ∙ ap (λ (l : List SubType). ts ++ l) (subtypes_of-cons g [] ∙ ap (λ (l : List SubType). g.types ++ l) subtypes_of-nil ∙ append-nil g.types) in
    e ∙ ap (λ (l : List (Option ℕ)). l ++ parents_from es (length ps) g.types) h ∙ ap (λ (k : ℕ). parents_from es 0 ts ++ parents_from es k g.types) n
    ∙ sym (parents_from-append es 0 ts g.types) ∙ ap (parents_from es 0) (sym more)

-- a group has no more types than are left
pub group_within : (es : List Entry) (gs : List RecGroup) (i m : ℕ) (g : RecGroup) (ps : List (Option ℕ)) → i < length gs → g ≡ get_or gs i g
    → ps ≡ parents_from es 0 (subtypes_of (take i gs)) → m ≡ count gs → length ps + length g.types ≤ m
group_within es gs i m g ps lt is h e =
    let n : length ps ≡ count (take i gs) = ap length h ∙ length-parents_from es 0 (subtypes_of (take i gs)) in
    let split : count gs ≡ count (take i gs) + count (drop i gs) = ap count (sym (take-append-drop i gs)) ∙ count-append (take i gs) (drop i gs) in
    let d : drop i gs ≡ g ∷ drop (i + 1) gs = drop_more gs i g lt ∙ ap (λ (y : RecGroup). y ∷ drop (i + 1) gs) (sym is) in
    let c : count (drop i gs) ≡ length g.types + count (drop (i + 1) gs) = ap count d ∙ ap length (subtypes_of-cons g (drop (i + 1) gs)) ∙ length-append g.types (subtypes_of (drop (i + 1) gs)) in
    omega (arith, n, split, c, e)

-- when all groups are
pub all_groups : (es : List Entry) (gs : List RecGroup) (i : ℕ) (ps : List (Option ℕ)) → length gs ≤ i → ps ≡ parents_from es 0 (subtypes_of (take i gs)) → ps ≡ parents_from es 0 (subtypes_of gs)
all_groups es gs i ps le h = h ∙ ap (λ (l : List RecGroup). parents_from es 0 (subtypes_of l)) (take_all i gs le)
