-- What the log of locals that were set says.
use Rattle.std.proofs.Common.{◌≡◌, ℕ, zero, suc, ◌≤◌, ◌==◌, Bool, true, false, ◌||◌, List, [], ◌∷◌, ◌++◌, map, length, reverse, take, slice_get, slice_set, Option, Some, None, if◌then◌else◌, refl, sym, ◌∙◌, ap, subst, ◌⊎◌, inl, inr, arith}
use Rattle.std.proofs.lemmas.Bool.Decides.{nat_tests}
use Rattle.std.specs.BTreeMap.{BTreeMap}
use Rattle.std.specs.BTreeMap as tree
use Rattle.std.specs.Cmp.{Equal-is}
use Rattle.std.specs.Ordering.{nat_cmp, is_eq}
use Rattle.std.proofs.lemmas.Map.Lookups.{exact_unsigned}
use Rattle.std.specs.Option.{option_map}
use Rattle.std.proofs.lemmas.List.{reverse-append}
use Rattle.w_rules.specs.Spaces.{marked}
use Rattle.w_locals.specs.Locals.{snapshots, set_in_first, outer_sets, Descends, is_logged, Places}

-- ## Flags

-- what is set stays so where it is set again
pub stays_set : (s : List Bool) (x : ℕ) → (slice_get s x ≡ Some false → ⊥) → slice_set s x true ≡ s
stays_set [] x h = refl
stays_set (true ∷ s) zero h = refl
stays_set (false ∷ s) zero h = absurd (h refl)
stays_set (b ∷ s) (suc x) h = ap (λ r. b ∷ r) (stays_set s x h)

-- a flag that is on where it was or where this is
abbrev pub with : Bool → Option Bool → Option Bool
with a o = option_map (λ (b : Bool). b || a) o

or_false : (b : Bool) → (b || false) ≡ b
or_false true = refl
or_false false = refl

or_or : (b p q : Bool) → ((b || p) || q) ≡ (b || (p || q))
or_or true p q = refl
or_or false p q = refl

with_none : (o : Option Bool) → with false o ≡ o
with_none None = refl
with_none (Some b) = ap Some (or_false b)

with_both : (p q : Bool) (o : Option Bool) → with q (with p o) ≡ with (p || q) o
with_both p q None = refl
with_both p q (Some b) = ap Some (or_or b p q)

-- one flag is put on
flag_set : (s : List Bool) (y x : ℕ) → slice_get (slice_set s y true) x ≡ with (y == x) (slice_get s x)
flag_set [] y x = refl
flag_set (true ∷ s) zero zero = refl
flag_set (false ∷ s) zero zero = refl
flag_set (b ∷ s) zero (suc x) = let other : (0 == suc x) ≡ false = grind (arith, nat_tests) in sym (with_none (slice_get s x)) ∙ ap (λ (c : Bool). with c (slice_get s x)) (sym other)
flag_set (b ∷ s) (suc y) zero = let other : (suc y == 0) ≡ false = grind (arith, nat_tests) in sym (with_none (Some b)) ∙ ap (λ (c : Bool). with c (Some b)) (sym other)
flag_set (b ∷ s) (suc y) (suc x) = let same : (y == x) ≡ (suc y == suc x) = grind (arith, nat_tests) in flag_set s y x ∙ ap (λ (c : Bool). with c (slice_get s x)) same

-- a local is set where it was at first, or where the log has it
pub flag_by_log : (s : List Bool) (log : List ℕ) (x : ℕ) → slice_get (marked s log) x ≡ with (is_logged log x) (slice_get s x)
flag_by_log s [] x = sym (with_none (slice_get s x))
flag_by_log s (y ∷ log) x = flag_by_log (slice_set s y true) log x ∙ ap (with (is_logged log x)) (flag_set s y x) ∙ with_both (y == x) (is_logged log x) (slice_get s x)

-- the local set last
set_last : (s : List Bool) (log : List ℕ) (x : ℕ) → marked s (log ++ x ∷ []) ≡ slice_set (marked s log) x true
set_last s [] x = refl
set_last s (y ∷ log) x = set_last (slice_set s y true) log x

-- ## Marks

-- a part of the log stays where it grows
take_front : (log : List ℕ) (x m : ℕ) → m ≤ length log → take m (log ++ x ∷ []) ≡ take m log
take_front log x zero h = refl
take_front [] x (suc m) h = absurd (omega (arith, h))
take_front (y ∷ log) x (suc m) h = ap (λ (l : List ℕ). y ∷ l) (take_front log x m (omega (arith, h)))

-- or where it is cut further back
take_less : (log : List ℕ) (n m : ℕ) → m ≤ n → take m (take n log) ≡ take m log
take_less log n zero h = refl
take_less log zero (suc m) h = absurd (omega (arith, h))
take_less [] (suc n) (suc m) h = refl
take_less (y ∷ log) (suc n) (suc m) h = ap (λ (l : List ℕ). y ∷ l) (take_less log n m (omega (arith, h)))

-- marks see only what stands before them
map_same : (f g : ℕ → List Bool) (n : ℕ) (ms : List ℕ) → Descends n ms → ((m : ℕ) → m ≤ n → f m ≡ g m) → map f ms ≡ map g ms
map_same f g n [] d e = refl
map_same f g n (m ∷ ms) d e =
    ap (λ r. r ∷ map f ms) (e m d.0) ∙ ap (λ rs. g m ∷ rs) (map_same f g m ms d.1 (λ k h. e k (omega (arith, d.0))))

-- marks below one length are below a longer one
pub descends_more : (n k : ℕ) (ms : List ℕ) → Descends n ms → n ≤ k → Descends k ms
descends_more n k [] d h = tt
descends_more n k (m ∷ ms) d h = (omega (arith, d.0), d.1)

-- after a local was set
set_one : (s : List Bool) (log log₁ : List ℕ) (x : ℕ) (ms : List ℕ) → Descends (length log) ms → log₁ ≡ log ++ x ∷ [] → snapshots s log₁ ms ≡ set_in_first x (snapshots s log ms)
set_one s log log₁ x ms d e =
    ap (λ (l : List ℕ). snapshots s l ms) e ∙ ap (λ (t : List Bool). t ∷ map (λ (m : ℕ). marked s (take m (log ++ x ∷ []))) ms) (set_last s log x)
    ∙ ap (λ (ts : List (List Bool)). slice_set (marked s log) x true ∷ ts) (map_same _ _ (length log) ms d (λ m h. ap (marked s) (take_front log x m h)))

-- the same of the whole data, also where the body has been left
pub set_now : (gone : Bool) (s : List Bool) (log log₁ : List ℕ) (x : ℕ) (ms : List ℕ) (n : List (List Bool)) → (if gone then [] else snapshots s log ms) ≡ n
    → Descends (length log) ms → log₁ ≡ log ++ x ∷ [] → (if gone then [] else snapshots s log₁ ms) ≡ set_in_first x n
set_now true s log log₁ x ms n v d e = ap (set_in_first x) v
set_now false s log log₁ x ms n v d e = set_one s log log₁ x ms d e ∙ ap (set_in_first x) v

-- the code has the innermost mark last
back_marks : (marks marks₁ : List ℕ) (mark : ℕ) → marks ≡ marks₁ ++ mark ∷ [] → reverse marks ≡ mark ∷ reverse marks₁
back_marks marks marks₁ mark e = ap reverse e ∙ reverse-append marks₁ (mark ∷ [])

-- the marks around a block, where it is left
marks_left : (n : ℕ) (marks marks₁ : List ℕ) (mark : ℕ) → Descends n (reverse marks) → marks ≡ marks₁ ++ mark ∷ [] → (mark ≤ n) × Descends mark (reverse marks₁)
marks_left n marks marks₁ mark d e = subst (Descends n) (back_marks marks marks₁ mark e) d

-- after a block
left : (s : List Bool) (log log₁ marks marks₁ : List ℕ) (mark : ℕ) → Descends (length log) (reverse marks) → marks ≡ marks₁ ++ mark ∷ [] → log₁ ≡ take mark log
    → snapshots s log₁ (reverse marks₁) ≡ outer_sets (snapshots s log (reverse marks))
left s log log₁ marks marks₁ mark d e f =
    let rest = marks_left (length log) marks marks₁ mark d e in
    ap (λ (l : List ℕ). snapshots s l (reverse marks₁)) f
    ∙ ap (λ (ts : List (List Bool)). marked s (take mark log) ∷ ts) (map_same _ _ mark (reverse marks₁) rest.1 (λ m h. ap (marked s) (take_less log mark m h)))
    ∙ ap (map (λ (m : ℕ). marked s (take m log))) (sym (back_marks marks marks₁ mark e))

-- the same of the whole data
pub left_now : (gone : Bool) (s : List Bool) (log log₁ marks marks₁ : List ℕ) (mark : ℕ) (n : List (List Bool)) → (if gone then [] else snapshots s log (reverse marks)) ≡ n
    → Descends (length log) (reverse marks) → marks ≡ marks₁ ++ mark ∷ [] → log₁ ≡ take mark log → (if gone then [] else snapshots s log₁ (reverse marks₁)) ≡ outer_sets n
left_now true s log log₁ marks marks₁ mark n v d e f = ap outer_sets v
left_now false s log log₁ marks marks₁ mark n v d e f = left s log log₁ marks marks₁ mark d e f ∙ ap outer_sets v

take_length : (log : List ℕ) (m : ℕ) → m ≤ length log → length (take m log) ≡ m
take_length log zero h = refl
take_length [] (suc m) h = absurd (omega (arith, h))
take_length (y ∷ log) (suc m) h = ap suc (take_length log m (omega (arith, h)))

-- the marks that are left fit the shorter log
pub left_descends : (log log₁ marks marks₁ : List ℕ) (mark : ℕ) → Descends (length log) (reverse marks) → marks ≡ marks₁ ++ mark ∷ [] → log₁ ≡ take mark log
    → Descends (length log₁) (reverse marks₁)
left_descends log log₁ marks marks₁ mark d e f =
    let rest = marks_left (length log) marks marks₁ mark d e in
    subst (λ (n : ℕ). Descends n (reverse marks₁)) (sym (take_length log mark rest.0) ∙ ap length (sym f)) rest.1

-- ## Places

or_true : (p q : Bool) → q ≡ true → (p || q) ≡ true
or_true true q e = refl
or_true false q e = e

-- an entry of the log is in it
logged_at : (log : List ℕ) (i x : ℕ) → slice_get log i ≡ Some x → is_logged log x ≡ true
logged_at [] i x e = cc
logged_at (y ∷ log) zero x e = let same : y ≡ x = cc in let t : (y == x) ≡ true = grind (arith, nat_tests, same) in ap (λ (b : Bool). b || is_logged log x) t
logged_at (y ∷ log) (suc i) x e = or_true (y == x) (is_logged log x) (logged_at log i x e)

or_cases : (p q : Bool) → (p || q) ≡ true → (p ≡ true) ⊎ (q ≡ true)
or_cases true q e = inl refl
or_cases false q e = inr e

-- the local stands somewhere in the log
abbrev Entered : List ℕ → ℕ → Type 0
Entered log x = (i : ℕ) × (slice_get log i ≡ Some x)

-- what the log has is an entry of it
logged_where : (log : List ℕ) (x : ℕ) → is_logged log x ≡ true → Entered log x
logged_where [] x e = absurd (cc)
logged_where (y ∷ log) x e = either (or_cases (y == x) (is_logged log x) e) (logged_where log x)
  where
    either : ((y == x) ≡ true) ⊎ (is_logged log x ≡ true) → (is_logged log x ≡ true → Entered log x) → Entered (y ∷ log) x
    either (inl t) more = let same : y ≡ x = grind (arith, nat_tests, t) in (0, ap Some same)
    either (inr t) more = let w = more t in (suc w.0, w.1)

not_true : (b : Bool) → (b ≡ true → ⊥) → b ≡ false
not_true true h = absurd (h refl)
not_true false h = refl

-- what has no place in the log is not in it
pub not_placed : (m : BTreeMap ℕ ℕ) (log : List ℕ) (x : ℕ) → Places m log → tree.get nat_cmp m x ≡ None → is_logged log x ≡ false
not_placed m log x p e = not_true (is_logged log x) (λ t. let w = logged_where log x t in let q = p w.0 x w.1 in cc)

-- and what has another local at its place
placed_otherwise : (m : BTreeMap ℕ ℕ) (log : List ℕ) (x i : ℕ) → Places m log → tree.get nat_cmp m x ≡ Some i → (slice_get log i ≡ Some x → ⊥) → is_logged log x ≡ false
placed_otherwise m log x i p e other = not_true (is_logged log x) (λ t.
    (let w = logged_where log x t in
    let q : Some w.0 ≡ Some i = sym (p w.0 x w.1) ∙ e in
    let same : w.0 ≡ i = cc in
    other (subst (λ (j : ℕ). slice_get log j ≡ Some x) same w.1)))

-- what stands at the place of a local tells whether the log has it
pub logged_by_place : (m : BTreeMap ℕ ℕ) (log : List ℕ) (x i y : ℕ) → Places m log → tree.get nat_cmp m x ≡ Some i → slice_get log i ≡ Some y → (y == x) ≡ is_logged log x
logged_by_place m log x i y p e f = by (y == x) refl
  where
    by : (b : Bool) → b ≡ (y == x) → b ≡ is_logged log x
    by true t = let same : y ≡ x = grind (arith, nat_tests, t) in sym (logged_at log i x (f ∙ ap Some same))
    by false t = sym (placed_otherwise m log x i p e (λ g.
        (let same : y ≡ x = cc in let on : (y == x) ≡ true = grind (arith, nat_tests, same) in absurd (cc))))

-- and so does the want of anything there
pub none_at : (m : BTreeMap ℕ ℕ) (log : List ℕ) (x i : ℕ) → Places m log → tree.get nat_cmp m x ≡ Some i → slice_get log i ≡ None → false ≡ is_logged log x
none_at m log x i p e f = sym (placed_otherwise m log x i p e (λ g. absurd (cc)))

-- the order of numbers tells them apart
differs : (x y : ℕ) → (x ≡ y → ⊥) → is_eq (nat_cmp x y) ≡ false
differs x y h = not_true (is_eq (nat_cmp x y)) (λ t. h (exact_unsigned x y ((Equal-is (nat_cmp x y)).0 t)))

-- the local that is set has its place at the end of the log
pub placed : (m n : BTreeMap ℕ ℕ) (log : List ℕ) (k x : ℕ) → Places m log → is_logged log x ≡ false → k ≡ length log → tree.Updates nat_cmp m n x (Some k) → Places n log
placed m n log k x p off at u i y e =
    u.2 y (differs x y (λ same. (let t = logged_at log i x (e ∙ ap Some (sym same)) in cc))) ∙ p i y e

-- an entry of the longer log is an old one or the new one
at_end : (log : List ℕ) (x i y : ℕ) → slice_get (log ++ x ∷ []) i ≡ Some y → (slice_get log i ≡ Some y) ⊎ ((i ≡ length log) × (x ≡ y))
at_end [] x zero y e = inr (refl, cc)
at_end [] x (suc i) y e = absurd (cc)
at_end (z ∷ log) x zero y e = inl e
at_end (z ∷ log) x (suc i) y e = one (at_end log x i y e)
  where
    one : (slice_get log i ≡ Some y) ⊎ ((i ≡ length log) × (x ≡ y)) → (slice_get log i ≡ Some y) ⊎ ((suc i ≡ suc (length log)) × (x ≡ y))
    one (inl h) = inl h
    one (inr h) = inr (ap suc h.0, h.1)

-- and then it stands in the log
pub placed_last : (m n : BTreeMap ℕ ℕ) (log log₁ : List ℕ) (k x : ℕ) → Places n log → k ≡ length log → tree.Updates nat_cmp m n x (Some k) → log₁ ≡ log ++ x ∷ [] → Places n log₁
placed_last m n log log₁ k x p at u f i y g = either (at_end log x i y (ap (λ (l : List ℕ). slice_get l i) (sym f) ∙ g))
  where
    either : (slice_get log i ≡ Some y) ⊎ ((i ≡ length log) × (x ≡ y)) → tree.get nat_cmp n y ≡ Some i
    either (inl h) = p i y h
    either (inr h) = ap (tree.get nat_cmp n) (sym h.1) ∙ u.1 ∙ ap Some (at ∙ sym h.0)

-- an entry of a part is one of the log
get_front : (log : List ℕ) (m i x : ℕ) → slice_get (take m log) i ≡ Some x → slice_get log i ≡ Some x
get_front log zero i x e = absurd (cc)
get_front [] (suc m) i x e = absurd (cc)
get_front (y ∷ log) (suc m) zero x e = e
get_front (y ∷ log) (suc m) (suc i) x e = get_front log m i x e

-- a shorter log keeps its places
pub left_places : (n : BTreeMap ℕ ℕ) (log log₁ : List ℕ) (m : ℕ) → Places n log → log₁ ≡ take m log → Places n log₁
left_places n log log₁ m p e i x g = p i x (get_front log m i x (ap (λ (l : List ℕ). slice_get l i) (sym e) ∙ g))
