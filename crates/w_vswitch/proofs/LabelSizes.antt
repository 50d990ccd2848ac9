-- How many types the labels of clauses take.
use Rattle.std.proofs.Common.{◌≡◌, ℕ, ◌+◌, ◌<◌, max, List, [], ◌∷◌, length, get_or, drop, Bool, true, false, cond, nat_lt, ltb-true, Less, Equal, Greater, Option, Some, None, slice_get, refl, ap, arith}
use Rattle.std.specs.Prelude.{◌≤◌, ◌==◌}
use Rattle.std.specs.Option.{option_cmp}
use Rattle.std.specs.Ordering.{ord_max, is_lt, nat_cmp}
use Rattle.std.proofs.lemmas.Map.Keys.{ge_from_not_lt}
use Rattle.std.proofs.lemmas.List.{drop_more, drop_all}
use Rattle.w_types.specs.declared.types.ValType.{ValType}
use Rattle.lists.specs.Rows.{Row, row_of, size}
use Rattle.lists.proofs.Rows.{size-row_of}
use Rattle.w_syntax.specs.declared.instructions.Clause.{Clause}
use Rattle.w_syntax.specs.declared.instructions.Clause.TheVariants as clause
use Rattle.w_rules.specs.Peak.{label_top, clause_tops}
use Rattle.w_vplain.specs.Row.{above}

-- of one clause, with its label
pub one_label : (labels : List (Row ValType)) (h e l : ℕ) (types : List ValType) → slice_get labels l ≡ Some (row_of types) →
    clause_tops labels h (clause.Label e l ∷ []) ≡ above 0 (Some (length types)) h
one_label labels h e l types there =
    let here : label_top h (slice_get labels l) ≡ h + size (row_of types) = ap (label_top h) there in
    omega (arith, here, size-row_of types)

-- one clause, and others behind it
more_tops : (labels : List (Row ValType)) (h : ℕ) (k : Clause) (ks : List Clause) → clause_tops labels h (k ∷ ks) ≡ max (clause_tops labels h (k ∷ [])) (clause_tops labels h ks)
more_tops labels h (clause.Label e l) ks = omega arith
more_tops labels h (clause.Switch e) ks = omega arith

-- the clause at a place, and those behind it
pub next_top : (labels : List (Row ValType)) (h : ℕ) (ks : List Clause) (i : ℕ) (d : Clause) (longest size all : ℕ) → i < length ks →
    all ≡ max longest (clause_tops labels h (drop i ks)) → clause_tops labels h (get_or ks i d ∷ []) ≡ size →
    all ≡ max (max longest size) (clause_tops labels h (drop (i + 1) ks))
next_top labels h ks i d longest size all lt e one =
    let here : clause_tops labels h (drop i ks) ≡ clause_tops labels h (get_or ks i d ∷ drop (i + 1) ks) = ap (clause_tops labels h) (drop_more ks i d lt) in
    omega (arith, here, more_tops labels h (get_or ks i d) (drop (i + 1) ks))

-- behind the last clause
pub no_more : (labels : List (Row ValType)) (h : ℕ) (ks : List Clause) (i : ℕ) (longest all : ℕ) → length ks ≤ i →
    all ≡ max longest (clause_tops labels h (drop i ks)) → all ≡ longest
no_more labels h ks i longest all le e =
    let here : clause_tops labels h (drop i ks) ≡ 0 = ap (clause_tops labels h) (drop_all i ks le) in
    omega arith

-- the greater one of two
of_two : (h m n : ℕ) (b : Bool) → (b ≡ true → n < m) → (b ≡ false → m ≤ n) →
    above 0 (cond b (Some m) (Some n)) h ≡ max (above 0 (Some m) h) (above 0 (Some n) h)
of_two h m n true f g = let lt : n < m = f refl in omega arith
of_two h m n false f g = let le : m ≤ n = g refl in omega arith

-- what the comparison of numbers tells
less_decided : (m n : ℕ) (b e : Bool) → (b ≡ true → m < n) → is_lt (cond b Less (cond e Equal Greater)) ≡ true → m < n
less_decided m n true e f h = f refl
less_decided m n false true f h = absurd (cc)
less_decided m n false false f h = absurd (cc)

-- the longer one of two labels, where there are such
pub longer : (h : ℕ) (o p : Option ℕ) → above 0 (ord_max (option_cmp nat_cmp) o p) h ≡ max (above 0 o h) (above 0 p h)
longer h None None = refl
longer h None (Some n) = omega arith
longer h (Some m) None = omega arith
longer h (Some m) (Some n) = of_two h m n (is_lt (nat_cmp n m)) (less_decided n m (nat_lt n m) (n == m) (ltb-true n m)) (ge_from_not_lt n m)
