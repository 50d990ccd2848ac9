-- The numbers of groups after one more key got its number.
use Rattle.std.proofs.Common.{◌≡◌, ◌⊎◌, inl, inr, ℕ, Bool, true, false, cond, List, [], ◌∷◌, Option, Some, None, Vec, Global, refl, sym, ap, subst}
use Rattle.std.specs.declared.cmp.Ordering.{Ordering}
use Rattle.std.specs.declared.cmp.Ordering.TheVariants.{Less, Equal, Greater}
use Rattle.std.specs.Ordering.{is_eq}
use Rattle.std.specs.Cmp.Lexicographic.{slice_cmp}
use Rattle.std.specs.Map.{lookup}
use Rattle.std.specs.BTreeMap.{BTreeMap, insert_entry}
use Rattle.w_canon.specs.declared.key.Word.{Word}
use Rattle.w_canon.specs.Numbers.{word_cmp, number_of, Finds}
use Rattle.w_canon.proofs.Orders.{keys, key_itself}

abbrev Key : Type 0
Key = Vec Word Global

-- where the key of q stands beside another
abbrev beside : List Word → Key → Ordering
beside q k = slice_cmp word_cmp q k.items

abbrev at : List Word → List (Key × ℕ) → Option ℕ
at q es = lookup (λ (k : Key). is_eq (beside q k)) es

abbrev more : List (Key × ℕ) → Key → ℕ → List (Key × ℕ)
more es k n = insert_entry (λ (j : Key). beside j.items) es k n

-- ## A key that is there already

pub found_before : (m : BTreeMap Key ℕ) (key : List Word) (number first : ℕ) → number_of m key ≡ Some first → Finds m m key number first
found_before m key number first e = record { found = e; stays = λ q n h. h; added = λ q n h. inl h }

-- ## A key that comes

equal_keys : (q : List Word) (k : Key) (o : Ordering) → beside q k ≡ o → is_eq o ≡ true → q ≡ k.items
equal_keys q k Less e t = absurd (cc)
equal_keys q k Equal e t = keys q k.items e
equal_keys q k Greater e t = absurd (cc)

-- q has the number n now, given how q compares with the key k that stands in front
front_added : (q : List Word) (k : Key) (v n : ℕ) (old : Option ℕ) (o : Ordering) → beside q k ≡ o → cond (is_eq o) (Some v) old ≡ Some n → (old ≡ Some n) ⊎ ((q ≡ k.items) × (n ≡ v))
front_added q k v n old Less e h = inl h
front_added q k v n old Equal e h = inr (keys q k.items e, cc)
front_added q k v n old Greater e h = inl h

front_kept : (q : List Word) (k : Key) (v n : ℕ) (old : Option ℕ) (o : Ordering) → beside q k ≡ o → (q ≡ k.items → old ≡ None) → old ≡ Some n → cond (is_eq o) (Some v) old ≡ Some n
front_kept q k v n old Less e none h = h
front_kept q k v n old Equal e none h = let c = none (keys q k.items e) in absurd (cc)
front_kept q k v n old Greater e none h = h

-- an entry in front, with the same or less behind it
behind_kept : (b : Bool) (v n : ℕ) (old new : Option ℕ) → (old ≡ Some n → new ≡ Some n) → cond b (Some v) old ≡ Some n → cond b (Some v) new ≡ Some n
behind_kept true v n old new f h = h
behind_kept false v n old new f h = f h

behind_added : (P : Type 0) (b : Bool) (v n : ℕ) (old new : Option ℕ) → (new ≡ Some n → (old ≡ Some n) ⊎ P) → cond b (Some v) new ≡ Some n → (cond b (Some v) old ≡ Some n) ⊎ P
behind_added P true v n old new f h = inl h
behind_added P false v n old new f h = f h

-- what is absent of more entries is absent of fewer
absent_behind : (b : Bool) (v : ℕ) (old : Option ℕ) → cond b (Some v) old ≡ None → (b ≡ false) × (old ≡ None)
absent_behind true v old h = absurd (cc)
absent_behind false v old h = (refl, h)

record After (es new : List (Key × ℕ)) (k : Key) (v : ℕ) : Type 0 where
  pub found : at k.items new ≡ Some v
  pub stays : (q : List Word) (n : ℕ) → at q es ≡ Some n → at q new ≡ Some n
  pub added : (q : List Word) (n : ℕ) → at q new ≡ Some n → (at q es ≡ Some n) ⊎ ((q ≡ k.items) × (n ≡ v))

in_front : (es : List (Key × ℕ)) (k : Key) (v : ℕ) → at k.items es ≡ None → After es ((k, v) ∷ es) k v
in_front es k v none = record {
  found = let e = key_itself k.items in rw e refl;
  stays = λ q n h. front_kept q k v n (at q es) (beside q k) refl (λ e. subst (λ (x : List Word). at x es ≡ None) (sym e) none) h;
  added = λ q n h. front_added q k v n (at q es) (beside q k) refl h;
}

further : (e : Key × ℕ) (es new : List (Key × ℕ)) (k : Key) (v : ℕ) → is_eq (beside k.items e.0) ≡ false → After es new k v → After (e ∷ es) (e ∷ new) k v
further e es new k v apart h = record {
  found = rw apart h.found;
  stays = λ q n. behind_kept (is_eq (beside q e.0)) e.1 n (at q es) (at q new) (h.stays q n);
  added = λ q n. behind_added ((q ≡ k.items) × (n ≡ v)) (is_eq (beside q e.0)) e.1 n (at q es) (at q new) (h.added q n);
}

inserted_by : (e : Key × ℕ) (es : List (Key × ℕ)) (k : Key) (v : ℕ) (o : Ordering) → beside k.items e.0 ≡ o → at k.items (e ∷ es) ≡ None → After es (more es k v) k v → After (e ∷ es) (more (e ∷ es) k v) k v
inserted_by e es k v Less c none h = rw c (in_front (e ∷ es) k v none)
inserted_by e es k v Equal c none h = let d = subst (λ (o : Ordering). cond (is_eq o) (Some e.1) (at k.items es) ≡ None) c none in absurd (cc)
inserted_by e es k v Greater c none h = rw c (further e es (more es k v) k v (ap is_eq c) h)

inserted : (es : List (Key × ℕ)) (k : Key) (v : ℕ) → at k.items es ≡ None → After es (more es k v) k v
inserted [] k v none = in_front [] k v none
inserted (e ∷ es) k v none = inserted_by e es k v (beside k.items e.0) refl none (inserted es k v (absent_behind (is_eq (beside k.items e.0)) e.1 (at k.items es) none).1)

pub found_now : (m n : BTreeMap Key ℕ) (k : Key) (number : ℕ) → number_of m k.items ≡ None → n.entries ≡ more m.entries k number → Finds m n k.items number number
found_now m n k number none e =
    let h = subst (λ (es : List (Key × ℕ)). After m.entries es k number) (sym e) (inserted m.entries k number none) in
    record { found = h.found; stays = h.stays; added = h.added }
