-- The words of labels and of clauses of handlers are read as they are written.
use Rattle.std.proofs.Common.{◌≡◌, ℕ, ◌^◌, ◌<◌, ◌≤◌, Bool, true, false, cond, List, [], ◌∷◌, ◌++◌, map, Option, Some, None, refl, sym, ap, subst, ◌∙◌, arith, rules, decimal, inl, inr}
use Rattle.std.specs.Prelude.{nat_eq, option_map, codes}
use Rattle.std.proofs.lemmas.Bool.Decides.{Decides-eqb, eqb_tells}
use Rattle.w_syntax.specs.declared.instructions.Clause.{Clause}
use Rattle.w_syntax.specs.declared.instructions.Clause.TheVariants as clause
use Rattle.w_words.specs.Words.{Word, ◌>>=◌, IsClean, Each, behind, or_else, each_of}
use Rattle.w_words.specs.Numbers.{number_of, Index32}
use Rattle.w_words.specs.Clauses.{last_apart, labels_of, parted, clause_word, ClauseFits, label_in, label_of, switch_of, clause_of}
use Rattle.w_words.proofs.Readings.{IsSpelling, mapped, then_some, either, behind_sound, clean_behind, each_sound, each_complete, each_clean}
use Rattle.w_words.proofs.Numerals.{number_sound, number_complete, number_clean, EachDigit, decimal_digits, indices}

-- ## Labels

last_sound : (xs : List ℕ) (p : List ℕ × ℕ) → last_apart xs ≡ Some p → p.0 ++ p.1 ∷ [] ≡ xs
last_sound [] p e = absurd cc
last_sound (x ∷ []) p e = let s : ([], x) ≡ p = cc in subst (λ (q : List ℕ × ℕ). q.0 ++ q.1 ∷ [] ≡ x ∷ []) s refl
last_sound (x ∷ y ∷ xs) p e =
    let a = mapped (λ (q : List ℕ × ℕ). (x ∷ q.0, q.1)) (last_apart (y ∷ xs)) p e in
    subst (λ (q : List ℕ × ℕ). q.0 ++ q.1 ∷ [] ≡ x ∷ y ∷ xs) a.2 (ap (λ (l : List ℕ). x ∷ l) (last_sound (y ∷ xs) a.0 a.1))

last_complete : (xs : List ℕ) (l : ℕ) → last_apart (xs ++ l ∷ []) ≡ Some (xs, l)
last_complete [] l = refl
last_complete (x ∷ []) l = refl
last_complete (x ∷ y ∷ xs) l = ap (option_map (λ (q : List ℕ × ℕ). (x ∷ q.0, q.1))) (last_complete (y ∷ xs) l)

split_fits : (xs : List ℕ) (l : ℕ) → Each Index32 (xs ++ l ∷ []) → Each Index32 xs × Index32 l
split_fits [] l h = (tt, h.0)
split_fits (x ∷ xs) l h = let t = split_fits xs l h.1 in ((h.0, t.0), t.1)

joined_fits : (xs : List ℕ) (l : ℕ) → Each Index32 xs → Index32 l → Each Index32 (xs ++ l ∷ [])
joined_fits [] l h g = (g, tt)
joined_fits (x ∷ xs) l h g = (h.0, joined_fits xs l h.1 g)

pub labels_sound : (ws : List Word) (p : List ℕ × ℕ) → labels_of ws ≡ Some p → Each Index32 p.0 × Index32 p.1 × (map decimal (p.0 ++ p.1 ∷ []) ≡ ws)
labels_sound ws p e =
    let a = then_some (each_of (number_of 32) ws) last_apart p e in
    let s = last_sound a.0 p a.2 in
    let t = each_sound indices ws a.0 a.1 in
    let f = split_fits p.0 p.1 (subst (Each Index32) (sym s) t.0) in
    (f.0, f.1, ap (map decimal) s ∙ t.1)

pub labels_complete : (xs : List ℕ) (l : ℕ) → Each Index32 xs → Index32 l → labels_of (map decimal (xs ++ l ∷ [])) ≡ Some (xs, l)
labels_complete xs l f g = ap (λ (o : Option (List ℕ)). o >>= last_apart) (each_complete indices (xs ++ l ∷ []) (joined_fits xs l f g)) ∙ last_complete xs l

pub labels_clean : (xs : List ℕ) (l : ℕ) → Each Index32 xs → Index32 l → Each IsClean (map decimal (xs ++ l ∷ []))
labels_clean xs l f g = each_clean indices (xs ++ l ∷ []) (joined_fits xs l f g)

index_is_clean : (n : ℕ) → n < 2 ^ 32 → IsClean (decimal n)
index_is_clean n h = number_clean n (omega arith)

-- ## Clauses

parted_by : (v : Bool) (b : ℕ) (bs : Word) (p : Word × Word) → nat_eq b 58 ≡ v → ((q : Word × Word) → parted bs ≡ Some q → bs ≡ q.0 ++ 58 ∷ q.1) → cond v (Some ([], bs)) (option_map (λ (q : Word × Word). (b ∷ q.0, q.1)) (parted bs)) ≡ Some p → b ∷ bs ≡ p.0 ++ 58 ∷ p.1
parted_by true b bs p t h e =
    let is : b ≡ 58 = (Decides-eqb b 58).0 t in
    let s : ([], bs) ≡ p = cc in
    subst (λ (q : Word × Word). b ∷ bs ≡ q.0 ++ 58 ∷ q.1) s (ap (λ (k : ℕ). k ∷ bs) is)
parted_by false b bs p t h e =
    let a = mapped (λ (q : Word × Word). (b ∷ q.0, q.1)) (parted bs) p e in
    subst (λ (q : Word × Word). b ∷ bs ≡ q.0 ++ 58 ∷ q.1) a.2 (ap (λ (v : Word). b ∷ v) (h a.0 a.1))

parted_sound : (w : Word) (p : Word × Word) → parted w ≡ Some p → w ≡ p.0 ++ 58 ∷ p.1
parted_sound [] p e = absurd cc
parted_sound (b ∷ bs) p e = parted_by (nat_eq b 58) b bs p refl (parted_sound bs) e

abbrev NoColon : Word → Type 0
NoColon [] = Unit {0}
NoColon (b ∷ bs) = (nat_eq b 58 ≡ false) × NoColon bs

parted_complete : (v w : Word) → NoColon v → parted (v ++ 58 ∷ w) ≡ Some (v, w)
parted_complete [] w h = refl
parted_complete (b ∷ v) w h = rw (h.0) (ap (option_map (λ (q : Word × Word). (b ∷ q.0, q.1))) (parted_complete v w h.1))

no_colon : (ds : Word) → EachDigit ds → NoColon ds
no_colon [] h = tt
no_colon (d ∷ ds) h = (not_colon d h.0, no_colon ds h.1)
  where
    not_colon : (b : ℕ) → b ≤ 57 → nat_eq b 58 ≡ false
    not_colon b le = elim (eqb_tells b 58) [ inl p ↦ absurd (omega (arith, p.1)) | inr p ↦ p.0 ]

abbrev ClauseTold : Word → Clause → Type 0
ClauseTold w c = ClauseFits c × (clause_word c ≡ w)

label_sound : (v w : Word) (c : Clause) → label_in (v, w) ≡ Some c → ClauseFits c × (clause_word c ≡ codes "on:" ++ (v ++ 58 ∷ w))
label_sound v w c e =
    let a = then_some (number_of 32 v) (λ x. option_map (clause.Label x) (number_of 32 w)) c e in
    let b = mapped (clause.Label a.0) (number_of 32 w) c a.2 in
    let n = number_sound 32 (omega arith) v a.0 a.1 in
    let m = number_sound 32 (omega arith) w b.0 b.1 in
    subst (λ (d : Clause). ClauseFits d × (clause_word d ≡ codes "on:" ++ (v ++ 58 ∷ w))) b.2 ((n.0, m.0), rw (n.1, m.1) refl)

pub clause_sound : (w : Word) (c : Clause) → clause_of w ≡ Some c → ClauseFits c × (clause_word c ≡ w)
clause_sound w c e = elim (either (label_of w) (switch_of w) c e) [
  | inl p ↦
      let a = then_some (behind (codes "on:") w) (λ v. parted v >>= label_in) c p in
      let b = then_some (parted a.0) label_in c a.2 in
      let h = label_sound b.0.0 b.0.1 c b.2 in
      (h.0, h.1 ∙ ap (λ (v : Word). codes "on:" ++ v) (sym (parted_sound a.0 b.0 b.1)) ∙ sym (behind_sound (codes "on:") w a.0 a.1))
  | inr p ↦
      let a = then_some (behind (codes "switch:") w) (λ v. option_map clause.Switch (number_of 32 v)) c p in
      let b = mapped clause.Switch (number_of 32 a.0) c a.2 in
      let n = number_sound 32 (omega arith) a.0 b.0 b.1 in
      subst (ClauseTold w) b.2 (n.0, ap (λ (v : Word). codes "switch:" ++ v) n.1 ∙ sym (behind_sound (codes "switch:") w a.0 a.1))
]

on_read : (x l : ℕ) → x < 2 ^ 32 → l < 2 ^ 32 → (parted (decimal x ++ 58 ∷ decimal l) >>= label_in) ≡ Some (clause.Label x l)
on_read x l f g =
    rw (parted_complete (decimal x) (decimal l) (no_colon (decimal x) (decimal_digits x (omega arith)))) (rw (number_complete 32 (omega arith) x f) (ap (option_map (clause.Label x)) (number_complete 32 (omega arith) l g)))

pub clause_complete : (c : Clause) → ClauseFits c → clause_of (clause_word c) ≡ Some c
clause_complete (clause.Label x l) f = ap (λ (o : Option Clause). or_else o None) (on_read x l f.0 f.1)
clause_complete (clause.Switch x) f = ap (option_map clause.Switch) (number_complete 32 (omega arith) x f)

on_clean : IsClean (codes "on:")
on_clean = search rules

switch_clean : IsClean (codes "switch:")
switch_clean = search rules

colon_clean : (w : Word) → IsClean w → IsClean (58 ∷ w)
colon_clean w h = (colon, h)
  where
    colon : 32 < 58
    colon = omega arith

clause_clean : (c : Clause) → ClauseFits c → IsClean (clause_word c)
clause_clean (clause.Label x l) f = clean_behind (codes "on:") (decimal x ++ 58 ∷ decimal l) on_clean (clean_behind (decimal x) (58 ∷ decimal l) (index_is_clean x f.0) (colon_clean (decimal l) (index_is_clean l f.1)))
clause_clean (clause.Switch x) f = clean_behind (codes "switch:") (decimal x) switch_clean (index_is_clean x f)

pub clauses : IsSpelling clause_word clause_of ClauseFits
clauses = record { sound = clause_sound; complete = clause_complete; clean = clause_clean }

-- the last label is behind all others
pub last_behind : (labels xs : List ℕ) (l : ℕ) → labels ≡ xs ++ l ∷ [] → Some (xs, l) ≡ last_apart labels
last_behind labels xs l e = sym (ap last_apart e ∙ last_complete xs l)
