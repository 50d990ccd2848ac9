-- The first colon, byte by byte.
use Rattle.std.proofs.Common.{◌≡◌, ℕ, ◌+◌, ◌<◌, ◌≤◌, Bool, true, false, cond, [], ◌∷◌, ◌++◌, length, take, drop, get_or, Option, Some, None, refl, sym, ap, ◌∙◌, inl, inr, append_assoc, drop-cons, add-one}
use Rattle.std.specs.Prelude.{nat_eq, option_map}
use Rattle.std.proofs.Math.Seq.{take-suc}
use Rattle.std.proofs.lemmas.Bool.Decides.{Decides-eqb, eqb_tells}
use Rattle.std.proofs.lemmas.List.{drop_all, append-nil}
use Rattle.w_words.specs.Words.{Word}
use Rattle.w_words.specs.Clauses.{parted}

-- bytes in front of what stands before the colon
abbrev in_front : Word → Option (Word × Word) → Option (Word × Word)
in_front pre o = option_map (λ p. (pre ++ p.0, p.1)) o

-- there is no colon in the first i bytes
abbrev pub Sought : Word → ℕ → Type 0
Sought w i = parted w ≡ in_front (take i w) (parted (drop i w))

front_none : (o : Option (Word × Word)) → in_front [] o ≡ o
front_none None = refl
front_none (Some p) = refl

pub seek_begins : (w : Word) → Sought w 0
seek_begins w = sym (front_none (parted w))

cell : (w : Word) (i : ℕ) → i < length w → drop i w ≡ get_or w i 0 ∷ drop (i + 1) w
cell w i h = rw (add-one, drop-cons w i 0) refl

front : (w : Word) (i : ℕ) → i < length w → take (i + 1) w ≡ take i w ++ get_or w i 0 ∷ []
front w i h = rw (add-one) (take-suc w i 0 h)

front_one : (pre : Word) (b : ℕ) (o : Option (Word × Word)) → in_front pre (option_map (λ (p : Word × Word). (b ∷ p.0, p.1)) o) ≡ in_front (pre ++ b ∷ []) o
front_one pre b None = refl
front_one pre b (Some p) = ap (λ (v : Word). Some (v, p.1)) (sym (append_assoc pre (b ∷ []) p.0))

-- a byte that is none
pub seek_goes_on : (w : Word) (i : ℕ) → i < length w → (get_or w i 0 ≡ 58 → ⊥) → Sought w i → Sought w (i + 1)
seek_goes_on w i h n s =
    let rest = drop (i + 1) w in
    let t : nat_eq (get_or w i 0) 58 ≡ false = elim (eqb_tells (get_or w i 0) 58) [ inl p ↦ absurd (n p.1) | inr p ↦ p.0 ] in
    s ∙ ap (λ (l : Word). in_front (take i w) (parted l)) (cell w i h)
    ∙ ap (λ (v : Bool). in_front (take i w) (cond v (Some ([], rest)) (option_map (λ (p : Word × Word). (get_or w i 0 ∷ p.0, p.1)) (parted rest)))) t
    ∙ front_one (take i w) (get_or w i 0) (parted rest)
    ∙ ap (λ (l : Word). in_front l (parted rest)) (sym (front w i h))

-- the first one
pub colon_found : (w : Word) (i : ℕ) → i < length w → get_or w i 0 ≡ 58 → Sought w i → parted w ≡ Some (take i w, drop (i + 1) w)
colon_found w i h e s =
    let rest = drop (i + 1) w in
    let t : nat_eq (get_or w i 0) 58 ≡ true = (Decides-eqb (get_or w i 0) 58).1 e in
    s ∙ ap (λ (l : Word). in_front (take i w) (parted l)) (cell w i h)
    ∙ ap (λ (v : Bool). in_front (take i w) (cond v (Some ([], rest)) (option_map (λ (p : Word × Word). (get_or w i 0 ∷ p.0, p.1)) (parted rest)))) t
    ∙ ap (λ (l : Word). Some (l, rest)) (append-nil (take i w))

-- there is none
pub no_colon_left : (w : Word) (i : ℕ) → length w ≤ i → Sought w i → parted w ≡ None
no_colon_left w i h s = s ∙ ap (λ (l : Word). in_front (take i w) (parted l)) (drop_all i w h)
