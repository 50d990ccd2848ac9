-- Lines in bytes, by the places of their line feeds.
use Rattle.std.proofs.Common.{◌≡◌, ℕ, suc, ◌+◌, ◌-◌, ◌<◌, ◌≤◌, false, List, [], ◌∷◌, ◌++◌, length, take, drop, get_or, sym, ap, subst, ◌∙◌, append_assoc, arith, length-drop, get_or-drop, drop-cons, inl, inr}
use Rattle.std.specs.Prelude.{nat_eq, slice_range}
use Rattle.std.proofs.lemmas.List.{take_more, take-append-drop, drop-drop}
use Rattle.std.proofs.lemmas.Bool.Decides.{eqb_tells}
use Rattle.std.proofs.Math.Seq.{take-length}
use Rattle.w_words.specs.Pieces.{InLine}

in_line_end : (xs : List ℕ) (b : ℕ) → InLine xs → nat_eq b 10 ≡ false → InLine (xs ++ b ∷ [])
in_line_end [] b h e = (e, tt)
in_line_end (x ∷ xs) b h e = (h.0, in_line_end xs b h.1 e)

behind : (t : List ℕ) (a p : ℕ) → a ≤ p → p < length t → get_or (drop a t) (p - a) 0 ≡ get_or t p 0
behind t a p le lt =
    let s : a + (p - a) ≡ p = omega arith in
    get_or-drop a t (p - a) 0 ∙ ap (λ (k : ℕ). get_or t k 0) s

-- a byte more that is no line feed
pub in_line_more : (t : List ℕ) (a p : ℕ) → a ≤ p → p < length t → InLine (slice_range t a p) → nat_eq (get_or t p 0) 10 ≡ false → InLine (slice_range t a (p + 1))
in_line_more t a p le lt h e =
    let k : p + 1 - a ≡ p - a + 1 = omega arith in
    let in_u : p - a < length (drop a t) = omega (arith, length-drop a t) in
    let more : take (p + 1 - a) (drop a t) ≡ take (p - a) (drop a t) ++ get_or t p 0 ∷ [] =
    ap (λ (n : ℕ). take n (drop a t)) k ∙ take_more (drop a t) (p - a) 0 in_u ∙ ap (λ (b : ℕ). take (p - a) (drop a t) ++ b ∷ []) (behind t a p le lt) in
    subst InLine (sym more) (in_line_end (take (p - a) (drop a t)) (get_or t p 0) h e)

-- a line feed parts the bytes
pub parted_at : (t : List ℕ) (a p : ℕ) → a ≤ p → p < length t → get_or t p 0 ≡ 10 → drop a t ≡ (slice_range t a p ++ 10 ∷ []) ++ drop (p + 1) t
parted_at t a p le lt e =
    let in_u : p - a < length (drop a t) = omega (arith, length-drop a t) in
    let whole : take (p - a) (drop a t) ++ drop (p - a) (drop a t) ≡ drop a t = take-append-drop (p - a) (drop a t) in
    let s : a + suc (p - a) ≡ p + 1 = omega arith in
    let rest : drop (p - a) (drop a t) ≡ 10 ∷ drop (p + 1) t =
    drop-cons (drop a t) (p - a) 0 in_u
    ∙ ap (λ (b : ℕ). b ∷ drop (suc (p - a)) (drop a t)) (behind t a p le lt ∙ e)
    ∙ ap (λ (l : List ℕ). 10 ∷ l) (drop-drop (suc (p - a)) a t ∙ ap (λ (n : ℕ). drop n t) s) in
    sym whole ∙ ap (λ (l : List ℕ). take (p - a) (drop a t) ++ l) rest ∙ sym (append_assoc (take (p - a) (drop a t)) (10 ∷ []) (drop (p + 1) t))

-- all that follows
pub to_the_end : (t : List ℕ) (a p : ℕ) → a ≤ length t → length t ≤ p → p ≤ length t → InLine (slice_range t a p) → InLine (drop a t)
to_the_end t a p le ge up h =
    let s : p - a ≡ length (drop a t) = omega (arith, length-drop a t) in
    subst InLine (ap (λ (n : ℕ). take n (drop a t)) s ∙ take-length (drop a t)) h

pub other_byte : (b : ℕ) → (b ≡ 10 → ⊥) → nat_eq b 10 ≡ false
other_byte b n = elim (eqb_tells b 10) [ inl p ↦ absurd (n p.1) | inr p ↦ p.0 ]
