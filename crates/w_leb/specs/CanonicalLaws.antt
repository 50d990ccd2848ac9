-- Writing by a format: one spelling of each value that has any, and how long it is.
use Rattle.std.proofs.Common.{◌≡◌, ℕ, ◌+◌, ◌*◌, ◌^◌, ◌≤◌, Bool, List, [], ◌∷◌, ◌++◌, length, refl, sym, ap, subst, ◌∙◌, arith}
use Rattle.std.specs.List.{flat_map}
use Rattle.std.proofs.lemmas.List.{length-append}
use Rattle.w_leb.specs.Format.{Format, Each, Counted}
use Rattle.w_leb.specs.Formats.{constant, any_byte, ◌⊗◌, ◌⇒◌, such_that, number, signed_number, vec, bytes, sized}
use Rattle.w_leb.specs.Number.{shortest, shortest_signed}
use Rattle.w_leb.specs.ShortestSignedLaws.{signed_spells, signed_is_short, within_bits as signed_within}
use Rattle.w_leb.specs.ShortestLaws.{shortest_spells, shortest_is_short, within_bits, twice, some_bytes}

-- What w writes for a value is a spelling of it, and at most twice as long as any, where one is within 2^30 bytes.
pub record IsCanonical {A : Type 0} (f : Format A) (w : A → List ℕ) : Type 0 where
  pub short : (b : List ℕ) (x : A) → f.Spells b x → length (w x) ≤ 2 * length b
  pub again : (b : List ℕ) (x : A) → f.Spells b x → length b ≤ 2 ^ 30 → f.Spells (w x) x

pub canon_constant : {A : Type 0} (v : A) → IsCanonical (constant v) (λ x. [])
canon_constant v = record { short = λ b x h. omega arith; again = λ b x h le. (refl, h.1) }

pub canon_number : (w : ℕ) → w ≤ 70 → IsCanonical (number w) shortest
canon_number w le = record {
  short = λ b n h. omega (arith, shortest_is_short 9 w n b h);
  again = λ b n h small. shortest_spells 9 w n (omega arith) (within_bits w n b h);
}

pub canon_signed : (w : ℕ) → w ≤ 70 → IsCanonical (signed_number w) shortest_signed
canon_signed w le = record {
  short = λ b z h. omega (arith, signed_is_short 9 w z b h);
  again = λ b z h small. signed_spells 9 w z (omega arith) (signed_within w z b h);
}

pub canon_pair : {A B : Type 0} (f : Format A) (g : Format B) (v : A → List ℕ) (w : B → List ℕ) → IsCanonical f v → IsCanonical g w → IsCanonical (f ⊗ g) (λ p. v p.0 ++ w p.1)
canon_pair f g v w p q = record {
  short = λ b x h. omega (arith, p.short h.0 x.0 h.3, q.short h.1 x.1 h.4, ap length h.2, length-append h.0 h.1, length-append (v x.0) (w x.1));
  again = λ b x h le.
      let len : length b ≡ length h.0 + length h.1 = ap length h.2 ∙ length-append h.0 h.1 in
      (v x.0, w x.1, refl, p.again h.0 x.0 h.3 (omega arith), q.again h.1 x.1 h.4 (omega arith));
}

pub canon_image : {A B : Type 0} (f : Format A) (v : A → List ℕ) (make : A → B) (w : B → List ℕ) → IsCanonical f v → ((x : A) → w (make x) ≡ v x) → IsCanonical (f ⇒ make) w
canon_image f v make w p e = record {
  short = λ b y h. subst (λ (z : _). length (w z) ≤ 2 * length b) h.2 (omega (arith, p.short b h.0 h.1, ap length (e h.0)));
  again = λ b y h le. (h.0, subst (λ (l : List ℕ). f.Spells l h.0) (sym (e h.0) ∙ ap w h.2) (p.again b h.0 h.1 le), h.2);
}

pub canon_such : {A : Type 0} (t : A → Bool) (f : Format A) (w : A → List ℕ) → IsCanonical f w → IsCanonical (such_that t f) w
canon_such t f w p = record {
  short = λ b x h. p.short b x h.0;
  again = λ b x h le. (p.again b x h.0 le, h.1);
}

-- ## Lists

pub each_short : {A : Type 0} (f : Format A) (w : A → List ℕ) → IsCanonical f w → (b : List ℕ) (xs : List A) → Each f.Spells b xs → length (flat_map w xs) ≤ 2 * length b
unfolding Each
each_short f w p b [] h = omega arith
each_short f w p b (x ∷ xs) h = omega (arith, p.short h.0 x h.3, each_short f w p h.1 xs h.4, ap length h.2, length-append h.0 h.1, length-append (w x) (flat_map w xs))

pub each_again : {A : Type 0} (f : Format A) (w : A → List ℕ) → IsCanonical f w → (b : List ℕ) (xs : List A) → Each f.Spells b xs → length b ≤ 2 ^ 30 → Each f.Spells (flat_map w xs) xs
unfolding Each
each_again f w p b [] h le = refl
each_again f w p b (x ∷ xs) h le =
    let len : length b ≡ length h.0 + length h.1 = ap length h.2 ∙ length-append h.0 h.1 in
    (w x, flat_map w xs, refl, p.again h.0 x h.3 (omega arith), each_again f w p h.1 xs h.4 (omega arith))

abbrev pub vec_written : {A : Type 0} → (A → List ℕ) → List A → List ℕ
vec_written w xs = shortest (length xs) ++ flat_map w xs

pub canon_vec : {A : Type 0} (f : Format A) (w : A → List ℕ) → IsCanonical f w → IsCanonical (vec f) (vec_written w)
unfolding Counted
canon_vec f w p = record {
  short = λ b xs h. omega (arith, shortest_is_short 9 32 (length xs) h.0 h.3, each_short f w p h.1 xs h.4, ap length h.2, length-append h.0 h.1, length-append (shortest (length xs)) (flat_map w xs));
  again = λ b xs h le.
      let len : length b ≡ length h.0 + length h.1 = ap length h.2 ∙ length-append h.0 h.1 in
      (shortest (length xs), flat_map w xs, refl, shortest_spells 9 32 (length xs) (omega arith) (within_bits 32 (length xs) h.0 h.3), each_again f w p h.1 xs h.4 (omega arith));
}

-- ## A size

abbrev pub sized_written : {A : Type 0} → (A → List ℕ) → A → List ℕ
sized_written w x = shortest (length (w x)) ++ w x

-- any bytes spell themselves
pub each_byte : (l : List ℕ) → Each any_byte.Spells l l
unfolding Each
each_byte [] = refl
each_byte (k ∷ l) = (k ∷ [], l, refl, refl, each_byte l)

same_bytes : (b l : List ℕ) → Each any_byte.Spells b l → b ≡ l
unfolding Each
same_bytes b [] h = h
same_bytes b (k ∷ l) h = h.2 ∙ ap (λ (t : List ℕ). t ++ h.1) h.3 ∙ ap (λ (t : List ℕ). k ∷ t) (same_bytes h.1 l h.4)

pub canon_sized : {A : Type 0} (f : Format A) (w : A → List ℕ) → IsCanonical f w → IsCanonical (sized f) (sized_written w)
unfolding Counted
canon_sized f w p = record {
  short = λ b x h.
      let e = h.0 in
      let c = h.1 in
      let inner = p.short e x h.2 in
      let n = shortest_is_short 9 32 (length e) c.0 c.3 in
      let m = twice 9 (length (w x)) (length e) (omega arith) in
      omega (arith, inner, n, m, some_bytes 32 (length e) c.0 c.3, ap length c.2, length-append c.0 c.1, ap length (same_bytes c.1 e c.4), length-append (shortest (length (w x))) (w x));
  again = λ b x h le.
      let e = h.0 in
      let c = h.1 in
      let inner = p.short e x h.2 in
      let len : length b ≡ length c.0 + length e = ap length c.2 ∙ length-append c.0 c.1 ∙ ap (λ (l : List ℕ). length c.0 + length l) (same_bytes c.1 e c.4) in
      (w x, (shortest (length (w x)), w x, refl, shortest_spells 9 32 (length (w x)) (omega arith) (omega arith), each_byte (w x)), p.again e x h.2 (omega arith));
}

-- bytes are written as they are
pub canon_bytes : IsCanonical bytes (λ b. shortest (length b) ++ b)
unfolding Counted
canon_bytes = record {
  short = λ b l h. omega (arith, shortest_is_short 9 32 (length l) h.0 h.3, ap length (same_bytes h.1 l h.4), ap length h.2, length-append h.0 h.1, length-append (shortest (length l)) l);
  again = λ b l h le. (shortest (length l), l, refl, shortest_spells 9 32 (length l) (omega arith) (within_bits 32 (length l) h.0 h.3), each_byte l);
}
