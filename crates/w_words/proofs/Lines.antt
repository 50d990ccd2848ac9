-- A line has the words that it was made of.
use Rattle.std.proofs.Common.{◌≡◌, ℕ, ◌<◌, Bool, true, false, cond, ◌+◌, ◌≤◌, List, [], ◌∷◌, ◌++◌, length, take, drop, get_or, refl, sym, ap, ◌∙◌, arith, inl, inr, append_assoc, drop-cons, add-one}
use Rattle.std.proofs.Math.Seq.{take-suc}
use Rattle.std.proofs.lemmas.List.{take_all, drop_all, append-nil}
use Rattle.std.specs.List.{flat_map, onto_first}
use Rattle.std.proofs.lemmas.Bool.Decides.{Decides-eqb, eqb_tells}
use Rattle.w_words.specs.Words.{Word, is_space, spaced, words_of, IsClean, Each}

-- there is at least one word
pub some_word : (bs : List ℕ) → words_of bs ≡ [] → ⊥
some_word [] e = absurd cc
some_word (b ∷ bs) e = cases (is_space b) (words_of bs) e
  where
    cases : (v : Bool) (ws : List Word) → cond v ([] ∷ ws) (onto_first b ws) ≡ [] → ⊥
    cases true ws e = cc
    cases false [] e = cc
    cases false (w ∷ ws) e = cc

-- a line is the words that it is cut into, parted by spaces
pub words_spaced : (bs : List ℕ) → spaced (words_of bs) ≡ bs
words_spaced [] = refl
words_spaced (b ∷ bs) = cases (is_space b) (words_of bs) refl (some_word bs) (words_spaced bs)
  where
    cases : (v : Bool) (ws : List Word) → is_space b ≡ v → (ws ≡ [] → ⊥) → spaced ws ≡ bs → spaced (cond v ([] ∷ ws) (onto_first b ws)) ≡ b ∷ bs
    cases v [] t n h = absurd (n refl)
    cases true (w ∷ ws) t n h = let s : b ≡ 32 = (Decides-eqb b 32).0 t in ap (λ (k : ℕ). k ∷ w ++ flat_map (λ (u : Word). 32 ∷ u) ws) (sym s) ∙ ap (λ (l : List ℕ). b ∷ l) h
    cases false (w ∷ ws) t n h = ap (λ (l : List ℕ). b ∷ l) h

not_space : (b : ℕ) → 32 < b → is_space b ≡ false
not_space b h = elim (eqb_tells b 32) [ inl p ↦ absurd (omega (arith, p.1)) | inr p ↦ p.0 ]

-- words that have no separator are those of the line that they make
pub words_apart : (w : Word) (ws : List Word) → Each IsClean (w ∷ ws) → words_of (spaced (w ∷ ws)) ≡ w ∷ ws
words_apart [] [] h = refl
words_apart [] (v ∷ ws) h = ap (λ (vs : List Word). [] ∷ vs) (words_apart v ws h.1)
words_apart (b ∷ w) ws h = rw (not_space b h.0.0) (ap (onto_first b) (words_apart w ws (h.0.1, h.1)))

-- ## The first word, byte by byte

-- bytes in front of the first word
abbrev pub onto : List ℕ → List Word → List Word
onto pre [] = pre ∷ []
onto pre (w ∷ ws) = (pre ++ w) ∷ ws

-- the first i bytes have no space
abbrev pub Begun : List ℕ → ℕ → Type 0
Begun line i = words_of line ≡ onto (take i line) (words_of (drop i line))

onto_none : (ws : List Word) → (ws ≡ [] → ⊥) → onto [] ws ≡ ws
onto_none [] n = absurd (n refl)
onto_none (w ∷ ws) n = refl

pub word_begins : (line : List ℕ) → Begun line 0
word_begins line = sym (onto_none (words_of line) (some_word line))

cell : (line : List ℕ) (i : ℕ) → i < length line → drop i line ≡ get_or line i 0 ∷ drop (i + 1) line
cell line i h = rw (add-one, drop-cons line i 0) refl

words_cons : (b : ℕ) (bs : List ℕ) → words_of (b ∷ bs) ≡ cond (is_space b) ([] ∷ words_of bs) (onto_first b (words_of bs))
words_cons b bs = refl

onto_one : (pre : List ℕ) (b : ℕ) (ws : List Word) → onto pre (onto_first b ws) ≡ onto (pre ++ b ∷ []) ws
onto_one pre b [] = refl
onto_one pre b (w ∷ ws) = ap (λ (v : Word). v ∷ ws) (sym (append_assoc pre (b ∷ []) w))

front : (line : List ℕ) (i : ℕ) → i < length line → take (i + 1) line ≡ take i line ++ get_or line i 0 ∷ []
front line i h = rw (add-one) (take-suc line i 0 h)

-- a byte that is no space
pub word_goes_on : (line : List ℕ) (i : ℕ) → i < length line → (get_or line i 0 ≡ 32 → ⊥) → Begun line i → Begun line (i + 1)
word_goes_on line i h n b =
    let t : is_space (get_or line i 0) ≡ false = elim (eqb_tells (get_or line i 0) 32) [ inl p ↦ absurd (n p.1) | inr p ↦ p.0 ] in
    b ∙ ap (λ (l : List ℕ). onto (take i line) (words_of l)) (cell line i h)
    ∙ ap (λ (v : Bool). onto (take i line) (cond v ([] ∷ words_of (drop (i + 1) line)) (onto_first (get_or line i 0) (words_of (drop (i + 1) line))))) t
    ∙ onto_one (take i line) (get_or line i 0) (words_of (drop (i + 1) line))
    ∙ ap (λ (l : List ℕ). onto l (words_of (drop (i + 1) line))) (sym (front line i h))

-- a space
pub word_ends : (line : List ℕ) (i : ℕ) → i < length line → get_or line i 0 ≡ 32 → Begun line i → words_of line ≡ take i line ∷ words_of (drop (i + 1) line)
word_ends line i h e b =
    let t : is_space (get_or line i 0) ≡ true = (Decides-eqb (get_or line i 0) 32).1 e in
    b ∙ ap (λ (l : List ℕ). onto (take i line) (words_of l)) (cell line i h)
    ∙ ap (λ (v : Bool). onto (take i line) (cond v ([] ∷ words_of (drop (i + 1) line)) (onto_first (get_or line i 0) (words_of (drop (i + 1) line))))) t
    ∙ ap (λ (l : List ℕ). l ∷ words_of (drop (i + 1) line)) (append-nil (take i line))

-- the end of the line
pub line_ends : (line : List ℕ) (i : ℕ) → length line ≤ i → Begun line i → words_of line ≡ line ∷ []
line_ends line i h b = b ∙ ap (λ (l : List ℕ). onto (take i line) (words_of l)) (drop_all i line h) ∙ ap (λ (l : List ℕ). l ∷ []) (append-nil (take i line) ∙ take_all i line h)
