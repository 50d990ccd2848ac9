-- Rows of words, one word more at a time.
use Rattle.std.proofs.Common.{◌≡◌, inl, ℕ, zero, suc, ◌+◌, ◌<◌, ◌≤◌, List, [], ◌∷◌, ◌++◌, length, take, drop, get_or, bit_and, refl, sym, ap, ◌∙◌, subst, arith}
use Rattle.std.proofs.lemmas.List.{length-map, take_more, take_all, length-take, get_or-map}
use Rattle.w_types.specs.declared.types.ValType.{ValType}
use Rattle.w_rows.specs.Words.{TellBelow}
use Rattle.w_rows.specs.Fitting.{AreApart, AreBelow, words_of}
use Rattle.w_rows.specs.Operands.{AreWords}
use Rattle.w_rows.specs.declared.operand.Operand.{Operand}

-- ## What two rows of words tell

-- one more of each
pub apart_more : (vs ws : List ℕ) (i v w : ℕ) → i < length vs → i < length ws → bit_and (get_or vs i v) (get_or ws i w) ≡ 0 →
    AreApart (take i vs) (take i ws) → AreApart (take (i + 1) vs) (take (i + 1) ws)
apart_more vs ws i v w h k e before =
    subst (λ (us : List ℕ). AreApart us (take (i + 1) ws)) (sym (take_more vs i v h))
    (subst (AreApart (take i vs ++ get_or vs i v ∷ [])) (sym (take_more ws i w k))
    (behind (take i vs) (take i ws) (get_or vs i v) (get_or ws i w) (omega (arith, length-take i vs, length-take i ws)) before e))
  where
    behind : (us ts : List ℕ) (u t : ℕ) → length us ≡ length ts → AreApart us ts → bit_and u t ≡ 0 → AreApart (us ++ u ∷ []) (ts ++ t ∷ [])
    behind [] [] u t l n f = (f, tt)
    behind [] (s ∷ ts) u t l n f = absurd (omega arith)
    behind (r ∷ us) [] u t l n f = absurd (omega arith)
    behind (r ∷ us) (s ∷ ts) u t l n f = (n.0, behind us ts u t (omega arith) n.1 f)

-- one more operand, with one more word
pub operands_apart_more : (xs : List Operand) (ws : List ℕ) (i : ℕ) (x : Operand) (w : ℕ) → i < length xs → i < length ws → bit_and (get_or xs i x).word (get_or ws i w) ≡ 0 →
    AreApart (take i (words_of xs)) (take i ws) → AreApart (take (i + 1) (words_of xs)) (take (i + 1) ws)
operands_apart_more xs ws i x w h k e =
    apart_more (words_of xs) ws i x.word w (omega (arith, length-map xs (λ (o : Operand). o.word))) k
    (ap (λ (n : ℕ). bit_and n (get_or ws i w)) (get_or-map (λ (o : Operand). o.word) xs i x x.word h) ∙ e)

-- all, behind the last
pub apart_all : (vs ws : List ℕ) (i : ℕ) → length vs ≡ length ws → length ws ≤ i → AreApart (take i vs) (take i ws) → AreApart vs ws
apart_all vs ws i same h n = subst (λ (us : List ℕ). AreApart us ws) (take_all i vs (omega arith)) (subst (AreApart (take i vs)) (take_all i ws h) n)

pub operands_apart : (xs : List Operand) (ws : List ℕ) (i : ℕ) → length xs ≡ length ws → length ws ≤ i → AreApart (take i (words_of xs)) (take i ws) → AreApart (words_of xs) ws
operands_apart xs ws i same = apart_all (words_of xs) ws i (length-map xs (λ (o : Operand). o.word) ∙ same)

-- one more of each that is below
pub below_more : (vs ws ls : List ℕ) (i v w l : ℕ) → i < length vs → i < length ws → i < length ls → TellBelow (get_or vs i v) (get_or ws i w) (get_or ls i l)
    → AreBelow (take i vs) (take i ws) (take i ls) → AreBelow (take (i + 1) vs) (take (i + 1) ws) (take (i + 1) ls)
below_more vs ws ls i v w l h k m e before =
    subst (λ (us : List ℕ). AreBelow us (take (i + 1) ws) (take (i + 1) ls)) (sym (take_more vs i v h))
    (subst (λ (us : List ℕ). AreBelow (take i vs ++ get_or vs i v ∷ []) us (take (i + 1) ls)) (sym (take_more ws i w k))
    (subst (AreBelow (take i vs ++ get_or vs i v ∷ []) (take i ws ++ get_or ws i w ∷ [])) (sym (take_more ls i l m))
    (behind (take i vs) (take i ws) (take i ls) (get_or vs i v) (get_or ws i w) (get_or ls i l) (omega (arith, length-take i vs, length-take i ws)) (omega (arith, length-take i ls, length-take i ws)) before e)))
  where
    behind : (us ts ns : List ℕ) (u t n : ℕ) → length us ≡ length ts → length ns ≡ length ts → AreBelow us ts ns → TellBelow u t n → AreBelow (us ++ u ∷ []) (ts ++ t ∷ []) (ns ++ n ∷ [])
    behind [] [] [] u t n a b c f = (f, tt)
    behind [] [] (m ∷ ns) u t n a b c f = absurd (omega arith)
    behind [] (s ∷ ts) ns u t n a b c f = absurd (omega arith)
    behind (r ∷ us) [] ns u t n a b c f = absurd (omega arith)
    behind (r ∷ us) (s ∷ ts) [] u t n a b c f = absurd (omega arith)
    behind (r ∷ us) (s ∷ ts) (m ∷ ns) u t n a b c f = (c.0, behind us ts ns u t n (omega arith) (omega arith) c.1 f)

-- the same of operands
pub operands_below_more : (xs : List Operand) (ws ls : List ℕ) (i : ℕ) (x : Operand) (w l : ℕ) → i < length xs → i < length ws → i < length ls
    → TellBelow (get_or xs i x).word (get_or ws i w) (get_or ls i l)
    → AreBelow (take i (words_of xs)) (take i ws) (take i ls) → AreBelow (take (i + 1) (words_of xs)) (take (i + 1) ws) (take (i + 1) ls)
operands_below_more xs ws ls i x w l h k m e =
    below_more (words_of xs) ws ls i x.word w l (omega (arith, length-map xs (λ (o : Operand). o.word))) k m
    (subst (λ (n : ℕ). TellBelow n (get_or ws i w) (get_or ls i l)) (sym (get_or-map (λ (o : Operand). o.word) xs i x x.word h)) e)

-- all, behind the last
pub below_all : (vs ws ls : List ℕ) (i : ℕ) → length vs ≡ length ws → length ls ≡ length ws → length ws ≤ i → AreBelow (take i vs) (take i ws) (take i ls) → AreBelow vs ws ls
below_all vs ws ls i a b h n =
    subst (λ (us : List ℕ). AreBelow us ws ls) (take_all i vs (omega arith))
    (subst (λ (us : List ℕ). AreBelow (take i vs) us ls) (take_all i ws h)
    (subst (AreBelow (take i vs) (take i ws)) (take_all i ls (omega arith)) n))

pub operands_below : (xs : List Operand) (ws ls : List ℕ) (i : ℕ) → length xs ≡ length ws → length ls ≡ length ws → length ws ≤ i
    → AreBelow (take i (words_of xs)) (take i ws) (take i ls) → AreBelow (words_of xs) ws ls
operands_below xs ws ls i a = below_all (words_of xs) ws ls i (length-map xs (λ (o : Operand). o.word) ∙ a)

-- words that are apart tell of what is below
pub apart_below : (vs ws ls : List ℕ) → AreApart vs ws → AreBelow vs ws ls
apart_below [] ws ls a = tt
apart_below (v ∷ vs) [] ls a = tt
apart_below (v ∷ vs) (w ∷ ws) [] a = tt
apart_below (v ∷ vs) (w ∷ ws) (l ∷ ls) a = (inl a.0, apart_below vs ws ls a.1)

-- ## Lists of words

module _ (P : ValType → ℕ → Type 0) where
  pub words_take : (n : ℕ) (ts : List ValType) (ws : List ℕ) → AreWords P ts ws → AreWords P (take n ts) (take n ws)
  words_take zero ts ws a = tt
  words_take (suc n) [] [] a = tt
  words_take (suc n) [] (w ∷ ws) a = absurd a
  words_take (suc n) (t ∷ ts) [] a = absurd a
  words_take (suc n) (t ∷ ts) (w ∷ ws) a = (a.0, words_take n ts ws a.1)

  pub words_drop : (n : ℕ) (ts : List ValType) (ws : List ℕ) → AreWords P ts ws → AreWords P (drop n ts) (drop n ws)
  words_drop zero ts ws a = a
  words_drop (suc n) [] [] a = tt
  words_drop (suc n) [] (w ∷ ws) a = absurd a
  words_drop (suc n) (t ∷ ts) [] a = absurd a
  words_drop (suc n) (t ∷ ts) (w ∷ ws) a = words_drop n ts ws a.1

  pub words_length : (ts : List ValType) (ws : List ℕ) → AreWords P ts ws → length ws ≡ length ts
  words_length [] [] a = refl
  words_length [] (w ∷ ws) a = absurd a
  words_length (t ∷ ts) [] a = absurd a
  words_length (t ∷ ts) (w ∷ ws) a = ap suc (words_length ts ws a.1)

  pub words_more : (ts : List ValType) (ws : List ℕ) (t : ValType) (w : ℕ) → AreWords P ts ws → P t w → AreWords P (ts ++ t ∷ []) (ws ++ w ∷ [])
  words_more [] [] t w a b = (b, tt)
  words_more [] (v ∷ ws) t w a b = absurd a
  words_more (u ∷ ts) [] t w a b = absurd a
  words_more (u ∷ ts) (v ∷ ws) t w a b = (a.0, words_more ts ws t w a.1 b)
