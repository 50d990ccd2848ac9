-- What stands ready for a row of types, for its parts, and for one type more.
use Rattle.std.proofs.Common.{◌≡◌, ℕ, zero, suc, ◌+◌, ◌<◌, List, [], ◌∷◌, ◌++◌, length, take, drop, get_or, sym, ap, ◌∙◌, subst}
use Rattle.std.proofs.lemmas.List.{length-map, take_more}
use Rattle.w_types.specs.declared.types.ValType.{ValType}
use Rattle.w_types.specs.PackedTypes.{index_of}
use Rattle.w_canon.specs.declared.entry.Entry.{Entry}
use Rattle.w_rules.specs.Operands.{Known}
use Rattle.w_rows.specs.Words.{IsGiven, IsWanted, IsLength}
use Rattle.w_rows.specs.TypeRows.{AreGiven, AreReady}
use Rattle.w_rows.specs.Operands.{AreWorded}
use Rattle.w_rows.specs.declared.operand.Operand.{Operand}
use Rattle.w_rows.proofs.WordedOperands.{types_length, given_types, given_words}
use Rattle.w_rows.proofs.WordRows.{words_take, words_drop, words_length, words_more}

module _ (es : List Entry) where
  given_take : (n : ℕ) (ts : List ValType) (xs : List Operand) → AreGiven es ts xs → AreGiven es (take n ts) (take n xs)
  given_take zero ts xs g = tt
  given_take (suc n) [] [] g = tt
  given_take (suc n) [] (x ∷ xs) g = absurd g
  given_take (suc n) (t ∷ ts) [] g = absurd g
  given_take (suc n) (t ∷ ts) (x ∷ xs) g = (g.0, given_take n ts xs g.1)

  given_drop : (n : ℕ) (ts : List ValType) (xs : List Operand) → AreGiven es ts xs → AreGiven es (drop n ts) (drop n xs)
  given_drop zero ts xs g = g
  given_drop (suc n) [] [] g = tt
  given_drop (suc n) [] (x ∷ xs) g = absurd g
  given_drop (suc n) (t ∷ ts) [] g = absurd g
  given_drop (suc n) (t ∷ ts) (x ∷ xs) g = given_drop n ts xs g.1

  -- what stands ready for the first types, and for the others
  module _ (n : ℕ) (ts : List ValType) (xs ys : List Operand) (gs hs ws vs ls ms : List ℕ) where
    pub ready_front : ys ≡ take n xs → hs ≡ take n gs → vs ≡ take n ws → ms ≡ take n ls → AreReady es ts xs gs ws ls → AreReady es (take n ts) ys hs vs ms
    ready_front e f g h r =
        subst (λ (zs : List Operand). AreReady es (take n ts) zs hs vs ms) (sym e)
        (subst (λ (us : List ℕ). AreReady es (take n ts) (take n xs) us vs ms) (sym f)
        (subst (λ (us : List ℕ). AreReady es (take n ts) (take n xs) (take n gs) us ms) (sym g)
        (subst (AreReady es (take n ts) (take n xs) (take n gs) (take n ws)) (sym h)
        (given_take n ts xs r.0, (words_take (IsGiven es) n ts gs r.1.0, (words_take (IsWanted es) n ts ws r.1.1.0, words_take (IsLength es) n ts ls r.1.1.1))))))

    pub ready_behind : ys ≡ drop n xs → hs ≡ drop n gs → vs ≡ drop n ws → ms ≡ drop n ls → AreReady es ts xs gs ws ls → AreReady es (drop n ts) ys hs vs ms
    ready_behind e f g h r =
        subst (λ (zs : List Operand). AreReady es (drop n ts) zs hs vs ms) (sym e)
        (subst (λ (us : List ℕ). AreReady es (drop n ts) (drop n xs) us vs ms) (sym f)
        (subst (λ (us : List ℕ). AreReady es (drop n ts) (drop n xs) (drop n gs) us ms) (sym g)
        (subst (AreReady es (drop n ts) (drop n xs) (drop n gs) (drop n ws)) (sym h)
        (given_drop n ts xs r.0, (words_drop (IsGiven es) n ts gs r.1.0, (words_drop (IsWanted es) n ts ws r.1.1.0, words_drop (IsLength es) n ts ls r.1.1.1))))))

  -- there are as many words as types
  pub ready_wanted : (ts : List ValType) (xs : List Operand) (gs ws ls : List ℕ) → AreReady es ts xs gs ws ls → length ws ≡ length ts
  ready_wanted ts xs gs ws ls r = words_length (IsWanted es) ts ws r.1.1.0

  pub ready_lengths : (ts : List ValType) (xs : List Operand) (gs ws ls : List ℕ) → AreReady es ts xs gs ws ls → length ls ≡ length ts
  ready_lengths ts xs gs ws ls r = words_length (IsLength es) ts ls r.1.1.1

  pub ready_given : (ts : List ValType) (xs : List Operand) (gs ws ls : List ℕ) → AreReady es ts xs gs ws ls → length gs ≡ length ts
  ready_given ts xs gs ws ls r = words_length (IsGiven es) ts gs r.1.0

  -- and as many operands
  pub ready_operands : (ts : List ValType) (xs : List Operand) (gs ws ls : List ℕ) → AreReady es ts xs gs ws ls → length xs ≡ length ts
  ready_operands ts xs gs ws ls r = sym (types_length xs) ∙ ap length (given_types es ts xs r.0) ∙ length-map ts Known

  -- whose words are those of their types
  pub ready_words : (ts : List ValType) (xs : List Operand) (gs ws ls : List ℕ) → AreReady es ts xs gs ws ls → AreWorded es xs
  ready_words ts xs gs ws ls r = given_words es ts xs r.0

  given_more : (ts : List ValType) (xs : List Operand) (t : ValType) (x : Operand) → AreGiven es ts xs → IsGiven es t x.word → x.index ≡ index_of t → AreGiven es (ts ++ t ∷ []) (xs ++ x ∷ [])
  given_more [] [] t x g a b = ((a, b), tt)
  given_more [] (y ∷ xs) t x g a b = absurd g
  given_more (u ∷ ts) [] t x g a b = absurd g
  given_more (u ∷ ts) (y ∷ xs) t x g a b = (g.0, given_more ts xs t x g.1 a b)

  -- one type more
  pub ready_more : (ts : List ValType) (i : ℕ) (t : ValType) (xs ys : List Operand) (gs fs ws vs ls ms : List ℕ) (x : Operand) (w l : ℕ) → i < length ts → t ≡ get_or ts i t →
      ys ≡ xs ++ x ∷ [] → fs ≡ gs ++ x.word ∷ [] → vs ≡ ws ++ w ∷ [] → ms ≡ ls ++ l ∷ [] → IsGiven es t x.word → x.index ≡ index_of t → IsWanted es t w → IsLength es t l →
      AreReady es (take i ts) xs gs ws ls → AreReady es (take (i + 1) ts) ys fs vs ms
  ready_more ts i t xs ys gs fs ws vs ls ms x w l h at e d f m a k b c r =
      let types : take (i + 1) ts ≡ take i ts ++ t ∷ [] = take_more ts i t h ∙ ap (λ (u : ValType). take i ts ++ u ∷ []) (sym at) in
      subst (λ (us : List ValType). AreReady es us ys fs vs ms) (sym types)
      (subst (λ (zs : List Operand). AreReady es (take i ts ++ t ∷ []) zs fs vs ms) (sym e)
      (subst (λ (hs : List ℕ). AreReady es (take i ts ++ t ∷ []) (xs ++ x ∷ []) hs vs ms) (sym d)
      (subst (λ (hs : List ℕ). AreReady es (take i ts ++ t ∷ []) (xs ++ x ∷ []) (gs ++ x.word ∷ []) hs ms) (sym f)
      (subst (AreReady es (take i ts ++ t ∷ []) (xs ++ x ∷ []) (gs ++ x.word ∷ []) (ws ++ w ∷ [])) (sym m) (
        given_more (take i ts) xs t x r.0 a k,
        (
          words_more (IsGiven es) (take i ts) gs t x.word r.1.0 a,
          (
            words_more (IsWanted es) (take i ts) ws t w r.1.1.0 b,
            words_more (IsLength es) (take i ts) ls t l r.1.1.1 c,
          ),
        ),
      )))))
