-- The lines of bytes.
use Rattle.std.proofs.Common.{◌≡◌, ◌<◌, ◌⊎◌, ℕ, suc, Bool, true, false, cond, inl, inr, List, [], ◌∷◌, ◌++◌, drop, refl, sym, ap, arith}
use Rattle.std.specs.Prelude.{nat_eq}
use Rattle.std.specs.List.{flat_map}
use Rattle.std.proofs.lemmas.Bool.{eqb-true, cases_lt}
use Rattle.std.proofs.lemmas.Bool.Decides.{eqb_tells}
use Rattle.std.proofs.lemmas.List.{take-append-drop}
use Rattle.w_words.specs.Words.{Word, IsClean, Each, spaced}
use Rattle.w_words.specs.Pieces.{InLine, in_piece, pieces, IsWrongLine}

-- bytes up to their first line feed are a line
pub piece_of_line : (bs : List ℕ) (more : List ℕ) → InLine bs → pieces ((bs ++ 10 ∷ []) ++ more) ≡ (bs ++ 10 ∷ []) ∷ pieces more
unfolding pieces
piece_of_line [] more h = refl
piece_of_line (b ∷ bs) more h = rw (h.0) (ap (in_piece b) (piece_of_line bs more h.1))

-- bytes without a line feed are the last line
pub last_piece : (bs : List ℕ) → InLine bs → pieces bs ≡ bs ∷ []
unfolding pieces
last_piece [] h = refl
last_piece (b ∷ bs) h = rw (h.0) (ap (in_piece b) (last_piece bs h.1))

-- all lines together are the bytes
pub joined_pieces : (bs : List ℕ) → flat_map (λ (p : List ℕ). p) (pieces bs) ≡ bs
unfolding pieces
joined_pieces [] = refl
joined_pieces (b ∷ bs) = with_test (nat_eq b 10) (pieces bs) (joined_pieces bs)
  where
    with_test : (v : Bool) (ps : List (List ℕ)) → flat_map (λ (p : List ℕ). p) ps ≡ bs → flat_map (λ (p : List ℕ). p) (cond v ((b ∷ []) ∷ ps) (in_piece b ps)) ≡ b ∷ bs
    with_test true ps e = ap (λ (l : List ℕ). b ∷ l) e
    with_test false [] e = ap (λ (l : List ℕ). b ∷ l) e
    with_test false (p ∷ ps) e = ap (λ (l : List ℕ). b ∷ l) e

-- a line feed is in no line
pub feed_there : (bs cs : List ℕ) → InLine (bs ++ 10 ∷ cs) → ⊥
feed_there [] cs h = absurd cc
feed_there (b ∷ bs) cs h = feed_there bs cs h.1

not_feed : (b : ℕ) → 10 < b → nat_eq b 10 ≡ false
not_feed b lt = elim (eqb_tells b 10) [ inl p ↦ absurd (omega (arith, p.1)) | inr p ↦ p.0 ]

spaced_in_line : (w : Word) (ws : List Word) → Each IsClean (w ∷ ws) → InLine (spaced (w ∷ ws))
spaced_in_line [] [] h = tt
spaced_in_line [] (v ∷ ws) h = (refl, spaced_in_line v ws h.1)
spaced_in_line (b ∷ w) ws h = (not_feed b (omega (arith, h.0.0)), spaced_in_line w ws (h.0.1, h.1))

-- words without separators make a line
pub words_in_line : (ws : List Word) → Each IsClean ws → InLine (spaced ws)
words_in_line [] h = tt
words_in_line (w ∷ ws) h = spaced_in_line w ws h

-- bytes with a line feed begin with a line
pub record FirstLine (bs : List ℕ) : Type 0 where
  pub line : List ℕ
  pub more : List ℕ
  pub same : bs ≡ (line ++ 10 ∷ []) ++ more
  pub alone : InLine line

longer : (b : ℕ) (bs : List ℕ) (x : Bool) → nat_eq b 10 ≡ x → FirstLine bs ⊎ InLine bs → FirstLine (b ∷ bs) ⊎ InLine (b ∷ bs)
longer b bs true e rest = inl (record { line = []; more = bs; same = ap (λ (n : ℕ). n ∷ bs) (eqb-true b 10 e); alone = tt })
longer b bs false e (inl f) = inl (record { line = b ∷ f.line; more = f.more; same = ap (λ (l : List ℕ). b ∷ l) f.same; alone = (e, f.alone) })
longer b bs false e (inr alone) = inr (e, alone)

-- there is a line feed in bytes, or none
pub first_line : (bs : List ℕ) → FirstLine bs ⊎ InLine bs
first_line [] = inr tt
first_line (b ∷ bs) = longer b bs (nat_eq b 10) refl (first_line bs)

-- a text is wrong at no line
pub text_is_right : (IsText : List ℕ → Type 0) (t : List ℕ) (l : ℕ) → IsText t → IsWrongLine IsText t l → ⊥
text_is_right IsText t l h w = w.0 (t, drop (suc l) (pieces t), h, sym (take-append-drop (suc l) (pieces t)))

-- one line alone is the least that is wrong
pub least_is_one : (IsText : List ℕ → Type 0) (t : List ℕ) (k l : ℕ) → IsWrongLine IsText t k → IsWrongLine IsText t l → k ≡ l
least_is_one IsText t k l v w = elim (cases_lt k l) [
  | inl lt ↦ absurd (v.0 (w.1 k lt))
  | inr ge ↦ elim (cases_lt l k) [ inl lt ↦ absurd (w.0 (v.1 l lt)) | inr le ↦ omega arith ]
]
