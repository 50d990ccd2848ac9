-- The lines of bytes, and which of them is wrong.
use Rattle.std.specs.Prelude.{◌≡◌, ℕ, suc, ◌<◌, false, cond, nat_eq, List, [], ◌∷◌, ◌++◌, take}
use Rattle.w_words.specs.Words.{Each}

-- no line feed is in these bytes
abbrev pub InLine : List ℕ → Type 0
InLine bs = Each (λ b. nat_eq b 10 ≡ false) bs

abbrev pub in_piece : ℕ → List (List ℕ) → List (List ℕ)
in_piece b [] = (b ∷ []) ∷ []
in_piece b (p ∷ ps) = (b ∷ p) ∷ ps

-- The lines of bytes, each with its line feed. What stands behind the last line feed is the last of them, also where nothing does:
-- it is the line of the end.
unfoldable pub pieces : List ℕ → List (List ℕ)
pieces [] = [] ∷ []
pieces (b ∷ bs) = cond (nat_eq b 10) ((b ∷ []) ∷ pieces bs) (in_piece b (pieces bs))

-- ## Refusals, where some bytes are texts

-- a text begins with these lines
abbrev pub BeginsText : (List ℕ → Type 0) → List (List ℕ) → Type 0
BeginsText IsText q = (t : List ℕ) × (rest : List (List ℕ)) × IsText t × (pieces t ≡ q ++ rest)

-- l is the least number such that no text begins with lines 0 to l
abbrev pub IsWrongLine : (List ℕ → Type 0) → List ℕ → ℕ → Type 0
IsWrongLine IsText t l = (BeginsText IsText (take (suc l) (pieces t)) → ⊥) × ((k : ℕ) → k < l → BeginsText IsText (take (suc k) (pieces t)))
