-- Brackets along tokens, and fronts of tokens.
use Rattle.std.proofs.Common.{◌≡◌, ℕ, zero, suc, ◌<◌, List, [], ◌∷◌, ◌++◌, length, Option, Some, None, refl, ap, arith, length-append}
use Rattle.s_syntax.specs.declared.token.Token.{Token}
use Rattle.s_grammar.specs.Kinds.{Turn, Opens, Closes, Passes, turn, kind_of}

-- How many brackets may still be opened after these tokens, where n may be before them; None where one too many is.
abbrev pub walk_by : Turn → ℕ → (ℕ → Option ℕ) → Option ℕ
walk_by Opens zero f = None
walk_by Opens (suc n) f = f n
walk_by Closes n f = f (suc n)
walk_by Passes n f = f n

-- along all the tokens
abbrev pub walk : ℕ → List Token → Option ℕ
walk n [] = Some n
walk n (t ∷ ts) = walk_by (turn t.kind) n (λ k. walk k ts)

-- a step depends on the walk behind it alone
walk_by_next : (t : Turn) (n k : ℕ) (f g : ℕ → Option ℕ) (o : Option ℕ) → ((j : ℕ) → f j ≡ Some k → g j ≡ o) → walk_by t n f ≡ Some k → walk_by t n g ≡ o
walk_by_next Opens zero k f g o h e = absurd cc
walk_by_next Opens (suc n) k f g o h e = h n e
walk_by_next Closes n k f g o h e = h (suc n) e
walk_by_next Passes n k f g o h e = h n e

-- equal numbers
some_is : (m n : ℕ) → ◌≡◌ {A = Option ℕ} (Some m) (Some n) → m ≡ n
some_is m n e = cc

-- a walk goes on from where the first part ends
pub walk_append : (a b : List Token) (n k : ℕ) → walk n a ≡ Some k → walk n (a ++ b) ≡ walk k b
walk_append [] b n k e = ap (λ (j : ℕ). walk j b) (some_is n k e)
walk_append (t ∷ a) b n k e = walk_by_next (turn t.kind) n k (λ j. walk j a) (λ j. walk j (a ++ b)) (walk k b) (λ j. walk_append a b j k) e

-- the first kind depends on the next token alone
pub front_kind : (b s more : List Token) → kind_of s ≡ kind_of more → kind_of (b ++ s) ≡ kind_of (b ++ more)
front_kind [] s more e = e
front_kind (t ∷ b) s more e = refl

-- what is left behind a front is shorter
pub shorter : (front ts rest : List Token) → ts ≡ front ++ rest → (front ≡ [] → ⊥) → length rest < length ts
shorter [] ts rest e h = absurd (h refl)
shorter (t ∷ f) ts rest e h = omega (arith, ap length e, length-append f rest)
