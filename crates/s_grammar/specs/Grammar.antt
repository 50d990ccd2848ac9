-- Grammars over tokens, and how they are made of one another.
use Rattle.std.specs.Prelude.{◌≡◌, ℕ, zero, suc, IsTrue, List, [], ◌∷◌, ◌++◌, Option, Some, None}
use Rattle.s_syntax.specs.declared.token.Kind.{Kind}
use Rattle.s_syntax.specs.declared.token.Token.{Token}
use Rattle.s_grammar.specs.Kinds.{Kinds, is}

-- which tokens spell which value
abbrev pub Grammar : Type 0 → Type 1
Grammar A = List Token → A → Type 0

-- one token of these kinds
abbrev pub One : {A : Type 0} → Kinds → (Token → A) → Grammar A
One ks f b x = (t : Token) × (b ≡ t ∷ []) × IsTrue (ks t.kind) × (f t ≡ x)

-- one, and then the other
abbrev pub InTurn : {A B : Type 0} → Grammar A → Grammar B → Grammar (A × B)
InTurn g h b p = (u v : List Token) × (b ≡ u ++ v) × g u p.0 × h v p.1

-- f of what is spelled
abbrev pub Image : {A B : Type 0} → (A → B) → Grammar A → Grammar B
Image {A} f g b y = (x : A) × g b x × (f x ≡ y)

-- any number of them
abbrev pub Each : {A : Type 0} → Grammar A → Grammar (List A)
Each g b [] = b ≡ []
Each g b (x ∷ xs) = (u v : List Token) × (b ≡ u ++ v) × g u x × Each g v xs

-- nothing, or one
abbrev pub Maybe : {A : Type 0} → Grammar A → Grammar (Option A)
Maybe g b None = b ≡ []
Maybe g b (Some x) = g b x

-- the first token decides
abbrev pub Choice : {A : Type 0} → (Kind → Grammar A) → Grammar A
Choice g [] x = ⊥
Choice g (t ∷ b) x = g t.kind (t ∷ b) x

-- between two brackets of these kinds
abbrev pub Between : {A : Type 0} → Kind → Kind → Grammar A → Grammar A
Between o c g b x = (t : Token) × (v : List Token) × (u : Token) × (b ≡ t ∷ (v ++ u ∷ [])) × IsTrue (is o t.kind) × g v x × IsTrue (is c u.kind)

-- nothing is spelled
abbrev pub Never : {A : Type 0} → Grammar A
Never b x = ⊥

-- g, where one more bracket may be open at a time
abbrev pub Inside : {A : Type 0} → (ℕ → Grammar A) → ℕ → Grammar A
Inside g zero = Never
Inside g (suc m) = g m
