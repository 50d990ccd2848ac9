-- Words that tell which types match.
use Rattle.std.specs.Prelude.{◌≡◌, ℕ, bit_and, List, [], ◌∷◌, map}
use Rattle.w_rows.specs.Words.{TellBelow}
use Rattle.w_rows.specs.declared.operand.Operand.{Operand}

-- each word and the one at its place have none
abbrev pub AreApart : List ℕ → List ℕ → Type 0
AreApart [] ws = Unit {0}
AreApart (v ∷ vs) [] = Unit {0}
AreApart (v ∷ vs) (w ∷ ws) = (bit_and v w ≡ 0) × AreApart vs ws

-- each given word and the wanted one at its place, with the length of its span, tell that the first type matches the second
abbrev pub AreBelow : List ℕ → List ℕ → List ℕ → Type 0
AreBelow [] ws ls = Unit {0}
AreBelow (v ∷ vs) [] ls = Unit {0}
AreBelow (v ∷ vs) (w ∷ ws) [] = Unit {0}
AreBelow (v ∷ vs) (w ∷ ws) (l ∷ ls) = TellBelow v w l × AreBelow vs ws ls

abbrev pub words_of : List Operand → List ℕ
words_of xs = map (λ (o : Operand). o.word) xs
