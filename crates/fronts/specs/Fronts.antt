-- What a sink keeps of a text.
use Rattle.std.specs.Prelude.{◌≡◌, ◌-◌, ◌^◌, ℕ, List, length, map, take, min, refl}
use Rattle.std.specs.Coded.{Coded, code_by, coded×, coded_ℕ, coded_list}

-- the text of a history of pairs
abbrev pub text_of : List (ℕ × ℕ) → List ℕ
text_of pairs = map (λ p. p.0) pairs

-- the text that it took, and how many bytes it keeps at most
pub record Taken : Type 0 where
  pub text : List ℕ
  pub most : ℕ

abbrev pub taken_code : Coded Taken
taken_code = code_by (List ℕ × ℕ) (coded× (coded_list coded_ℕ) coded_ℕ) (λ t. (t.text, t.most)) (λ q. record { text = q.0; most = q.1 }) (λ _. refl)

-- the most that is counted
abbrev pub most_counted : ℕ
most_counted = 2 ^ 64 - 1

-- it keeps the first bytes, and counts all
pub record IsKept (taken : Taken) (kept : List ℕ) (counted : ℕ) : Type 0 where
  pub front : kept ≡ take taken.most taken.text
  pub count : counted ≡ min (length taken.text) most_counted
