-- The words of indices, labels and clauses of handlers.
use Rattle.std.specs.Prelude.{if◌then◌else◌, ℕ, nat_eq, List, [], ◌∷◌, ◌++◌, Option, Some, None, option_map, codes, decimal}
use Rattle.w_syntax.specs.declared.instructions.Clause.{Clause}
use Rattle.w_syntax.specs.declared.instructions.Clause.TheVariants as clause
use Rattle.w_words.specs.Words.{Word, ◌>>=◌, behind, or_else, each_of}
use Rattle.w_words.specs.Numbers.{number_of, Index32}

-- ## Labels: a list, and the last one apart

abbrev pub last_apart : List ℕ → Option (List ℕ × ℕ)
last_apart [] = None
last_apart (x ∷ []) = Some ([], x)
last_apart (x ∷ y ∷ xs) = option_map (λ p. (x ∷ p.0, p.1)) (last_apart (y ∷ xs))

abbrev pub labels_of : List Word → Option (List ℕ × ℕ)
labels_of ws = do
  xs ← each_of (number_of 32) ws
  last_apart xs

-- ## Clauses

-- what stands before the first colon, and behind it
abbrev pub parted : Word → Option (Word × Word)
parted [] = None
parted (b ∷ bs) = if nat_eq b 58 then Some ([], bs) else option_map (λ p. (b ∷ p.0, p.1)) (parted bs)

abbrev pub clause_word : Clause → Word
clause_word (clause.Label x l) = codes "on:" ++ (decimal x ++ 58 ∷ decimal l)
clause_word (clause.Switch x) = codes "switch:" ++ decimal x

abbrev pub ClauseFits : Clause → Type 0
ClauseFits (clause.Label x l) = Index32 x × Index32 l
ClauseFits (clause.Switch x) = Index32 x

abbrev pub label_in : Word × Word → Option Clause
label_in p = do
  x ← number_of 32 p.0
  option_map (clause.Label x) (number_of 32 p.1)

abbrev pub label_of : Word → Option Clause
label_of w = do
  v ← behind (codes "on:") w
  p ← parted v
  label_in p

abbrev pub switch_of : Word → Option Clause
switch_of w = do
  v ← behind (codes "switch:") w
  option_map clause.Switch (number_of 32 v)

abbrev pub clause_of : Word → Option Clause
clause_of w = or_else (label_of w) (switch_of w)
