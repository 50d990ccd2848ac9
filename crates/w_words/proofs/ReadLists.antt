-- Lists are read word by word.
use Rattle.std.proofs.Common.{◌≡◌, List, [], ◌∷◌, ◌++◌, Option, Some, None, refl, sym, ap, append_assoc}
use Rattle.std.specs.Prelude.{option_map}
use Rattle.w_words.specs.Words.{Word}

-- behind what was read
abbrev pub in_front : {A : Type 0} → List A → Option (List A) → Option (List A)
in_front xs o = option_map (λ ys. xs ++ ys) o

abbrev pub in_front_with : {A : Type 0} → List A → Option (List A × List Word) → Option (List A × List Word)
in_front_with xs o = option_map (λ p. (xs ++ p.0, p.1)) o

pub each_begins : {A : Type 0} (o : Option (List A)) → in_front [] o ≡ o
each_begins None = refl
each_begins (Some xs) = refl

pub each_goes_on : {A : Type 0} (xs : List A) (x : A) (o : Option (List A)) → in_front xs (option_map (λ ys. x ∷ ys) o) ≡ in_front (xs ++ x ∷ []) o
each_goes_on xs x None = refl
each_goes_on xs x (Some ys) = ap (λ zs. Some zs) (sym (append_assoc xs (x ∷ []) ys))
