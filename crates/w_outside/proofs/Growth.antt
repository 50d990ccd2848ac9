-- How sinks grow, piece by piece.
use Rattle.std.proofs.Common.{◌≡◌, ℕ, List, [], ◌++◌, take, drop, refl, sym, ◌∙◌, ap, append_assoc, append-nil, Option, Some, None}
use Rattle.std.proofs.lemmas.List.{take-append-drop}
use Rattle.std.specs.Io.KnownBytes.{append_known}
use Rattle.w_outside.specs.Outside.{Grew}

append_known_twice : (known : Option (List ℕ)) (xs ys : List ℕ) → append_known (append_known known xs) ys ≡ append_known known (xs ++ ys)
append_known_twice None xs ys = refl
append_known_twice (Some held) xs ys = ap (λ (l : List ℕ). Some l) (simp append_assoc)

append_known-nil : (known : Option (List ℕ)) → append_known known [] ≡ known
append_known-nil None = refl
append_known-nil (Some held) = ap (λ (l : List ℕ). Some l) (append-nil held)

-- a sink grew by one text, and then by another
pub grew_more : (a b c : Option (List ℕ)) (xs ys : List ℕ) → Grew a b xs → Grew b c ys → Grew a c (xs ++ ys)
grew_more a b c xs ys p q = q ∙ ap (λ k. append_known k ys) p ∙ append_known_twice a xs ys

pub grew_nothing : (a : Option (List ℕ)) → Grew a a []
grew_nothing a = sym (append_known-nil a)

pub joined_more : (part rest whole : List ℕ) (n : ℕ) → part ++ rest ≡ whole → (part ++ take n rest) ++ drop n rest ≡ whole
joined_more part rest whole n e = rw append_assoc (rw take-append-drop e)
