-- Bytes that are written one behind the other.
use Rattle.std.proofs.Common.{◌≡◌, ℕ, List, ◌++◌, ap, ◌∙◌, append_assoc}

-- what comes after the first part, behind it
pub before : (new old mid s r : List ℕ) → mid ≡ old ++ s → new ≡ mid ++ r → new ≡ old ++ (s ++ r)
before new old mid s r e h = h ∙ ap (λ (l : List ℕ). l ++ r) e ∙ append_assoc old s r
