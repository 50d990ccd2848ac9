-- What a file is shows in its first four bytes.
use Rattle.std.proofs.Common.{◌≡◌, ◌≤◌, ℕ, List, [], ◌∷◌, ◌++◌, length, refl, arith}
use Rattle.words.specs.declared.request.Takes.{Takes}
use Rattle.replies.specs.Answer.{kind_of}

-- and stays so
pub kind_stays : (taking : Takes) (b x : List ℕ) → 4 ≤ length b → kind_of taking (b ++ x) ≡ kind_of taking b
kind_stays taking [] x le = absurd (omega arith)
kind_stays taking (p ∷ []) x le = absurd (omega arith)
kind_stays taking (p ∷ q ∷ []) x le = absurd (omega arith)
kind_stays taking (p ∷ q ∷ r ∷ []) x le = absurd (omega arith)
kind_stays taking (p ∷ q ∷ r ∷ s ∷ b) x le = refl
