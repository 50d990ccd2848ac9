-- Modules that are read of some names, to be linked.
use Rattle.std.specs.Borrow.{Bor}
use Rattle.std.specs.Prelude.{ℕ, Bool, List, [], drop, map}
use Rattle.w_outside.specs.Outside.{Known}
use Rattle.w_syntax.specs.declared.module.Module.{Module}
use Rattle.replies.specs.Answer.{Reply, FilesGive, LinkGives}
use Rattle.runs.specs.Delivery.{MayFail}

-- the names behind references
abbrev pub names_of : List (Bor (List ℕ)) → List (List ℕ)
names_of names = map (λ (name : Bor (List ℕ)). name.now) names

-- so many names are read: what these modules give with the names that are left, all names give
abbrev pub ReadTo : List (List ℕ) → (List ℕ → Known) → ℕ → List Module → Type 0
ReadTo names files i ms = (steps : ℕ) (stats : Bool) (reply : Reply) → FilesGive steps stats ms (drop i names) files reply → FilesGive steps stats [] names files reply

-- all are read
abbrev pub AreRead : List (List ℕ) → (List ℕ → Known) → List Module → Type 0
AreRead names files ms = (steps : ℕ) (stats : Bool) (reply : Reply) → LinkGives steps stats ms reply → FilesGive steps stats [] names files reply

-- why they aren't, which is what they give for any steps
abbrev pub AreRefused : List (List ℕ) → (List ℕ → Known) → Type 0 → Reply → Type 0
AreRefused names files failed reply = (steps : ℕ) (stats : Bool) → MayFail failed (FilesGive steps stats [] names files) reply
