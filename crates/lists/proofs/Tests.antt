-- Tests, and what they tell.
use Rattle.std.proofs.Common.{◌≡◌, ◌↔◌, Bool, true, false, not, IsTrue, ◌&&◌, refl, sym, ◌∙◌}
use Rattle.std.specs.Prelude.{◌||◌}

-- where both hold, each does
pub each_of : (a b : Bool) → (a && b) ≡ true → (a ≡ true) × (b ≡ true)
each_of true b e = (refl, e)
each_of false b e = absurd (cc)

-- an equal test tells the same
pub decided_by : (r t : Bool) {P : Type 0} → r ≡ t → IsTrue t ↔ P → IsTrue r ↔ P
decided_by r t e h = (λ u. h.0 (sym e ∙ u), λ p. e ∙ h.1 p)

-- two tests
pub both_decided : (b c : Bool) {P Q : Type 0} → IsTrue b ↔ P → IsTrue c ↔ Q → IsTrue (b && c) ↔ (P × Q)
both_decided true c h k = (λ t. (h.0 refl, k.0 t), λ p. k.1 p.1)
both_decided false c h k = (λ t. absurd (cc), λ p. h.1 p.0)

-- a test, and another where the first is false
pub either_decided : (b c : Bool) {P : Type 0} → (IsTrue b → P) → (b ≡ false → IsTrue c ↔ P) → IsTrue (b || c) ↔ P
either_decided true c h k = (λ t. h refl, λ p. refl)
either_decided false c h k = k refl

-- a test that is to be true where the first is
pub implied_decided : (b c : Bool) → IsTrue (not b || c) ↔ (IsTrue b → IsTrue c)
implied_decided true c = (λ t u. t, λ f. f refl)
implied_decided false c = (λ t u. absurd (cc), λ f. refl)
