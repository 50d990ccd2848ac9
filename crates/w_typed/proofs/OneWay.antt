-- What tests and conditions say that came out one way.
use Rattle.std.proofs.Common.{◌≡◌, Bool, true, false, ◌&&◌, IsTrue, if◌then◌else◌, Option, Some, None, refl}

-- what is there once is the same
pub some_same : {A : Type 0} {a b : A} → Some a ≡ Some b → a ≡ b
some_same e = cc

-- two tests that hold
pub both_hold : (a b : Bool) → IsTrue (a && b) → IsTrue a × IsTrue b
both_hold true b h = (refl, h)
both_hold false b h = absurd (cc)

-- where there is something, the condition holds that it was under
pub chosen : {A : Type 0} (b : Bool) (o : Option A) (a : A) → (if b then o else None) ≡ Some a → IsTrue b × (o ≡ Some a)
chosen true o a h = (refl, h)
chosen false o a h = absurd (cc)
