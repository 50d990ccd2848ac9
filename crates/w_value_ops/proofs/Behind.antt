-- Where a stack stands behind an instruction: at the next one, in the same levels.
use Rattle.std.proofs.Common.{◌≡◌, ℕ, ◌+◌, refl, sym, subst}
use Rattle.w_types.specs.declared.value.Value.{Value}
use Rattle.w_segment.specs.declared.entry.Stage.TheVariants.{Body}
use Rattle.w_segment.specs.Shape.{Shape}
use Rattle.w_segment.specs.Changes.{moved, discarded}
use Rattle.w_stands.proofs.PlainSteps.{Next}
use Rattle.w_stands.specs.GoingOn.{replaced}

-- with a value in place of operands
pub replaced_next : (n : ℕ) (v : Value) (s s' : Shape) → s' ≡ replaced n v s → s.stage ≡ Body → Next s s'
replaced_next n v s s' after stage = subst (Next s) (sym after) (record { levels = refl; func = refl; place = refl; stage = stage; capacity = refl })

-- without operands
pub discarded_next : (n : ℕ) (s s' : Shape) → s' ≡ moved (s.place + 1) (discarded n s) → s.stage ≡ Body → Next s s'
discarded_next n s s' after stage = subst (Next s) (sym after) (record { levels = refl; func = refl; place = refl; stage = stage; capacity = refl })
