-- Functions that name data segments, one function after another.
use Rattle.std.proofs.Common.{◌≡◌, false, ◌||◌, List, [], ◌∷◌, refl}
use Rattle.w_syntax.specs.DataUses.{uses_data}
use Rattle.w_syntax.specs.Module.{any_uses_data}
use Rattle.w_syntax.specs.declared.module.Func.{Func}

-- one function, and then the others
pub name_step : (f : Func) (fs : List Func) → any_uses_data (f ∷ fs) ≡ (uses_data f.body || any_uses_data fs)
unfolding any_uses_data
name_step f fs = refl

pub no_name : any_uses_data [] ≡ false
unfolding any_uses_data
no_name = refl
