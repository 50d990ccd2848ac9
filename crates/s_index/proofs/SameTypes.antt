-- Lists of types that are the same.
use Rattle.std.proofs.Common.{◌≡◌, suc, Bool, true, false, ◌&&◌, List, [], ◌∷◌, length, refl, ap, ◌∙◌}
use Rattle.w_types.specs.declared.types.ValType.{ValType}
use Rattle.w_syntax.specs.Locals.{same_kind}
use Rattle.s_index.specs.Types.{same_kinds}

and_not : (b : Bool) → (b && false) ≡ false
and_not true = refl
and_not false = refl

-- lists of other lengths aren't
pub other_lengths : (ts us : List ValType) → (length ts ≡ length us → ⊥) → same_kinds ts us ≡ false
other_lengths [] [] h = absurd (h refl)
other_lengths [] (u ∷ us) h = refl
other_lengths (t ∷ ts) [] h = refl
other_lengths (t ∷ ts) (u ∷ us) h = ap (λ (b : Bool). same_kind t u && b) (other_lengths ts us (λ e. h (ap suc e))) ∙ and_not (same_kind t u)
