-- A constant expression by its list.
use Rattle.std.proofs.Common.{◌↔◌, ◌≡◌, sym, subst, ℕ, ◌+◌, List, ◌∷◌, [], ◌++◌, IsTrue, refl}
use Rattle.std.specs.List.{All, AllByRecursion}
use Rattle.std.proofs.lemmas.List.Elements.{All-from_recursion, recursion_from_All}
use Rattle.lists.proofs.Tests.{each_of}
use Rattle.w_syntax.specs.Code.{Code, Done, Plain, Block, If, IfElse}
use Rattle.w_syntax.specs.Flat.{laid, whole}
use Rattle.w_syntax.specs.declared.instructions.Instr.{Instr}
use Rattle.w_syntax.specs.declared.instructions.Instr.TheVariants as flat
use Rattle.w_syntax.specs.declared.packed.PackedInstr.{PackedInstr}
use Rattle.w_syntax.specs.Packed.{unpacked, unpacked_all}
use Rattle.w_canon.proofs.TestsOfLists.{and_both}
use Rattle.w_rules.specs.Bodies.{is_const, all_const}
use Rattle.w_rules.specs.Context.{Context}
use Rattle.w_bodies.specs.Constants.{is_const_at}

-- the instruction may stand in the list
abbrev pub MayStand : Context → Instr → Type 0
MayStand c i = IsTrue (is_const_at c i)

laid_const : (c : Context) (n : ℕ) (k : Code) → AllByRecursion (MayStand c) (laid n k ++ flat.End ∷ []) ↔ IsTrue (all_const c k)
unfolding laid
laid_const c n Done = (λ h. refl, λ h. (refl, tt))
laid_const c n (Plain o k) = (
  λ h. and_both (is_const c o) (all_const c k) h.0 ((laid_const c (n + 1) k).0 h.1),
  λ h. let e = each_of (is_const c o) (all_const c k) h in (e.0, (laid_const c (n + 1) k).1 e.1),
)
laid_const c n (Block kind x b k) = (λ h. let e = h.0 in absurd (cc), λ h. absurd (cc))
laid_const c n (If x b k) = (λ h. let e = h.0 in absurd (cc), λ h. absurd (cc))
laid_const c n (IfElse x b d k) = (λ h. let e = h.0 in absurd (cc), λ h. absurd (cc))

-- the packed instruction may stand in the list
abbrev pub MayStandPacked : Context → PackedInstr → Type 0
MayStandPacked c p = MayStand c (unpacked p)

unpacked_may : (c : Context) (ps : List PackedInstr) → AllByRecursion (MayStandPacked c) ps ↔ AllByRecursion (MayStand c) (unpacked_all ps)
unpacked_may c [] = (λ h. h, λ h. h)
unpacked_may c (p ∷ ps) = (λ h. (h.0, (unpacked_may c ps).0 h.1), λ h. (h.0, (unpacked_may c ps).1 h.1))

-- each packed instruction of the list may stand in it exactly where the expression is constant
pub whole_const : (c : Context) (ps : List PackedInstr) (k : Code) → unpacked_all ps ≡ whole k → All (MayStandPacked c) ps ↔ IsTrue (all_const c k)
whole_const c ps k e = (
  λ h. (laid_const c 0 k).0 (subst (AllByRecursion (MayStand c)) e ((unpacked_may c ps).0 (recursion_from_All (MayStandPacked c) ps h))),
  λ h. All-from_recursion (MayStandPacked c) ps ((unpacked_may c ps).1 (subst (AllByRecursion (MayStand c)) (sym e) ((laid_const c 0 k).1 h))),
)
