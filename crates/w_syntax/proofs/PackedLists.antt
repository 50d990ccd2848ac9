-- Lists of packed instructions, changed at a place or at the end.
use Rattle.std.proofs.Common.{◌≡◌, ℕ, zero, suc, ◌<◌, List, [], ◌∷◌, ◌++◌, length, get_or, set, refl, ap, ◌∙◌, arith}
use Rattle.std.specs.List.{flat_map}
use Rattle.w_syntax.specs.declared.instructions.Instr.{Instr}
use Rattle.w_syntax.specs.declared.packed.PackedInstr.{PackedInstr}
use Rattle.w_syntax.specs.Packed.{unpacked, unpacked_all}

pub unpacked_append : (ps qs : List PackedInstr) → unpacked_all (ps ++ qs) ≡ unpacked_all ps ++ unpacked_all qs
unpacked_append [] qs = refl
unpacked_append (p ∷ ps) qs = ap (λ (l : List Instr). unpacked p ∷ l) (unpacked_append ps qs)

-- one more at the end
pub unpacked_push : (now before : List PackedInstr) (p : PackedInstr) → now ≡ before ++ p ∷ [] → unpacked_all now ≡ unpacked_all before ++ unpacked p ∷ []
unpacked_push now before p e = ap unpacked_all e ∙ unpacked_append before (p ∷ [])

-- another one at a place
pub unpacked_set : (ps : List PackedInstr) (h : ℕ) (p : PackedInstr) → unpacked_all (set ps h p) ≡ set (unpacked_all ps) h (unpacked p)
unpacked_set [] h p = refl
unpacked_set (q ∷ qs) zero p = refl
unpacked_set (q ∷ qs) (suc h) p = ap (λ (l : List Instr). unpacked q ∷ l) (unpacked_set qs h p)

pub unpacked_length : (ps : List PackedInstr) → length (unpacked_all ps) ≡ length ps
unpacked_length [] = refl
unpacked_length (p ∷ ps) = ap suc (unpacked_length ps)

-- what a function makes of each instruction, joined
pub flat_map_unpacked : {B : Type 0} (f : Instr → List B) (ps : List PackedInstr) → flat_map (λ (p : PackedInstr). f (unpacked p)) ps ≡ flat_map f (unpacked_all ps)
flat_map_unpacked f [] = refl
flat_map_unpacked f (p ∷ ps) = ap (λ l. f (unpacked p) ++ l) (flat_map_unpacked f ps)

-- the instruction at a place is that of the packed one there
pub unpacked_get : (ps : List PackedInstr) (n : ℕ) (p : PackedInstr) → n < length ps → p ≡ get_or ps n p → unpacked p ≡ get_or (unpacked_all ps) n (unpacked p)
unpacked_get [] n p lt e = absurd (omega (arith, lt))
unpacked_get (q ∷ ps) zero p lt e = ap unpacked e
unpacked_get (q ∷ ps) (suc n) p lt e = unpacked_get ps n p (omega (arith, lt)) e
