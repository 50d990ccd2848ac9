-- A body whose list has two instructions is one instruction, and its end; and no other body is.
use Rattle.std.proofs.Common.{◌≡◌, ◌+◌, List, [], ◌∷◌, ◌++◌, length, get_or, Option, Some, None, refl, sym, ap, ◌∙◌, arith}
use Rattle.std.specs.Prelude.{option_map}
use Rattle.std.proofs.lemmas.List.{length-append}
use Rattle.w_syntax.specs.declared.instructions.Instr.{Instr}
use Rattle.w_syntax.specs.declared.instructions.Instr.TheVariants as flat
use Rattle.w_syntax.specs.declared.packed.PackedInstr.{PackedInstr}
use Rattle.w_syntax.specs.Code.{Code, Done, Plain, Block, If, IfElse}
use Rattle.w_syntax.specs.Flat.{laid, only, size, whole}
use Rattle.w_syntax.specs.Packed.{unpacked, unpacked_all}
use Rattle.w_syntax.proofs.PackedLists.{unpacked_length}

-- the instruction of the list that stands for it
abbrev pub laid_only : Code → Option Instr
laid_only c = option_map (λ o. flat.Plain o) (only c)

-- two instructions are one, and its end
two_are : (c : Code) (i j : Instr) → whole c ≡ i ∷ j ∷ [] → Some i ≡ laid_only c
unfolding laid
two_are Done i j e = absurd cc
two_are (Plain p Done) i j e = cc
two_are (Plain p (Plain q r)) i j e = absurd (omega (arith, ap length e, length-append (laid 2 r) (flat.End ∷ [])))
two_are (Plain p (Block k b x r)) i j e =
    absurd (omega (arith, ap length e, length-append (laid 2 x ++ flat.End ∷ laid (3 + size x) r) (flat.End ∷ []), length-append (laid 2 x) (flat.End ∷ laid (3 + size x) r)))
two_are (Plain p (If b x r)) i j e =
    absurd (omega (arith, ap length e, length-append (laid 2 x ++ flat.End ∷ laid (3 + size x) r) (flat.End ∷ []), length-append (laid 2 x) (flat.End ∷ laid (3 + size x) r)))
two_are (Plain p (IfElse b x y r)) i j e =
    let rest = laid (3 + size x) y ++ flat.End ∷ laid (4 + size x + size y) r in
    absurd (omega (arith, ap length e, length-append (laid 2 x ++ flat.Else ∷ rest) (flat.End ∷ []), length-append (laid 2 x) (flat.Else ∷ rest)))
two_are (Block k b x r) i j e = absurd (omega (arith, ap length e, length-append (laid 1 x ++ flat.End ∷ laid (2 + size x) r) (flat.End ∷ []), length-append (laid 1 x) (flat.End ∷ laid (2 + size x) r)))
two_are (If b x r) i j e = absurd (omega (arith, ap length e, length-append (laid 1 x ++ flat.End ∷ laid (2 + size x) r) (flat.End ∷ []), length-append (laid 1 x) (flat.End ∷ laid (2 + size x) r)))
two_are (IfElse b x y r) i j e =
    let rest = laid (2 + size x) y ++ flat.End ∷ laid (3 + size x + size y) r in
    absurd (omega (arith, ap length e, length-append (laid 1 x ++ flat.Else ∷ rest) (flat.End ∷ []), length-append (laid 1 x) (flat.Else ∷ rest)))

-- the packed instruction at the front of two is all
pub front_only : (c : Code) (ps : List PackedInstr) (p : PackedInstr) → unpacked_all ps ≡ whole c → p ≡ get_or ps 0 p → length ps ≡ 2 → Some (unpacked p) ≡ laid_only c
front_only c [] p e f l = absurd (omega (arith, l))
front_only c (q ∷ []) p e f l = absurd (omega (arith, l))
front_only c (q ∷ r ∷ []) p e f l = two_are c (unpacked p) (unpacked r) (sym e ∙ ap (λ (n : PackedInstr). unpacked n ∷ unpacked r ∷ []) (sym f))
front_only c (q ∷ r ∷ t ∷ ps) p e f l = absurd (omega (arith, l))

-- a list of another length is none
others_are : (c : Code) → (length (whole c) ≡ 2 → ⊥) → None ≡ laid_only c
unfolding laid
others_are Done h = refl
others_are (Plain o Done) h = absurd (h refl)
others_are (Plain o (Plain p r)) h = refl
others_are (Plain o (Block k b x r)) h = refl
others_are (Plain o (If b x r)) h = refl
others_are (Plain o (IfElse b x y r)) h = refl
others_are (Block k b x r) h = refl
others_are (If b x r) h = refl
others_are (IfElse b x y r) h = refl

-- nor is one whose packed list has another
pub none_only : (c : Code) (ps : List PackedInstr) → unpacked_all ps ≡ whole c → (length ps ≡ 2 → ⊥) → None ≡ laid_only c
none_only c ps e h = others_are c (λ two. h (sym (unpacked_length ps) ∙ ap length e ∙ two))
