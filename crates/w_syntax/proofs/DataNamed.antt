-- The list of a body names a data segment where its tree does.
use Rattle.std.proofs.Common.{◌≡◌, ℕ, ◌+◌, Bool, true, false, ◌||◌, List, [], ◌∷◌, ◌++◌, refl, sym, ap, ◌∙◌}
use Rattle.w_syntax.specs.declared.instructions.Instr.{Instr}
use Rattle.w_syntax.specs.declared.instructions.Instr.TheVariants as flat
use Rattle.w_syntax.specs.Code.{Code, Done, Plain, Block, If, IfElse}
use Rattle.w_syntax.specs.DataUses.{is_of_data, uses_data}
use Rattle.w_syntax.specs.Flat.{size, laid, whole}
use Rattle.w_syntax.specs.FlatData.{instr_of_data, some_of_data}
use Rattle.w_syntax.specs.declared.packed.PackedInstr.{PackedInstr}
use Rattle.w_syntax.specs.Packed.{unpacked, unpacked_all}

or_assoc : (a b c : Bool) → ((a || b) || c) ≡ (a || (b || c))
or_assoc true b c = refl
or_assoc false b c = refl

over : (xs ys : List Instr) → some_of_data (xs ++ ys) ≡ (some_of_data xs || some_of_data ys)
unfolding some_of_data
over [] ys = refl
over (x ∷ xs) ys = ap (λ (b : Bool). instr_of_data x || b) (over xs ys) ∙ sym (or_assoc (instr_of_data x) (some_of_data xs) (some_of_data ys))

laid_named : (k : ℕ) (c : Code) → some_of_data (laid k c) ≡ uses_data c
unfolding some_of_data laid uses_data
laid_named k Done = refl
laid_named k (Plain o r) = ap (λ (b : Bool). is_of_data o || b) (laid_named (k + 1) r)
laid_named k (Block kind b x r) =
    over (laid (k + 1) x) (flat.End ∷ laid (k + 2 + size x) r) ∙ rw (laid_named (k + 1) x, laid_named (k + 2 + size x) r) refl
laid_named k (If b x r) =
    over (laid (k + 1) x) (flat.End ∷ laid (k + 2 + size x) r) ∙ rw (laid_named (k + 1) x, laid_named (k + 2 + size x) r) refl
laid_named k (IfElse b x y r) =
    over (laid (k + 1) x) (flat.Else ∷ (laid (k + 2 + size x) y ++ flat.End ∷ laid (k + 3 + size x + size y) r))
    ∙ rw (over (laid (k + 2 + size x) y) (flat.End ∷ laid (k + 3 + size x + size y) r), laid_named (k + 1) x, laid_named (k + 2 + size x) y, laid_named (k + 3 + size x + size y) r) refl

or_false : (b : Bool) → (b || false) ≡ b
or_false true = refl
or_false false = refl

pub whole_named : (c : Code) → some_of_data (whole c) ≡ uses_data c
unfolding some_of_data
whole_named c = over (laid 0 c) (flat.End ∷ []) ∙ or_false (some_of_data (laid 0 c)) ∙ laid_named 0 c

-- a packed instruction names one
abbrev pub packed_of_data : PackedInstr → Bool
packed_of_data p = instr_of_data (unpacked p)

abbrev pub some_packed_of_data : List PackedInstr → Bool
some_packed_of_data ps = some_of_data (unpacked_all ps)

-- one packed instruction, and then the others
pub packed_step : (p : PackedInstr) (ps : List PackedInstr) → some_packed_of_data (p ∷ ps) ≡ (packed_of_data p || some_packed_of_data ps)
unfolding some_of_data
packed_step p ps = refl

pub no_packed : some_packed_of_data [] ≡ false
unfolding some_of_data
no_packed = refl
