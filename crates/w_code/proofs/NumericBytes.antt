-- Opcodes of numeric instructions.
use Rattle.std.proofs.Common.{◌≡◌, ℕ, ◌≤◌, true, List, ◌∷◌, Some, None, refl, ap, ◌∙◌, arith, ◌⊎◌, inl, inr}
use Rattle.w_leb.specs.Format.{byte, never}
use Rattle.w_leb.specs.Formats.{constant}
use Rattle.w_syntax.specs.Tokens.{arithmetic, arithmetics, comparison, comparisons, numeric_op, numerics}
use Rattle.w_syntax.specs.declared.numeric.Binop.TheVariants as binary
use Rattle.w_syntax.specs.declared.numeric.NumericOp.TheVariants as numeric
use Rattle.w_code.specs.Opcodes.{Between, Selects, worked_type}
use Rattle.w_code.proofs.OpcodeTables.{free, passes}
use Rattle.w_code.proofs.ShortItems.{in_front}

-- the opcodes of the last operation on two integers
pub last_binary : (k : ℕ) → (k ≡ 0x78) ⊎ (k ≡ 0x8A) → Selects numeric_op k (constant (numeric.Binary (worked_type k) binary.Rotr))
unfolding numeric_op comparison arithmetic
last_binary k (inl e) rest = rw e refl
last_binary k (inr e) rest = rw e refl

-- bytes between the opcodes
abbrev pub IsNoNumeric : ℕ → Type 0
IsNoNumeric k = (k ≤ 0x40) ⊎ Between 0x43 0x44 k ⊎ Between 0x5B 0x66 k ⊎ Between 0x8B 0xA6 k ⊎ Between 0xA8 0xAB k ⊎ Between 0xAE 0xBF k ⊎ Between 0xC5 0xFF k

none_within : (k lo hi : ℕ) (rest : List ℕ) → free lo hi numerics ≡ true → free lo hi comparisons ≡ true → free lo hi arithmetics ≡ true → lo ≤ k → k ≤ hi → numeric_op.read (k ∷ rest) ≡ None
unfolding numeric_op comparison arithmetic
none_within k lo hi rest f g h l u =
    passes numerics comparison.read lo hi k (k ∷ rest) rest f l u
    ∙ passes comparisons arithmetic.read lo hi k (k ∷ rest) rest g l u
    ∙ passes arithmetics never lo hi k (k ∷ rest) rest h l u

pub none_at : (k : ℕ) (rest : List ℕ) → IsNoNumeric k → numeric_op.read (k ∷ rest) ≡ None
none_at k rest (inl u) = none_within k 0 0x40 rest refl refl refl (omega arith) u
none_at k rest (inr (inl h)) = none_within k 0x43 0x44 rest refl refl refl h.0 h.1
none_at k rest (inr (inr (inl h))) = none_within k 0x5B 0x66 rest refl refl refl h.0 h.1
none_at k rest (inr (inr (inr (inl h)))) = none_within k 0x8B 0xA6 rest refl refl refl h.0 h.1
none_at k rest (inr (inr (inr (inr (inl h))))) = none_within k 0xA8 0xAB rest refl refl refl h.0 h.1
none_at k rest (inr (inr (inr (inr (inr (inl h)))))) = none_within k 0xAE 0xBF rest refl refl refl h.0 h.1
none_at k rest (inr (inr (inr (inr (inr (inr h)))))) = none_within k 0xC5 0xFF rest refl refl refl h.0 h.1

-- no numeric instruction begins with such a byte
pub no_numeric : (b rest : List ℕ) (k : ℕ) → byte b ≡ Some (k, rest) → IsNoNumeric k → numeric_op.read b ≡ None
no_numeric b rest k s h = ap numeric_op.read (in_front b rest k s) ∙ none_at k rest h
