-- Numeric and memory instructions are tokens: no table before theirs has their first bytes.
use Rattle.std.proofs.Common.{◌≡◌, ℕ, ◌≤◌, ◌<◌, ◌⊎◌, inl, inr, Bool, true, false, cond, List, [], ◌∷◌, Some, refl, sym, ap, ◌∙◌, arith}
use Rattle.std.specs.Prelude.{nat_eq}
use Rattle.w_leb.specs.Format.{Format, Reading, byte, then, image, chosen, never}
use Rattle.w_leb.specs.Formats.{constant}
use Rattle.w_syntax.specs.Types.{entries_of}
use Rattle.w_syntax.specs.Tokens.{accesses, controls, instruction, memory_op, numeric_op, other, others, plain, token, tokens_by_byte}
use Rattle.w_syntax.specs.declared.instructions.Op.{Op}
use Rattle.w_syntax.specs.declared.instructions.Op.TheVariants as op
use Rattle.w_syntax.specs.declared.instructions.ControlOp.TheVariants as control
use Rattle.w_syntax.specs.declared.instructions.ParametricOp.TheVariants as parametric
use Rattle.w_syntax.specs.declared.instructions.Token.TheVariants as tok
use Rattle.w_syntax.specs.declared.memory_instructions.MemoryOp.{MemoryOp}
use Rattle.w_syntax.specs.declared.numeric.NumericOp.{NumericOp}
use Rattle.w_code.proofs.ShortItems.{in_front}
use Rattle.w_code.specs.Opcodes.{Between, Selects}
use Rattle.w_code.proofs.NumericBytes.{none_at}
use Rattle.w_code.proofs.OpcodeTables.{around, free, passes, selected}

-- ## Instructions that are neither marks nor control instructions

other_token : (lo hi k : ℕ) (rest : List ℕ) → free lo hi tokens_by_byte ≡ true → free lo hi (entries_of op.Control controls) ≡ true → lo ≤ k → k ≤ hi
    → token.read (k ∷ rest) ≡ image tok.Plain other.read (k ∷ rest)
unfolding token instruction
other_token lo hi k rest f g l h =
    passes tokens_by_byte (image tok.Plain instruction.read) lo hi k (k ∷ rest) rest f l h
    ∙ ap (λ o. then o (λ (x : Op) (more : List ℕ). Some (tok.Plain x, more))) (passes (entries_of op.Control controls) other.read lo hi k (k ∷ rest) rest g l h)

plain_token : (lo hi k : ℕ) (rest : List ℕ) → free lo hi tokens_by_byte ≡ true → free lo hi (entries_of op.Control controls) ≡ true → free lo hi others ≡ true → lo ≤ k → k ≤ hi
    → token.read (k ∷ rest) ≡ image tok.Plain plain.read (k ∷ rest)
unfolding other
plain_token lo hi k rest f g o l h =
    other_token lo hi k rest f g l h
    ∙ ap (λ o. then o (λ (x : Op) (more : List ℕ). Some (tok.Plain x, more))) (passes others plain.read lo hi k (k ∷ rest) rest o l h)

-- ## Numeric instructions

numeric_byte : (k : ℕ) (rest after : List ℕ) (o : NumericOp) → 0x41 ≤ k → k ≤ 0xC4 → numeric_op.read (k ∷ rest) ≡ Some (o, after) → token.read (k ∷ rest) ≡ Some (tok.Plain (op.Numeric o), after)
unfolding plain
numeric_byte k rest after o l h e =
    plain_token 0x41 0xC4 k rest refl refl refl l h
    ∙ ap (λ o. then o (λ (x : Op) (more : List ℕ). Some (tok.Plain x, more))) (passes (entries_of op.Memory accesses) (image op.Numeric numeric_op.read) 0x41 0xC4 k (k ∷ rest) rest refl l h)
    ∙ ap (λ o. then (then o (λ (x : NumericOp) (more : List ℕ). Some (op.Numeric x, more))) (λ (x : Op) (more : List ℕ). Some (tok.Plain x, more))) e

numeric_within : (k : ℕ) (rest after : List ℕ) (o : NumericOp) → k ≤ 0xFF → numeric_op.read (k ∷ rest) ≡ Some (o, after) → Between 0x41 0xC4 k
numeric_within k rest after o u e = by (around k 0x41 0xC4)
  where
    by : (k < 0x41) ⊎ Between 0x41 0xC4 k ⊎ (0xC4 < k) → Between 0x41 0xC4 k
    by (inl l) = let n = sym (none_at k rest (inl (omega arith))) ∙ e in absurd cc
    by (inr (inl h)) = h
    by (inr (inr h)) = let n = sym (none_at k rest (inr (inr (inr (inr (inr (inr (omega arith, u)))))))) ∙ e in absurd cc

pub numeric_token : (b rest after : List ℕ) (k : ℕ) (o : NumericOp) → k ≤ 0xFF → byte b ≡ Some (k, rest) → numeric_op.read b ≡ Some (o, after) → token.read b ≡ Some (tok.Plain (op.Numeric o), after)
numeric_token b rest after k o u s e =
    let f = in_front b rest k s in
    let n = sym (ap numeric_op.read f) ∙ e in
    let within = numeric_within k rest after o u n in
    ap token.read f ∙ numeric_byte k rest after o within.0 within.1 n

-- a numeric instruction that is its opcode alone is such a token
pub numeric_alone : (k : ℕ) (o : NumericOp) → 0x41 ≤ k → k ≤ 0xC4 → Selects numeric_op k (constant o) → Selects token k (constant (tok.Plain (op.Numeric o)))
numeric_alone k o l h n rest = numeric_byte k rest rest o l h (n rest)

-- ## Memory instructions

-- what a table reads, a table of the same entries and others behind it reads too
entries_some : {A B : Type 0} (f : A → B) (t : List (ℕ × Format A)) (r : Reading B) (k : ℕ) (all rest after : List ℕ) (x : A) → chosen t never k all rest ≡ Some (x, after)
    → chosen (entries_of f t) r k all rest ≡ Some (f x, after)
entries_some f [] r k all rest after x e = absurd cc
entries_some {A} {B} f (c ∷ t) r k all rest after x e = by (nat_eq k c.0) (entries_some f t r k all rest after x) e
  where
    by : (b : Bool) → (chosen t never k all rest ≡ Some (x, after) → chosen (entries_of f t) r k all rest ≡ Some (f x, after))
        → cond b (c.1.read rest) (chosen t never k all rest) ≡ Some (x, after) → cond b (image f c.1.read rest) (chosen (entries_of f t) r k all rest) ≡ Some (f x, after)
    by true else_read h = ap (λ o. then o (λ (y : A) (more : List ℕ). Some (f y, more))) h
    by false else_read h = else_read h

memory_byte : (k : ℕ) (rest after : List ℕ) (o : MemoryOp) → 0x28 ≤ k → k ≤ 0x40 → memory_op.read (k ∷ rest) ≡ Some (o, after) → token.read (k ∷ rest) ≡ Some (tok.Plain (op.Memory o), after)
unfolding plain memory_op
memory_byte k rest after o l h e =
    plain_token 0x28 0x40 k rest refl refl refl l h
    ∙ ap (λ o. then o (λ (x : Op) (more : List ℕ). Some (tok.Plain x, more))) (entries_some op.Memory accesses (image op.Numeric numeric_op.read) k (k ∷ rest) rest after o e)

memory_within : (k : ℕ) (rest after : List ℕ) (o : MemoryOp) → k ≤ 0xFF → memory_op.read (k ∷ rest) ≡ Some (o, after) → Between 0x28 0x40 k
unfolding memory_op
memory_within k rest after o u e = by (around k 0x28 0x40)
  where
    by : (k < 0x28) ⊎ Between 0x28 0x40 k ⊎ (0x40 < k) → Between 0x28 0x40 k
    by (inl l) = let n = sym (passes accesses never 0 0x27 k (k ∷ rest) rest refl (omega arith) (omega arith)) ∙ e in absurd cc
    by (inr (inl h)) = h
    by (inr (inr h)) = let n = sym (passes accesses never 0x41 0xFF k (k ∷ rest) rest refl (omega arith) u) ∙ e in absurd cc

pub memory_token : (b rest after : List ℕ) (k : ℕ) (o : MemoryOp) → k ≤ 0xFF → byte b ≡ Some (k, rest) → memory_op.read b ≡ Some (o, after) → token.read b ≡ Some (tok.Plain (op.Memory o), after)
memory_token b rest after k o u s e =
    let f = in_front b rest k s in
    let m = sym (ap memory_op.read f) ∙ e in
    let within = memory_within k rest after o u m in
    ap token.read f ∙ memory_byte k rest after o within.0 within.1 m

-- ## Instructions that are their opcode alone

pub alone_token : (b rest : List ℕ) (k : ℕ) (o : Op) → byte b ≡ Some (k, rest) → Selects token k (constant (tok.Plain o)) → token.read b ≡ Some (tok.Plain o, rest)
alone_token b rest k o s h = selected token (constant (tok.Plain o)) b rest k s h

pub bare_unreachable : Selects token 0x00 (constant (tok.Plain (op.Control control.Unreachable)))
unfolding token instruction
bare_unreachable rest = refl

pub bare_nop : Selects token 0x01 (constant (tok.Plain (op.Control control.Nop)))
unfolding token instruction
bare_nop rest = refl

pub bare_return : Selects token 0x0F (constant (tok.Plain (op.Control control.Return)))
unfolding token instruction
bare_return rest = refl

pub bare_drop : Selects token 0x1A (constant (tok.Plain (op.Parametric parametric.Drop)))
unfolding token instruction other
bare_drop rest = refl

pub bare_select : Selects token 0x1B (constant (tok.Plain (op.Parametric parametric.Select)))
unfolding token instruction other
bare_select rest = refl
