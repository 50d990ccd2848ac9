-- A body's list needs as many data segments as its tree.
use Rattle.std.proofs.Common.{◌≡◌, ℕ, ◌+◌, ◌<◌, max, false, List, [], ◌∷◌, ◌++◌, length, take, get_or, refl, sym, ap, ◌∙◌, arith}
use Rattle.std.specs.Prelude.{◌||◌, Bool, true}
use Rattle.std.proofs.lemmas.List.{take_more}
use Rattle.w_syntax.specs.Code.{Code, Done, Plain, Block, If, IfElse}
use Rattle.w_syntax.specs.DataUses.{is_of_data, uses_data}
use Rattle.w_syntax.specs.Flat.{size, laid, whole}
use Rattle.w_syntax.specs.declared.instructions.Instr.TheVariants as flat
use Rattle.w_syntax.specs.declared.instructions.Op.{Op}
use Rattle.w_syntax.specs.declared.instructions.Op.TheVariants as op
use Rattle.w_syntax.specs.declared.memory_instructions.MemoryOp.TheVariants as memory
use Rattle.w_syntax.specs.declared.packed.PackedInstr.{PackedInstr}
use Rattle.w_syntax.specs.Packed.{unpacked, unpacked_all}
use Rattle.w_rules.specs.DataNeeds.{op_needs, instr_needs, needs}

-- the most that an item of a list needs
abbrev pub most_of : {X : Type 0} → (X → ℕ) → List X → ℕ
most_of f [] = 0
most_of f (x ∷ xs) = max (f x) (most_of f xs)

max_nested : (a b c : ℕ) → max (max a b) c ≡ max a (max b c)
max_nested a b c = omega arith

most_append : {X : Type 0} (f : X → ℕ) (xs ys : List X) → most_of f (xs ++ ys) ≡ max (most_of f xs) (most_of f ys)
most_append f [] ys = omega arith
most_append f (x ∷ xs) ys = ap (max (f x)) (most_append f xs ys) ∙ sym (max_nested (f x) (most_of f xs) (most_of f ys))

-- one item more
pub most_more : {X : Type 0} (f : X → ℕ) (xs : List X) (i n : ℕ) (x : X) → i < length xs → x ≡ get_or xs i x → n ≡ most_of f (take i xs)
    → max n (f x) ≡ most_of f (take (i + 1) xs)
most_more f xs i n x lt e h =
    let one : max (f x) 0 ≡ f x = omega arith in
    let more : take (i + 1) xs ≡ take i xs ++ x ∷ [] = take_more xs i x lt ∙ ap (λ y. take i xs ++ y ∷ []) (sym e) in
    ap (λ (m : ℕ). max m (f x)) h ∙ ap (max (most_of f (take i xs))) (sym one) ∙ sym (most_append f (take i xs) (x ∷ [])) ∙ ap (most_of f) (sym more)

-- what packed instructions need
abbrev pub packed_needs : PackedInstr → ℕ
packed_needs p = instr_needs (unpacked p)

most_unpacked : (ps : List PackedInstr) → most_of packed_needs ps ≡ most_of instr_needs (unpacked_all ps)
most_unpacked [] = refl
most_unpacked (p ∷ ps) = ap (max (packed_needs p)) (most_unpacked ps)

most_laid : (k : ℕ) (c : Code) → most_of instr_needs (laid k c) ≡ needs c
unfolding laid
most_laid k Done = refl
most_laid k (Plain o r) = ap (max (op_needs o)) (most_laid (k + 1) r)
most_laid k (Block kind b x r) =
    let e = most_append instr_needs (laid (k + 1) x) (flat.End ∷ laid (k + 2 + size x) r) in
    let f = most_laid (k + 1) x in
    let g = most_laid (k + 2 + size x) r in omega (arith, e, f, g)
most_laid k (If b x r) =
    let e = most_append instr_needs (laid (k + 1) x) (flat.End ∷ laid (k + 2 + size x) r) in
    let f = most_laid (k + 1) x in
    let g = most_laid (k + 2 + size x) r in omega (arith, e, f, g)
most_laid k (IfElse b x y r) =
    let e = most_append instr_needs (laid (k + 1) x) (flat.Else ∷ (laid (k + 2 + size x) y ++ flat.End ∷ laid (k + 3 + size x + size y) r)) in
    let d = most_append instr_needs (laid (k + 2 + size x) y) (flat.End ∷ laid (k + 3 + size x + size y) r) in
    let f = most_laid (k + 1) x in
    let g = most_laid (k + 2 + size x) y in
    let h = most_laid (k + 3 + size x + size y) r in omega (arith, e, d, f, g, h)

most_whole : (c : Code) → most_of instr_needs (whole c) ≡ needs c
most_whole c = let e = most_append instr_needs (laid 0 c) (flat.End ∷ []) in let f = most_laid 0 c in omega (arith, e, f)

-- and so does the packed list of a body
pub most_packed : (ps : List PackedInstr) (c : Code) → unpacked_all ps ≡ whole c → most_of packed_needs ps ≡ needs c
most_packed ps c e = most_unpacked ps ∙ ap (most_of instr_needs) e ∙ most_whole c

-- ## Bodies that name none

neither : (a b : Bool) → a || b ≡ false → (a ≡ false) × (b ≡ false)
neither false false e = (refl, refl)
neither false true e = absurd cc
neither true b e = absurd cc

op_none : (o : Op) → is_of_data o ≡ false → op_needs o ≡ 0
op_none (op.Memory (memory.Init d x)) e = absurd cc
op_none (op.Memory (memory.DataDrop d)) e = absurd cc
op_none (op.Memory (memory.Load o a)) e = refl
op_none (op.Memory (memory.Store o a)) e = refl
op_none (op.Memory (memory.Size x)) e = refl
op_none (op.Memory (memory.Grow x)) e = refl
op_none (op.Memory (memory.Copy x y)) e = refl
op_none (op.Memory (memory.Fill x)) e = refl
op_none (op.Control o) e = refl
op_none (op.Parametric o) e = refl
op_none (op.Variable o) e = refl
op_none (op.Table o) e = refl
op_none (op.Numeric o) e = refl
op_none (op.Reference o) e = refl
op_none (op.Switching o) e = refl

pub none_needed : (c : Code) → uses_data c ≡ false → needs c ≡ 0
unfolding uses_data
none_needed Done e = refl
none_needed (Plain o r) e =
    let n = neither (is_of_data o) (uses_data r) e in
    let a = op_none o n.0 in
    let b = none_needed r n.1 in omega (arith, a, b)
none_needed (Block kind b x r) e =
    let n = neither (uses_data x) (uses_data r) e in
    let a = none_needed x n.0 in
    let c = none_needed r n.1 in omega (arith, a, c)
none_needed (If b x r) e =
    let n = neither (uses_data x) (uses_data r) e in
    let a = none_needed x n.0 in
    let c = none_needed r n.1 in omega (arith, a, c)
none_needed (IfElse b x y r) e =
    let n = neither (uses_data x) (uses_data y || uses_data r) e in
    let m = neither (uses_data y) (uses_data r) n.1 in
    let a = none_needed x n.0 in
    let c = none_needed y m.0 in
    let d = none_needed r m.1 in omega (arith, a, c, d)
