-- The list of a body whose code has addresses in the place of indices.
use Rattle.std.proofs.Common.{◌≡◌, ℕ, ◌+◌, List, [], ◌∷◌, ◌++◌, map, refl, sym, ap, ◌∙◌}
use Rattle.w_syntax.specs.declared.instructions.Instr.TheVariants as flat
use Rattle.w_syntax.specs.Code.{Code, Done, Plain, Block, If, IfElse}
use Rattle.w_syntax.specs.Flat.{laid, size, whole}
use Rattle.w_link.specs.Resolved.{Instance, code_resolved}
use Rattle.w_resolve.specs.Instructions.{instr_resolved}

-- as many instructions as before
size_same : (i : Instance) (c : Code) → size (code_resolved i c) ≡ size c
unfolding size
size_same i Done = refl
size_same i (Plain o r) = ap (λ n. 1 + n) (size_same i r)
size_same i (Block kind b x r) = rw (size_same i x, size_same i r) refl
size_same i (If b x r) = rw (size_same i x, size_same i r) refl
size_same i (IfElse b x y r) = rw (size_same i x, size_same i y, size_same i r) refl

map_append : {A B : Type 0} (f : A → B) (xs ys : List A) → map f (xs ++ ys) ≡ map f xs ++ map f ys
map_append f [] ys = refl
map_append f (x ∷ xs) ys = ap (λ zs. f x ∷ zs) (map_append f xs ys)

-- laid out, each instruction is resolved, and each place is as before
laid_resolved : (i : Instance) (c : Code) (k : ℕ) → laid k (code_resolved i c) ≡ map (instr_resolved i) (laid k c)
unfolding laid
laid_resolved i Done k = refl
laid_resolved i (Plain o r) k = ap (λ l. instr_resolved i (flat.Plain o) ∷ l) (laid_resolved i r (k + 1))
laid_resolved i (Block kind b x r) k =
    rw (size_same i x, laid_resolved i x (k + 1), laid_resolved i r (k + 2 + size x), map_append (instr_resolved i) (laid (k + 1) x) (flat.End ∷ laid (k + 2 + size x) r)) refl
laid_resolved i (If b x r) k =
    rw (size_same i x, laid_resolved i x (k + 1), laid_resolved i r (k + 2 + size x), map_append (instr_resolved i) (laid (k + 1) x) (flat.End ∷ laid (k + 2 + size x) r)) refl
laid_resolved i (IfElse b x y r) k =
    let l2 = laid (k + 2 + size x) y in
    let l3 = laid (k + 3 + size x + size y) r in
    rw (size_same i x, size_same i y, laid_resolved i x (k + 1), laid_resolved i y (k + 2 + size x), laid_resolved i r (k + 3 + size x + size y))
    (rw (map_append (instr_resolved i) (laid (k + 1) x) (flat.Else ∷ (l2 ++ flat.End ∷ l3)), map_append (instr_resolved i) l2 (flat.End ∷ l3)) refl)

-- with its end
pub whole_resolved : (i : Instance) (c : Code) → map (instr_resolved i) (whole c) ≡ whole (code_resolved i c)
whole_resolved i c = map_append (instr_resolved i) (laid 0 c) (flat.End ∷ []) ∙ ap (λ l. l ++ flat.End ∷ []) (sym (laid_resolved i c 0))
