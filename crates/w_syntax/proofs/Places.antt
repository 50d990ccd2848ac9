-- Places in code: what is left of the innermost sequence at a place goes on with the instruction there.
use Rattle.std.proofs.Common.{◌≡◌, ℕ, zero, suc, ◌+◌, ◌-◌, ◌<◌, ◌≤◌, ◌⊎◌, inl, inr, Bool, List, [], ◌∷◌, ◌++◌, length, drop, Some, None, refl, sym, ap, subst, ◌∙◌, append_assoc, arith}
use Rattle.std.specs.Prelude.{slice_get}
use Rattle.std.proofs.lemmas.Bool.{cases_lt}
use Rattle.std.proofs.lemmas.List.{length-append}
use Rattle.w_syntax.specs.Code.{Code, Done, Plain, Block, If, IfElse}
use Rattle.w_syntax.specs.Flat.{size, laid, put, begun, first_of, tree_of, whole}
use Rattle.w_syntax.specs.FlatLaws.{begun_laid}
use Rattle.w_syntax.specs.declared.instructions.Op.{Op}
use Rattle.w_syntax.specs.declared.instructions.Instr.{Instr}
use Rattle.w_syntax.specs.declared.instructions.Instr.TheVariants as flat
use Rattle.w_syntax.proofs.Steps.{length-laid}

-- ## Where an instruction is, something is left

abbrev pub IsBegun : List (Bool × Code) → Type 0
IsBegun [] = ⊥
IsBegun (x ∷ s) = Unit {0}

past_front : (xs ys : List Instr) (n : ℕ) → drop (length xs + n) (xs ++ ys) ≡ drop n ys
past_front [] ys n = ap (λ (j : ℕ). drop j ys) (let z : 0 + n ≡ n = omega arith in z)
past_front (x ∷ xs) ys n = let e : suc (length xs) + n ≡ suc (length xs + n) = omega arith in rw e (past_front xs ys n)

starts : (c : Code) (k : ℕ) (is : List Instr) → IsBegun (begun is) → IsBegun (begun (laid k c ++ is))
starts c k is h = by (begun is) refl h
  where
    by : (s : List (Bool × Code)) → begun is ≡ s → IsBegun s → IsBegun (begun (laid k c ++ is))
    by [] e h = absurd h
    by (x ∷ s) e h = subst IsBegun (sym (begun_laid c k is x.0 x.1 s e)) tt

-- behind a sequence and one mark
behind : (x : Code) (k : ℕ) (mark : Instr) (rest : List Instr) (p : ℕ) → IsBegun (begun (mark ∷ rest))
    → ((q : ℕ) → q ≤ size x → IsBegun (begun (drop q (laid k x ++ (mark ∷ rest)))))
    → ((q : ℕ) → p ≡ size x + suc q → IsBegun (begun (drop q rest))) → IsBegun (begun (drop p (laid k x ++ (mark ∷ rest))))
behind x k mark rest p m inside after_mark = by (cases_lt p (suc (size x)))
  where
    by : (p < suc (size x)) ⊎ (suc (size x) ≤ p) → IsBegun (begun (drop p (laid k x ++ (mark ∷ rest))))
    by (inl h) = inside p (omega arith)
    by (inr h) =
        let q = p - suc (size x) in
        let e : p ≡ length (laid k x) + suc q = omega (arith, length-laid k x) in
        let f : p ≡ size x + suc q = omega arith in
        subst IsBegun (ap begun (sym (ap (λ (j : ℕ). drop j (laid k x ++ (mark ∷ rest))) e ∙ past_front (laid k x) (mark ∷ rest) (suc q)))) (after_mark q f)

some_begun : (c : Code) (k p : ℕ) (is : List Instr) → IsBegun (begun is) → p ≤ size c → IsBegun (begun (drop p (laid k c ++ is)))
unfolding laid size begun put
some_begun c k zero is h le = starts c k is h
some_begun Done k (suc p) is h le = absurd (omega arith)
some_begun (Plain o r) k (suc p) is h le = some_begun r (k + 1) p is h (omega arith)
some_begun (Block kind b x r) k (suc p) is h le =
    let rest = laid (k + 2 + size x) r ++ is in
    subst (λ (l : List Instr). IsBegun (begun (drop p l))) (sym (append_assoc (laid (k + 1) x) (flat.End ∷ laid (k + 2 + size x) r) is))
    (behind x (k + 1) flat.End rest p tt (λ q m. some_begun x (k + 1) q (flat.End ∷ rest) tt m) (λ q e. some_begun r (k + 2 + size x) q is h (omega (arith, e))))
some_begun (If b x r) k (suc p) is h le =
    let rest = laid (k + 2 + size x) r ++ is in
    subst (λ (l : List Instr). IsBegun (begun (drop p l))) (sym (append_assoc (laid (k + 1) x) (flat.End ∷ laid (k + 2 + size x) r) is))
    (behind x (k + 1) flat.End rest p tt (λ q m. some_begun x (k + 1) q (flat.End ∷ rest) tt m) (λ q e. some_begun r (k + 2 + size x) q is h (omega (arith, e))))
some_begun (IfElse b x y r) k (suc p) is h le =
    let last = laid (k + 3 + size x + size y) r ++ is in
    let rest = laid (k + 2 + size x) y ++ (flat.End ∷ last) in
    let e : (laid (k + 1) x ++ flat.Else ∷ (laid (k + 2 + size x) y ++ flat.End ∷ laid (k + 3 + size x + size y) r)) ++ is ≡ laid (k + 1) x ++ (flat.Else ∷ rest) = simp append_assoc in
    subst (λ (l : List Instr). IsBegun (begun (drop p l))) (sym e)
    (behind x (k + 1) flat.Else rest p tt (λ q m. some_begun x (k + 1) q (flat.Else ∷ rest) tt m)
    (λ q f. behind y (k + 2 + size x) flat.End last q tt (λ j m. some_begun y (k + 2 + size x) j (flat.End ∷ last) tt m) (λ j g. some_begun r (k + 3 + size x + size y) j is h (omega (arith, f, g)))))

-- ## What is left at an instruction

-- from an instruction on
pub drop_at : (is : List Instr) (p : ℕ) (i : Instr) → slice_get is p ≡ Some i → drop p is ≡ i ∷ drop (p + 1) is
drop_at [] p i e = absurd cc
drop_at (j ∷ is) zero i e = let same : j ≡ i = cc in ap (λ (k : Instr). k ∷ is) same
drop_at (j ∷ is) (suc p) i e = let n : suc p + 1 ≡ suc (p + 1) = omega arith in rw n (drop_at is p i e)

-- a place with an instruction is within the list
pub within : (is : List Instr) (p : ℕ) (i : Instr) → slice_get is p ≡ Some i → p < length is
within [] p i e = absurd cc
within (j ∷ is) zero i e = omega arith
within (j ∷ is) (suc p) i e = omega (arith, within is p i e)

-- behind an instruction of a body a sequence is begun
pub left_begun : (c : Code) (p : ℕ) (i : Instr) → slice_get (whole c) p ≡ Some i → IsBegun (begun (i ∷ drop (p + 1) (whole c)))
unfolding begun put
left_begun c p i e =
    let lt = within (whole c) p i e in
    subst (λ (l : List Instr). IsBegun (begun l)) (drop_at (whole c) p i e) (some_begun c 0 p (flat.End ∷ []) tt (omega (arith, lt, length-laid 0 c, length-append (laid 0 c) (flat.End ∷ []))))

plain_put : (o : Op) (s : List (Bool × Code)) → IsBegun (put (flat.Plain o) s) → first_of (put (flat.Plain o) s) ≡ Plain o (first_of s)
unfolding put
plain_put o [] h = absurd h
plain_put o (x ∷ s) h = refl

-- a plain instruction is the first of what is left
pub here : (c : Code) (p : ℕ) (o : Op) → slice_get (whole c) p ≡ Some (flat.Plain o) → tree_of (drop p (whole c)) ≡ Plain o (tree_of (drop (p + 1) (whole c)))
unfolding tree_of begun
here c p o e = ap tree_of (drop_at (whole c) p (flat.Plain o) e) ∙ plain_put o (begun (drop (p + 1) (whole c))) (left_begun c p (flat.Plain o) e)

-- at an end nothing is left
pub at_end : (c : Code) (p : ℕ) → slice_get (whole c) p ≡ Some flat.End → tree_of (drop p (whole c)) ≡ Done
unfolding tree_of begun put
at_end c p e = ap tree_of (drop_at (whole c) p flat.End e)

-- nor at an else
pub at_else : (c : Code) (p : ℕ) → slice_get (whole c) p ≡ Some flat.Else → tree_of (drop p (whole c)) ≡ Done
unfolding tree_of begun put
at_else c p e = ap tree_of (drop_at (whole c) p flat.Else e)

-- past the last place, nothing
pub past : (is : List Instr) (p : ℕ) → slice_get is p ≡ None → tree_of (drop p is) ≡ Done
unfolding tree_of begun
past [] zero e = refl
past [] (suc p) e = refl
past (j ∷ is) zero e = absurd cc
past (j ∷ is) (suc p) e = past is p e
