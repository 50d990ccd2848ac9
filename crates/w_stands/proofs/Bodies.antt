-- The list that a body is laid out in is read as the body.
use Rattle.std.proofs.Common.{◌≡◌, ℕ, suc, ◌+◌, List, [], ◌∷◌, ◌++◌, length, Some, None, slice_get, refl, sym, ap, ◌∙◌, subst, arith, append_assoc, length-append}
use Rattle.w_syntax.specs.Code.{Code, Done, Plain, Block, If, IfElse}
use Rattle.w_syntax.specs.Flat.{laid, size, whole}
use Rattle.w_syntax.proofs.Steps.{length-laid}
use Rattle.w_syntax.specs.declared.instructions.Instr.{Instr}
use Rattle.w_syntax.specs.declared.instructions.Instr.TheVariants as flat
use Rattle.w_stands.specs.Code.{IsMark, Reads, stop, plain, block, choice, choices, BodiesAreRead}

-- what stands behind the first part of a list
get_behind : {A : Type 0} (front back : List A) (x : A) → slice_get (front ++ x ∷ back) (length front) ≡ Some x
get_behind [] back x = refl
get_behind (y ∷ front) back x = get_behind front back x

behind : {A : Type 0} (xs front back : List A) (x : A) (n : ℕ) → xs ≡ front ++ x ∷ back → n ≡ length front → slice_get xs n ≡ Some x
behind xs front back x n e h = ap (λ l. slice_get l n) e ∙ ap (slice_get (front ++ x ∷ back)) h ∙ get_behind front back x

marked : (is : List Instr) (p : ℕ) (i : Instr) → slice_get is p ≡ Some i → IsMark (Some i) → IsMark (slice_get is p)
marked is p i e m = subst IsMark (sym e) m

-- what is laid out from a place on, up to a mark, is read there
laid_read : (c : Code) (is front back : List Instr) (k p q : ℕ) → is ≡ front ++ (laid k c ++ back) → p ≡ length front → k ≡ p → q ≡ p + size c →
    IsMark (slice_get is q) → Reads is p c q
unfolding laid size
laid_read Done is front back k p q e h s t m = let same : q ≡ p = t ∙ omega arith in subst (λ n. Reads is p Done n) (sym same) (stop (subst (λ n. IsMark (slice_get is n)) same m))
laid_read (Plain o r) is front back k p q e h s t m =
    plain (behind is front (laid (k + 1) r ++ back) (flat.Plain o) p e h)
    (laid_read r is (front ++ flat.Plain o ∷ []) back (k + 1) (suc p) q (e ∙ sym (append_assoc front (flat.Plain o ∷ []) (laid (k + 1) r ++ back)))
    (omega (arith, h, length-append front (flat.Plain o ∷ []))) (omega (arith, s)) (omega (arith, t)) m)
laid_read (Block kind b x r) is front back k p q e h s t m =
    let z = k + 1 + size x in
    let i = flat.Block kind b z in
    let rest = laid (k + 2 + size x) r in
    let e1 : is ≡ (front ++ i ∷ []) ++ (laid (k + 1) x ++ flat.End ∷ (rest ++ back)) = e ∙ simp append_assoc in
    let e2 : is ≡ (front ++ i ∷ laid (k + 1) x) ++ flat.End ∷ (rest ++ back) = e ∙ simp append_assoc in
    let e3 : is ≡ (front ++ i ∷ (laid (k + 1) x ++ flat.End ∷ [])) ++ (rest ++ back) = e ∙ simp append_assoc in
    let l1 = length-append front (i ∷ []) in
    let l2 = length-append front (i ∷ laid (k + 1) x) in
    let l3 = length-append front (i ∷ (laid (k + 1) x ++ flat.End ∷ [])) in
    let l4 = length-append (laid (k + 1) x) (flat.End ∷ []) in
    let lx = length-laid (k + 1) x in
    let ends = behind is (front ++ i ∷ laid (k + 1) x) (rest ++ back) flat.End z e2 (omega (arith, h, s, l2, lx)) in
    block (behind is front ((laid (k + 1) x ++ flat.End ∷ rest) ++ back) i p e h)
    (laid_read x is (front ++ i ∷ []) (flat.End ∷ (rest ++ back)) (k + 1) (suc p) z e1 (omega (arith, h, l1)) (omega (arith, s)) (omega (arith, s)) (marked is z flat.End ends tt))
    ends
    (laid_read r is (front ++ i ∷ (laid (k + 1) x ++ flat.End ∷ [])) back (k + 2 + size x) (suc z) q e3 (omega (arith, h, s, l3, l4, lx)) (omega arith) (omega (arith, s, t)) m)
laid_read (If b x r) is front back k p q e h s t m =
    let z = k + 1 + size x in
    let i = flat.If b None z in
    let rest = laid (k + 2 + size x) r in
    let e1 : is ≡ (front ++ i ∷ []) ++ (laid (k + 1) x ++ flat.End ∷ (rest ++ back)) = e ∙ simp append_assoc in
    let e2 : is ≡ (front ++ i ∷ laid (k + 1) x) ++ flat.End ∷ (rest ++ back) = e ∙ simp append_assoc in
    let e3 : is ≡ (front ++ i ∷ (laid (k + 1) x ++ flat.End ∷ [])) ++ (rest ++ back) = e ∙ simp append_assoc in
    let l1 = length-append front (i ∷ []) in
    let l2 = length-append front (i ∷ laid (k + 1) x) in
    let l3 = length-append front (i ∷ (laid (k + 1) x ++ flat.End ∷ [])) in
    let l4 = length-append (laid (k + 1) x) (flat.End ∷ []) in
    let lx = length-laid (k + 1) x in
    let ends = behind is (front ++ i ∷ laid (k + 1) x) (rest ++ back) flat.End z e2 (omega (arith, h, s, l2, lx)) in
    choice (behind is front ((laid (k + 1) x ++ flat.End ∷ rest) ++ back) i p e h)
    (laid_read x is (front ++ i ∷ []) (flat.End ∷ (rest ++ back)) (k + 1) (suc p) z e1 (omega (arith, h, l1)) (omega (arith, s)) (omega (arith, s)) (marked is z flat.End ends tt))
    ends
    (laid_read r is (front ++ i ∷ (laid (k + 1) x ++ flat.End ∷ [])) back (k + 2 + size x) (suc z) q e3 (omega (arith, h, s, l3, l4, lx)) (omega arith) (omega (arith, s, t)) m)
laid_read (IfElse b x y r) is front back k p q e h s t m =
    let a = k + 1 + size x in
    let z = k + 2 + size x + size y in
    let i = flat.If b (Some a) z in
    let second = laid (k + 2 + size x) y in
    let rest = laid (k + 3 + size x + size y) r in
    let e1 : is ≡ (front ++ i ∷ []) ++ (laid (k + 1) x ++ flat.Else ∷ (second ++ flat.End ∷ (rest ++ back))) = e ∙ simp append_assoc in
    let e2 : is ≡ (front ++ i ∷ laid (k + 1) x) ++ flat.Else ∷ (second ++ flat.End ∷ (rest ++ back)) = e ∙ simp append_assoc in
    let e3 : is ≡ (front ++ i ∷ (laid (k + 1) x ++ flat.Else ∷ [])) ++ (second ++ flat.End ∷ (rest ++ back)) = e ∙ simp append_assoc in
    let e4 : is ≡ (front ++ i ∷ (laid (k + 1) x ++ flat.Else ∷ second)) ++ flat.End ∷ (rest ++ back) = e ∙ simp append_assoc in
    let e5 : is ≡ (front ++ i ∷ (laid (k + 1) x ++ flat.Else ∷ (second ++ flat.End ∷ []))) ++ (rest ++ back) = e ∙ simp append_assoc in
    let l1 = length-append front (i ∷ []) in
    let l2 = length-append front (i ∷ laid (k + 1) x) in
    let l3 = length-append front (i ∷ (laid (k + 1) x ++ flat.Else ∷ [])) in
    let l4 = length-append front (i ∷ (laid (k + 1) x ++ flat.Else ∷ second)) in
    let l5 = length-append front (i ∷ (laid (k + 1) x ++ flat.Else ∷ (second ++ flat.End ∷ []))) in
    let l6 = length-append (laid (k + 1) x) (flat.Else ∷ []) in
    let l7 = length-append (laid (k + 1) x) (flat.Else ∷ second) in
    let l8 = length-append (laid (k + 1) x) (flat.Else ∷ (second ++ flat.End ∷ [])) in
    let l9 = length-append second (flat.End ∷ []) in
    let lx = length-laid (k + 1) x in
    let ly = length-laid (k + 2 + size x) y in
    let turns = behind is (front ++ i ∷ laid (k + 1) x) (second ++ flat.End ∷ (rest ++ back)) flat.Else a e2 (omega (arith, h, s, l2, lx)) in
    let ends = behind is (front ++ i ∷ (laid (k + 1) x ++ flat.Else ∷ second)) (rest ++ back) flat.End z e4 (omega (arith, h, s, l4, l7, lx, ly)) in
    choices (behind is front ((laid (k + 1) x ++ flat.Else ∷ (second ++ flat.End ∷ rest)) ++ back) i p e h)
    (laid_read x is (front ++ i ∷ []) (flat.Else ∷ (second ++ flat.End ∷ (rest ++ back))) (k + 1) (suc p) a e1 (omega (arith, h, l1)) (omega (arith, s)) (omega (arith, s)) (marked is a flat.Else turns tt))
    turns
    (laid_read y is (front ++ i ∷ (laid (k + 1) x ++ flat.Else ∷ [])) (flat.End ∷ (rest ++ back)) (k + 2 + size x) (suc a) z e3 (omega (arith, h, s, l3, l6, lx)) (omega arith) (omega arith) (marked is z flat.End ends tt))
    ends
    (laid_read r is (front ++ i ∷ (laid (k + 1) x ++ flat.Else ∷ (second ++ flat.End ∷ []))) back (k + 3 + size x + size y) (suc z) q e5 (omega (arith, h, s, l5, l8, l9, lx, ly)) (omega arith) (omega (arith, s, t)) m)

-- nothing stands behind the last
get_past : {A : Type 0} (xs : List A) (x : A) → slice_get (xs ++ x ∷ []) (suc (length xs)) ≡ None
get_past [] x = refl
get_past (y ∷ ys) x = get_past ys x

pub read_whole : BodiesAreRead
read_whole c =
    let ends = behind (whole c) (laid 0 c) [] flat.End (size c) refl (sym (length-laid 0 c)) in (
      laid_read c (whole c) [] (flat.End ∷ []) 0 0 (size c) refl refl refl (omega arith) (marked (whole c) (size c) flat.End ends tt),
      ends,
      ap (λ n. slice_get (whole c) (suc n)) (sym (length-laid 0 c)) ∙ get_past (laid 0 c) flat.End,
    )
