-- The instructions of a body, from the first to the last, lead from the empty sequence to the whole body.
use Rattle.std.proofs.Common.{◌≡◌, ℕ, ◌+◌, List, [], ◌∷◌, ◌++◌, refl, sym, ◌∙◌, ap, append_assoc}
use Rattle.w_syntax.specs.Code.{Code, Done, Plain, Block, If, IfElse, after}
use Rattle.w_syntax.specs.ExprLaws.{after-done, after_assoc}
use Rattle.w_syntax.specs.Flat.{size, laid, whole, tree_of, IsFlat}
use Rattle.w_syntax.specs.declared.instructions.Instr.{Instr}
use Rattle.w_syntax.specs.declared.instructions.Instr.TheVariants as flat
use Rattle.w_vplain.specs.Prefixes.{OpenBlock, Prefix, open_at, ended, opened, more, follow, follow_all, empty}
use Rattle.w_steps.specs.declared.frame_kind.FrameKind.{FrameKind}
use Rattle.w_steps.specs.declared.frame_kind.FrameKind.TheVariants as kind
use Rattle.w_vplain.proofs.OpenBlocks.{open_block}

-- ## Levels

-- instructions of an open block, after some that are there
more_more : (l : OpenBlock) (ls : List OpenBlock) (j k m : Code) → after j k ≡ m → open_at (more (more l j) k) ls ≡ open_at (more l m) ls
more_more l ls j k m e = ap (λ (d : Code). open_at (record l { code = d }) ls) (after_assoc l.code j k ∙ ap (after l.code) e)

-- a block that begins, with these instructions
filled : (k : FrameKind) (f d : Code) (ls : List OpenBlock) → open_at (more (open_block k f Done) d) ls ≡ open_at (open_block k f d) ls
unfolding after
filled k f d ls = refl

-- ## Instructions

-- one list of instructions, and then another
pub follow_all-append : (is js : List Instr) (w : Prefix) → follow_all (is ++ js) w ≡ follow_all js (follow_all is w)
follow_all-append [] js w = refl
follow_all-append (i ∷ is) js w = follow_all-append is js (follow i w)

-- the instructions of a sequence, at whatever place, stand behind those of the innermost block
pub follow_laid : (n : ℕ) (k : Code) (is : List Instr) (l : OpenBlock) (ls : List OpenBlock) →
    follow_all (laid n k ++ is) (open_at l ls) ≡ follow_all is (open_at (more l k) ls)
unfolding laid after
follow_laid n Done is l ls = ap (λ (d : Code). follow_all is (open_at (record l { code = d }) ls)) (sym (after-done l.code))
follow_laid n (Plain o k) is l ls =
    follow_laid (n + 1) k is (more l (Plain o Done)) ls
    ∙ ap (follow_all is) (more_more l ls (Plain o Done) k (Plain o k) refl)
follow_laid n (Block b x d k) is l ls =
    ap (λ (js : List Instr). follow_all js (open_at (opened (kind.Block b x)) (l ∷ ls))) (append_assoc (laid (n + 1) d) (flat.End ∷ laid (n + 2 + size d) k) is)
    ∙ follow_laid (n + 1) d (flat.End ∷ (laid (n + 2 + size d) k ++ is)) (opened (kind.Block b x)) (l ∷ ls)
    ∙ follow_laid (n + 2 + size d) k is (more l (Block b x d Done)) ls
    ∙ ap (follow_all is) (more_more l ls (Block b x d Done) k (Block b x d k) refl)
follow_laid n (If x d k) is l ls =
    ap (λ (js : List Instr). follow_all js (open_at (opened (kind.Then x)) (l ∷ ls))) (append_assoc (laid (n + 1) d) (flat.End ∷ laid (n + 2 + size d) k) is)
    ∙ follow_laid (n + 1) d (flat.End ∷ (laid (n + 2 + size d) k ++ is)) (opened (kind.Then x)) (l ∷ ls)
    ∙ follow_laid (n + 2 + size d) k is (more l (If x d Done)) ls
    ∙ ap (follow_all is) (more_more l ls (If x d Done) k (If x d k) refl)
follow_laid n (IfElse x d e k) is l ls =
    ap (λ (js : List Instr). follow_all js (open_at (opened (kind.Then x)) (l ∷ ls)))
    (append_assoc (laid (n + 1) d) (flat.Else ∷ (laid (n + 2 + size d) e ++ flat.End ∷ laid (n + 3 + size d + size e) k)) is)
    ∙ follow_laid (n + 1) d (flat.Else ∷ ((laid (n + 2 + size d) e ++ flat.End ∷ laid (n + 3 + size d + size e) k) ++ is)) (opened (kind.Then x)) (l ∷ ls)
    ∙ ap (λ (js : List Instr). follow_all js (open_at (open_block (kind.Else x) d Done) (l ∷ ls)))
    (append_assoc (laid (n + 2 + size d) e) (flat.End ∷ laid (n + 3 + size d + size e) k) is)
    ∙ follow_laid (n + 2 + size d) e (flat.End ∷ (laid (n + 3 + size d + size e) k ++ is)) (open_block (kind.Else x) d Done) (l ∷ ls)
    ∙ follow_laid (n + 3 + size d + size e) k is (more l (IfElse x d e Done)) ls
    ∙ ap (follow_all is) (more_more l ls (IfElse x d e Done) k (IfElse x d e k) refl)

-- a body's instructions lead to the whole body
pub follow_whole : (k : Code) → follow_all (whole k) empty ≡ ended k
unfolding after
follow_whole k = follow_laid 0 k (flat.End ∷ []) (opened kind.Body) []

-- a list that is a body's leads to the body that it is laid out from
pub follow_flat : (is : List Instr) → IsFlat is → follow_all is empty ≡ ended (tree_of is)
unfolding IsFlat
follow_flat is h = ap (λ (js : List Instr). follow_all js empty) h ∙ follow_whole (tree_of is)
