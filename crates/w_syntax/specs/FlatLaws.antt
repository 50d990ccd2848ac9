-- A list that is laid out from a tree gives the tree back.
use Rattle.std.proofs.Common.{◌≡◌, ℕ, ◌+◌, Bool, true, false, List, [], ◌∷◌, ◌++◌, Some, None, refl, ap, ◌∙◌, append_assoc}
use Rattle.std.specs.Coded.{Coded, code_by, coded_list}
use Rattle.w_syntax.specs.declared.instructions.Instr.{Instr}
use Rattle.w_syntax.specs.declared.instructions.Instr.TheVariants as flat
use Rattle.w_syntax.specs.contracts.instructions.Instr as instr
use Rattle.w_syntax.specs.Code.{Code, Done, Plain, Block, If, IfElse, after}
use Rattle.w_syntax.specs.ExprLaws.{after-done}
use Rattle.w_syntax.specs.Flat.{laid, put, begun, tree_of, size, first_of, whole}

pub begun_laid : (c : Code) (k : ℕ) (is : List Instr) (f : Bool) (d : Code) (s : List (Bool × Code)) → begun is ≡ (f, d) ∷ s → begun (laid k c ++ is) ≡ (f, after c d) ∷ s
unfolding laid put begun after
begun_laid Done k is f d s h = h
begun_laid (Plain o r) k is f d s h = ap (put (flat.Plain o)) (begun_laid r (k + 1) is f d s h)
begun_laid (Block kind b x r) k is f d s h =
    let rest = begun_laid r (k + 2 + size x) is f d s h in
    let inner = begun_laid x (k + 1) (flat.End ∷ (laid (k + 2 + size x) r ++ is)) false Done ((f, after r d) ∷ s) (ap (put flat.End) rest) in
    ap (λ (l : List Instr). put (flat.Block kind b (k + 1 + size x)) (begun l)) (append_assoc (laid (k + 1) x) (flat.End ∷ laid (k + 2 + size x) r) is)
    ∙ ap (put (flat.Block kind b (k + 1 + size x))) inner ∙ ap (λ (y : Code). (f, Block kind b y (after r d)) ∷ s) (after-done x)
begun_laid (If b x r) k is f d s h =
    let rest = begun_laid r (k + 2 + size x) is f d s h in
    let inner = begun_laid x (k + 1) (flat.End ∷ (laid (k + 2 + size x) r ++ is)) false Done ((f, after r d) ∷ s) (ap (put flat.End) rest) in
    ap (λ (l : List Instr). put (flat.If b None (k + 1 + size x)) (begun l)) (append_assoc (laid (k + 1) x) (flat.End ∷ laid (k + 2 + size x) r) is)
    ∙ ap (put (flat.If b None (k + 1 + size x))) inner ∙ ap (λ (y : Code). (f, If b y (after r d)) ∷ s) (after-done x)
begun_laid (IfElse b x y r) k is f d s h =
    let l3 = laid (k + 3 + size x + size y) r ++ is in
    let rest = begun_laid r (k + 3 + size x + size y) is f d s h in
    let other = begun_laid y (k + 2 + size x) (flat.End ∷ l3) false Done ((f, after r d) ∷ s) (ap (put flat.End) rest) in
    let l2 = laid (k + 2 + size x) y ++ flat.End ∷ l3 in
    let inner = begun_laid x (k + 1) (flat.Else ∷ l2) true Done ((false, after y Done) ∷ (f, after r d) ∷ s) (ap (put flat.Else) other) in
    let head = flat.If b (Some (k + 1 + size x)) (k + 2 + size x + size y) in
    let e : (laid (k + 1) x ++ flat.Else ∷ (laid (k + 2 + size x) y ++ flat.End ∷ laid (k + 3 + size x + size y) r)) ++ is ≡ laid (k + 1) x ++ flat.Else ∷ l2 = simp append_assoc in
    ap (λ (l : List Instr). put head (begun l)) e
    ∙ ap (put head) inner ∙ ap (λ (z : Code). (f, IfElse b z (after y Done) (after r d)) ∷ s) (after-done x) ∙ ap (λ (z : Code). (f, IfElse b x z (after r d)) ∷ s) (after-done y)

pub tree_of-whole : (c : Code) → tree_of (whole c) ≡ c
unfolding tree_of begun put
tree_of-whole c = ap first_of (begun_laid c 0 (flat.End ∷ []) false Done [] refl) ∙ after-done c

abbrev pub code_code : Coded Code
code_code = code_by (List Instr) (coded_list instr.the_row.coded) whole tree_of tree_of-whole
