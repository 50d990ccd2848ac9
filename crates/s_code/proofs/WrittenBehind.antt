-- What is written when tokens are put behind others.
use Rattle.std.proofs.Common.{◌≡◌, List, [], ◌∷◌, ◌++◌, sym, ap, ◌∙◌, append_assoc}
use Rattle.std.proofs.lemmas.List.{append-nil}
use Rattle.w_syntax.specs.declared.instructions.Op.{Op}
use Rattle.w_syntax.specs.declared.instructions.BlockKind.{BlockKind}
use Rattle.w_syntax.specs.declared.instructions.BlockType.{BlockType}
use Rattle.w_syntax.specs.declared.instructions.Token.{Token}
use Rattle.w_syntax.specs.declared.instructions.Token.TheVariants as tok
use Rattle.w_syntax.specs.Code.{Code, Done, Plain, Block, IfElse}
use Rattle.w_syntax.specs.Expr.{tokens}
use Rattle.s_code.specs.Writes.{Writes}

-- an instruction
pub plain_written : (ts : List Token) (o : Op) (c : Code) → Writes ts (Plain o c) (ts ++ tok.Plain o ∷ []) c
unfolding tokens
plain_written ts o c = sym (append_assoc ts (tok.Plain o ∷ []) (tokens c))

-- a block, which has an end behind what is in it
pub block_written : (ts us : List Token) (kind : BlockKind) (b : BlockType) (x c : Code) → Writes (ts ++ tok.Block kind b ∷ []) x us Done → Writes ts (Block kind b x c) (us ++ tok.End ∷ []) c
unfolding tokens
block_written ts us kind b x c h =
    sym (append_assoc ts (tok.Block kind b ∷ []) (tokens x ++ tok.End ∷ tokens c))
    ∙ sym (append_assoc (ts ++ tok.Block kind b ∷ []) (tokens x) (tok.End ∷ tokens c))
    ∙ ap (λ (ss : List Token). ss ++ tok.End ∷ tokens c) (h ∙ append-nil us)
    ∙ sym (append_assoc us (tok.End ∷ []) (tokens c))

-- an if with two branches
pub branches_written : (ts us vs : List Token) (b : BlockType) (x y c : Code)
    → Writes (ts ++ tok.If b ∷ []) x us Done → Writes (us ++ tok.Else ∷ []) y vs Done → Writes ts (IfElse b x y c) (vs ++ tok.End ∷ []) c
unfolding tokens
branches_written ts us vs b x y c h i =
    sym (append_assoc ts (tok.If b ∷ []) (tokens x ++ tok.Else ∷ (tokens y ++ tok.End ∷ tokens c)))
    ∙ sym (append_assoc (ts ++ tok.If b ∷ []) (tokens x) (tok.Else ∷ (tokens y ++ tok.End ∷ tokens c)))
    ∙ ap (λ (ss : List Token). ss ++ tok.Else ∷ (tokens y ++ tok.End ∷ tokens c)) (h ∙ append-nil us)
    ∙ sym (append_assoc us (tok.Else ∷ []) (tokens y ++ tok.End ∷ tokens c))
    ∙ sym (append_assoc (us ++ tok.Else ∷ []) (tokens y) (tok.End ∷ tokens c))
    ∙ ap (λ (ss : List Token). ss ++ tok.End ∷ tokens c) (i ∙ append-nil vs)
    ∙ sym (append_assoc vs (tok.End ∷ []) (tokens c))

-- ## The same, told by what stands after each token

pub block_at : (ts t1 t2 t3 : List Token) (kind : BlockKind) (b : BlockType) (x c : Code)
    → t1 ≡ ts ++ tok.Block kind b ∷ [] → Writes t1 x t2 Done → t3 ≡ t2 ++ tok.End ∷ [] → Writes ts (Block kind b x c) t3 c
block_at ts t1 t2 t3 kind b x c opened inside ended =
    block_written ts t2 kind b x c (ap (λ (us : List Token). us ++ tokens x) (sym opened) ∙ inside) ∙ ap (λ (us : List Token). us ++ tokens c) (sym ended)

pub branches_at : (ts t1 t2 t3 t4 t5 : List Token) (b : BlockType) (x y c : Code)
    → t1 ≡ ts ++ tok.If b ∷ [] → Writes t1 x t2 Done → t3 ≡ t2 ++ tok.Else ∷ [] → Writes t3 y t4 Done → t5 ≡ t4 ++ tok.End ∷ [] → Writes ts (IfElse b x y c) t5 c
branches_at ts t1 t2 t3 t4 t5 b x y c opened first other second ended =
    branches_written ts t2 t4 b x y c (ap (λ (us : List Token). us ++ tokens x) (sym opened) ∙ first) (ap (λ (us : List Token). us ++ tokens y) (sym other) ∙ second)
    ∙ ap (λ (us : List Token). us ++ tokens c) (sym ended)

-- what is written behind nothing
pub all_written : (ts us : List Token) (c : Code) → ts ≡ [] → Writes ts c us Done → us ≡ tokens c
unfolding tokens
all_written ts us c empty h = sym (append-nil us) ∙ sym h ∙ ap (λ (ss : List Token). ss ++ tokens c) empty
