-- How a sequence of instructions is spelled, and its reading token by token (Core, binary format, expressions).
use Rattle.std.specs.Prelude.{ℕ, zero, suc, List, [], ◌∷◌, ◌++◌, length, Some, None}
use Rattle.w_leb.specs.Format.{Grammar, Reading, Each, then}
use Rattle.w_syntax.specs.declared.instructions.BlockKind.{BlockKind}
use Rattle.w_syntax.specs.declared.instructions.BlockType.{BlockType}
use Rattle.w_syntax.specs.declared.instructions.Token.{Token}
use Rattle.w_syntax.specs.declared.instructions.Token.TheVariants as tok
use Rattle.w_syntax.specs.Code.{Code, Done, Plain, Block, If, IfElse, after}
use Rattle.w_syntax.specs.Tokens.{token}

-- a sequence as it is written; no tree has an else outside an if, or two in one
unfoldable pub tokens : Code → List Token
tokens Done = []
tokens (Plain o r) = tok.Plain o ∷ tokens r
tokens (Block kind b x r) = tok.Block kind b ∷ (tokens x ++ tok.End ∷ tokens r)
tokens (If b x r) = tok.If b ∷ (tokens x ++ tok.End ∷ tokens r)
tokens (IfElse b x y r) = tok.If b ∷ (tokens x ++ tok.Else ∷ (tokens y ++ tok.End ∷ tokens r))

-- expr: instructions, and then 0B
unfoldable pub Expr : Grammar Code
Expr b c = Each token.Spells b (tokens c ++ tok.End ∷ [])

-- ## Reading

-- What is open at a place: nothing, or a block with what is open around it and what stands before it there.
pub data Path : Type 0 where
  Top : Path
  InBlock : Path → Code → BlockKind → BlockType → Path
  InThen : Path → Code → BlockType → Path
  InElse : Path → Code → BlockType → Code → Path

pub data Outcome : Type 0 where
  More : Path → Code → Outcome
  Finished : Code → Outcome
  Wrong : Outcome

-- what comes of a token where p is open, with c so far in the innermost sequence
abbrev pub on_else : Path → Code → Outcome
on_else Top c = Wrong
on_else (InBlock p d kind b) c = Wrong
on_else (InThen p d b) c = More (InElse p d b c) Done
on_else (InElse p d b x) c = Wrong

abbrev pub on_end : Path → Code → Outcome
on_end Top c = Finished c
on_end (InBlock p d kind b) c = More p (after d (Block kind b c Done))
on_end (InThen p d b) c = More p (after d (If b c Done))
on_end (InElse p d b x) c = More p (after d (IfElse b x c Done))

unfoldable pub step : Path → Code → Token → Outcome
step p c (tok.Plain o) = More p (after c (Plain o Done))
step p c (tok.Block kind b) = More (InBlock p c kind b) Done
step p c (tok.If b) = More (InThen p c b) Done
step p c tok.Else = on_else p c
step p c tok.End = on_end p c

-- at most n tokens
unfoldable pub read_code : ℕ → Path → Code → Reading Code
read_code zero p c bytes = None
read_code (suc n) p c bytes =
    then (token.read bytes) (λ t rest. elim (step p c t) [ More q d ↦ read_code n q d rest | Finished d ↦ Some (d, rest) | Wrong ↦ None ])

-- each token has a byte
unfoldable pub read_expr : Reading Code
read_expr bytes = read_code (length bytes) Top Done bytes
