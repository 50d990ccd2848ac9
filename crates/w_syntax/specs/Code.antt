-- The tree of a sequence of instructions (Core, syntax, instructions).
use Rattle.w_syntax.specs.declared.instructions.Op.{Op}
use Rattle.w_syntax.specs.declared.instructions.BlockKind.{BlockKind}
use Rattle.w_syntax.specs.declared.instructions.BlockType.{BlockType}

-- A sequence of instructions: it is done, or an instruction with what is inside it, and the sequence that follows. An if has one
-- branch, or two.
pub data Code : Type 0 where
  Done : Code
  Plain : Op → Code → Code
  Block : BlockKind → BlockType → Code → Code → Code
  If : BlockType → Code → Code → Code
  IfElse : BlockType → Code → Code → Code → Code

-- one sequence after the other
unfoldable pub after : Code → Code → Code
after Done d = d
after (Plain o r) d = Plain o (after r d)
after (Block kind b x r) d = Block kind b x (after r d)
after (If b x r) d = If b x (after r d)
after (IfElse b x y r) d = IfElse b x y (after r d)
