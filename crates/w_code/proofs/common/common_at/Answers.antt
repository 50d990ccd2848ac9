use Rattle.std.proofs.Common.{arith}
use Rattle.w_syntax.specs.declared.instructions.Op.TheVariants as op
use Rattle.w_code.proofs.CommonTokens.{memory_token, numeric_token}
use Rattle.w_code.proofs.common.common_at.Goals as goal

pub returns-in_ok-memory-in-Memory : goal.returns-in_ok-memory-in-Memory
returns-in_ok-memory-in-Memory c =
    let h = c.in_ok-memory-in-Memory in
    let r = h.ensures in
    (op.Memory h.memory, c.memory.ensures, (memory_token _ _ _ _ _ (omega arith) c.in_ok-tag.ensures.0 r.0, r.1, r.2))

pub returns-in_ok-numeric-in-Numeric : goal.returns-in_ok-numeric-in-Numeric
returns-in_ok-numeric-in-Numeric c =
    let h = c.in_ok-numeric-in-Numeric in
    let r = h.ensures in
    (op.Numeric h.numeric, c.numeric-in-Numeric.ensures, (numeric_token _ _ _ _ _ (omega arith) c.in_ok-tag.ensures.0 r.0, r.1, r.2))

pub returns-in_ok-constant-in-Constant : goal.returns-in_ok-constant-in-Constant
returns-in_ok-constant-in-Constant c =
    let h = c.in_ok-constant-in-Constant in
    let r = h.ensures in
    (op.Numeric h.constant, c.numeric.ensures, (numeric_token _ _ _ _ _ (omega arith) c.in_ok-tag.ensures.0 r.0, r.1, r.2))
