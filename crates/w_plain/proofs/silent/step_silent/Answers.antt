use Rattle.std.proofs.Common.{subst, arith}
use Rattle.w_syntax.specs.declared.instructions.Instr.{Instr}
use Rattle.w_stands.specs.Steps.{MovesAt}
use Rattle.w_plain.proofs.Places.{block_fits}
use Rattle.w_plain.proofs.silent.step_silent.Goals as goal

pub overflow_cast-end : goal.overflow_cast-end
overflow_cast-end c =
    let h = block_fits (subst (λ (i : Instr). MovesAt i c.args.program.now c.args.store.now c.args.stack.now) c.in-Block.is c.requires.moves) in
    omega (arith, h)
