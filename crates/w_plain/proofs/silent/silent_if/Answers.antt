use Rattle.std.proofs.Common.{ℕ, Option, subst, arith}
use Rattle.w_syntax.specs.declared.instructions.Instr.TheVariants as flat
use Rattle.w_stands.specs.Steps.{MovesAt}
use Rattle.w_plain.proofs.Places.{if_fits, else_fits}
use Rattle.w_plain.proofs.silent.silent_if.Goals as goal

pub overflow_cast-end : goal.overflow_cast-end
overflow_cast-end c = let h = if_fits c.requires.moves in omega (arith, h)

pub overflow_cast-otherwise : goal.overflow_cast-otherwise
overflow_cast-otherwise c =
    let h = else_fits (subst (λ (o : Option ℕ). MovesAt (flat.If c.args.block_type o c.args.end) c.args.program.now c.args.store.now c.args.stack.now) c.in-Some.is c.requires.moves) in
    omega (arith, h)
