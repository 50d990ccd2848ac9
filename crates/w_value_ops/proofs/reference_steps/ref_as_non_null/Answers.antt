use Rattle.std.proofs.Common.{sym, ◌∙◌}
use Rattle.w_value_ops.proofs.ReferenceOps.{require_needs, require_traps, require_goes}
use Rattle.w_value_ops.proofs.reference_steps.ref_as_non_null.Goals as goal

pub peek-requires : goal.peek-requires
peek-requires c = record { some = (require_needs c.args.program.now c.args.stack.now c.requires.moves).some }

pub next-requires : goal.next-requires
next-requires c = record { place = (require_needs c.args.program.now c.args.stack.now c.requires.moves).place }

pub returns-then-is_null-clause-goes : goal.returns-then-is_null-clause-goes
returns-then-is_null-clause-goes c =
    require_traps c.args.program.now c.args.stack.now c.requires.moves c.peek.result c.peek.ensures.value (sym c.if-is_null.true ∙ c.is_null.ensures)

pub returns-else-is_null-clause-goes : goal.returns-else-is_null-clause-goes
returns-else-is_null-clause-goes c =
    require_goes c.args.program.now c.args.stack.now c.requires.moves c.peek.result c.peek.ensures.value c.next.new.stack (sym c.if-is_null.false ∙ c.is_null.ensures) c.next.ensures.after
