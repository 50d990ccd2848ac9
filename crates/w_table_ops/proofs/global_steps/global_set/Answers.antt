use Rattle.std.proofs.Common.{[], sym, subst}
use Rattle.w_tables.specs.Store as instances
use Rattle.w_stands.specs.Keeps.{KeepsAll}
use Rattle.w_stands.specs.Steps.{Follows}
use Rattle.w_stands.specs.declared.did.Did.TheVariants as did
use Rattle.w_table_ops.proofs.Globals.{global_set_needs, global_set_there, global_set_goes, global_set_keeps}
use Rattle.w_table_ops.proofs.global_steps.global_set.Goals as goal

pub peek-value-requires : goal.peek-value-requires
peek-value-requires c = record { some = (global_set_needs c.args.program.now c.args.store.now c.args.stack.now c.args.index c.requires.moves).some }

pub global_set-requires : goal.global_set-requires
global_set-requires c =
    record { global = global_set_there c.args.program.now c.args.store.now c.args.stack.now c.args.index c.requires.moves c.peek-value.result c.peek-value.ensures.value }

pub drop_next-requires-clause-place : goal.drop_next-requires-clause-place
drop_next-requires-clause-place c = (global_set_needs c.args.program.now c.args.store.now c.args.stack.now c.args.index c.requires.moves).place

pub returns-clause-goes : goal.returns-clause-goes
returns-clause-goes c =
    subst (λ (w : instances.Store). Follows did.Went c.args.program.now [] c.args.store.now c.args.stack.now w c.drop_next.new.stack) (sym c.global_set.ensures.set)
    (global_set_goes c.args.program.now c.args.store.now c.args.stack.now c.args.index c.requires.moves c.peek-value.result c.peek-value.ensures.value c.drop_next.new.stack c.drop_next.ensures.after)

pub returns-clause-keeps : goal.returns-clause-keeps
returns-clause-keeps c =
    subst (λ (w : instances.Store). KeepsAll c.args.store.now c.args.stack.now w c.drop_next.new.stack) (sym c.global_set.ensures.set)
    (global_set_keeps c.args.program.now c.args.store.now c.args.stack.now c.args.index c.requires.moves c.peek-value.result c.peek-value.ensures.value c.drop_next.new.stack c.drop_next.ensures.after)
