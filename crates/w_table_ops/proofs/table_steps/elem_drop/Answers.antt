use Rattle.std.proofs.Common.{ℕ, [], ◌+◌, sym, ap, ◌∙◌, arith, subst}
use Rattle.w_segment.specs.Changes.{moved}
use Rattle.w_tables.specs.Store as instances
use Rattle.w_stands.specs.Keeps.{KeepsAll}
use Rattle.w_stands.specs.Steps.{Follows}
use Rattle.w_stands.specs.declared.did.Did.TheVariants as did
use Rattle.w_stands.proofs.NextInstructions.{moved_behind}
use Rattle.w_table_ops.proofs.Segments.{drop_needs, drop_segment, drop_goes, drop_keeps}
use Rattle.w_table_ops.proofs.table_steps.elem_drop.Goals as goal

pub elem_drop-requires : goal.elem_drop-requires
elem_drop-requires c = record { segment = drop_segment c.args.program.now c.args.store.now c.args.stack.now c.args.segment c.requires.moves }

pub overflow_add-place : goal.overflow_add-place
overflow_add-place c =
    let h = (drop_needs c.args.program.now c.args.store.now c.args.stack.now c.args.segment c.requires.moves).place in let e = c.place.ensures.value in omega (arith, h, e)

pub returns-clause-goes : goal.returns-clause-goes
returns-clause-goes c =
    let after = c.go.ensures.after ∙ ap (λ (n : ℕ). moved (n + 1) c.args.stack.now) c.place.ensures.value in
    subst (λ (w : instances.Store). Follows did.Went c.args.program.now [] c.args.store.now c.args.stack.now w c.go.new.self) (sym c.elem_drop.ensures.dropped)
    (drop_goes c.args.program.now c.args.store.now c.args.stack.now c.args.segment c.requires.moves c.go.new.self (moved_behind c.args.stack.now c.go.new.self after))

pub returns-clause-keeps : goal.returns-clause-keeps
returns-clause-keeps c =
    let after = c.go.ensures.after ∙ ap (λ (n : ℕ). moved (n + 1) c.args.stack.now) c.place.ensures.value in
    subst (λ (w : instances.Store). KeepsAll c.args.store.now c.args.stack.now w c.go.new.self) (sym c.elem_drop.ensures.dropped)
    (drop_keeps c.args.program.now c.args.store.now c.args.stack.now c.args.segment c.requires.moves c.go.new.self (moved_behind c.args.stack.now c.go.new.self after))
