use Rattle.std.proofs.Common.{ℕ, ◌+◌, ◌∙◌, ap, arith}
use Rattle.w_reduce.specs.Program.{Arity}
use Rattle.w_control_ops.specs.Entering.{target_of}
use Rattle.w_control_ops.proofs.EnteredLabels.{same_label}
use Rattle.w_control_ops.proofs.Blocks.{block_known, block_fits, block_place, block_end, block_follows, block_room}
use Rattle.w_control_ops.proofs.block_steps.block.Goals as goal

pub block_arity-arity-requires : goal.block_arity-arity-requires
block_arity-arity-requires c = record { narrow = c.requires.moves.moves.at.narrow; known = block_known c.args.program.now c.args.stack.now c.args.kind c.args.block_type c.args.end c.requires.moves }

pub label_of-label-requires : goal.label_of-label-requires
label_of-label-requires c = record { end = block_end c.args.program.now c.args.stack.now c.args.kind c.args.block_type c.args.end c.requires.moves }

pub overflow_add-place : goal.overflow_add-place
overflow_add-place c =
    let h = block_place c.args.program.now c.args.stack.now c.args.kind c.args.block_type c.args.end c.requires.moves in
    let at = c.place-place.ensures.value in
    omega (arith, h, at)

pub enter-requires : goal.enter-requires
enter-requires c =
    let arity : Arity = record { params = c.block_arity-arity.result.params; results = c.block_arity-arity.result.results } in
    let h = block_fits c.args.program.now c.args.stack.now c.args.kind c.args.block_type c.args.end c.requires.moves arity c.block_arity-arity.ensures in
    let e = c.label_of-label.ensures.params in
    record { there = omega (arith, h, e); room = block_room c.args.program.now c.args.stack.now c.args.kind c.args.block_type c.args.end c.requires.moves }

pub returns-clause-goes : goal.returns-clause-goes
returns-clause-goes c =
    let arity : Arity = record { params = c.block_arity-arity.result.params; results = c.block_arity-arity.result.results } in
    let label = c.label_of-label in
    block_follows c.args.program.now c.args.stack.now c.args.kind c.args.block_type c.args.end c.requires.moves arity c.enter.new.stack c.block_arity-arity.ensures
    (same_label 0 c.args.stack.now c.enter.new.stack label.ensures.params label.ensures.arity (label.ensures.target ∙ ap (λ (n : ℕ). target_of c.args.kind n c.args.end) c.place-place.ensures.value)
    (ap (λ (n : ℕ). n + 1) c.place-place.ensures.value) c.enter.ensures.after)
