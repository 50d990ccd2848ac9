use Rattle.std.proofs.Common.{ℕ, ◌<◌, ◌∙◌, sym, ap, subst, arith, length, drop}
use Rattle.std.specs.Prelude.{◌^◌}
use Rattle.w_reduce.specs.Program.{Arity}
use Rattle.w_control_ops.specs.Entering.{start_of}
use Rattle.w_control_ops.proofs.EnteredLabels.{same_label}
use Rattle.w_control_ops.proofs.Choices.{choice_known, choice_some, choice_number, choice_fits, choice_end, choice_start, choice_follows, choice_room}
use Rattle.w_control_ops.proofs.block_steps.choice.Goals as goal

pub block_arity-arity-requires : goal.block_arity-arity-requires
block_arity-arity-requires c = record { narrow = c.requires.moves.moves.at.narrow; known = choice_known c.args.program.now c.args.stack.now c.args.block_type c.args.otherwise c.args.end c.requires.moves }

pub label_of-label-requires : goal.label_of-label-requires
label_of-label-requires c = record { end = choice_end c.args.program.now c.args.stack.now c.args.block_type c.args.otherwise c.args.end c.requires.moves }

pub peek-requires : goal.peek-requires
peek-requires c = record { some = choice_some c.args.program.now c.args.stack.now c.args.block_type c.args.otherwise c.args.end c.requires.moves }

pub i32_of-requires : goal.i32_of-requires
i32_of-requires c =
    choice_number c.args.program.now c.args.stack.now c.args.block_type c.args.otherwise c.args.end c.requires.moves c.peek.result (drop 1 c.args.stack.now.operands) c.peek.ensures.value

pub start_of-start-requires : goal.start_of-start-requires
start_of-start-requires c =
    record {
      fits = subst (λ (n : ℕ). start_of c.i32_of.result n c.args.otherwise c.args.end < 2 ^ 32) (sym c.place-place.ensures.value)
          (choice_start c.args.program.now c.args.stack.now c.args.block_type c.args.otherwise c.args.end c.requires.moves c.i32_of.result);
    }

pub enter-requires : goal.enter-requires
enter-requires c =
    let arity : Arity = record { params = c.block_arity-arity.result.params; results = c.block_arity-arity.result.results } in
    let h = choice_fits c.args.program.now c.args.stack.now c.args.block_type c.args.otherwise c.args.end c.requires.moves c.peek.result (drop 1 c.args.stack.now.operands) c.peek.ensures.value arity
    c.block_arity-arity.ensures in
    let long = ap length c.peek.ensures.value in
    let e = c.label_of-label.ensures.params in
    record { there = omega (arith, h, e, long); room = choice_room c.args.program.now c.args.stack.now c.args.block_type c.args.otherwise c.args.end c.requires.moves }

pub returns-clause-goes : goal.returns-clause-goes
returns-clause-goes c =
    let arity : Arity = record { params = c.block_arity-arity.result.params; results = c.block_arity-arity.result.results } in
    let label = c.label_of-label in
    let start = c.start_of-start.ensures ∙ ap (λ (n : ℕ). start_of c.i32_of.result n c.args.otherwise c.args.end) c.place-place.ensures.value
    ∙ ap (λ (n : ℕ). start_of n c.args.stack.now.place c.args.otherwise c.args.end) c.i32_of.ensures in
    choice_follows c.args.program.now c.args.stack.now c.args.block_type c.args.otherwise c.args.end c.requires.moves c.peek.result (drop 1 c.args.stack.now.operands) c.peek.ensures.value arity
    c.enter.new.stack c.block_arity-arity.ensures
    (same_label 1 c.args.stack.now c.enter.new.stack label.ensures.params label.ensures.arity label.ensures.target start c.enter.ensures.after)
