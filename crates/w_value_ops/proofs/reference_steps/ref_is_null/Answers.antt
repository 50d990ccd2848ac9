use Rattle.std.proofs.Common.{◌≡◌, rules, ap, ◌∙◌}
use Rattle.w_num.specs.Comparisons.{truth}
use Rattle.w_value_ops.proofs.ReferenceOps.{test_needs, test_goes}
use Rattle.w_value_ops.proofs.reference_steps.ref_is_null.Goals as goal

pub peek-requires : goal.peek-requires
peek-requires c = record { some = (test_needs c.args.program.now c.args.stack.now c.requires.moves).some }

pub replace-requires-clause-place : goal.replace-requires-clause-place
replace-requires-clause-place c = (test_needs c.args.program.now c.args.stack.now c.requires.moves).place

pub returns-clause-goes : goal.returns-clause-goes
returns-clause-goes c =
    let n : c.from-number.result ≡ truth c.is_null.result = search rules in
    test_goes c.args.program.now c.args.stack.now c.requires.moves c.peek.result c.peek.ensures.value c.from-number.result c.replace.new.stack (n ∙ ap truth c.is_null.ensures) c.replace.ensures.after
