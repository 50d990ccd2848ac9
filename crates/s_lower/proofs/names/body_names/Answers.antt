use Rattle.std.proofs.Common.{◌++◌, ◌∙◌, List, ap, arith}
use Rattle.s_code.specs.Places.{binds_in}
use Rattle.s_lower.specs.declared.names.TypedName.{TypedName}
use Rattle.s_lower.specs.Views.{bounds_of}
use Rattle.s_code.proofs.Binds.{binds_within}
use Rattle.s_lower.proofs.Lengths.{as_many}
use Rattle.s_lower.proofs.names.body_names.Goals as goal

pub returns-clause-few : goal.returns-clause-few
returns-clause-few c =
    let bs = binds_in c.args.program.now c.args.body.now in
    let many = as_many c.push_lets.new.names.items bs
    (c.in_ok-push_lets.ensures.value ∙ ap (λ (old : List TypedName). bounds_of old ++ bs) c.new-names.ensures.items) in
    let few = binds_within c.args.program.now c.args.body.now in
    omega (arith, many, few)
