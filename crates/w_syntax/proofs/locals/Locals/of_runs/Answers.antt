use Rattle.std.proofs.Common.{◌<◌, ◌^◌, arith, rules}
use Rattle.w_syntax.specs.Locals.{joined, total}
use Rattle.w_syntax.specs.LocalsLaws.{all_joined, joined_twice, total_joined}
use Rattle.w_syntax.proofs.locals.Locals.of_runs.Goals as goal

pub invariant_of-result : goal.invariant_of-result
invariant_of-result c =
    let few : total c.args.runs.items < 2 ^ 32 = search rules in
    rw (c.in_ok-runs.ensures) (joined_twice (joined c.args.runs.items) (all_joined c.args.runs.items), omega (arith, few, total_joined c.args.runs.items))
