use Rattle.std.proofs.Common.{◌↔◌, rules}
use Rattle.std.specs.Prelude.{IsTrue}
use Rattle.w_rules.specs.Limits.{IsNarrow}
use Rattle.w_rules.proofs.Groups.{EachGroup, all_types, all_groups}
use Rattle.w_rules.proofs.limits.are_narrow.Goals as goal

pub returns : goal.returns
returns c =
    let groups = c.args.groups.now in
    let each : IsTrue c.all.result ↔ EachGroup IsNarrow groups = search rules in
    (λ t. all_types IsNarrow groups (each.0 t), λ h. each.1 (all_groups IsNarrow groups h))
