use Rattle.std.proofs.Common.{map, ap, ◌∙◌}
use Rattle.w_syntax.specs.Items.{reference_to}
use Rattle.w_link.specs.Resolved.{code_resolved}
use Rattle.w_resolve.proofs.References.{references_resolved}
use Rattle.w_resolve.proofs.segments.resolve_items.Goals as goal

pub returns-in-Functions : goal.returns-in-Functions
returns-in-Functions c =
    c.of_functions.ensures
    ∙ ap (map reference_to) c.resolve_functions.ensures
    ∙ references_resolved c.args.instance.now c.in-Functions.functions
    ∙ ap (map (code_resolved c.args.instance.now)) c.in-Functions.ensures
