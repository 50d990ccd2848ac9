use Rattle.std.proofs.Common.{◌∙◌, ap, List}
use Rattle.s_syntax.specs.declared.script.Declaration.{Declaration}
use Rattle.s_index.specs.declared.counts.Counts.{Counts}
use Rattle.s_index.specs.Numbers.{group_tag_index}
use Rattle.s_index.proofs.declarations.NumberedDeclarations.group_tag_index.Goals as goal

pub returns : goal.returns
returns c = record { value = ap (λ (n : Counts). n.effects) c.self.invariant.1 ∙ ap (λ (ds : List Declaration). group_tag_index ds) c.self.view_is }
