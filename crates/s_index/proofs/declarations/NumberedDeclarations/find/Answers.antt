use Rattle.std.proofs.Common.{◌∙◌, ap}
use Rattle.s_index.specs.Views.{entry_at, found}
use Rattle.s_index.proofs.Entries.{number_small}
use Rattle.s_index.proofs.declarations.NumberedDeclarations.find.Goals as goal

pub returns-clause-small : goal.returns-clause-small
returns-clause-small c =
    number_small c.self.inside.all.now c.args.name.now c.copied.result
    (ap entry_at (c.copied.ensures ∙ c.get.ensures.value) ∙ ap (found c.self.inside.first) c.as_bytes.ensures.value ∙ c.self.invariant.0 c.args.name.now)
    c.self.invariant.2
