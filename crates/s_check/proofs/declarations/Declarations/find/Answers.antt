use Rattle.std.proofs.Common.{List, sym, ap, ◌∙◌, Bor}
use Rattle.std.specs.Option.{option_map, option_copied}
use Rattle.s_syntax.specs.declared.script.Declaration.{Declaration}
use Rattle.s_syntax.specs.declared.script.Definition.{Definition}
use Rattle.s_check.specs.Definitions.{definition_of}
use Rattle.s_check.specs.Views.{found}
use Rattle.s_check.proofs.declarations.Declarations.find.Goals as goal

pub returns-in-Some : goal.returns-in-Some
returns-in-Some c = record {
  value =
      sym (ap (option_map (λ (d : Bor Definition). d.now)) (sym c.get.ensures.value ∙ ap option_copied c.in-Some.is))
      ∙ ap (found c.self.inside.first) c.as_bytes.ensures.value
      ∙ c.self.invariant c.args.name.now
      ∙ ap (λ (ds : List Declaration). definition_of ds c.args.name.now) c.self.view_is;
}

pub returns-in-None : goal.returns-in-None
returns-in-None c = record {
  value =
      sym (ap (option_map (λ (d : Bor Definition). d.now)) (sym c.get.ensures.value ∙ ap option_copied c.in-None.is))
      ∙ ap (found c.self.inside.first) c.as_bytes.ensures.value
      ∙ c.self.invariant c.args.name.now
      ∙ ap (λ (ds : List Declaration). definition_of ds c.args.name.now) c.self.view_is;
}
