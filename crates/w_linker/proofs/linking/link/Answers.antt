use Rattle.std.proofs.Common.{List, inr, ap, subst, ◌∙◌}
use Rattle.w_types.specs.declared.types.RecGroup.{RecGroup}
use Rattle.w_canon.specs.IsClassesOf.{IsClassesOf}
use Rattle.w_linked.specs.Definitions.{Definitions, definitions}
use Rattle.w_placing.specs.Tests.{tests_of}
use Rattle.w_linker.proofs.LinkedProgram.{tells_by}
use Rattle.w_linker.proofs.linking.link.Goals as goal

pub returns-clause-links : goal.returns-clause-links
returns-clause-links c =
    let ms = c.args.modules.items in
    let es = c.in_ok-classes.classes in
    let defined = c.in_ok-definitions.ensures ∙ ap definitions c.as_slice.ensures.value in
    let types = c.as_slice-2.ensures ∙ ap (λ (d : Definitions). d.types) (c.definitions.view_is ∙ defined) in
    let classes = subst (λ (gs : List RecGroup). IsClassesOf gs es) types c.in_ok-classes.ensures in
    inr (tests_of es, tells_by (definitions ms).types es classes, c.link_defined.ensures.links)
