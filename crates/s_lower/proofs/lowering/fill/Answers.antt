use Rattle.std.proofs.Common.{◌∙◌, List, ap}
use Rattle.s_syntax.specs.declared.script.Declaration.{Declaration}
use Rattle.s_code.specs.Lowered.{lowered_all}
use Rattle.s_lower.proofs.ModulesOfParts.{completed}
use Rattle.s_lower.proofs.lowering.fill.Goals as goal

pub returns : goal.returns
returns c = record {
  value = completed c.in_ok-program.program c.add_parts.new.compiled c.into_types.result.items c.in_ok-compiled.field-0 c.in_ok-add_parts.ensures.value c.in_ok-compiled.ensures.value c.into_types.ensures.value
      ∙ ap (λ (ds : List Declaration). lowered_all ds) (c.in_ok-program.ensures.value ∙ c.as_slice.ensures);
}
