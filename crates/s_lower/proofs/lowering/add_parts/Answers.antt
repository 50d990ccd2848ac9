use Rattle.s_lower.proofs.ModulesOfParts.{assembled}
use Rattle.s_lower.proofs.lowering.add_parts.Goals as goal

pub returns : goal.returns
returns c = record {
  value = assembled c.args.program.now c.args.compiled.now c.push_printer.new.imports c.push_function_types.new.all c.push_handler_types.new.all c.push_tables.new.all c.push_tags.new.all c.push_main.new.exports c.push_elements.new.elements c.push_function_codes.new.all c.push_handler_codes.new.all
      c.requires.empty c.in_ok-push_printer.ensures.value c.in_ok-push_function_types.ensures.value c.in_ok-push_handler_types.ensures.value c.in_ok-push_tables.ensures.value c.in_ok-push_tags.ensures.value c.in_ok-push_main.ensures.value c.in_ok-push_elements.ensures.value c.in_ok-push_function_codes.ensures.value c.in_ok-push_handler_codes.ensures.value;
}
