use Rattle.w_rules.proofs.Marks.{marks_of_module}
use Rattle.w_rules.proofs.named_functions.mark_named.Goals as goal

pub returns : goal.returns
returns c =
    marks_of_module c.args.candidate.now _ _ _ _ _ _ _ _ _ c.as_slice.ensures c.as_slice-2.ensures c.as_slice-3.ensures c.as_slice-4.ensures c.mark_exports.ensures c.mark_elements.ensures c.mark_globals.ensures c.mark_tables.ensures
