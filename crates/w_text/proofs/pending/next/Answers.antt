use Rattle.w_text.specs.declared.pending.Open.TheVariants as opened
use Rattle.w_text.proofs.Openings.{found_next}
use Rattle.w_text.proofs.pending.next.Goals as goal

pub returns-in-Between : goal.returns-in-Between
returns-in-Between c = found_next c.begin.result c.args.opened opened.Between c.args.line c.in-Between.is c.begin.ensures

pub returns-in-Group : goal.returns-in-Group
returns-in-Group c = found_next c.in_group.result c.args.opened (opened.Group c.in-Group.left c.in-Group.types) c.args.line c.in-Group.is c.in_group.ensures

pub returns-in-Locals : goal.returns-in-Locals
returns-in-Locals c = found_next c.in_locals.result c.args.opened (opened.Locals c.in-Locals.kind c.in-Locals.runs) c.args.line c.in-Locals.is c.in_locals.ensures
