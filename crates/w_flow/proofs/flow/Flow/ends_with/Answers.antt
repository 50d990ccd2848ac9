use Rattle.std.proofs.Common.{List, ◌∙◌, sym, ap}
use Rattle.lists.specs.Rows.{row_of}
use Rattle.w_rows.specs.Operands.{row_in}
use Rattle.w_rows.specs.declared.operand.Operand.{Operand}
use Rattle.w_flow.specs.Flow.{pops, none_left}
use Rattle.w_flow.proofs.RowsOfLists.{none_first, none_wanted_last}
use Rattle.w_flow.proofs.flow.Flow.ends_with.Goals as goal

pub returns-then-is_empty : goal.returns-then-is_empty
returns-then-is_empty c =
    none_wanted_last c.args.classes.now c.args.self.now.any c.args.self.now.operands c.args.outs.types.now c.len.result c.len.ensures (sym c.is_empty.ensures ∙ c.if-is_empty.true)

pub returns-in-Some : goal.returns-in-Some
returns-in-Some c =
    none_first c.as_slice.result.now c.in-Some.count c.in-Some.ensures.within ∙ sym (ap none_left c.in-Some.ensures.what)
    ∙ ap (λ (xs : List Operand). none_left (pops c.args.classes.now c.args.self.now.any (row_in xs) (row_of c.args.outs.types.now))) c.as_slice.ensures
