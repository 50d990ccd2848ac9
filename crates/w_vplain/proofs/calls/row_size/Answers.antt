use Rattle.std.proofs.Common.{◌∙◌, ap, sym, Option}
use Rattle.w_types.specs.declared.types.ValType.{ValType}
use Rattle.lists.specs.Rows.{row_of, size}
use Rattle.w_vplain.specs.View.{row_with}
use Rattle.w_vplain.proofs.FrameViews.{row_some, row_none}
use Rattle.w_vplain.proofs.calls.row_size.Goals as goal

pub returns-in-Some : goal.returns-in-Some
returns-in-Some c =
    row_some c.args.ins.now c.in-Some.field-0 ∙ ap (λ (t : Option ValType). size (row_with (row_of c.args.ins.now) t)) (sym c.in-Some.is)

pub returns-in-None : goal.returns-in-None
returns-in-None c =
    row_none c.args.ins.now ∙ ap (λ (t : Option ValType). size (row_with (row_of c.args.ins.now) t)) (sym c.in-None.is)
