use Rattle.lists.specs.Rows.{row_of}
use Rattle.w_vplain.specs.View.{row_with}
use Rattle.w_vplain.proofs.CallsAnswered.{added_answered}
use Rattle.w_vplain.proofs.checker.Checker.added.Goals as goal

pub returns : goal.returns
returns c =
    added_answered c.row_top.result c.args.self.now (row_with (row_of c.args.ins.now) c.args.top) c.args.raise c.row_size.result c.in_ok-height.field-0 c.requires
    c.in_ok-height.ensures c.row_size.ensures c.row_top.ensures
