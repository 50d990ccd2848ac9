use Rattle.std.proofs.Common.{Ok, ap, sym}
use Rattle.w_plain.specs.Commonness.{is_common}
use Rattle.w_plain.proofs.AttemptedReductions.{common_attempt, moved_attempt}
use Rattle.w_plain.proofs.attempts.at_instruction.Goals as goal

pub returns-in-Variable : goal.returns-in-Variable
returns-in-Variable c = record {
  attempt = common_attempt c.args.packed.now (Ok c.variable.result) c.progress_of.result c.progress_of.ensures (ap is_common c.in-Variable.is) c.variable.ensures.step c.variable.ensures.stays;
}

pub returns-in-Drop : goal.returns-in-Drop
returns-in-Drop c = record {
  attempt = common_attempt c.args.packed.now (Ok c.parametric.result) c.progress_of-in-Drop.result c.progress_of-in-Drop.ensures (ap is_common c.in-Drop.is) c.parametric.ensures.step c.parametric.ensures.stays;
}

pub returns-in-Select : goal.returns-in-Select
returns-in-Select c = record {
  attempt = common_attempt c.args.packed.now (Ok c.parametric-in-Select.result) c.progress_of-in-Select.result c.progress_of-in-Select.ensures (ap is_common c.in-Select.is) c.parametric-in-Select.ensures.step c.parametric-in-Select.ensures.stays;
}

pub returns-in-Load : goal.returns-in-Load
returns-in-Load c = record {
  attempt = common_attempt c.args.packed.now (Ok c.loading.result) c.progress_of-in-Load.result c.progress_of-in-Load.ensures (ap is_common c.in-Load.is) c.loading.ensures.step c.loading.ensures.stays;
}

pub returns-in-Store : goal.returns-in-Store
returns-in-Store c = record {
  attempt = common_attempt c.args.packed.now (Ok c.storing.result) c.progress_of-in-Store.result c.progress_of-in-Store.ensures (ap is_common c.in-Store.is) c.storing.ensures.step c.storing.ensures.stays;
}

pub returns-in-I32Const : goal.returns-in-I32Const
returns-in-I32Const c = record {
  attempt = common_attempt c.args.packed.now (Ok c.number.result) c.progress_of-in-I32Const.result c.progress_of-in-I32Const.ensures (ap is_common c.in-I32Const.is) c.number.ensures.step c.number.ensures.stays;
}

pub returns-in-I64Const : goal.returns-in-I64Const
returns-in-I64Const c = record {
  attempt = common_attempt c.args.packed.now (Ok c.number-in-I64Const.result) c.progress_of-in-I64Const.result c.progress_of-in-I64Const.ensures (ap is_common c.in-I64Const.is) c.number-in-I64Const.ensures.step c.number-in-I64Const.ensures.stays;
}

pub returns-in-Eqz : goal.returns-in-Eqz
returns-in-Eqz c = record {
  attempt = common_attempt c.args.packed.now (Ok c.number-in-Eqz.result) c.progress_of-in-Eqz.result c.progress_of-in-Eqz.ensures (ap is_common c.in-Eqz.is) c.number-in-Eqz.ensures.step c.number-in-Eqz.ensures.stays;
}

pub returns-in-Compare : goal.returns-in-Compare
returns-in-Compare c = record {
  attempt = common_attempt c.args.packed.now (Ok c.number-in-Compare.result) c.progress_of-in-Compare.result c.progress_of-in-Compare.ensures (ap is_common c.in-Compare.is) c.number-in-Compare.ensures.step c.number-in-Compare.ensures.stays;
}

pub returns-in-Unary : goal.returns-in-Unary
returns-in-Unary c = record {
  attempt = common_attempt c.args.packed.now (Ok c.number-in-Unary.result) c.progress_of-in-Unary.result c.progress_of-in-Unary.ensures (ap is_common c.in-Unary.is) c.number-in-Unary.ensures.step c.number-in-Unary.ensures.stays;
}

pub returns-in-Binary : goal.returns-in-Binary
returns-in-Binary c = record {
  attempt = common_attempt c.args.packed.now (Ok c.number-in-Binary.result) c.progress_of-in-Binary.result c.progress_of-in-Binary.ensures (ap is_common c.in-Binary.is) c.number-in-Binary.ensures.step c.number-in-Binary.ensures.stays;
}

pub returns-in-Convert : goal.returns-in-Convert
returns-in-Convert c = record {
  attempt = common_attempt c.args.packed.now (Ok c.number-in-Convert.result) c.progress_of-in-Convert.result c.progress_of-in-Convert.ensures (ap is_common c.in-Convert.is) c.number-in-Convert.ensures.step c.number-in-Convert.ensures.stays;
}

pub returns-in-Block : goal.returns-in-Block
returns-in-Block c = record {
  attempt = common_attempt c.args.packed.now (Ok c.enter_block.result) c.progress_of-in-Block.result c.progress_of-in-Block.ensures (ap is_common c.in-Block.is) c.enter_block.ensures.step c.enter_block.ensures.stays;
}

pub returns-in-If : goal.returns-in-If
returns-in-If c = record {
  attempt = common_attempt c.args.packed.now (Ok c.enter_choice.result) c.progress_of-in-If.result c.progress_of-in-If.ensures (ap is_common c.in-If.is) c.enter_choice.ensures.step c.enter_choice.ensures.stays;
}

pub returns-in-IfElse : goal.returns-in-IfElse
returns-in-IfElse c = record {
  attempt = common_attempt c.args.packed.now (Ok c.enter_choice-in-IfElse.result) c.progress_of-in-IfElse.result c.progress_of-in-IfElse.ensures (ap is_common c.in-IfElse.is) c.enter_choice-in-IfElse.ensures.step c.enter_choice-in-IfElse.ensures.stays;
}

pub returns-in-Else : goal.returns-in-Else
returns-in-Else c = record {
  attempt = moved_attempt c.args.packed.now c.leave_else-outcome.result c.move_of.result (c.move_of.ensures.moves c.args.stack.now (sym c.func-function.ensures.value) c.requires.body) (ap is_common c.in-Else.is) c.leave_else-outcome.ensures.step;
}

pub returns-in-End : goal.returns-in-End
returns-in-End c = record {
  attempt = moved_attempt c.args.packed.now c.leave_end-outcome.result c.move_of-in-End.result (c.move_of-in-End.ensures.moves c.args.stack.now (sym c.func-function-in-End.ensures.value) c.requires.body) (ap is_common c.in-End.is) c.leave_end-outcome.ensures.step;
}
