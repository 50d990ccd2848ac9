use Rattle.std.proofs.Common.{arith}
use Rattle.w_inst.proofs.Operands.{null_put, function_put}
use Rattle.w_inst.proofs.constants.reduce_reference.Goals as goal

pub returns-in_ok-push-in-Null : goal.returns-in_ok-push-in-Null
returns-in_ok-push-in-Null c =
    record { leaves = λ p s w. null_put c.args.reference _ c.args.operands.now.items c.push.new.self.items c.in-Null.is c.in_ok-push-in-Null.ensures.items p s }

pub returns-in_ok-push-in-Func : goal.returns-in_ok-push-in-Func
returns-in_ok-push-in-Func c =
    record { leaves = function_put c.args.globals.now c.args.functions c.args.reference _ c.args.operands.now.items c.push-in-Func.new.self.items c.in-Func.is (omega (arith, c.if-function-functions.false)) c.in_ok-push-in-Func.ensures.items }
