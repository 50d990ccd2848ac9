use Rattle.std.proofs.Common.{sym}
use Rattle.w_inst.proofs.Operands.{global_put}
use Rattle.w_inst.proofs.constants.reduce_variable.Goals as goal

pub returns-in_ok-push-in-GlobalGet : goal.returns-in_ok-push-in-GlobalGet
returns-in_ok-push-in-GlobalGet c =
    record { leaves = global_put c.args.globals.now c.args.functions c.args.variable _ _ c.args.operands.now.items c.push.new.self.items c.in-GlobalGet.is (sym c.in-Some.ensures) c.in_ok-push-in-GlobalGet.ensures.items }
