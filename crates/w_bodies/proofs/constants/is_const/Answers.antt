use Rattle.std.proofs.Common.{ap}
use Rattle.w_rules.specs.Bodies.{is_const}
use Rattle.w_rules.specs.View.{context_in}
use Rattle.w_bodies.proofs.constants.is_const.Goals as goal

pub returns-in-Numeric : goal.returns-in-Numeric
returns-in-Numeric c =
    let cx = context_in c.args.cx.now in
    let e = c.is_const_numeric.ensures cx in
    let f = ap (is_const cx) c.in-Numeric.is in
    cc

pub returns-in-Reference : goal.returns-in-Reference
returns-in-Reference c =
    let cx = context_in c.args.cx.now in
    let e = c.is_const_reference.ensures cx in
    let f = ap (is_const cx) c.in-Reference.is in
    cc
