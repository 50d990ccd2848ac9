use Rattle.w_syntax.specs.Packed.{unpacked}
use Rattle.w_rules.specs.View.{context_in}
use Rattle.w_bodies.proofs.OneInstruction.{one_judged, only_is}
use Rattle.w_bodies.proofs.constants.is_const_typed.Goals as goal

pub returns-in-Some : goal.returns-in-Some
returns-in-Some c =
    let only = only_is c.args.body.now (unpacked c.in-Some.packed.now) c.in-Some.ensures in
    one_judged (context_in c.args.cx.now) c.requires.keeps only.0 c.args.body.now c.args.kind c.type_of_packed.result c.is_matched.result only.2 (c.type_of_packed.ensures only.0 only.1) c.is_matched.ensures
