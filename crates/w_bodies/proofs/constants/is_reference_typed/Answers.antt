use Rattle.std.proofs.Common.{refl}
use Rattle.w_syntax.specs.declared.instructions.Op.TheVariants as op
use Rattle.w_rules.specs.View.{context_in}
use Rattle.w_bodies.proofs.OneInstruction.{one_judged}
use Rattle.w_bodies.proofs.constants.is_reference_typed.Goals as goal

pub returns : goal.returns
returns c =
    one_judged (context_in c.args.cx.now) c.requires.keeps (op.Reference c.args.reference) _ c.args.kind c.type_of_reference.result c.is_matched.result refl c.type_of_reference.ensures c.is_matched.ensures
