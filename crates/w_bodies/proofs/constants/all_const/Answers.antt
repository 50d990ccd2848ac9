use Rattle.w_rules.specs.View.{context_in}
use Rattle.w_bodies.proofs.ConstantsListed.{whole_const}
use Rattle.w_bodies.proofs.constants.all_const.Goals as goal

pub returns : goal.returns
returns c =
    let listed = whole_const (context_in c.args.cx.now) c.instrs.result.now c.args.body.now c.instrs.ensures in
    (λ h. listed.0 (c.are_const.ensures.0 h), λ h. c.are_const.ensures.1 (listed.1 h))
